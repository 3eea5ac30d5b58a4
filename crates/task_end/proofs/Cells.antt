-- Commands whose tickets are out: one that ended, and one that is collected.
use Rattle.std.proofs.Common.{true, false, true≢false, ◌≡◌, ◌≢◌, ℕ, zero, suc, ◌+◌, ◌<◌, ◌≤◌, ◌==◌, ◌&&◌, ◌||◌, Bool, List, [], ◌∷◌, ◌++◌, map, take, drop, get_or, slice_set, length, Option, None, Some, IfSome, IfNone, All, refl, sym, ap, ◌∙◌, subst, ⊎_elim, inl, inr, eq-eqb, ne_eqb, length-append, arith}
use Rattle.std.proofs.lemmas.List.{map-append}
use Rattle.std.specs.List.{position, list_any, flat_map, remove}
use Rattle.std.specs.Option.{is_none, is_some}
use Rattle.std.proofs.lemmas.Bool.{and_parts, eqb-true, cases_eq}
use Rattle.std.proofs.lemmas.Grind.{flat_map-append}
use Rattle.std.proofs.lemmas.List.Elements.{All-append, All-nil, All-cons, All-head, All-tail}
use Rattle.std.proofs.lemmas.List.Quantifiers.{position-Some}
use Rattle.agent_journal.specs.declared.outcome.Outcome.{Outcome}
use Rattle.command_pool.specs.Hands.{times}
use Rattle.task_end.specs.declared.command.Command.{Command}
use Rattle.task_end.specs.Commands.{IsTakenFrom, Has, ticket_of, tickets_of, numbers_in, unless_ended, waits, waiting, is_waiting, is_kept, command, EndsOne}
use Rattle.task_end.proofs.Lists.{cut, set_cut, none_of, neither_of, times_both, times_middle, times_here, one, one_same, one_other}

module _ {X : Type 0} (P : X → Type 0) where
  front : (a : List X) (x : X) (b : List X) → All P (a ++ x ∷ b) → All P a
  front [] x b all = All-nil P
  front (y ∷ a) x b all = All-cons P y a (All-head P y (a ++ x ∷ b) all) (front a x b (All-tail P y (a ++ x ∷ b) all))

  back : (a : List X) (x : X) (b : List X) → All P (a ++ x ∷ b) → All P (x ∷ b)
  back [] x b all = all
  back (y ∷ a) x b all = back a x b (All-tail P y (a ++ x ∷ b) all)

  -- another in its place
  pub replaced : (a : List X) (x y : X) (b : List X) → P y → All P (a ++ x ∷ b) → All P (a ++ y ∷ b)
  replaced a x y b is all = All-append P a (y ∷ b) (front a x b all) (All-cons P y b is (All-tail P x b (back a x b all)))

  -- without it
  pub without : (a : List X) (x : X) (b : List X) → All P (a ++ x ∷ b) → All P (a ++ b) × P x
  without a x b all = (All-append P a b (front a x b all) (All-tail P x b (back a x b all)), All-head P x b (back a x b all))

-- ---- A command of this number that is waited for

waits_at : (seq : ℕ) (x : Command) → is_waiting seq x ≡ true → x ≡ command seq x.number None
waits_at seq x is = let parts = and_parts (x.seq == seq) (is_none x.outcome) is in
    λ i. command (eqb-true x.seq seq parts.0 i) x.number (none_of x.outcome parts.1 i)

pub ended_at : (seq : ℕ) (outcome : Outcome) (all : List Command) (k : ℕ) (d x : Command) → Some k ≡ position (is_waiting seq) all → x ≡ get_or all k d
    → EndsOne seq outcome all (slice_set all k (record { seq = x.seq; number = x.number; outcome = Some outcome }))
ended_at seq outcome all k d x found at =
    let first = position-Some (is_waiting seq) all k d (sym found) in
    let is : is_waiting seq x ≡ true = subst (λ c. is_waiting seq c ≡ true) (sym at) first.1 in
    let same : x ≡ command seq x.number None = waits_at seq x is in
    record {
      number = x.number;
      before = take k all;
      after = drop (suc k) all;
      waited = cut all k d first.0 ∙ ap (λ c. take k all ++ c ∷ drop (suc k) all) (sym at ∙ same);
      ended = set_cut all k (command x.seq x.number (Some outcome)) first.0
          ∙ ap (λ s. take k all ++ command s x.number (Some outcome) ∷ drop (suc k) all) (ap (λ (c : Command). c.seq) same);
    }

waiting_both : (a b : List Command) → waiting (a ++ b) ≡ waiting a ++ waiting b
waiting_both a b = flat_map-append waits a b

module _ (seq : ℕ) (outcome : Outcome) (old new : List Command) (e : EndsOne seq outcome old new) where
  was : waiting old ≡ waiting e.before ++ seq ∷ waiting e.after
  was = ap waiting e.waited ∙ waiting_both e.before (command seq e.number None ∷ e.after)

  is : waiting new ≡ waiting e.before ++ waiting e.after
  is = ap waiting e.ended ∙ waiting_both e.before (command seq e.number (Some outcome) ∷ e.after)

  pub ends_count : length (waiting new) + 1 ≡ length (waiting old)
  ends_count = omega (arith, ap length was, ap length is, length-append (waiting e.before) (seq ∷ waiting e.after), length-append (waiting e.before) (waiting e.after))

  pub ends_times : (x : ℕ) → times x (waiting new) + one x seq ≡ times x (waiting old)
  ends_times x = omega (arith, ap (times x) was, ap (times x) is, times_middle x seq (waiting e.before) (waiting e.after))

  pub ends_tickets : tickets_of new ≡ tickets_of old
  ends_tickets = ap tickets_of e.ended ∙ map-append ticket_of e.before (command seq e.number (Some outcome) ∷ e.after)
      ∙ sym (ap tickets_of e.waited ∙ map-append ticket_of e.before (command seq e.number None ∷ e.after))

  pub ends_all : (P : Command → Type 0) → ((number : ℕ) → P (command seq number (Some outcome))) → All P old → All P new
  ends_all P here all = subst (All P) (sym e.ended) (onto (subst (All P) e.waited all))
    where
      onto : All P (e.before ++ command seq e.number None ∷ e.after) → All P (e.before ++ command seq e.number (Some outcome) ∷ e.after)
      onto all = replaced P e.before (command seq e.number None) (command seq e.number (Some outcome)) e.after (here e.number) all

-- none of this number is waited for
times_unless : (seq s : ℕ) (o : Option Outcome) (rest : List ℕ) → (s == seq && is_none o) ≡ false → times seq (unless_ended s o ++ rest) ≡ times seq rest
times_unless seq s None rest not = ⊎_elim
    (λ e. absurd (true≢false (sym (λ i. eq-eqb s seq e i && true) ∙ not)))
    (λ apart. omega (arith, one_other seq s (λ e. apart (sym e))))
    (cases_eq s seq)
times_unless seq s (Some o) rest not = refl

pub none_waits : (seq : ℕ) (all : List Command) → list_any (is_waiting seq) all ≡ false → times seq (waiting all) ≡ 0
none_waits seq [] none = refl
none_waits seq (c ∷ cs) none =
    let parts = neither_of (is_waiting seq c) (list_any (is_waiting seq) cs) none in
    times_unless seq c.seq c.outcome (waiting cs) parts.0 ∙ none_waits seq cs parts.1

-- ---- A command whose outcome is kept for its ticket

unless_kept : (seq : ℕ) (o : Option Outcome) → is_some o ≡ true → unless_ended seq o ≡ []
unless_kept seq None e = absurd (true≢false (sym e))
unless_kept seq (Some o) e = refl

never : (P : Type 0) (o : Option Outcome) → is_some o ≡ true → IfNone o P
never P None e = absurd (true≢false (sym e))
never P (Some o) e = tt

module _ (seq number : ℕ) (all : List Command) (k : ℕ) (x : Command) (found : Some k ≡ position (is_kept seq number) all) (at : x ≡ get_or all k x) where
  within : k < length all
  within = (position-Some (is_kept seq number) all k x (sym found)).0

  parts_of : ((x.seq == seq) && (x.number == number) ≡ true) × (is_some x.outcome ≡ true)
  parts_of = and_parts (x.seq == seq && x.number == number) (is_some x.outcome)
      (subst (λ c. is_kept seq number c ≡ true) (sym at) (position-Some (is_kept seq number) all k x (sym found)).1)

  same : (o : Option Outcome) → x.outcome ≡ o → x ≡ command seq number o
  same o e = let ids = and_parts (x.seq == seq) (x.number == number) parts_of.0 in
      λ i. command (eqb-true x.seq seq ids.0 i) (eqb-true x.number number ids.1 i) (e i)

  stood : (o : Option Outcome) → x.outcome ≡ o → all ≡ take k all ++ command seq number o ∷ drop (suc k) all
  stood o e = cut all k x within ∙ ap (λ c. take k all ++ c ∷ drop (suc k) all) (sym at ∙ same o e)

  taken : (o : Option Outcome) → x.outcome ≡ o → IfSome o (λ outcome. IsTakenFrom (command seq number (Some outcome)) all (remove all k))
  taken None e = tt
  taken (Some outcome) e = record { before = take k all; after = drop (suc k) all; stood = stood (Some outcome) e; others = refl }

  pub taken_at : IfSome x.outcome (λ outcome. IsTakenFrom (command seq number (Some outcome)) all (remove all k))
  taken_at = taken x.outcome refl

  pub never_none : (P : Type 0) → IfNone x.outcome P
  never_none P = never P x.outcome parts_of.1

  pub same_waiting : waiting (remove all k) ≡ waiting all
  same_waiting = waiting_both (take k all) (drop (suc k) all)
      ∙ sym (ap waiting (cut all k x within ∙ ap (λ c. take k all ++ c ∷ drop (suc k) all) (sym at)) ∙ waiting_both (take k all) (x ∷ drop (suc k) all)
      ∙ ap (λ l. waiting (take k all) ++ (l ++ waiting (drop (suc k) all))) (unless_kept x.seq x.outcome parts_of.1))

module _ (seq number : ℕ) (outcome : Outcome) (old new : List Command) (t : IsTakenFrom (command seq number (Some outcome)) old new) where
  pub takes_waiting : waiting new ≡ waiting old
  takes_waiting = ap waiting t.others ∙ waiting_both t.before t.after ∙ sym (ap waiting t.stood ∙ waiting_both t.before (command seq number (Some outcome) ∷ t.after))

  pub takes_ticket : IsTakenFrom (seq, number) (tickets_of old) (tickets_of new)
  takes_ticket = record {
    before = tickets_of t.before;
    after = tickets_of t.after;
    stood = ap tickets_of t.stood ∙ map-append ticket_of t.before (command seq number (Some outcome) ∷ t.after);
    others = ap tickets_of t.others ∙ map-append ticket_of t.before t.after;
  }

  pub takes_all : (P : Command → Type 0) → All P old → All P new × P (command seq number (Some outcome))
  takes_all P all = subst (λ l. All P l × P (command seq number (Some outcome))) (sym t.others)
      (without P t.before (command seq number (Some outcome)) t.after (subst (All P) t.stood all))

-- how often a number stands among those of tickets, where one of them is taken out
pub times_taken : (t : ℕ × ℕ) (old new : List (ℕ × ℕ)) → IsTakenFrom t old new → (x : ℕ) → times x (numbers_in new) + one x t.1 ≡ times x (numbers_in old)
times_taken t old new is x = omega (
  arith,
  ap (λ l. times x (numbers_in l)) is.stood,
  ap (λ l. times x (numbers_in l)) is.others,
  ap (times x) (map-append (λ (u : ℕ × ℕ). u.1) is.before (t ∷ is.after)),
  ap (times x) (map-append (λ (u : ℕ × ℕ). u.1) is.before is.after),
  times_middle x t.1 (numbers_in is.before) (numbers_in is.after),
)

-- ---- A ticket that is out, and whose outcome isn't kept

abbrev first_of : ℕ × ℕ → List (ℕ × ℕ) → ℕ × ℕ
first_of d [] = d
first_of d (t ∷ ts) = t

abbrev rest_of : List (ℕ × ℕ) → List (ℕ × ℕ)
rest_of [] = []
rest_of (t ∷ ts) = ts

same_first : (t u : ℕ × ℕ) (ts us : List (ℕ × ℕ)) → t ∷ ts ≡ u ∷ us → t ≡ u
same_first t u ts us e = ap (first_of t) e

same_rest : (t u : ℕ × ℕ) (ts us : List (ℕ × ℕ)) → t ∷ ts ≡ u ∷ us → ts ≡ us
same_rest t u ts us e = ap rest_of e

-- not kept, so waited for
waits_here : (seq number s n : ℕ) (o : Option Outcome) (rest : List ℕ) → s ≡ seq → n ≡ number → ((s == seq && n == number) && is_some o) ≡ false
    → 0 < times seq (unless_ended s o ++ rest)
waits_here seq number s n None rest one_seq one_number not = omega (arith, one_same seq s (sym one_seq))
waits_here seq number s n (Some o) rest one_seq one_number not =
    absurd (true≢false (sym (λ i. (eq-eqb s seq one_seq i && eq-eqb n number one_number i) && true) ∙ not))

out_waits : (seq number : ℕ) (all : List Command) (before after : List (ℕ × ℕ)) → tickets_of all ≡ before ++ (seq, number) ∷ after
    → list_any (is_kept seq number) all ≡ false → 0 < times seq (waiting all)
out_waits seq number [] [] after e none = absurd (omega (arith, ap length e))
out_waits seq number [] (b ∷ bs) after e none = absurd (omega (arith, ap length e))
out_waits seq number (c ∷ cs) [] after e none =
    let parts = neither_of (is_kept seq number c) (list_any (is_kept seq number) cs) none in
    let head = same_first (c.seq, c.number) (seq, number) (tickets_of cs) after e in
    waits_here seq number c.seq c.number c.outcome (waiting cs) (ap (λ (t : ℕ × ℕ). t.0) head) (ap (λ (t : ℕ × ℕ). t.1) head) parts.0
out_waits seq number (c ∷ cs) (b ∷ bs) after e none =
    let parts = neither_of (is_kept seq number c) (list_any (is_kept seq number) cs) none in
    omega (arith, out_waits seq number cs bs after (same_rest (c.seq, c.number) b (tickets_of cs) (bs ++ (seq, number) ∷ after) e) parts.1, times_both seq (waits c) (waiting cs))

pub waits_if_out : (seq number : ℕ) (all : List Command) → Has (tickets_of all) (seq, number) → list_any (is_kept seq number) all ≡ false → 0 < times seq (waiting all)
waits_if_out seq number all has none = out_waits seq number all has.1.before has.1.after has.1.stood none
