-- One more note was got.
use Rattle.std.proofs.Common.{true, false, ◌≡◌, ◌≢◌, ℕ, zero, suc, ◌+◌, ◌<◌, ◌≤◌, ◌⊎◌, ◌==◌, ◌||◌, Bool, List, [], ◌∷◌, ◌++◌, map, take, max, length, Option, None, Some, IfSome, All, refl, sym, ap, ◌∙◌, subst, ⊎_elim, inl, inr, append_assoc, append-nil, length-append, if◌then◌else◌, arith}
use Rattle.std.specs.List.{flat_map, list_any}
use Rattle.std.proofs.lemmas.Bool.{cases_lt}
use Rattle.std.proofs.lemmas.Int.{clamps}
use Rattle.std.proofs.lemmas.Grind.{flat_map-append}
use Rattle.std.proofs.lemmas.List.{map-append, take-append-le}
use Rattle.std.proofs.lemmas.List.Elements.{All-weaker}
use Rattle.std.proofs.lemmas.List.Folds.{list_any-append}
use Rattle.agent_journal.specs.declared.message.Message.{Message}
use Rattle.agent_journal.specs.declared.outcome.Outcome.{Outcome}
use Rattle.agent_journal.specs.Readings.{is_leave}
use Rattle.command_pool.specs.Hands.{times}
use Rattle.command_pool.specs.Rule.{once_below}
use Rattle.task_queues.specs.declared.note.Note.{Note}
use Rattle.task_queues.specs.declared.note.Note.TheVariants as notes
use Rattle.task_queues.specs.declared.submission.Submission.{Submission}
use Rattle.task_queues.specs.Submissions.{request_of, seq_of}
use Rattle.task_queues.specs.Fronts.{front_in, number_in}
use Rattle.task_queues.specs.MailboxPasses.{Getting}
use Rattle.task_end.specs.declared.command.Command.{Command}
use Rattle.task_end.specs.Notes.{outcome_in, outcomes_in, message_in, messages_in, closes, has_closed, completed_in, seen_by, counted}
use Rattle.task_end.specs.Commands.{IsTakenFrom, Has, numbers_in, waiting, IsOnce, WasTold, IsStray, IsOtherOrBehind, NoneIsStray, Ends, EndsOne, tickets_of}
use Rattle.task_end.specs.Sides.{TaskSide, IsFrontOf, IsBelow, IsKept}
use Rattle.task_end.proofs.Lists.{times_both, one, once_lt}
use Rattle.task_end.proofs.Cells.{ends_times, ends_tickets, ends_all}

pub seen_snoc : (got : List Note) (note : Note) → seen_by (got ++ note ∷ []) ≡ max (seen_by got) (number_in (front_in note))
seen_snoc [] note = omega (arith, clamps)
seen_snoc (n ∷ got) note = omega (arith, clamps, seen_snoc got note)

has_more : {A : Type 0} (x y : A) (xs : List A) → Has xs x → Has (xs ++ y ∷ []) x
has_more x y xs has = (
  has.1.before ++ (has.1.after ++ y ∷ []),
  record {
    before = has.1.before;
    after = has.1.after ++ y ∷ [];
    stood = ap (λ l. l ++ y ∷ []) has.1.stood ∙ append_assoc has.1.before (x ∷ has.1.after) (y ∷ []);
    others = refl;
  },
)

has_all : {A : Type 0} (x : A) (xs ys : List A) → Has xs x → Has (xs ++ ys) x
has_all x xs ys has = (
  has.1.before ++ (has.1.after ++ ys),
  record {
    before = has.1.before;
    after = has.1.after ++ ys;
    stood = ap (λ l. l ++ ys) has.1.stood ∙ append_assoc has.1.before (x ∷ has.1.after) ys;
    others = refl;
  },
)

module _ (got more : List Note) (note : Note) (e : more ≡ got ++ note ∷ []) where
  pub outcomes_more : outcomes_in more ≡ outcomes_in got ++ outcomes_in (note ∷ [])
  outcomes_more = ap outcomes_in e ∙ flat_map-append outcome_in got (note ∷ [])

  pub messages_more : messages_in more ≡ messages_in got ++ messages_in (note ∷ [])
  messages_more = ap messages_in e ∙ flat_map-append message_in got (note ∷ [])

  pub closed_more : has_closed more ≡ (has_closed got || has_closed (note ∷ []))
  closed_more = ap has_closed e ∙ list_any-append closes got (note ∷ [])

  pub completed_more : completed_in more ≡ completed_in got ++ completed_in (note ∷ [])
  completed_more = ap (map (λ (done : ℕ × Outcome). done.0)) outcomes_more ∙ map-append (λ (done : ℕ × Outcome). done.0) (outcomes_in got) (outcomes_in (note ∷ []))

  pub length_more : length more ≡ length got + 1
  length_more = ap length e ∙ length-append got (note ∷ [])

  pub stray_more : (sent : List Submission) → IsStray sent got → IsStray sent more
  stray_more sent st = record {
    before = st.before;
    note = st.note;
    after = st.after ++ note ∷ [];
    seq = st.seq;
    outcome = st.outcome;
    stands = e ∙ ap (λ l. l ++ note ∷ []) st.stands ∙ append_assoc st.before (st.note ∷ st.after) (note ∷ []);
    completes = st.completes;
    again_or_early = st.again_or_early;
  }

  pub none_before : (sent : List Submission) → NoneIsStray sent more → NoneIsStray sent got
  none_before sent none st = none (stray_more sent st)

  told_of : (seq : ℕ) (o : Option Outcome) → IfSome o (λ outcome. Has (outcomes_in got) (seq, outcome)) → IfSome o (λ outcome. Has (outcomes_in more) (seq, outcome))
  told_of seq None told = tt
  told_of seq (Some outcome) told = subst (λ l. Has l (seq, outcome)) (sym outcomes_more) (has_all (seq, outcome) (outcomes_in got) (outcomes_in (note ∷ [])) told)

  pub told_more : (cells : List Command) → All (WasTold got) cells → All (WasTold more) cells
  told_more cells all = All-weaker (WasTold got) (WasTold more) (λ c told. told_of c.seq c.outcome told) cells all

  front_more : (front : ℕ × ℕ × ℕ) → IsFrontOf got front → IsFrontOf more front
  front_more front is = record {
    within = omega (arith, is.within, length_more);
    seen = subst (λ l. seen_by l ≤ front.1) (sym (ap (take front.2) e ∙ take-append-le front.2 got (note ∷ []) is.within)) is.seen;
  }

  pub fronts_more : (fronts : List (ℕ × ℕ × ℕ)) → All (IsFrontOf got) fronts → All (IsFrontOf more) fronts
  fronts_more fronts all = All-weaker (IsFrontOf got) (IsFrontOf more) front_more fronts all

module _ (s : TaskSide) (front notes messages : ℕ) (closed : Bool) (next : ℕ) (cells : List Command) (log : List (ℕ × Outcome))
    (kept : IsKept s front notes messages closed next cells log) (note : Note) (g : Getting) (e : g.got ≡ s.getter.got ++ note ∷ []) where
  pub kept_more : (front' notes' messages' next' : ℕ) (closed' : Bool) (cells' : List Command) (log' : List (ℕ × Outcome)) (out' : List (ℕ × ℕ))
      → front' ≡ max front (number_in (front_in note)) → notes' ≡ counted g.got → messages' ≡ counted (messages_in g.got) → closed' ≡ has_closed g.got
      → next' ≡ next → out' ≡ s.out → All (WasTold g.got) cells'
      → (NoneIsStray s.sender.sent g.got → IsOnce next (waiting cells') g.got) → (NoneIsStray s.sender.sent g.got → log' ≡ outcomes_in g.got)
      → IsKept (record s { getter = g; out = out' }) front' notes' messages' closed' next' cells' log'
  kept_more front' notes' messages' next' closed' cells' log' out' learnt count pass close as_many same told once logged =
      subst (λ n. IsKept (record s { getter = g; out = out' }) front' notes' messages' closed' n cells' log') (sym as_many) (record {
        seen = omega (arith, clamps, learnt, kept.seen, seen_snoc s.getter.got note, ap seen_by e);
        notes_counted = count;
        messages_counted = pass;
        is_closed = close;
        numbered = kept.numbered;
        marked = kept.marked;
        below = kept.below;
        behind = fronts_more s.getter.got g.got note e s.fronts kept.behind;
        held = λ x. kept.held x ∙ ap (λ l. times x (numbers_in l)) (sym same);
        told = told;
        once = once;
        logged = logged;
      })

  -- a note that completes nothing
  pub once_same : outcomes_in (note ∷ []) ≡ [] → NoneIsStray s.sender.sent g.got → IsOnce next (waiting cells) g.got
  once_same nothing none x = omega (
    arith,
    kept.once (none_before s.getter.got g.got note e s.sender.sent none) x,
    ap (λ (l : List (ℕ × Outcome)). times x (map (λ (done : ℕ × Outcome). done.0) l)) (outcomes_more s.getter.got g.got note e ∙ ap (λ l. outcomes_in s.getter.got ++ l) nothing ∙ append-nil (outcomes_in s.getter.got)),
  )

  pub logged_same : outcomes_in (note ∷ []) ≡ [] → NoneIsStray s.sender.sent g.got → log ≡ outcomes_in g.got
  logged_same nothing none = kept.logged (none_before s.getter.got g.got note e s.sender.sent none)
      ∙ sym (outcomes_more s.getter.got g.got note e ∙ ap (λ l. outcomes_in s.getter.got ++ l) nothing ∙ append-nil (outcomes_in s.getter.got))

  -- a note that completes a command
  module _ (seq : ℕ) (outcome : Outcome) (completes : outcomes_in (note ∷ []) ≡ (seq, outcome) ∷ []) where
    completed : (x : ℕ) → times x (completed_in g.got) ≡ times x (completed_in s.getter.got) + one x seq
    completed x = omega (
      arith,
      ap (times x) (completed_more s.getter.got g.got note e),
      times_both x (completed_in s.getter.got) (completed_in (note ∷ [])),
      ap (λ (l : List (ℕ × Outcome)). times x (map (λ (done : ℕ × Outcome). done.0) l)) completes,
    )

    stray_here : (0 < times seq (completed_in s.getter.got)) ⊎ All (IsOtherOrBehind seq (number_in (front_in note))) s.sender.sent → IsStray s.sender.sent g.got
    stray_here how = record {
      before = s.getter.got;
      note = note;
      after = [];
      seq = seq;
      outcome = outcome;
      stands = e;
      completes = completes;
      again_or_early = how;
    }

    -- one that isn't waited for is stray
    unknown : times seq (waiting cells) ≡ 0 → NoneIsStray s.sender.sent g.got → ⊥
    unknown zero_waits none = none (stray_here (⊎_elim
        (λ below. inl (omega (arith, zero_waits, kept.once (none_before s.getter.got g.got note e s.sender.sent none) seq, once_lt next seq below)))
        (λ above. inr (All-weaker (IsBelow next) (IsOtherOrBehind seq (number_in (front_in note))) (λ x is same not. absurd (omega (arith, is not, same, above))) s.sender.sent kept.below))
        (cases_lt seq next)))

    pub told_done : (cells' : List Command) (log' : List (ℕ × Outcome)) → Ends seq outcome cells cells' log log' → All (WasTold g.got) cells'
    told_done cells' log' ends = ⊎_elim
        (λ is. ends_all seq outcome cells cells' is.0 (WasTold g.got) (λ number. here) (told_more s.getter.got g.got note e cells kept.told))
        (λ is. subst (All (WasTold g.got)) (sym is.1) (told_more s.getter.got g.got note e cells kept.told))
        ends
      where
        here : Has (outcomes_in g.got) (seq, outcome)
        here = (
          outcomes_in s.getter.got ++ [],
          record {
            before = outcomes_in s.getter.got;
            after = [];
            stood = outcomes_more s.getter.got g.got note e ∙ ap (λ l. outcomes_in s.getter.got ++ l) completes;
            others = refl;
          },
        )

    pub once_done : (cells' : List Command) (log' : List (ℕ × Outcome)) → Ends seq outcome cells cells' log log' → NoneIsStray s.sender.sent g.got → IsOnce next (waiting cells') g.got
    once_done cells' log' ends none x = ⊎_elim
        (λ is. omega (arith, kept.once (none_before s.getter.got g.got note e s.sender.sent none) x, ends_times seq outcome cells cells' is.0 x, completed x))
        (λ is. absurd (unknown is.0 none))
        ends

    pub logged_done : (cells' : List Command) (log' : List (ℕ × Outcome)) → Ends seq outcome cells cells' log log' → NoneIsStray s.sender.sent g.got → log' ≡ outcomes_in g.got
    logged_done cells' log' ends none = ⊎_elim
        (λ is. is.1 ∙ (λ i. kept.logged (none_before s.getter.got g.got note e s.sender.sent none) i ++ (seq, outcome) ∷ [])
        ∙ sym (outcomes_more s.getter.got g.got note e ∙ ap (λ l. outcomes_in s.getter.got ++ l) completes))
        (λ is. absurd (unknown is.0 none))
        ends

    pub tickets_done : (cells' : List Command) (log' : List (ℕ × Outcome)) → Ends seq outcome cells cells' log log' → tickets_of cells' ≡ tickets_of cells
    tickets_done cells' log' ends = ⊎_elim (λ is. ends_tickets seq outcome cells cells' is.0) (λ is. ap tickets_of is.1) ends

-- a look that found the mailbox empty
pub kept_same : (s : TaskSide) (front notes messages : ℕ) (closed : Bool) (next : ℕ) (cells : List Command) (log : List (ℕ × Outcome))
    → IsKept s front notes messages closed next cells log → (g : Getting) → g.got ≡ s.getter.got → IsKept (record s { getter = g }) front notes messages closed next cells log
kept_same s front notes messages closed next cells log kept g e = record {
  seen = kept.seen ∙ ap seen_by (sym e);
  notes_counted = kept.notes_counted ∙ ap (λ l. counted l) (sym e);
  messages_counted = kept.messages_counted ∙ ap (λ l. counted (messages_in l)) (sym e);
  is_closed = kept.is_closed ∙ ap has_closed (sym e);
  numbered = kept.numbered;
  marked = kept.marked;
  below = kept.below;
  behind = subst (λ l. All (IsFrontOf l) s.fronts) (sym e) kept.behind;
  held = kept.held;
  told = subst (λ l. All (WasTold l) cells) (sym e) kept.told;
  once = subst (λ l. NoneIsStray s.sender.sent l → IsOnce next (waiting cells) l) (sym e) kept.once;
  logged = subst (λ l. NoneIsStray s.sender.sent l → log ≡ outcomes_in l) (sym e) kept.logged;
}
