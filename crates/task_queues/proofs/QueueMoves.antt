-- Each kind of step keeps the rule of a queue.
use Rattle.std.proofs.Common.{◌≡◌, ◌≢◌, ℕ, true, List, [], ◌∷◌, ◌++◌, length, slice_set, refl, sym, ap, subst, ◌∙◌, ⊎_elim, eq-eqb, ne_eqb, append_assoc, append-nil, arith}
use Rattle.std.specs.Prelude.{◌≤◌, ◌==◌, if◌then◌else◌}
use Rattle.std.proofs.lemmas.Bool.{cases_eq, cases_lt}
use Rattle.std.proofs.lemmas.List.Elements.{All-nil, All-cons}
use Rattle.std.specs.List.{All}
use mathlib.Core.Option.{Option, some, none, some-injective, some-ne-none}
use lib.ListN.{get_elem?}
use Rattle.crossbeam_queue.specs.Fifo.{Pushes, Pops, Forks, Merges, Held}
use Rattle.task_queues.specs.declared.submission.Submission.{Submission}
use Rattle.task_queues.specs.declared.role.Role.{Role}
use Rattle.task_queues.specs.Submissions.{task_of, of_task, MayFollow, IsAllTaken, IsInTurn}
use Rattle.task_queues.specs.Roles.{sender, receiver, idle, hired, hiring, sending, taking, joining, both, as_receiver, as_sender}
use Rattle.task_queues.specs.QueueRule.{IsJoined, IsSender, IsReceiver, IsInOrder, Takes}
use Rattle.atomic_table.specs.Seated.{TableId}
use Rattle.task_queues.specs.Fronts.{HasFront}
use Rattle.task_queues.specs.Moments.{Moment}
use Rattle.task_queues.specs.QueuePasses.{Sending, Receiving, WasEmpty, HoldsOf}
use Rattle.task_queues.proofs.Views.{neither, each_set, each_snoc, each_one, was}
use Rattle.task_queues.proofs.Moments.{none_held}
use Rattle.task_queues.proofs.Submissions.{of_task-own, of_task-append, of_task-snoc_own, of_task-snoc_other, in_turn_none, in_turn_snoc, no_member_of_none, all_snoc}

-- sender n has another seat now
abbrev reseat : (ℕ → Option ℕ) → ℕ → Option ℕ → ℕ → Option ℕ
reseat seat n now k = if k == n then now else seat k

reseat_same : (seat : ℕ → Option ℕ) (n : ℕ) (now : Option ℕ) → reseat seat n now n ≡ now
reseat_same seat n now = ap (λ b. if b then now else seat n) (eq-eqb n n refl)

reseat_other : (seat : ℕ → Option ℕ) (n : ℕ) (now : Option ℕ) (k : ℕ) → k ≢ n → reseat seat n now k ≡ seat k
reseat_other seat n now k other = ap (λ b. if b then now else seat k) (ne_eqb k n other)

freed : (seat : ℕ → Option ℕ) (n k : ℕ) → seat k ≡ none → reseat seat n none k ≡ none
freed seat n k free = ⊎_elim (λ e. subst (λ i. reseat seat n none i ≡ none) (sym e) (reseat_same seat n none)) (λ other. reseat_other seat n none k other ∙ free) (cases_eq k n)

-- senders in different seats, or of which one has none, are different
other_seat : (seat : ℕ → Option ℕ) (j k p q : ℕ) → seat j ≡ some p → seat k ≡ some q → p ≢ q → j ≢ k
other_seat seat j k p q mine yours apart same = apart (some-injective p q (sym mine ∙ ap seat same ∙ yours))

no_seat : (seat : ℕ → Option ℕ) (j k p : ℕ) → seat j ≡ none → seat k ≡ some p → j ≢ k
no_seat seat j k p free yours same = some-ne-none p (sym yours ∙ ap seat (sym same) ∙ free)

abbrev SendsFit : (ℕ → Option ℕ) → List Submission → ℕ → Role → Type 0
SendsFit seat all p v = v.sends ≡ true → IsSender seat all p v

abbrev TakesFit : ℕ → (ℕ → Option ℕ) → List Submission → List Submission → ℕ → Role → Type 0
TakesFit reader seat all taken p v = v.takes ≡ true → IsReceiver reader seat all taken p v

pub opens : (board : TableId) → IsInOrder board [] (receiver [] 0 [] 0 ∷ [])
opens board = record {
  reader = 0;
  seat = λ _. none;
  all = [];
  taken = [];
  in_all = refl;
  fronts = tt;
  in_turn = λ _. in_turn_none;
  senders = each_one (receiver [] 0 [] 0) (SendsFit (λ _. none) []) neither;
  receivers = each_one (receiver [] 0 [] 0) (TakesFit 0 (λ _. none) [] [])
      (λ _. record { one_pass = refl; knows_taken = refl; no_others = λ k _. (refl, refl); knows_joined = All-nil _ });
}

pub sends : (board : TableId) (n p : ℕ) (v : Role) (s : Submission) → v.sends ≡ true → task_of s ≡ v.from → MayFollow v.sent s → HasFront board s → Pushes (IsInOrder board) n p v s (λ w. w ≡ sending v s)
sends board n p v s may own turn front items views room rule at = (
  sending v s,
  record {
    reader = rule.reader;
    seat = rule.seat;
    all = all;
    taken = rule.taken;
    in_all = ap (λ l. l ++ s ∷ []) rule.in_all ∙ append_assoc rule.taken items (s ∷ []);
    fronts = all_snoc (HasFront board) items s rule.fronts front;
    in_turn = λ k. ⊎_elim (λ e. subst (λ i. IsInTurn (of_task i all)) (sym e) mine_in_turn) (λ other. subst IsInTurn (sym (same k other)) (rule.in_turn k)) (cases_eq k v.from);
    senders = each_set views p (sending v s) (SendsFit rule.seat all) (λ _. record { one_pass = mine.one_pass; knows_sent = sym more }) others;
    receivers = each_set views p (sending v s) (TakesFit rule.reader rule.seat all rule.taken) neither reader;
  },
  refl,
)
  where
    all : List Submission
    all = rule.all ++ s ∷ []

    mine : IsSender rule.seat rule.all p v
    mine = rule.senders p v at may

    same : (k : ℕ) → k ≢ v.from → of_task k all ≡ of_task k rule.all
    same k other = of_task-snoc_other k rule.all s (λ e. other (sym e ∙ own))

    unseated : (k : ℕ) → rule.seat k ≡ none → of_task k all ≡ of_task k rule.all
    unseated k free = same k (no_seat rule.seat k v.from p free mine.one_pass)

    more : of_task v.from all ≡ v.sent ++ s ∷ []
    more = of_task-snoc_own v.from rule.all s own ∙ ap (λ l. l ++ s ∷ []) (sym mine.knows_sent)

    mine_in_turn : IsInTurn (of_task v.from all)
    mine_in_turn = subst IsInTurn (sym more) (in_turn_snoc v.sent s (subst IsInTurn (sym mine.knows_sent) (rule.in_turn v.from)) turn)

    others : (q : ℕ) (u : Role) → q ≢ p → get_elem? views q ≡ some u → SendsFit rule.seat all q u
    others q u apart is sends = let yours = rule.senders q u is sends in record {
      one_pass = yours.one_pass;
      knows_sent = yours.knows_sent ∙ sym (same u.from (other_seat rule.seat u.from v.from q p yours.one_pass mine.one_pass apart));
    }

    reader : (q : ℕ) (u : Role) → q ≢ p → get_elem? views q ≡ some u → TakesFit rule.reader rule.seat all rule.taken q u
    reader q u apart is takes = let yours = rule.receivers q u is takes in record {
      one_pass = yours.one_pass;
      knows_taken = yours.knows_taken;
      no_others = λ k high. let other = yours.no_others k high in (other.0, unseated k other.0 ∙ other.1);
      knows_joined = λ i d low. let joined = yours.knows_joined i d low in (joined.0, unseated _ joined.0 ∙ joined.1);
    }

-- where one pass takes, no other does
alone : (reader : ℕ) (seat : ℕ → Option ℕ) (all taken : List Submission) (p q : ℕ) (v u : Role) {P : Type 0} → IsReceiver reader seat all taken p v → IsReceiver reader seat all taken q u → q ≢ p → P
alone reader seat all taken p q v u mine yours apart = absurd (apart (yours.one_pass ∙ sym mine.one_pass))

pub takes : (board : TableId) (p : ℕ) (v : Role) → v.takes ≡ true → Pops (IsInOrder board) p v (Takes board v)
takes board p v may s items views rule at = (
  taking v s,
  record {
    reader = rule.reader;
    seat = rule.seat;
    all = rule.all;
    taken = rule.taken ++ s ∷ [];
    in_all = rule.in_all ∙ sym (append_assoc rule.taken (s ∷ []) items);
    fronts = rule.fronts.1;
    in_turn = rule.in_turn;
    senders = each_set views p (taking v s) (SendsFit rule.seat rule.all) neither (λ q u _ is. rule.senders q u is);
    receivers = each_set views p (taking v s) (TakesFit rule.reader rule.seat rule.all (rule.taken ++ s ∷ []))
        (λ _. record { one_pass = mine.one_pass; knows_taken = ap (λ l. l ++ s ∷ []) mine.knows_taken; no_others = mine.no_others; knows_joined = mine.knows_joined })
        (λ q u apart is takes. alone _ _ _ _ p q v u mine (rule.receivers q u is takes) apart);
  },
  (
    refl,
    ⊎_elim (λ low. low) (λ high. no_member_of_none (of_task k v.taken) (of_task k items) s _ (sym (mine.no_others k high).1 ∙ parts)) (cases_lt k v.senders),
    rule.in_turn k (of_task k v.taken) s (of_task k items) parts,
    rule.fronts.0,
  ),
)
  where
    k : ℕ
    k = task_of s

    mine : IsReceiver rule.reader rule.seat rule.all rule.taken p v
    mine = rule.receivers p v at may

    parts : of_task k rule.all ≡ of_task k v.taken ++ s ∷ of_task k items
    parts = ap (of_task k) rule.in_all ∙ of_task-append k rule.taken (s ∷ items) ∙ (λ i. of_task k (sym mine.knows_taken i) ++ of_task-own k s items refl i)

pub hires : (board : TableId) (p : ℕ) (v : Role) → v.takes ≡ true → v.joined ≡ [] → Forks (IsInOrder board) p v (hiring v) (hired v)
hires board p v may none_joined items views rule at = record {
  reader = rule.reader;
  seat = seat;
  all = rule.all;
  taken = rule.taken;
  in_all = rule.in_all;
  fronts = rule.fronts;
  in_turn = rule.in_turn;
  senders = each_snoc now (hired v) (SendsFit seat rule.all) (λ _. record { one_pass = reseat_same rule.seat v.senders _; knows_sent = sym free.1 })
      (each_set views p (hiring v) (SendsFit seat rule.all) neither others);
  receivers = each_snoc now (hired v) (TakesFit rule.reader seat rule.all rule.taken) neither
      (each_set views p (hiring v) (TakesFit rule.reader seat rule.all rule.taken) (λ _. hirer) (λ q u apart is takes. alone _ _ _ _ p q v u mine (rule.receivers q u is takes) apart));
}
  where
    now : List Role
    now = slice_set views p (hiring v)

    seat : ℕ → Option ℕ
    seat = reseat rule.seat v.senders (some (length now))

    mine : IsReceiver rule.reader rule.seat rule.all rule.taken p v
    mine = rule.receivers p v at may

    free : (rule.seat v.senders ≡ none) × (of_task v.senders rule.all ≡ [])
    free = mine.no_others v.senders (omega arith)

    others : (q : ℕ) (u : Role) → q ≢ p → get_elem? views q ≡ some u → SendsFit seat rule.all q u
    others q u _ is sends = let yours = rule.senders q u is sends in record {
      one_pass = reseat_other rule.seat v.senders _ u.from (λ e. no_seat rule.seat v.senders u.from q free.0 yours.one_pass (sym e)) ∙ yours.one_pass;
      knows_sent = yours.knows_sent;
    }

    hirer : IsReceiver rule.reader seat rule.all rule.taken p (hiring v)
    hirer = record {
      one_pass = mine.one_pass;
      knows_taken = mine.knows_taken;
      no_others = λ k high. let other = mine.no_others k (omega arith) in (reseat_other rule.seat v.senders _ k (omega arith) ∙ other.0, other.1);
      knows_joined = subst (All (IsJoined seat rule.all)) (sym none_joined) (All-nil (IsJoined seat rule.all));
    }

-- a step behind which the pass knows the same of what was sent and taken
pub stays : (board : TableId) (p : ℕ) (v w : Role) → w.sends ≡ v.sends → w.from ≡ v.from → w.sent ≡ v.sent → w.takes ≡ v.takes → w.taken ≡ v.taken → w.senders ≡ v.senders → w.joined ≡ v.joined
    → Forks (IsInOrder board) p v w idle
stays board p v w sends from sent takes taken senders joined items views rule at = record {
  reader = rule.reader;
  seat = rule.seat;
  all = rule.all;
  taken = rule.taken;
  in_all = rule.in_all;
  fronts = rule.fronts;
  in_turn = rule.in_turn;
  senders = each_snoc (slice_set views p w) idle (SendsFit rule.seat rule.all) neither
      (each_set views p w (SendsFit rule.seat rule.all)
      (λ may. let mine = rule.senders p v at (sym sends ∙ may) in record {
        one_pass = ap rule.seat from ∙ mine.one_pass;
        knows_sent = sent ∙ mine.knows_sent ∙ ap (λ k. of_task k rule.all) (sym from);
      })
      (λ q u _ is. rule.senders q u is));
  receivers = each_snoc (slice_set views p w) idle (TakesFit rule.reader rule.seat rule.all rule.taken) neither
      (each_set views p w (TakesFit rule.reader rule.seat rule.all rule.taken)
      (λ may. let mine = rule.receivers p v at (sym takes ∙ may) in record {
        one_pass = mine.one_pass;
        knows_taken = taken ∙ mine.knows_taken;
        no_others = λ k high. mine.no_others k (subst (λ n. n ≤ k) senders high);
        knows_joined = subst (All (IsJoined rule.seat rule.all)) (sym joined) mine.knows_joined;
      })
      (λ q u _ is. rule.receivers q u is));
}

pub releases : (board : TableId) (p : ℕ) (v : Role) (other : ℕ) (o : Role) → v.takes ≡ true → o.sends ≡ true → Merges (IsInOrder board) p v other o (joining v o) idle
releases board p v other o may sends_may items views rule at apart there = record {
  reader = rule.reader;
  seat = seat;
  all = rule.all;
  taken = rule.taken;
  in_all = rule.in_all;
  fronts = rule.fronts;
  in_turn = rule.in_turn;
  senders = each_set now other idle (SendsFit seat rule.all) neither
      (λ q u away is. each_set views p (joining v o) (λ i w. i ≢ other → SendsFit seat rule.all i w) (λ _. neither) others q u is away);
  receivers = each_set now other idle (TakesFit rule.reader seat rule.all rule.taken) neither
      (λ q u _ is. each_set views p (joining v o) (TakesFit rule.reader seat rule.all rule.taken) (λ _. joiner)
      (λ i w apart is takes. alone _ _ _ _ p i v w mine (rule.receivers i w is takes) apart) q u is);
}
  where
    now : List Role
    now = slice_set views p (joining v o)

    seat : ℕ → Option ℕ
    seat = reseat rule.seat o.from none

    mine : IsReceiver rule.reader rule.seat rule.all rule.taken p v
    mine = rule.receivers p v at may

    theirs : IsSender rule.seat rule.all other o
    theirs = rule.senders other o (was views p other (joining v o) o apart there) sends_may

    others : (q : ℕ) (u : Role) → q ≢ p → get_elem? views q ≡ some u → q ≢ other → SendsFit seat rule.all q u
    others q u _ is away sends = let yours = rule.senders q u is sends in record {
      one_pass = reseat_other rule.seat o.from none u.from (other_seat rule.seat u.from o.from q other yours.one_pass theirs.one_pass away) ∙ yours.one_pass;
      knows_sent = yours.knows_sent;
    }

    joiner : IsReceiver rule.reader seat rule.all rule.taken p (joining v o)
    joiner = record {
      one_pass = mine.one_pass;
      knows_taken = mine.knows_taken;
      no_others = λ k high. let none_sent = mine.no_others k high in (freed rule.seat o.from k none_sent.0, none_sent.1);
      knows_joined = All-cons (IsJoined seat rule.all) (o.from, o.sent) v.joined (reseat_same rule.seat o.from none, sym theirs.knows_sent)
          (λ i d low. let joined = mine.knows_joined i d low in (freed rule.seat o.from _ joined.0, joined.1));
    }

-- a sender that has a seat gets another one, and the seats of those that have none stay
still_free : (seat : ℕ → Option ℕ) (n p : ℕ) (now : Option ℕ) (k : ℕ) → seat n ≡ some p → seat k ≡ none → reseat seat n now k ≡ none
still_free seat n p now k seated free = reseat_other seat n now k (no_seat seat k n p free seated) ∙ free

-- the receiver's pass p takes in a sender's
pub meets : (board : TableId) (p : ℕ) (v : Role) (other : ℕ) (o : Role) → v.takes ≡ true → o.sends ≡ true → Merges (IsInOrder board) p v other o (both v o) idle
meets board p v other o may sends_may items views rule at apart there = record {
  reader = rule.reader;
  seat = seat;
  all = rule.all;
  taken = rule.taken;
  in_all = rule.in_all;
  fronts = rule.fronts;
  in_turn = rule.in_turn;
  senders = each_set now other idle (SendsFit seat rule.all) neither
      (λ q u away is. each_set views p (both v o) (λ i w. i ≢ other → SendsFit seat rule.all i w)
      (λ _ _. record { one_pass = reseat_same rule.seat o.from (some p); knows_sent = theirs.knows_sent }) others q u is away);
  receivers = each_set now other idle (TakesFit rule.reader seat rule.all rule.taken) neither
      (λ q u _ is. each_set views p (both v o) (TakesFit rule.reader seat rule.all rule.taken) (λ _. met)
      (λ i w apart is takes. alone _ _ _ _ p i v w mine (rule.receivers i w is takes) apart) q u is);
}
  where
    now : List Role
    now = slice_set views p (both v o)

    seat : ℕ → Option ℕ
    seat = reseat rule.seat o.from (some p)

    mine : IsReceiver rule.reader rule.seat rule.all rule.taken p v
    mine = rule.receivers p v at may

    theirs : IsSender rule.seat rule.all other o
    theirs = rule.senders other o (was views p other (both v o) o apart there) sends_may

    others : (q : ℕ) (u : Role) → q ≢ p → get_elem? views q ≡ some u → q ≢ other → SendsFit seat rule.all q u
    others q u _ is away sends = let yours = rule.senders q u is sends in record {
      one_pass = reseat_other rule.seat o.from (some p) u.from (other_seat rule.seat u.from o.from q other yours.one_pass theirs.one_pass away) ∙ yours.one_pass;
      knows_sent = yours.knows_sent;
    }

    met : IsReceiver rule.reader seat rule.all rule.taken p (both v o)
    met = record {
      one_pass = mine.one_pass;
      knows_taken = mine.knows_taken;
      no_others = λ k high. let none_sent = mine.no_others k high in (still_free rule.seat o.from other (some p) k theirs.one_pass none_sent.0, none_sent.1);
      knows_joined = λ i d low. let joined = mine.knows_joined i d low in (still_free rule.seat o.from other (some p) _ theirs.one_pass joined.0, joined.1);
    }

-- a pass that is the receiver's and a sender's is cut in two
pub parts : (board : TableId) (p : ℕ) (v : Role) → v.takes ≡ true → v.sends ≡ true → Forks (IsInOrder board) p v (as_receiver v) (as_sender v)
parts board p v may sends_may items views rule at = record {
  reader = rule.reader;
  seat = seat;
  all = rule.all;
  taken = rule.taken;
  in_all = rule.in_all;
  fronts = rule.fronts;
  in_turn = rule.in_turn;
  senders = each_snoc now (as_sender v) (SendsFit seat rule.all) (λ _. record { one_pass = reseat_same rule.seat v.from _; knows_sent = theirs.knows_sent })
      (each_set views p (as_receiver v) (SendsFit seat rule.all) neither others);
  receivers = each_snoc now (as_sender v) (TakesFit rule.reader seat rule.all rule.taken) neither
      (each_set views p (as_receiver v) (TakesFit rule.reader seat rule.all rule.taken) (λ _. left)
      (λ q u apart is takes. alone _ _ _ _ p q v u mine (rule.receivers q u is takes) apart));
}
  where
    now : List Role
    now = slice_set views p (as_receiver v)

    seat : ℕ → Option ℕ
    seat = reseat rule.seat v.from (some (length now))

    mine : IsReceiver rule.reader rule.seat rule.all rule.taken p v
    mine = rule.receivers p v at may

    theirs : IsSender rule.seat rule.all p v
    theirs = rule.senders p v at sends_may

    others : (q : ℕ) (u : Role) → q ≢ p → get_elem? views q ≡ some u → SendsFit seat rule.all q u
    others q u apart is sends = let yours = rule.senders q u is sends in record {
      one_pass = reseat_other rule.seat v.from _ u.from (other_seat rule.seat u.from v.from q p yours.one_pass theirs.one_pass apart) ∙ yours.one_pass;
      knows_sent = yours.knows_sent;
    }

    left : IsReceiver rule.reader seat rule.all rule.taken p (as_receiver v)
    left = record {
      one_pass = mine.one_pass;
      knows_taken = mine.knows_taken;
      no_others = λ k high. let none_sent = mine.no_others k high in (still_free rule.seat v.from p _ k theirs.one_pass none_sent.0, none_sent.1);
      knows_joined = λ i d low. let joined = mine.knows_joined i d low in (still_free rule.seat v.from p _ _ theirs.one_pass joined.0, joined.1);
    }

-- what an empty queue tells the receiver
pub tells : (board : TableId) (p : Receiving) → WasEmpty board p → IsAllTaken p.taken p.joined
tells board p was_empty i d low =
    let moment = was_empty.2 in
    let rule = moment.kept in
    let mine = rule.receivers moment.pass (receiver p.taken p.senders p.joined p.empties) moment.is_view refl in
    let all_taken : rule.all ≡ p.taken = rule.in_all ∙ (λ j. sym mine.knows_taken j ++ none_held was_empty.0 was_empty.1 j) ∙ append-nil p.taken in
    ap (of_task _) (sym all_taken) ∙ (mine.knows_joined i d low).1

-- what a look of the receiver and a sender tells
pub compares : (board : TableId) (count : ℕ) (s : Sending) (r : Receiving) (v : Role)
    → v ≡ both (receiver r.taken r.senders r.joined r.empties) (sender s.number s.sent s.fulls) → Held count (Moment (IsInOrder board) v) → HoldsOf s r count
compares board count s r v is held =
    let moment = held.2 in
    let rule = moment.kept in
    let sender_is = rule.senders moment.pass v moment.is_view (ap (λ (w : Role). w.sends) is) in
    let receiver_is = rule.receivers moment.pass v moment.is_view (ap (λ (w : Role). w.takes) is) in
    record {
      items = held.0;
      counted = held.1;
      in_order = ap (λ (w : Role). w.sent) (sym is) ∙ sender_is.knows_sent ∙ ap (of_task v.from) (rule.in_all ∙ (λ i. sym receiver_is.knows_taken i ++ held.0))
          ∙ of_task-append v.from v.taken held.0 ∙ ap (λ (w : Role). of_task w.from w.taken ++ of_task w.from held.0) is;
    }
