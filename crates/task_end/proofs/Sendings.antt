-- A command more was submitted, one was collected, or a task left.
use Rattle.std.proofs.Common.{true, false, true≢false, ◌≡◌, ◌≢◌, ℕ, zero, suc, ◌+◌, ◌<◌, ◌≤◌, ◌⊎◌, Bool, List, [], ◌∷◌, ◌++◌, map, take, max, length, Option, None, Some, Result, Ok, Err, OnOk, IfOk, IfErr, IfSome, All, refl, sym, ap, ◌∙◌, subst, ⊎_elim, inl, inr, append-nil, length-append, arith}
use Rattle.command_pool.specs.declared.hand.PoolStep.{PoolStep}
use Rattle.command_pool.specs.Takes.{IsOnward}
use Rattle.std.specs.List.{flat_map, list_any}
use Rattle.std.proofs.lemmas.Bool.{cases_eq}
use Rattle.std.proofs.lemmas.Int.{clamps}
use Rattle.std.proofs.lemmas.Grind.{flat_map-append}
use Rattle.std.proofs.lemmas.List.{map-append, append_assoc}
use Rattle.std.proofs.lemmas.List.Elements.{All-weaker, All-push}
use Rattle.agent_journal.specs.declared.outcome.Outcome.{Outcome}
use Rattle.agent_journal.specs.Readings.{is_leave}
use Rattle.command_pool.specs.Hands.{times, without}
use Rattle.command_pool.specs.Passes.{Pass, Holds}
use Rattle.command_pool.specs.Rule.{once_below}
use Rattle.command_pool.proofs.Held.{times-without_same, times-without_other}
use Rattle.task_queues.specs.declared.note.Note.{Note}
use Rattle.task_queues.specs.declared.submission.Submission.{Submission}
use Rattle.task_queues.specs.Submissions.{request_of, seq_of}
use Rattle.task_queues.specs.Fronts.{front_in, front_of, number_in}
use Rattle.task_queues.specs.QueuePasses.{Sending}
use Rattle.task_end.specs.declared.command.Command.{Command}
use Rattle.task_end.specs.declared.ticket.Ticket.{Ticket}
use Rattle.task_end.specs.Notes.{outcomes_in, completed_in, seen_by, counted}
use Rattle.task_end.specs.Commands.{IsTakenFrom, Has, ticket_of, numbers_in, tickets_of, waits, waiting, IsOnce, WasTold, IsStray, IsOtherOrBehind, NoneIsStray, command, is_kept}
use Rattle.task_end.specs.Sides.{TaskSide, IsOut, IsFrontOf, IsBelow, IsKept, noted, front_noted, fronts_noted, front_part}
use Rattle.task_end.specs.declared.log.TaskLog.{TaskLog}
use Rattle.task_end.specs.Logs.{IsLogOf}
use Rattle.task_end.proofs.Lists.{times_both, one, one_same, one_other, once_more, once_few}
use Rattle.task_end.proofs.Cells.{takes_waiting, takes_ticket, takes_all, times_taken, waits_if_out}

-- one call behind another
pub onward_both : (first next last : List PoolStep) → IsOnward first next → IsOnward next last → IsOnward first last
onward_both first next last a b = (b.0 ++ a.0, b.1 ∙ ap (λ l. b.0 ++ l) a.1 ∙ sym (append_assoc b.0 a.0 first))

seen_within : (before : List Note) (note : Note) (after : List Note) → number_in (front_in note) ≤ seen_by (before ++ note ∷ after)
seen_within [] note after = omega (arith, clamps)
seen_within (n ∷ before) note after = omega (arith, clamps, seen_within before note after)

seen_take : (count : ℕ) (got : List Note) → seen_by (take count got) ≤ seen_by got
seen_take zero got = omega arith
seen_take (suc count) [] = omega arith
seen_take (suc count) (n ∷ got) = omega (arith, clamps, seen_take count got)

-- a submission that had seen all of it makes no note stray
stray_sent : (sent : List Submission) (x : Submission) (got : List Note) → (is_leave (request_of x) ≡ false → seen_by got ≤ number_in (front_of x))
    → IsStray sent got → IsStray (sent ++ x ∷ []) got
stray_sent sent x got seen st = record {
  before = st.before;
  note = st.note;
  after = st.after;
  seq = st.seq;
  outcome = st.outcome;
  stands = st.stands;
  completes = st.completes;
  again_or_early = ⊎_elim inl (λ early. inr (All-push (IsOtherOrBehind st.seq (number_in (front_in st.note))) sent x early
      (λ same not. omega (arith, seen not, seen_within st.before st.note st.after, ap seen_by st.stands)))) st.again_or_early;
}

module _ (s : TaskSide) (front notes messages : ℕ) (closed : Bool) (next : ℕ) (cells : List Command) (log : List (ℕ × Outcome))
    (kept : IsKept s front notes messages closed next cells log) where
  pub seen_again : (front' : ℕ) → front' ≡ front → IsKept s front' notes messages closed next cells log
  seen_again front' e = subst (λ f. IsKept s f notes messages closed next cells log) (sym e) kept

  -- ---- A command more

  module _ (p : Pass) (sender : Sending) (x : Submission) (id : ℕ) (held : p.held ≡ id ∷ s.permits.held) (sent : sender.sent ≡ s.sender.sent ++ x ∷ [])
      (seq : seq_of x ≡ next) (not_leave : is_leave (request_of x) ≡ false) (mark : number_in (front_of x) ≡ front) (out : s.out ≡ tickets_of cells) where
    none_before : NoneIsStray sender.sent s.getter.got → NoneIsStray s.sender.sent s.getter.got
    none_before none st = none (subst (λ l. IsStray l s.getter.got) (sym sent)
        (stray_sent s.sender.sent x s.getter.got (λ not. omega (arith, mark, kept.seen)) st))

    noted_one : front_noted x ≡ (next, front) ∷ []
    noted_one = λ i. noted (seq i) (mark i) (not_leave i)

    is_front : IsFrontOf s.getter.got (next, front, notes)
    is_front = record {
      within = omega (arith, clamps, kept.notes_counted);
      seen = omega (arith, kept.seen, seen_take notes s.getter.got);
    }

    one_more : IsKept (record s { permits = p; sender = sender; out = tickets_of (cells ++ command next id None ∷ []); fronts = s.fronts ++ (next, front, notes) ∷ [] })
        front notes messages closed (next + 1) (cells ++ command next id None ∷ []) log
    one_more = record {
      seen = kept.seen;
      notes_counted = kept.notes_counted;
      messages_counted = kept.messages_counted;
      is_closed = kept.is_closed;
      numbered = omega (arith, kept.numbered, length-append s.fronts ((next, front, notes) ∷ []));
      marked = map-append front_part s.fronts ((next, front, notes) ∷ [])
          ∙ (λ i. kept.marked i ++ (next, front) ∷ [])
          ∙ sym (ap fronts_noted sent ∙ flat_map-append front_noted s.sender.sent (x ∷ []) ∙ ap (λ l. fronts_noted s.sender.sent ++ (l ++ [])) noted_one);
      below = subst (All (IsBelow (next + 1))) (sym sent) (All-push (IsBelow (next + 1)) s.sender.sent x
          (All-weaker (IsBelow next) (IsBelow (next + 1)) (λ y is not. omega (arith, is not)) s.sender.sent kept.below) (λ not. omega (arith, seq)));
      behind = All-push (IsFrontOf s.getter.got) s.fronts (next, front, notes) kept.behind is_front;
      held = λ n. omega (
        arith,
        kept.held n,
        ap (times n) held,
        ap (λ l. times n (numbers_in l)) out,
        ap (λ l. times n (numbers_in l)) (map-append ticket_of cells (command next id None ∷ [])),
        ap (times n) (map-append (λ (t : ℕ × ℕ). t.1) (tickets_of cells) ((next, id) ∷ [])),
        times_both n (numbers_in (tickets_of cells)) (id ∷ []),
      );
      told = All-push (WasTold s.getter.got) cells (command next id None) kept.told tt;
      once = λ none n. omega (
        arith,
        kept.once (none_before none) n,
        once_more next n,
        ap (times n) (flat_map-append waits cells (command next id None ∷ [])),
        times_both n (waiting cells) (next ∷ []),
      );
      logged = λ none. kept.logged (none_before none);
    }

    pub begun : (cells' : List Command) (fronts' : List (ℕ × ℕ × ℕ)) (next' : ℕ) (log' : List (ℕ × Outcome))
        → cells' ≡ cells ++ command next id None ∷ [] → fronts' ≡ s.fronts ++ (next, front, notes) ∷ [] → next' ≡ next + 1 → log' ≡ log
        → IsKept (record s { permits = p; sender = sender; out = tickets_of cells'; fronts = fronts' }) front notes messages closed next' cells' log'
    begun cells' fronts' next' log' c f n l =
        subst (λ cs. IsKept (record s { permits = p; sender = sender; out = tickets_of cs; fronts = fronts' }) front notes messages closed next' cs log') (sym c)
        (subst (λ fs. IsKept (record s { permits = p; sender = sender; out = tickets_of (cells ++ command next id None ∷ []); fronts = fs }) front notes messages closed next' (cells ++ command next id None ∷ []) log') (sym f)
        (subst (λ (m : ℕ × List (ℕ × Outcome)). IsKept (record s { permits = p; sender = sender; out = tickets_of (cells ++ command next id None ∷ []); fronts = s.fronts ++ (next, front, notes) ∷ [] }) front notes messages closed m.0 (cells ++ command next id None ∷ []) m.1)
        (λ i. (sym n i, sym l i)) one_more))

  -- ---- Nothing was submitted

  pub still : (p : Pass) (sender : Sending) (cells' : List Command) (fronts' : List (ℕ × ℕ × ℕ)) (next' : ℕ) (log' : List (ℕ × Outcome))
      → p.held ≡ s.permits.held → sender.sent ≡ s.sender.sent → s.out ≡ tickets_of cells → cells' ≡ cells → fronts' ≡ s.fronts → next' ≡ next → log' ≡ log
      → IsKept (record s { permits = p; sender = sender; out = tickets_of cells'; fronts = fronts' }) front notes messages closed next' cells' log'
  still p sender cells' fronts' next' log' held sent out c f n l = record {
    seen = kept.seen;
    notes_counted = kept.notes_counted;
    messages_counted = kept.messages_counted;
    is_closed = kept.is_closed;
    numbered = ap length f ∙ kept.numbered ∙ sym n;
    marked = ap (map front_part) f ∙ kept.marked ∙ ap fronts_noted (sym sent);
    below = subst (λ m. All (IsBelow m) sender.sent) (sym n) (subst (All (IsBelow next)) (sym sent) kept.below);
    behind = subst (All (IsFrontOf s.getter.got)) (sym f) kept.behind;
    held = λ x. ap (times x) held ∙ kept.held x ∙ ap (λ o. times x (numbers_in o)) (out ∙ ap tickets_of (sym c));
    told = subst (All (WasTold s.getter.got)) (sym c) kept.told;
    once = λ none x. ap (λ cs. times x (waiting cs) + times x (completed_in s.getter.got)) c
        ∙ kept.once (subst (λ l. NoneIsStray l s.getter.got) sent none) x ∙ ap (λ m. once_below m x) (sym n);
    logged = λ none. l ∙ kept.logged (subst (λ l. NoneIsStray l s.getter.got) sent none);
  }

  -- ---- A Leave

  pub has_left_it : (sender : Sending) (x : Submission) → sender.sent ≡ s.sender.sent ++ x ∷ [] → is_leave (request_of x) ≡ true
      → IsKept (record s { sender = sender }) front notes messages closed next cells log
  has_left_it sender x sent leave = record {
    seen = kept.seen;
    notes_counted = kept.notes_counted;
    messages_counted = kept.messages_counted;
    is_closed = kept.is_closed;
    numbered = kept.numbered;
    marked = kept.marked ∙ sym (ap fronts_noted sent ∙ flat_map-append front_noted s.sender.sent (x ∷ [])
        ∙ ap (λ b. fronts_noted s.sender.sent ++ (noted (seq_of x) (number_in (front_of x)) b ++ [])) leave ∙ append-nil (fronts_noted s.sender.sent));
    below = subst (All (IsBelow next)) (sym sent) (All-push (IsBelow next) s.sender.sent x kept.below (λ not. absurd (true≢false (sym leave ∙ not))));
    behind = kept.behind;
    held = kept.held;
    told = kept.told;
    once = λ none. kept.once (none_before none);
    logged = λ none. kept.logged (none_before none);
  }
    where
      none_before : NoneIsStray sender.sent s.getter.got → NoneIsStray s.sender.sent s.getter.got
      none_before none st = none (subst (λ l. IsStray l s.getter.got) (sym sent)
          (stray_sent s.sender.sent x s.getter.got (λ not. absurd (true≢false (sym leave ∙ not))) st))

  -- ---- A command is collected

  module _ (seq number : ℕ) (outcome : Outcome) (cells' : List Command) (t : IsTakenFrom (command seq number (Some outcome)) cells cells') (out : s.out ≡ tickets_of cells) where
    counts : (x : ℕ) → times x (numbers_in (tickets_of cells')) + one x number ≡ times x s.permits.held
    counts x = omega (
      arith,
      times_taken (seq, number) (tickets_of cells) (tickets_of cells') (takes_ticket seq number outcome cells cells' t) x,
      kept.held x,
      ap (λ l. times x (numbers_in l)) out,
    )

    pub is_held : 0 < times number s.permits.held
    is_held = omega (arith, counts number, one_same number number refl)

    pub was_told : Has (outcomes_in s.getter.got) (seq, outcome)
    was_told = (takes_all seq number outcome cells cells' t (WasTold s.getter.got) kept.told).1

    pub handed_out : (p : Pass) (next' : ℕ) (log' : List (ℕ × Outcome)) → p.held ≡ without number s.permits.held → next' ≡ next → log' ≡ log
        → IsKept (record s { permits = p; out = tickets_of cells' }) front notes messages closed next' cells' log'
    handed_out p next' log' held n l =
        subst (λ (m : ℕ × List (ℕ × Outcome)). IsKept (record s { permits = p; out = tickets_of cells' }) front notes messages closed m.0 cells' m.1) (λ i. (sym n i, sym l i)) (record {
          seen = kept.seen;
          notes_counted = kept.notes_counted;
          messages_counted = kept.messages_counted;
          is_closed = kept.is_closed;
          numbered = kept.numbered;
          marked = kept.marked;
          below = kept.below;
          behind = kept.behind;
          held = λ x. ⊎_elim
              (λ e. omega (arith, ap (times x) held, ap (λ n. times x (without n s.permits.held)) (sym e), times-without_same x s.permits.held (omega (arith, counts x, one_same x number e)), counts x, one_same x number e))
              (λ apart. omega (arith, ap (times x) held, times-without_other number x s.permits.held apart, counts x, one_other x number apart))
              (cases_eq x number);
          told = (takes_all seq number outcome cells cells' t (WasTold s.getter.got) kept.told).0;
          once = λ none x. ap (λ l. times x l + times x (completed_in s.getter.got)) (takes_waiting seq number outcome cells cells' t) ∙ kept.once none x;
          logged = kept.logged;
        })

  -- a ticket that is out, whose outcome isn't kept: none was told
  pub none_told : (seq number : ℕ) → Has (tickets_of cells) (seq, number) → list_any (is_kept seq number) cells ≡ false
      → NoneIsStray s.sender.sent s.getter.got → times seq (completed_in s.getter.got) ≡ 0
  none_told seq number has none_kept none = omega (arith, waits_if_out seq number cells has none_kept, kept.once none seq, once_few next seq)

-- ---- A Leave, sent or refused

module _ {E : Type 0} (s : TaskSide) (sender : Sending) (x : Submission) (fulls : ℕ) where
  pub leave_tried : (r : Result (Unit {0}) E) (front notes messages : ℕ) (closed : Bool) (next : ℕ) (cells : List Command) (log : List (ℕ × Outcome))
      → IsKept s front notes messages closed next cells log → is_leave (request_of x) ≡ true
      → OnOk r (sender ≡ record s.sender { sent = s.sender.sent ++ x ∷ [] }) → IfErr r (λ _. sender ≡ record s.sender { fulls = fulls })
      → s.out ≡ tickets_of cells → IsKept (record s { sender = sender }) front notes messages closed next cells log
  leave_tried (Ok u) front notes messages closed next cells log kept leave sent full out =
      has_left_it s front notes messages closed next cells log kept sender x (ap (λ (p : Sending). p.sent) sent) leave
  leave_tried (Err e) front notes messages closed next cells log kept leave sent full out =
      subst (λ o. IsKept (record s { sender = sender; out = o }) front notes messages closed next cells log) (sym out)
      (still s front notes messages closed next cells log kept s.permits sender cells s.fronts next log refl (ap (λ (p : Sending). p.sent) full) out refl refl refl refl)

pub same_queue : {E : Type 0} (old new : Sending) (x : Submission) (fulls : ℕ) (r : Result (Unit {0}) E)
    → OnOk r (new ≡ record old { sent = old.sent ++ x ∷ [] }) → IfErr r (λ _. new ≡ record old { fulls = fulls })
    → (new.queue ≡ old.queue) × (new.number ≡ old.number)
same_queue old new x fulls (Ok u) sent full = (ap (λ (p : Sending). p.queue) sent, ap (λ (p : Sending). p.number) sent)
same_queue old new x fulls (Err e) sent full = (ap (λ (p : Sending). p.queue) full, ap (λ (p : Sending). p.number) full)

-- the ticket of a request that was submitted is out
pub out_last : {E : Type 0} (r : Result Ticket E) (old new : TaskSide) → IfOk r (λ t. Holds new.permits t.permit) → IfOk r (λ t. new.out ≡ old.out ++ (t.seq, t.permit.id) ∷ [])
    → IfOk r (λ t. IsOut t new)
out_last (Ok t) old new holds out = (holds.0, (old.out ++ [], record { before = old.out; after = []; stood = out; others = refl }))
out_last (Err e) old new holds out = tt

pub log_again : (s again : TaskSide) (log : TaskLog) → s ≡ again → IsLogOf s log → IsLogOf again log
log_again s again log e is = subst (λ t. IsLogOf t log) e is
