-- What was taken from the queue, and the Takes of a journal.
use Rattle.std.proofs.Common.{◌≡◌, ℕ, ◌+◌, ◌<◌, ◌≤◌, Bool, true, false, cond, List, [], ◌∷◌, ◌++◌, length, map, Some, refl, sym, ap, ◌∙◌, subst, arith, append-nil, append_assoc, is_some, ⊎_elim, eq-eqb, ne_eqb}
use Rattle.std.specs.Prelude.{◌==◌, ◌||◌, ◌&&◌, Result, Ok, Err, OnErr}
use Rattle.std.specs.List.{list_any}
use Rattle.std.proofs.lemmas.List.Folds.{list_any-append}
use Rattle.std.proofs.lemmas.Bool.{cases_eq}
use Rattle.agent_journal.specs.declared.request.Request.{Request}
use Rattle.agent_journal.specs.declared.entry.Cause.{Cause}
use Rattle.agent_journal.specs.declared.entry.Cause.TheVariants as c
use Rattle.agent_journal.specs.declared.entry.Entry.{Entry}
use Rattle.agent_journal.specs.declared.entry.Why.TheVariants as why
use Rattle.agent_journal.specs.declared.setup.Setup.{Setup}
use Rattle.agent_journal.specs.declared.setup.Phase.{Phase}
use Rattle.agent_journal.specs.declared.setup.Phase.TheVariants.{Down, Opening, Up, Spilled, Off}
use Rattle.agent_journal.specs.Projections.{request_in, requests_of}
use Rattle.agent_journal.specs.Readings.{last_time_of, takes_by, takes_of, is_leave, leaves_by, has_left}
use Rattle.agent_table.specs.Histories.{phase_of, readings, row, first_row, due_causes}
use Rattle.agent_table.specs.Readings.{Readings}
use Rattle.agent_table.specs.Table.{row_of}
use Rattle.agent_table.specs.Sizes.{Sizes}
use Rattle.mqtt_packet.specs.Splitting.{Kept as Stream}
use Rattle.agent_ties.proofs.TakeRows.{taken_up_by, taken_off_by}
use Rattle.task_queues.specs.declared.submission.Submission.{Submission}
use Rattle.task_queues.specs.Submissions.{task_of, seq_of, request_of, of_task, has_leave, MayFollow}
use Rattle.task_queues.specs.QueuePasses.{Receiving}
use Rattle.task_queues.specs.Fronts.{front_of, number_in}
use Rattle.agent_line.specs.Recorded.{Recorded, due_in, is_take, Makes, MayMake, Enters, Grows}
use Rattle.agent_line.proofs.Growing.{grows_made, grows_maybe}
use Rattle.agent_requests.specs.Takes.{take_of, take_in, takes_in, Becomes, BecomeAll, AreTakes}
use Rattle.agent_requests.specs.Intake.{Taking, IsServed, takes_now}
use Rattle.agent_requests.specs.Laws.{TakesAreRequests}

-- ---- Entries more

none_in : (entry : ℕ) (cause : Cause) → is_take cause ≡ false → take_in entry cause ≡ []
none_in entry c.Opened e = refl
none_in entry (c.Take task seq request) e = absurd (cc e)
none_in entry (c.Arrived packet) e = refl
none_in entry (c.Broke why) e = refl
none_in entry c.Tick e = refl
none_in entry c.GaveUp e = refl
none_in entry c.Finish e = refl

both_false : (a b : Bool) → (a || b) ≡ false → (a ≡ false) × (b ≡ false)
both_false true b e = absurd (cc e)
both_false false b e = (refl, e)

takes_more : (more past : List Entry) → list_any (λ (e : Entry). is_take e.cause) more ≡ false → takes_in (more ++ past) ≡ takes_in past
takes_more [] past e = refl
takes_more (x ∷ more) past e =
    let parts = both_false (is_take x.cause) (list_any (λ (e : Entry). is_take e.cause) more) e in
    ap (λ xs. takes_in (more ++ past) ++ xs) (none_in (length (more ++ past)) x.cause parts.0) ∙ append-nil (takes_in (more ++ past)) ∙ takes_more more past parts.1

pub stays_taken : (taken : List Submission) (more past new : List Entry) → new ≡ more ++ past → list_any (λ (e : Entry). is_take e.cause) more ≡ false → AreTakes taken past → AreTakes taken new
stays_taken taken more past new e none h = subst (BecomeAll taken) (sym (ap takes_in e ∙ takes_more more past none)) h

becomes_more : (taken : List Submission) (takes : List (ℕ × Cause)) (s : Submission) (take : ℕ × Cause) → BecomeAll taken takes → Becomes s take → BecomeAll (taken ++ s ∷ []) (takes ++ take ∷ [])
becomes_more [] [] s take h one = (one, tt)
becomes_more [] (other ∷ takes) s take h one = absurd h
becomes_more (x ∷ taken) [] s take h one = absurd h
becomes_more (x ∷ taken) (other ∷ takes) s take h one = (h.0, becomes_more taken takes s take h.1 one)

pub taken_more : (old new : Recorded) (at : ℕ) (taken : List Submission) (s : Submission) → AreTakes taken old.past → Enters at (take_of s) old new → number_in (front_of s) ≤ length old.past → AreTakes (taken ++ s ∷ []) new.past
taken_more old new at taken s h enters seen =
    let one : AreTakes (taken ++ s ∷ []) (enters.first ∷ old.past) =
    subst (λ cause. BecomeAll (taken ++ s ∷ []) (takes_in old.past ++ take_in (length old.past) cause)) (sym enters.is)
    (becomes_more taken (takes_in old.past) s (length old.past, take_of s) h (record { same = refl; seen = seen })) in
    stays_taken (taken ++ s ∷ []) enters.more (enters.first ∷ old.past) new.past enters.past enters.others.none_taken one

-- ---- An agent behind a call

abbrev at_once : Recorded → Stream → ℕ → Receiving → Taking
at_once r stream idle receiver = record { recorded = r; stream = stream; idle = idle; receiver = receiver }

pub serves_grown : (at : ℕ) (old : Taking) (new : Recorded) (stream : Stream) (idle : ℕ) → Grows at old.recorded new → IsServed old → IsServed (at_once new stream idle old.receiver)
serves_grown at old new stream idle grows h =
    record {
      takes = stays_taken old.receiver.taken grows.more old.recorded.past new.past grows.past grows.others.none_taken h.takes;
      tasks = h.tasks ∙ ap (λ (s : Setup). s.tasks) (sym grows.setup);
    }

pub serves_same : (old : Taking) (new : Recorded) (stream : Stream) (idle : ℕ) → new ≡ old.recorded → IsServed old → IsServed (at_once new stream idle old.receiver)
serves_same old new stream idle e h = subst (λ r. IsServed (at_once r stream idle old.receiver)) (sym e) (record { takes = h.takes; tasks = h.tasks })

-- the entry of a cause that takes no request
pub serves_entered : (at : ℕ) (cause : Cause) (old : Taking) (new : Recorded) (stream : Stream) (idle : ℕ) → is_take cause ≡ false → Enters at cause old.recorded new → IsServed old → IsServed (at_once new stream idle old.receiver)
serves_entered at cause old new stream idle other enters h =
    record {
      takes =
          stays_taken old.receiver.taken enters.more (enters.first ∷ old.recorded.past) new.past enters.past enters.others.none_taken
          (stays_taken old.receiver.taken (enters.first ∷ []) old.recorded.past (enters.first ∷ old.recorded.past) refl (ap (λ c. is_take c || false) enters.is ∙ ap (λ b. b || false) other) h.takes);
      tasks = h.tasks ∙ ap (λ (s : Setup). s.tasks) (sym enters.setup);
    }

pub serves_taken : (at : ℕ) (old : Taking) (s : Submission) (new : Recorded) (stream : Stream) (idle : ℕ) (receiver : Receiving) → Enters at (take_of s) old.recorded new
    → receiver ≡ record old.receiver { taken = old.receiver.taken ++ s ∷ [] } → number_in (front_of s) ≤ length old.recorded.past → IsServed old → IsServed (at_once new stream idle receiver)
serves_taken at old s new stream idle receiver enters e seen h =
    subst (λ (r : Receiving). IsServed (at_once new stream idle r)) (sym e)
    (record {
      takes = taken_more old.recorded new at old.receiver.taken s h.takes enters seen;
      tasks = h.tasks ∙ ap (λ (s : Setup). s.tasks) (sym enters.setup);
    })

-- what is due takes no request
first_other : (s : Setup) (l : Sizes) (r : Readings) (now : ℕ) (cause : Cause) (causes : List Cause) → list_any is_take causes ≡ false → first_row s l r now causes ≡ Some cause → is_take cause ≡ false
first_other s l r now cause [] none e = absurd (cc e)
first_other s l r now cause (x ∷ causes) none e =
    let parts = both_false (is_take x) (list_any is_take causes) none in
    by (is_some (row_of s l r now x)) parts.0 (first_other s l r now cause causes parts.1) e
  where
    by : (b : Bool) → is_take x ≡ false → (first_row s l r now causes ≡ Some cause → is_take cause ≡ false) → cond b (Some x) (first_row s l r now causes) ≡ Some cause → is_take cause ≡ false
    by true first rest is = let same : x ≡ cause = cc is in subst (λ y. is_take y ≡ false) same first
    by false first rest is = rest is

pub due_is_other : (r : Recorded) (now : ℕ) (cause : Cause) → due_in r now ≡ Some cause → is_take cause ≡ false
due_is_other r now cause e = first_other r.setup r.sizes (readings r.setup r.sizes r.past) now cause due_causes refl e

pub served_due : {E : Type 0} (result : Result Bool E) (at : ℕ) (old : Taking) (new : Recorded) (stream : Stream) (idle : ℕ)
    → (result ≡ Ok true → (cause : Cause) × (due_in old.recorded at ≡ Some cause) × Enters at cause old.recorded new) → (result ≡ Ok false → new ≡ old.recorded) → OnErr result (Grows at old.recorded new)
    → IsServed old → IsServed (at_once new stream idle old.receiver)
served_due (Ok true) at old new stream idle due none err =
    let made = due refl in λ h. serves_entered at made.0 old new stream idle (due_is_other old.recorded at made.0 made.1) made.2 h
served_due (Ok false) at old new stream idle due none err = λ h. serves_same old new stream idle (none refl) h
served_due (Err e) at old new stream idle due none err = serves_grown at old new stream idle err

pub served_opened : {E : Type 0} (result : Result Bool E) (at : ℕ) (old : Taking) (new : Recorded) (stream : Stream) (idle : ℕ)
    → (result ≡ Ok true → Enters at c.Opened old.recorded new) → (result ≡ Ok false → Makes old.recorded at (c.Broke why.Fault) new) → OnErr result (Grows at old.recorded new)
    → IsServed old → IsServed (at_once new stream idle old.receiver)
served_opened (Ok true) at old new stream idle opened failed err = λ h. serves_entered at c.Opened old new stream idle refl (opened refl) h
served_opened (Ok false) at old new stream idle opened failed err = serves_grown at old new stream idle (grows_made at (c.Broke why.Fault) old.recorded new refl (failed refl))
served_opened (Err e) at old new stream idle opened failed err = serves_grown at old new stream idle err

-- the entry of what is due, which may have been made
pub maybe_due : {T E : Type 0} (result : Result T E) (at : ℕ) (old new : Recorded) → OnErr result ((cause : Cause) × (due_in old at ≡ Some cause) × MayMake old at cause new) → OnErr result (Grows at old new)
maybe_due (Ok a) at old new h = tt
maybe_due (Err e) at old new h = grows_maybe at h.0 old new (due_is_other old at h.0 h.1) h.2

pub maybe_opened : {T E : Type 0} (result : Result T E) (at : ℕ) (old new : Recorded) → OnErr result (MayMake old at c.Opened new) → OnErr result (Grows at old new)
maybe_opened (Ok a) at old new h = tt
maybe_opened (Err e) at old new h = grows_maybe at c.Opened old new refl h

-- ---- What is counted of a task

abbrev for_one : Bool → ℕ
for_one b = cond b 1 0

abbrev counted : ℕ → List (ℕ × Cause) → ℕ
counted t [] = 0
counted t (take ∷ takes) = for_one (takes_by t take.1) + counted t takes

abbrev left_in : ℕ → List (ℕ × Cause) → Bool
left_in t takes = list_any (λ take. leaves_by t take.1) takes

counted-append : (t : ℕ) (xs ys : List (ℕ × Cause)) → counted t (xs ++ ys) ≡ counted t xs + counted t ys
counted-append t [] ys = omega arith
counted-append t (x ∷ xs) ys = let more = counted-append t xs ys in omega (arith, more)

one_in : (t entry : ℕ) (cause : Cause) → counted t (take_in entry cause) ≡ for_one (takes_by t cause)
one_in t entry c.Opened = refl
one_in t entry (c.Take task seq request) = omega arith
one_in t entry (c.Arrived packet) = refl
one_in t entry (c.Broke why) = refl
one_in t entry c.Tick = refl
one_in t entry c.GaveUp = refl
one_in t entry c.Finish = refl

behind_is : (b : Bool) (n : ℕ) → cond b (n + 1) n ≡ n + for_one b
behind_is true n = refl
behind_is false n = omega arith

takes_counted : (t : ℕ) (past : List Entry) → takes_of t past ≡ counted t (takes_in past)
takes_counted t [] = refl
takes_counted t (e ∷ past) =
    let before = takes_counted t past in
    let all = counted-append t (takes_in past) (take_in (length past) e.cause) in
    let one = one_in t (length past) e.cause in
    let behind = behind_is (takes_by t e.cause) (takes_of t past) in
    omega (arith, before, all, one, behind)

or_false : (b : Bool) → (b || false) ≡ b
or_false true = refl
or_false false = refl

or_swap : (a b : Bool) → (a || b) ≡ (b || a)
or_swap true true = refl
or_swap true false = refl
or_swap false true = refl
or_swap false false = refl

leave_in : (t entry : ℕ) (cause : Cause) → left_in t (take_in entry cause) ≡ leaves_by t cause
leave_in t entry c.Opened = refl
leave_in t entry (c.Take task seq request) = or_false (leaves_by t (c.Take task seq request))
leave_in t entry (c.Arrived packet) = refl
leave_in t entry (c.Broke why) = refl
leave_in t entry c.Tick = refl
leave_in t entry c.GaveUp = refl
leave_in t entry c.Finish = refl

pub left_taken : (t : ℕ) (past : List Entry) → has_left t past ≡ left_in t (takes_in past)
left_taken t [] = refl
left_taken t (e ∷ past) =
    ap (λ b. leaves_by t e.cause || b) (left_taken t past) ∙ or_swap (leaves_by t e.cause) (left_in t (takes_in past)) ∙ ap (λ b. left_in t (takes_in past) || b) (sym (leave_in t (length past) e.cause))
    ∙ sym (list_any-append (λ take. leaves_by t take.1) (takes_in past) (take_in (length past) e.cause))

same_test : (s : Submission) (t : ℕ) → (task_of s == t) ≡ (t == task_of s)
same_test s t = ⊎_elim (λ e. eq-eqb (task_of s) t e ∙ sym (eq-eqb t (task_of s) (sym e))) (λ n. ne_eqb (task_of s) t n ∙ sym (ne_eqb t (task_of s) (λ e. n (sym e)))) (cases_eq (task_of s) t)

filtered : {X : Type 0} (b : Bool) (s : X) (rest : List X) → length (cond b (s ∷ rest) rest) ≡ for_one b + length rest
filtered true s rest = omega arith
filtered false s rest = omega arith

submissions_counted : (t : ℕ) (taken : List Submission) (takes : List (ℕ × Cause)) → BecomeAll taken takes → length (of_task t taken) ≡ counted t takes
submissions_counted t [] [] h = refl
submissions_counted t [] (take ∷ takes) h = absurd h
submissions_counted t (s ∷ taken) [] h = absurd h
submissions_counted t (s ∷ taken) (take ∷ takes) h =
    let more = submissions_counted t taken takes h.1 in
    let one = filtered (task_of s == t) s (of_task t taken) in
    let same = ap for_one (same_test s t) ∙ ap (λ cause. for_one (takes_by t cause)) (sym h.0.same) in
    omega (arith, more, one, same)

leave_by : (b : Bool) (s : Submission) (rest : List Submission) → has_leave (cond b (s ∷ rest) rest) ≡ ((b && is_leave (request_of s)) || has_leave rest)
leave_by true s rest = refl
leave_by false s rest = refl

pub leave_taken : (t : ℕ) (taken : List Submission) (takes : List (ℕ × Cause)) → BecomeAll taken takes → has_leave (of_task t taken) ≡ left_in t takes
leave_taken t [] [] h = refl
leave_taken t [] (take ∷ takes) h = absurd h
leave_taken t (s ∷ taken) [] h = absurd h
leave_taken t (s ∷ taken) (take ∷ takes) h =
    leave_by (task_of s == t) s (of_task t taken) ∙ ap (λ b. (b && is_leave (request_of s)) || has_leave (of_task t taken)) (same_test s t)
    ∙ ap (λ b. ((t == task_of s) && is_leave (request_of s)) || b) (leave_taken t taken takes h.1)
    ∙ ap (λ cause. leaves_by t cause || left_in t takes) (sym h.0.same)

-- ---- A submission has a row

by_phase : (s : Setup) (l : Sizes) (past : List Entry) (P : Type 0) (phase : Phase) → takes_now phase ≡ true → phase_of s l past ≡ phase → (phase_of s l past ≡ Up → P) → (phase_of s l past ≡ Off → P) → P
by_phase s l past P Down now is up off = absurd (cc now)
by_phase s l past P Opening now is up off = absurd (cc now)
by_phase s l past P Up now is up off = up is
by_phase s l past P Spilled now is up off = absurd (cc now)
by_phase s l past P Off now is up off = off is

pub take_there : (s : Setup) (l : Sizes) (past : List Entry) (at : ℕ) (taken : List Submission) (x : Submission) → AreTakes taken past → task_of x < s.tasks → MayFollow (of_task (task_of x) taken) x → last_time_of past ≤ at
    → takes_now (phase_of s l past) ≡ true → is_some (row s l past at (take_of x)) ≡ true
take_there s l past at taken x h within may time phase =
    let t = task_of x in
    let turn : seq_of x ≡ takes_of t past = may.0 ∙ submissions_counted t taken (takes_in past) h ∙ sym (takes_counted t past) in
    let left : has_left t past ≡ false = left_taken t past ∙ sym (leave_taken t taken (takes_in past) h) ∙ may.1 in
    by_phase s l past (is_some (row s l past at (take_of x)) ≡ true) (phase_of s l past) phase refl
    (λ up. taken_up_by s l (readings s l past) at time (request_of x) may.2 t (seq_of x) within left turn up)
    (λ off. taken_off_by s l (readings s l past) at time (request_of x) may.2 t (seq_of x) within left turn off)

-- ---- The requests of a task

asked_by : ℕ → List (ℕ × Cause) → List Request
asked_by t [] = []
asked_by t (take ∷ takes) = request_in t take.1 ++ asked_by t takes

asked-append : (t : ℕ) (xs ys : List (ℕ × Cause)) → asked_by t (xs ++ ys) ≡ asked_by t xs ++ asked_by t ys
unfolding asked_by
asked-append t [] ys = refl
asked-append t (x ∷ xs) ys = ap (λ rest. request_in t x.1 ++ rest) (asked-append t xs ys) ∙ sym (append_assoc (request_in t x.1) (asked_by t xs) (asked_by t ys))

asked_in : (t entry : ℕ) (cause : Cause) → asked_by t (take_in entry cause) ≡ request_in t cause
unfolding asked_by
asked_in t entry c.Opened = refl
asked_in t entry (c.Take task seq request) = append-nil (request_in t (c.Take task seq request))
asked_in t entry (c.Arrived packet) = refl
asked_in t entry (c.Broke why) = refl
asked_in t entry c.Tick = refl
asked_in t entry c.GaveUp = refl
asked_in t entry c.Finish = refl

asked_all : (t : ℕ) (past : List Entry) → asked_by t (takes_in past) ≡ requests_of t past
unfolding asked_by
asked_all t [] = refl
asked_all t (e ∷ past) =
    asked-append t (takes_in past) (take_in (length past) e.cause) ∙ ap (λ rs. rs ++ asked_by t (take_in (length past) e.cause)) (asked_all t past)
    ∙ ap (λ rs. requests_of t past ++ rs) (asked_in t (length past) e.cause)

asked_first : (b : Bool) (s : Submission) (rest : List Submission) → map request_of (cond b (s ∷ rest) rest) ≡ cond b (request_of s ∷ []) [] ++ map request_of rest
asked_first true s rest = refl
asked_first false s rest = refl

asked_taken : (t : ℕ) (taken : List Submission) (takes : List (ℕ × Cause)) → BecomeAll taken takes → map request_of (of_task t taken) ≡ asked_by t takes
unfolding asked_by
asked_taken t [] [] h = refl
asked_taken t [] (take ∷ takes) h = absurd h
asked_taken t (s ∷ taken) [] h = absurd h
asked_taken t (s ∷ taken) (take ∷ takes) h =
    asked_first (task_of s == t) s (of_task t taken) ∙ ap (λ b. cond b (request_of s ∷ []) [] ++ map request_of (of_task t taken)) (same_test s t)
    ∙ ap (λ rest. request_in t (take_of s) ++ rest) (asked_taken t taken takes h.1) ∙ ap (λ cause. request_in t cause ++ asked_by t takes) (sym h.0.same)

pub takes_are_requests : TakesAreRequests
takes_are_requests taken past t h = asked_taken t taken (takes_in past) h ∙ asked_all t past
