-- What was taken from the queue, and where it stands in the journal.
use Rattle.std.proofs.Common.{◌≡◌, ℕ, ◌+◌, ◌≤◌, Bool, true, false, cond, List, [], ◌∷◌, ◌++◌, map, length, All, refl, sym, ap, ◌∙◌, subst, arith, append_assoc, length-append}
use Rattle.std.specs.Prelude.{◌==◌, ◌&&◌, not, count_by}
use Rattle.std.proofs.lemmas.Bool.{eqb-true, eq-eqb}
use Rattle.std.proofs.lemmas.List.Elements.{All-append, All-nil, All-cons, All-head, All-tail, All-weaker, filter-append}
use Rattle.agent_journal.specs.declared.request.Request.{Request}
use Rattle.agent_journal.specs.declared.entry.Cause.{Cause}
use Rattle.agent_journal.specs.declared.entry.Cause.TheVariants as c
use Rattle.agent_journal.specs.declared.entry.Entry.{Entry}
use Rattle.agent_journal.specs.Readings.{is_leave}
use Rattle.agent_journal.specs.Projections.{request_in, requests_of, commands_by, commands_of}
use Rattle.agent_table.proofs.Counts.{count_more, count_append}
use Rattle.task_queues.specs.declared.submission.Submission.{Submission}
use Rattle.task_queues.specs.Submissions.{task_of, seq_of, request_of, of_task}
use Rattle.task_queues.specs.Fronts.{front_of, number_in}
use Rattle.task_end.specs.Sides.{noted, front_noted, fronts_noted}
use Rattle.agent_requests.specs.Takes.{take_in, takes_in, Becomes, BecomeAll, AreTakes}
use Rattle.agent_shared.specs.Gathered.{IsTakenAt}

-- ---- How many commands there are

abbrev is_command : Request → Bool
is_command request = not (is_leave request)

command_in : (t : ℕ) (cause : Cause) → count_by is_command (request_in t cause) ≡ commands_by t cause
command_in t c.Opened = refl
command_in t (c.Take task seq request) = go (t == task)
  where
    go : (b : Bool) → count_by is_command (cond b (request ∷ []) []) ≡ cond (b && is_command request) 1 0
    go true = count_more is_command request [] ∙ omega arith
    go false = refl
command_in t (c.Arrived packet) = refl
command_in t (c.Broke why) = refl
command_in t c.Tick = refl
command_in t c.GaveUp = refl
command_in t c.Finish = refl

commands_are : (t : ℕ) (past : List Entry) → count_by is_command (requests_of t past) ≡ commands_of t past
commands_are t [] = refl
commands_are t (e ∷ past) =
    count_append is_command (requests_of t past) (request_in t e.cause) ∙ ap (λ n. n + count_by is_command (request_in t e.cause)) (commands_are t past) ∙ ap (λ n. commands_of t past + n) (command_in t e.cause)

noted_one : (seq number : ℕ) (leave : Bool) → length (noted seq number leave) ≡ cond (not leave) 1 0
noted_one seq number true = refl
noted_one seq number false = refl

fronts_are : (sent : List Submission) → length (fronts_noted sent) ≡ count_by is_command (map request_of sent)
fronts_are [] = refl
fronts_are (s ∷ sent) =
    length-append (front_noted s) (fronts_noted sent) ∙ ap (λ n. n + length (fronts_noted sent)) (noted_one (seq_of s) (number_in (front_of s)) (is_leave (request_of s)))
    ∙ ap (λ n. cond (is_command (request_of s)) 1 0 + n) (fronts_are sent) ∙ sym (count_more is_command (request_of s) (map request_of sent))

pub sent_are : (t : ℕ) (past : List Entry) (sent : List Submission) → map request_of sent ≡ requests_of t past → length (fronts_noted sent) ≡ commands_of t past
sent_are t past sent is = fronts_are sent ∙ ap (count_by is_command) is ∙ commands_are t past

-- ---- Where a Take stands

-- it is the entry of this number
pub record IsTakeIn (past : List Entry) (take : ℕ × Cause) : Type 0 where
  pub later : List Entry
  pub entry : Entry
  pub before : List Entry
  pub stands : past ≡ later ++ entry ∷ before
  pub numbered : length before ≡ take.0
  pub is : entry.cause ≡ take.1

here : (e : Entry) (past : List Entry) (cause : Cause) → e.cause ≡ cause → All (IsTakeIn (e ∷ past)) (take_in (length past) cause)
here e past c.Opened is = All-nil (IsTakeIn (e ∷ past))
here e past (c.Take task seq request) is =
    All-cons (IsTakeIn (e ∷ past)) (length past, c.Take task seq request) [] (record { later = []; entry = e; before = past; stands = refl; numbered = refl; is = is }) (All-nil (IsTakeIn (e ∷ past)))
here e past (c.Arrived packet) is = All-nil (IsTakeIn (e ∷ past))
here e past (c.Broke why) is = All-nil (IsTakeIn (e ∷ past))
here e past c.Tick is = All-nil (IsTakeIn (e ∷ past))
here e past c.GaveUp is = All-nil (IsTakeIn (e ∷ past))
here e past c.Finish is = All-nil (IsTakeIn (e ∷ past))

take_more : (e : Entry) (past : List Entry) (take : ℕ × Cause) → IsTakeIn past take → IsTakeIn (e ∷ past) take
take_more e past take h = record { later = e ∷ h.later; entry = h.entry; before = h.before; stands = ap (λ es. e ∷ es) h.stands; numbered = h.numbered; is = h.is }

pub each_take : (past : List Entry) → All (IsTakeIn past) (takes_in past)
each_take [] = All-nil (IsTakeIn [])
each_take (e ∷ past) =
    All-append (IsTakeIn (e ∷ past)) (takes_in past) (take_in (length past) e.cause) (All-weaker (IsTakeIn past) (IsTakeIn (e ∷ past)) (take_more e past) (takes_in past) (each_take past)) (here e past e.cause refl)

-- ---- Commands were taken behind what their task had seen

-- the command of this number was taken there or behind
abbrev pub IsTakenBehind : ℕ → List Entry → ℕ × ℕ → Type 0
IsTakenBehind t past front = (place : ℕ) × IsTakenAt t front.0 place past × (front.1 ≤ place)

module _ (t : ℕ) (past : List Entry) where
  placed_one : (s : Submission) (take : ℕ × Cause) → Becomes s take → IsTakeIn past take → task_of s ≡ t → (leave : Bool) → is_leave (request_of s) ≡ leave → All (IsTakenBehind t past) (noted (seq_of s) (number_in (front_of s)) leave)
  placed_one s take becomes stands own true is = All-nil (IsTakenBehind t past)
  placed_one s take becomes stands own false is =
      All-cons (IsTakenBehind t past) (seq_of s, number_in (front_of s)) [] (
        take.0,
        record {
          later = stands.later;
          entry = stands.entry;
          before = stands.before;
          request = request_of s;
          stands = stands.stands;
          numbered = stands.numbered;
          takes = stands.is ∙ becomes.same ∙ ap (λ u. c.Take u (seq_of s) (request_of s)) own;
          commands = is;
        },
        becomes.seen,
      )
      (All-nil (IsTakenBehind t past))

  placed_all : (taken : List Submission) (takes : List (ℕ × Cause)) → BecomeAll taken takes → All (IsTakeIn past) takes → All (IsTakenBehind t past) (fronts_noted (of_task t taken))
  placed_all [] [] become all = All-nil (IsTakenBehind t past)
  placed_all [] (take ∷ takes) become all = absurd become
  placed_all (s ∷ taken) [] become all = absurd become
  placed_all (s ∷ taken) (take ∷ takes) become all = go (task_of s == t) refl (placed_all taken takes become.1 (All-tail (IsTakeIn past) take takes all))
    where
      go : (b : Bool) → (task_of s == t) ≡ b → All (IsTakenBehind t past) (fronts_noted (of_task t taken)) → All (IsTakenBehind t past) (fronts_noted (cond b (s ∷ of_task t taken) (of_task t taken)))
      go true is rest =
          All-append (IsTakenBehind t past) (front_noted s) (fronts_noted (of_task t taken))
          (placed_one s take become.0 (All-head (IsTakeIn past) take takes all) (eqb-true (task_of s) t is) (is_leave (request_of s)) refl) rest
      go false is rest = rest

  pub taken_behind : (taken : List Submission) → AreTakes taken past → All (IsTakenBehind t past) (fronts_noted (of_task t taken))
  taken_behind taken takes = placed_all taken (takes_in past) takes (each_take past)

-- ---- The submission that a Take was

-- one of these submissions became this Take
pub record CameFrom (taken : List Submission) (take : ℕ × Cause) : Type 0 where
  pub before : List Submission
  pub submission : Submission
  pub after : List Submission
  pub stands : taken ≡ before ++ submission ∷ after
  pub becomes : Becomes submission take

came_more : (s : Submission) (taken : List Submission) (take : ℕ × Cause) → CameFrom taken take → CameFrom (s ∷ taken) take
came_more s taken take h = record { before = s ∷ h.before; submission = h.submission; after = h.after; stands = ap (λ ss. s ∷ ss) h.stands; becomes = h.becomes }

came_all : (taken : List Submission) (takes : List (ℕ × Cause)) → BecomeAll taken takes → All (CameFrom taken) takes
came_all [] [] become = All-nil (CameFrom [])
came_all [] (take ∷ takes) become = absurd become
came_all (s ∷ taken) [] become = absurd become
came_all (s ∷ taken) (take ∷ takes) become =
    All-cons (CameFrom (s ∷ taken)) take takes (record { before = []; submission = s; after = taken; stands = refl; becomes = become.0 })
    (All-weaker (CameFrom taken) (CameFrom (s ∷ taken)) (came_more s taken) takes (came_all taken takes become.1))

-- what holds of each holds of one of them
pub at_seam : {X : Type 0} (P : X → Type 0) (a : List X) (x : X) (b : List X) → All P (a ++ x ∷ b) → P x
at_seam P [] x b all = All-head P x b all
at_seam P (y ∷ a) x b all = at_seam P a x b (All-tail P y (a ++ x ∷ b) all)

-- a Take at a place is one of the journal's Takes
take_there : (cause : Cause) (t seq : ℕ) (request : Request) (later : List Entry) (e : Entry) (before : List Entry) → e.cause ≡ c.Take t seq request
    → (a : List (ℕ × Cause)) × (b : List (ℕ × Cause)) × (takes_in (later ++ e ∷ before) ≡ a ++ (length before, c.Take t seq request) ∷ b)
take_there cause t seq request [] e before is = (takes_in before, [], ap (λ x. takes_in before ++ take_in (length before) x) is)
take_there cause t seq request (x ∷ later) e before is =
    let inner = take_there cause t seq request later e before is in (
      inner.0,
      inner.1 ++ take_in (length (later ++ e ∷ before)) x.cause,
      ap (λ ts. ts ++ take_in (length (later ++ e ∷ before)) x.cause) inner.2 ∙ append_assoc inner.0 ((length before, c.Take t seq request) ∷ inner.1) (take_in (length (later ++ e ∷ before)) x.cause),
    )

pub came_from : (taken : List Submission) (past : List Entry) (t seq place : ℕ) → AreTakes taken past → (is : IsTakenAt t seq place past) → CameFrom taken (place, c.Take t seq is.request)
came_from taken past t seq place takes is =
    let there = take_there (c.Take t seq is.request) t seq is.request is.later is.entry is.before is.takes in
    let all = subst (All (CameFrom taken)) (ap takes_in is.stands ∙ there.2) (came_all taken (takes_in past) takes) in
    subst (λ n. CameFrom taken (n, c.Take t seq is.request)) is.numbered ((at_seam (CameFrom taken) there.0 (length is.before, c.Take t seq is.request) there.1 all))

-- what holds of each of a task's submissions holds of one of them
pub of_each : (P : Submission → Type 0) (t : ℕ) (a : List Submission) (s : Submission) (b : List Submission) → task_of s ≡ t → All P (of_task t (a ++ s ∷ b)) → P s
of_each P t a s b own all =
    at_seam P (of_task t a) s (of_task t b) (subst (All P) (filter-append (λ x. task_of x == t) a (s ∷ b) ∙ ap (λ xs. of_task t a ++ xs) (kept (task_of s == t) (eq-eqb (task_of s) t own))) all)
  where
    kept : (mine : Bool) → mine ≡ true → cond mine (s ∷ of_task t b) (of_task t b) ≡ s ∷ of_task t b
    kept true is = refl
    kept false is = absurd (cc is)
