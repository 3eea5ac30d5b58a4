-- The ends of an agent and its tasks, put together.
use Rattle.std.proofs.Common.{◌≡◌, ℕ, suc, ◌+◌, ◌<◌, true, false, List, [], ◌∷◌, map, take, length, reverse, Some, All, refl, sym, ap, ◌∙◌, subst, arith}
use Rattle.std.specs.Prelude.{slice_get}
use Rattle.std.proofs.lemmas.List.{reverse-reverse}
use Rattle.std.proofs.lemmas.List.Elements.{All-nil, All-cons, All-head, All-tail, All-weaker}
use Rattle.atomic_table.specs.Seated.{TableId}
use Rattle.agent_journal.specs.declared.entry.Entry.{Entry}
use Rattle.agent_journal.specs.declared.setup.Setup.{Setup}
use Rattle.agent_journal.specs.Readings.{has_left}
use Rattle.agent_journal.specs.Projections.{requests_of}
use Rattle.agent_journal.specs.Notes.{notes_of, dones_of}
use Rattle.agent_journal.proofs.Notes.{notes_are_projections}
use Rattle.agent_table.specs.Histories.{IsLegalPast}
use Rattle.agent_table.specs.Sizes.{Sizes}
use Rattle.task_queues.specs.declared.submission.Submission.{Submission}
use Rattle.task_queues.specs.QueuePasses.{Receiving}
use Rattle.task_queues.specs.MailboxPasses.{Putting}
use Rattle.task_queues.specs.Submissions.{task_of, request_of, of_task, MayFollow, IsAllTaken}
use Rattle.task_end.specs.Notes.{seen_by}
use Rattle.task_end.specs.Sides.{TaskSide, IsFrontOf, front_part, fronts_noted}
use Rattle.agent_posts.specs.Waiting.{Placed, told_in}
use Rattle.agent_posts.specs.Mail.{Mail, said, AreTold, IsPosted, IsAllPut}
use Rattle.agent_requests.specs.Takes.{takes_in, AreTakes}
use Rattle.agent_requests.proofs.Taken.{takes_are_requests, left_taken, leave_taken}
use Rattle.agent_requests.specs.Intake.{HasLeft}
use Rattle.agent_line.specs.Recorded.{Recorded}
use Rattle.agent_end.specs.Serving.{Serving, IsServing}
use Rattle.agent_end.specs.Turns.{HasEnded}
use Rattle.agent_shared.specs.Gathered.{Ended, IsGathered, IsToldOf, AreToldOf, IsBehind, AreBehind, IsEndOf, AreEndsOf, IsDrained, AreDrained, joined_with, BecameOf, BecameAll}
use Rattle.agent_shared.proofs.Told.{all_told, all_said, told_at, told_is, outcomes_are, messages_are, seen_before}
use Rattle.agent_shared.proofs.Requests.{IsTakenBehind, taken_behind, sent_are}
use Rattle.agent_shared.proofs.Strays.{none_stray}

-- ---- What was joined was taken

-- all that this end sent was taken
abbrev pub IsTaken : List Submission → TaskSide → Type 0
IsTaken taken s = of_task s.sender.number taken ≡ s.sender.sent

abbrev Joined : List Submission → ℕ × List Submission → Type 0
Joined taken j = of_task j.0 taken ≡ j.1

before_these : (P : ℕ × List Submission → Type 0) (ends : List TaskSide) (joined : List (ℕ × List Submission)) → All P (joined_with ends joined) → All P joined
before_these P [] joined all = all
before_these P (s ∷ ends) joined all = All-tail P (s.sender.number, s.sender.sent) joined (before_these P ends ((s.sender.number, s.sender.sent) ∷ joined) all)

pub all_taken : (taken : List Submission) (ends : List TaskSide) (joined : List (ℕ × List Submission)) → All (Joined taken) (joined_with ends joined) → All (IsTaken taken) ends
all_taken taken [] joined all = All-nil (IsTaken taken)
all_taken taken (s ∷ ends) joined all =
    All-cons (IsTaken taken) s ends (All-head (Joined taken) (s.sender.number, s.sender.sent) joined (before_these (Joined taken) ends ((s.sender.number, s.sender.sent) ∷ joined) all))
    (all_taken taken ends ((s.sender.number, s.sender.sent) ∷ joined) all)

-- ---- Each task

-- what holds of what each front says holds of each front
each_front : (P : ℕ × ℕ → Type 0) (fronts : List (ℕ × ℕ × ℕ)) → All P (map front_part fronts) → All (λ f. P (front_part f)) fronts
each_front P [] all = All-nil (λ f. P (front_part f))
each_front P (f ∷ fronts) all = All-cons (λ x. P (front_part x)) f fronts (All-head P (front_part f) (map front_part fronts) all) (each_front P fronts (All-tail P (front_part f) (map front_part fronts) all))

both_all : {X : Type 0} (P Q R : X → Type 0) (xs : List X) → ((x : X) → P x → Q x → R x) → All P xs → All Q xs → All R xs
both_all P Q R [] both p q = All-nil R
both_all P Q R (x ∷ xs) both p q = All-cons R x xs (both x (All-head P x xs p) (All-head Q x xs q)) (both_all P Q R xs both (All-tail P x xs p) (All-tail Q x xs q))

module _ (s : Setup) (l : Sizes) (past entries : List Entry) (of_past : reverse entries ≡ past) (legal : IsLegalPast s l past) (taken : List Submission) (takes : AreTakes taken past) (m : Mail) (posted : IsPosted entries m) (all_put : IsAllPut entries m) (queue : TableId) where
  -- one task: its pass, its end and what is left of it
  module _ (t : ℕ) (p : Putting) (there : slice_get m.putters t ≡ Some p) (side : TaskSide) (e : Ended) (is : IsEndOf queue t p side) (drained : IsDrained p side e) (all : IsTaken taken side) where
    told : AreTold (told_in t 0 entries) e.got
    told = subst (AreTold (told_in t 0 entries)) (sym drained.all) (all_told t entries m p posted all_put there)

    back : (xs : List Entry) → reverse xs ≡ past → told_in t 0 xs ≡ told_at t past
    back xs e = ap (told_in t 0) (sym (reverse-reverse xs) ∙ ap reverse e) ∙ told_is t past

    told_past : AreTold (told_at t past) e.got
    told_past = subst (λ from. AreTold from e.got) (back entries of_past) told

    said_past : map said e.got ≡ notes_of t past
    said_past = ap (map said) drained.all ∙ all_said t entries m p posted all_put there ∙ ap (notes_of t) of_past

    sent_is : side.sender.sent ≡ of_task t taken
    sent_is = sym all ∙ ap (λ u. of_task u taken) is.task

    asked : map request_of (of_task t taken) ≡ requests_of t past
    asked = takes_are_requests taken past t takes

    told_of : IsToldOf t past taken e
    told_of =
        let done : e.log.outcomes ≡ dones_of t past =
        drained.outcomes (none_stray s l past legal t taken side.sender.sent e.got takes sent_is told_past said_past) ∙ outcomes_are t past e.got said_past in
        record {
          requests = asked;
          notes = said_past;
          task = drained.task ∙ is.task;
          sent = drained.sent ∙ sent_are t past side.sender.sent (ap (map request_of) sent_is ∙ asked);
          got = drained.completed ∙ ap length done ∙ (notes_are_projections t past).completed;
          outcomes = done;
          messages = drained.messages ∙ messages_are t past e.got said_past;
        }

    became : BecameOf past side e
    became = record {
      sent = ap (map request_of) sent_is ∙ asked ∙ ap (λ u. requests_of u past) (sym is.task);
      more = drained.more;
      got = drained.got;
      fronts = drained.fronts;
    }

    one_behind : (f : ℕ × ℕ × ℕ) → IsTakenBehind t past (front_part f) → IsFrontOf e.got f → IsBehind t past f
    one_behind f placed front = record {
      place = placed.0;
      taken = placed.1;
      behind = placed.2;
      seen = subst (λ ps. All (λ (x : Placed). x.entry < f.1) (take f.2 ps)) (sym (told_is t past))
          (All-weaker (λ (x : Placed). x.entry < seen_by (take f.2 e.got)) (λ (x : Placed). x.entry < f.1) (λ x h. let seen = front.seen in omega (arith, h, seen)) (take f.2 (told_at t past)) (seen_before f.2 (told_at t past) e.got told_past));
    }

    all_behind : All (IsBehind t past) e.log.fronts
    all_behind =
        subst (All (IsBehind t past)) (sym drained.fronts)
        (both_all (λ f. IsTakenBehind t past (front_part f)) (IsFrontOf e.got) (IsBehind t past) side.fronts one_behind
        (each_front (IsTakenBehind t past) side.fronts (subst (All (IsTakenBehind t past)) (ap fronts_noted (sym sent_is) ∙ sym drained.marked) (taken_behind t past taken takes))) drained.behind)

  abbrev Gives : ℕ → List TaskSide → List Ended → Type 0
  Gives t ends tasks = AreToldOf t past taken tasks × BecameAll past ends tasks × AreBehind t past tasks

  -- the passes are those from task t on
  abbrev FromOn : ℕ → List Putting → Type 0
  FromOn t putters = (k : ℕ) (p : Putting) → slice_get putters k ≡ Some p → slice_get m.putters (t + k) ≡ Some p

  from_on : (t : ℕ) (putters : List Putting) (ends : List TaskSide) (tasks : List Ended) → FromOn t putters → AreEndsOf queue t putters ends → AreDrained putters ends tasks → All (IsTaken taken) ends → Gives t ends tasks
  from_on t [] [] [] there are drained all = (tt, tt, tt)
  from_on t [] [] (e ∷ tasks) there are drained all = absurd drained
  from_on t [] (x ∷ ends) tasks there are drained all = absurd are
  from_on t (p ∷ putters) [] tasks there are drained all = absurd are
  from_on t (p ∷ putters) (x ∷ ends) [] there are drained all = absurd drained
  from_on t (p ∷ putters) (x ∷ ends) (e ∷ tasks) there are drained all =
      let here : slice_get m.putters t ≡ Some p = subst (λ n. slice_get m.putters n ≡ Some p) (omega arith) (there 0 p refl) in
      let own = All-head (IsTaken taken) x ends all in
      let rest = from_on (t + 1) putters ends tasks (λ k y h. subst (λ n. slice_get m.putters n ≡ Some y) (omega arith) (there (suc k) y h)) are.1 drained.1 (All-tail (IsTaken taken) x ends all) in
      ((told_of t p here x e are.0 drained.0 own, rest.0), (became t p here x e are.0 drained.0 own, rest.1), (all_behind t p here x e are.0 drained.0 own, rest.2))

  pub gathers : (ends : List TaskSide) (tasks : List Ended) → AreEndsOf queue 0 m.putters ends → AreDrained m.putters ends tasks → All (IsTaken taken) ends → Gives 0 ends tasks
  gathers ends tasks are drained all = from_on 0 m.putters ends tasks (λ k p h. subst (λ n. slice_get m.putters n ≡ Some p) (omega arith) h) are drained all

-- ---- The agent's end and the ends of its tasks

-- a task that has left sends no more
pub never_more : (r : Recorded) (taken : List Submission) (senders : ℕ) (x : Submission) → AreTakes taken r.past → senders ≡ r.setup.tasks → HasLeft r → task_of x < senders → MayFollow (of_task (task_of x) taken) x → ⊥
never_more r taken senders x takes same left less follows =
    let t = task_of x in
    let gone : has_left t r.past ≡ true = left.left t (omega (arith, less, same)) in
    let stays : has_left t r.past ≡ false = left_taken t r.past ∙ sym (leave_taken t taken (takes_in r.past) takes) ∙ follows.1 in absurd (cc (sym gone ∙ stays))

-- what comes of an agent that has ended and of the ends of its tasks
pub record AreGathered (past : List Entry) (taken : List Submission) (ends : List TaskSide) (tasks : List Ended) : Type 0 where
  pub gathered : IsGathered (record { past = past; taken = taken; tasks = tasks })
  pub became : BecameAll past ends tasks
  pub behind : AreBehind 0 past tasks

pub are_gathered : (a : Serving) → IsServing a → IsLegalPast a.taking.recorded.setup a.taking.recorded.sizes a.taking.recorded.past → a.short ≡ false → HasEnded a → (ends : List TaskSide) (tasks : List Ended)
    → AreEndsOf a.taking.receiver.queue 0 a.mail.putters ends → AreDrained a.mail.putters ends tasks → (joined : List (ℕ × List Submission)) → IsAllTaken a.taking.receiver.taken (joined_with ends joined)
    → AreGathered a.taking.recorded.past a.taking.receiver.taken ends tasks
are_gathered a serving legal short ended ends tasks are drained joined all =
    let past = a.taking.recorded.past in
    let taken = a.taking.receiver.taken in
    let takes = (serving.served short).takes in
    let gives = gathers a.taking.recorded.setup a.taking.recorded.sizes past (reverse past) (reverse-reverse past) legal taken takes a.mail (serving.posted short) ended.put a.taking.receiver.queue ends tasks are drained (all_taken taken ends joined all) in
    record {
      gathered = record { takes = takes; told = gives.0 };
      became = gives.1;
      behind = gives.2;
    }

-- the same of what a run keeps
pub gathered_by : (a : Serving) → IsServing a → IsLegalPast a.taking.recorded.setup a.taking.recorded.sizes a.taking.recorded.past → a.short ≡ false → HasEnded a → (ends : List TaskSide) (tasks : List Ended)
    → AreEndsOf a.taking.receiver.queue 0 a.mail.putters ends → AreDrained a.mail.putters ends tasks → (r : Receiving) → r ≡ record a.taking.receiver { joined = joined_with ends a.taking.receiver.joined }
    → IsAllTaken r.taken r.joined → (past : List Entry) (taken : List Submission) → past ≡ a.taking.recorded.past → taken ≡ a.taking.receiver.taken → AreGathered past taken ends tasks
gathered_by a serving legal short ended ends tasks are drained r r_is all past taken past_is taken_is =
    subst (λ p. AreGathered p taken ends tasks) (sym past_is) (subst (λ t. AreGathered a.taking.recorded.past t ends tasks) (sym taken_is)
    (are_gathered a serving legal short ended ends tasks are drained a.taking.receiver.joined (subst (λ (x : Receiving). IsAllTaken x.taken x.joined) r_is all)))
