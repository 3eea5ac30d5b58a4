-- What a turn leaves.
use Rattle.std.proofs.Common.{◌≡◌, ℕ, zero, suc, ◌+◌, ◌<◌, Bool, false, List, [], ◌∷◌, ◌++◌, ◌⊎◌, length, reverse, map, refl, sym, ap, ◌∙◌, subst, inl, inr}
use Rattle.std.specs.Prelude.{Option, Some, Result, Ok, Err, IfOk, slice_get, slice_set}
use Rattle.std.specs.List.{AllByRecursion}
use Rattle.std.proofs.lemmas.List.{reverse-append, reverse-reverse, length-reverse}
use Rattle.atomic_table.specs.Seated.{TableId}
use Rattle.task_queues.specs.declared.note.Note.{Note}
use Rattle.task_queues.specs.MailboxPasses.{Putting}
use Rattle.task_queues.specs.QueuePasses.{Receiving}
use Rattle.agent_journal.specs.declared.entry.Entry.{Entry}
use Rattle.agent_journal.specs.declared.setup.Setup.{Setup}
use Rattle.agent_table.specs.Closings.{HasFewCodes}
use Rattle.agent_table.specs.Histories.{IsLegalPast}
use Rattle.agent_table.specs.Sizes.{Sizes}
use Rattle.agent_table.proofs.Closed.{granted_are_few}
use Rattle.agent_line.specs.Told.{Told}
use Rattle.agent_line.specs.Times.{Timed, KeepsTimes}
use Rattle.agent_posts.specs.Mail.{Mail, IsPosted, AreFew, PutsOne, FindsFull}
use Rattle.agent_posts.proofs.Growing.{growth_is_posted}
use Rattle.agent_requests.specs.Intake.{Taking, IsSameEnd, TakesOneAtMost, IsServed, WasIdle, Works}
use Rattle.agent_end.specs.Serving.{Serving, IsServing, journal_in}
use Rattle.agent_end.specs.Short.{Tells, TakesOne, FindsNone, WorksWithout}
use Rattle.agent_end.specs.Turns.{Appends, AreSameEnds, StaysTimed, Answers}
use Rattle.agent_end.specs.declared.turn.Turn.{Turn}
use Rattle.agent_end.specs.declared.turn.Turn.TheVariants as t

-- ---- A journal grants few codes

module _ (P : Entry → Type 0) where
  all_append : (xs ys : List Entry) → AllByRecursion P xs → AllByRecursion P ys → AllByRecursion P (xs ++ ys)
  all_append [] ys h k = k
  all_append (x ∷ xs) ys h k = (h.0, all_append xs ys h.1 k)

  all_reverse : (xs : List Entry) → AllByRecursion P xs → AllByRecursion P (reverse xs)
  all_reverse [] h = tt
  all_reverse (x ∷ xs) h = subst (AllByRecursion P) (sym (reverse-append (x ∷ []) xs)) (all_append (reverse xs) (x ∷ []) (all_reverse xs h.1) (h.0, tt))

forth : (entries past : List Entry) → reverse entries ≡ past → entries ≡ reverse past
forth entries past e = sym (reverse-reverse entries) ∙ ap reverse e

-- of a journal with the oldest entry first
pub few_in : (s : Setup) (l : Sizes) (entries past : List Entry) → reverse entries ≡ past → IsLegalPast s l past → AreFew entries
few_in s l entries past e legal =
    subst AreFew (sym (forth entries past e)) (all_reverse (λ (x : Entry). AllByRecursion HasFewCodes x.effects) past (granted_are_few s l past legal))

pub as_long : (entries past : List Entry) → reverse entries ≡ past → length entries ≡ length past
as_long entries past e = sym (length-reverse entries) ∙ ap length e

pub same_journal : (entries past : List Entry) → reverse entries ≡ past → entries ≡ reverse past
same_journal = forth

-- ---- The journal goes on

grown : (more past new : List Entry) → new ≡ more ++ past → reverse new ≡ reverse past ++ reverse more
grown more past new e = ap reverse e ∙ reverse-append more past

-- behind a step
pub serving_on : (at : ℕ) (old : Serving) (taking : Taking) (short : Bool) → old.short ≡ false → IsServing old → Works at old.taking taking → (short ≡ false → IsServed taking) → IsServing (record { taking = taking; mail = old.mail; short = short })
serving_on at old taking short memory h works served =
    record {
      served = served;
      posted = λ _. subst (λ entries. IsPosted entries old.mail) (sym (grown works.more old.taking.recorded.past taking.recorded.past works.past)) (growth_is_posted (journal_in old) (reverse works.more) old.mail (h.posted memory));
      tasks = h.tasks ∙ ap (λ (s : Setup). s.tasks) (sym works.setup);
    }

pub appends_on : (at : ℕ) (old new : Serving) → Works at old.taking new.taking → Appends old new
appends_on at old new works = record { setup = works.setup; sizes = works.sizes; more = works.more; past = works.past; taken = works.taken }

pub timed_on : (at : ℕ) (old new : Serving) (before now : Option (List ℕ)) → Works at old.taking new.taking → KeepsTimes old.taking.recorded.past before at now → StaysTimed old before new now
timed_on at old new before now works keeps = λ first timed. subst (λ past. Timed first past now) (sym works.past) (keeps first timed works.more works.times)

-- ---- A note is put, or a mailbox is full

pub same_receiver : (r : Receiving) → IsSameEnd r r
same_receiver r = record { queue = refl; senders = refl; joined = refl }

same_mailbox : (ps : List Putting) (i : ℕ) (before now : Putting) → slice_get ps i ≡ Some before → now.mailbox ≡ before.mailbox → AreSameEnds ps (slice_set ps i now)
same_mailbox [] i before now there e = refl
same_mailbox (p ∷ ps) zero before now there e = let same : p ≡ before = cc there in ap (λ m. m ∷ map (λ (q : Putting). q.mailbox) ps) (e ∙ sym (ap (λ (q : Putting). q.mailbox) same))
same_mailbox (p ∷ ps) (suc i) before now there e = ap (λ ms. p.mailbox ∷ ms) (same_mailbox ps i before now there e)

pub same_put : (task : ℕ) (note : Note) (old new : List Putting) → PutsOne task note old new → AreSameEnds old new
same_put task note old new h = subst (AreSameEnds old) (sym h.put) (same_mailbox old task h.before (record h.before { put = h.before.put ++ note ∷ [] }) h.there refl)

pub same_full : (task : ℕ) (full : Putting) (old new : List Putting) → FindsFull task full old new → AreSameEnds old new
same_full task full old new h = subst (AreSameEnds old) (sym h.counted) (same_mailbox old task full (record full { fulls = full.fulls + 1 }) h.there refl)

-- ---- A step behind a look at the mailboxes

module _ (board : TableId) (inbox : ℕ) (old mid new : Serving) (before now : Told) (taking : mid.taking ≡ old.taking) (putters : mid.mail.putters ≡ old.mail.putters) where
  answer_behind : (a : Turn) → Answers board inbox mid before new now a → Answers board inbox old before new now a
  answer_behind t.Worked (inl longer) = inl (subst (λ (x : Taking). length x.recorded.past < length new.taking.recorded.past) taking longer)
  answer_behind t.Worked (inr (inl gave)) = inr (inl gave)
  answer_behind t.Worked (inr (inr puts)) = inr (inr (puts.0, puts.1, subst (λ ps. PutsOne puts.0 puts.1 ps new.mail.putters) putters puts.2))
  answer_behind t.Idle h = (h.0, record { idle = subst (λ (x : Taking). WasIdle board h.0 x before new.taking now) taking h.1.idle; put = h.1.put })
  answer_behind (t.Stalled task) h = record { pass = h.pass; full = h.full; counted = subst (λ ps. FindsFull task h.pass ps new.mail.putters) putters h.counted }
  answer_behind t.Ended h = h

  pub answers_behind : {E : Type 0} (r : Result Turn E) → IfOk r (λ a. Answers board inbox mid before new now a) → IfOk r (λ a. Answers board inbox old before new now a)
  answers_behind (Ok a) h = answer_behind a h
  answers_behind (Err e) h = tt

-- ---- A turn without memory

same_taking : (old new : Serving) → new.taking ≡ old.taking → Appends old new
same_taking old new e =
    record {
      setup = ap (λ (x : Taking). x.recorded.setup) e;
      sizes = ap (λ (x : Taking). x.recorded.sizes) e;
      more = [];
      past = ap (λ (x : Taking). x.recorded.past) e;
      taken = inl (ap (λ (x : Taking). x.receiver.taken) e);
    }

same_journal_taken : (old new : Serving) → new.taking ≡ record old.taking { receiver = new.taking.receiver } → TakesOneAtMost old.taking.receiver new.taking.receiver → Appends old new
same_journal_taken old new e taken =
    record {
      setup = ap (λ (x : Taking). x.recorded.setup) e;
      sizes = ap (λ (x : Taking). x.recorded.sizes) e;
      more = [];
      past = ap (λ (x : Taking). x.recorded.past) e;
      taken = taken;
    }

same_ends : (old new : Serving) → new.taking ≡ old.taking → IsSameEnd old.taking.receiver new.taking.receiver
same_ends old new e = subst (λ (x : Taking). IsSameEnd old.taking.receiver x.receiver) (sym e) (same_receiver old.taking.receiver)

module _ (board : TableId) (inbox : ℕ) (old new : Serving) where
  appends_by : Tells old new ⊎ (TakesOne old new ⊎ FindsNone board old new) → Appends old new
  appends_by (inl tells) = same_taking old new tells.taking
  appends_by (inr (inl takes)) = same_journal_taken old new takes.taking (inr (takes.pops.0, ap (λ (r : Receiving). r.taken) takes.pops.3))
  appends_by (inr (inr finds)) = same_journal_taken old new finds.taking (inl (ap (λ (r : Receiving). r.taken) finds.empty.counted))

  appends_answer : (a : Turn) → WorksWithout {E = Unit {0}} board inbox old new (Ok a) → Appends old new
  appends_answer t.Worked h = absurd h
  appends_answer t.Idle h = absurd h
  appends_answer (t.Stalled task) h = same_taking old new h.taking
  appends_answer t.Ended h = same_taking old new (ap (λ (a : Serving). a.taking) h.same)

  pub appends_without : {E : Type 0} (r : Result Turn E) → WorksWithout board inbox old new r → Appends old new
  appends_without (Ok a) h = appends_answer a h
  appends_without (Err e) h = appends_by h

  ends_by : Tells old new ⊎ (TakesOne old new ⊎ FindsNone board old new) → IsSameEnd old.taking.receiver new.taking.receiver × AreSameEnds old.mail.putters new.mail.putters
  ends_by (inl tells) = (same_ends old new tells.taking, same_put tells.task tells.note old.mail.putters new.mail.putters tells.puts)
  ends_by (inr (inl takes)) =
      let e = takes.pops.3 in (
        record { queue = ap (λ (r : Receiving). r.queue) e; senders = ap (λ (r : Receiving). r.senders) e; joined = ap (λ (r : Receiving). r.joined) e },
        ap (λ (m : Mail). map (λ (p : Putting). p.mailbox) m.putters) takes.mail,
      )
  ends_by (inr (inr finds)) =
      let e = finds.empty.counted in (
        record { queue = ap (λ (r : Receiving). r.queue) e; senders = ap (λ (r : Receiving). r.senders) e; joined = ap (λ (r : Receiving). r.joined) e },
        ap (λ (m : Mail). map (λ (p : Putting). p.mailbox) m.putters) finds.mail,
      )

  ends_answer : (a : Turn) → WorksWithout {E = Unit {0}} board inbox old new (Ok a) → IsSameEnd old.taking.receiver new.taking.receiver × AreSameEnds old.mail.putters new.mail.putters
  ends_answer t.Worked h = absurd h
  ends_answer t.Idle h = absurd h
  ends_answer (t.Stalled task) h = (same_ends old new h.taking, same_full task h.pass old.mail.putters new.mail.putters h.counted)
  ends_answer t.Ended h = (same_ends old new (ap (λ (a : Serving). a.taking) h.same), ap (λ (a : Serving). map (λ (p : Putting). p.mailbox) a.mail.putters) h.same)

  pub ends_without : {E : Type 0} (r : Result Turn E) → WorksWithout board inbox old new r → IsSameEnd old.taking.receiver new.taking.receiver × AreSameEnds old.mail.putters new.mail.putters
  ends_without (Ok a) h = ends_answer a h
  ends_without (Err e) h = ends_by h
