-- Until memory ran out no command is told twice, since the journal completes each at most once.
use Rattle.std.proofs.Common.{◌≡◌, ℕ, ◌+◌, ◌≤◌, Bool, true, false, cond, List, [], ◌∷◌, ◌++◌, length, map, reverse, Some, is_some, refl, sym, ap, ◌∙◌, arith, eq-eqb, ne_eqb}
use Rattle.std.specs.Prelude.{◌==◌, ◌&&◌, slice_get, count_by}
use Rattle.std.specs.List.{flat_map, sum_by}
use Rattle.std.proofs.lemmas.Bool.{cases_eq, le-ltb}
use Rattle.std.proofs.lemmas.List.{reverse-reverse}
use Rattle.std.proofs.lemmas.List.Sums.{sum_by-append, sum_by-cons}
use mathlib.Core.Logic.{inl, inr}
use Rattle.agent_journal.specs.declared.entry.Cause.{Cause}
use Rattle.agent_journal.specs.declared.entry.Cause.TheVariants as c
use Rattle.agent_journal.specs.declared.entry.Entry.{Entry}
use Rattle.agent_journal.specs.declared.effect.Effect.{Effect}
use Rattle.agent_journal.specs.declared.effect.Effect.TheVariants as f
use Rattle.agent_journal.specs.declared.setup.Setup.{Setup}
use Rattle.agent_journal.specs.Notes.{Told, Completed, Passed, Ended, Note as JournalNote, told_by, noted, notes_by, notes_of}
use Rattle.agent_journal.specs.Projections.{commands_by, commands_of, completions_of}
use Rattle.agent_journal.specs.Readings.{completes as is_done_of}
use Rattle.agent_table.specs.Histories.{IsLegalPast, readings, row}
use Rattle.agent_table.specs.Sizes.{Sizes}
use Rattle.agent_table.proofs.Commands.{below, answered_by, more_taken, none_more, all_commands}
use Rattle.agent_table.proofs.Counts.{count_append, count_more}
use Rattle.agent_table.proofs.Once.{has_row, taken_next, each_is_open_or_done}
use Rattle.agent_posts.specs.Waiting.{Placed, waiting}
use Rattle.agent_posts.specs.Mail.{Mail, said, held_for, IsPosted}
use Rattle.agent_posts.proofs.Growing.{posted_are_notes}
use Rattle.agent_requests.specs.Takes.{take_in, takes_in, BecomeAll, AreTakes}
use Rattle.task_queues.specs.declared.note.Note.{Note}
use Rattle.task_queues.specs.declared.note.Note.TheVariants as notes
use Rattle.task_queues.specs.declared.submission.Submission.{Submission}
use Rattle.task_queues.specs.MailboxPasses.{Putting}
use Rattle.agent_end.specs.Owed.{is_command, commands_in, completes, dones_in}

-- ---- What a journal tells a task

abbrev is_completed : ℕ → Told → Bool
is_completed q (Completed seq outcome) = seq == q
is_completed q (Passed message) = false
is_completed q Ended = false

abbrev told_count : ℕ → List JournalNote → ℕ
told_count q notes = count_by (λ (note : JournalNote). is_completed q note.told) notes

turned : (n m : ℕ) → (n == m) ≡ (m == n)
turned n m = elim (cases_eq n m) [ inl e ↦ eq-eqb n m e ∙ sym (eq-eqb m n (sym e)) | inr e ↦ ne_eqb n m e ∙ sym (ne_eqb m n (λ k. e (sym k))) ]

module _ (t q time : ℕ) where
  one : (told : Told) (others : List Told) → told_count q (noted time (told ∷ others)) ≡ cond (is_completed q told) 1 0 + told_count q (noted time others)
  one told others = count_more (λ (note : JournalNote). is_completed q note.told) (record { at = time; told = told }) (noted time others)

  done_first : (effect : Effect) (others : List Told) → told_count q (noted time (told_by t effect ++ others)) ≡ cond (is_done_of t q effect) 1 0 + told_count q (noted time others)
  done_first (f.Send packet) others = omega arith
  done_first (f.Done task seq outcome) others = go (t == task) ∙ ap (λ b. cond (b && (seq == q)) 1 0 + told_count q (noted time others)) (turned t task)
    where
      go : (b : Bool) → told_count q (noted time (cond b (Completed seq outcome ∷ []) [] ++ others)) ≡ cond (b && (seq == q)) 1 0 + told_count q (noted time others)
      go true = one (Completed seq outcome) others
      go false = omega arith
  done_first (f.Pass task message) others = go (t == task)
    where
      go : (b : Bool) → told_count q (noted time (cond b (Passed message ∷ []) [] ++ others)) ≡ 0 + told_count q (noted time others)
      go true = one (Passed message) others
      go false = omega arith
  done_first (f.Closed task) others = go (t == task)
    where
      go : (b : Bool) → told_count q (noted time (cond b (Ended ∷ []) [] ++ others)) ≡ 0 + told_count q (noted time others)
      go true = one Ended others
      go false = omega arith

  done_all : (effects : List Effect) → told_count q (noted time (flat_map (told_by t) effects)) ≡ count_by (is_done_of t q) effects
  done_all [] = refl
  done_all (effect ∷ effects) =
      done_first effect (flat_map (told_by t) effects) ∙ ap (λ n. cond (is_done_of t q effect) 1 0 + n) (done_all effects) ∙ sym (count_more (is_done_of t q) effect effects)

all_told : (t q : ℕ) (past : List Entry) → told_count q (notes_of t past) ≡ completions_of t q past
all_told t q [] = refl
all_told t q (e ∷ past) =
    let both = count_append (λ (note : JournalNote). is_completed q note.told) (notes_of t past) (notes_by t e) in
    let own = done_all t q e.at e.effects in
    let before = all_told t q past in
    omega (arith, both, own, before)

same_note : (q : ℕ) (note : Note) → completes q note ≡ is_completed q (said note).told
same_note q (notes.Done seq outcome at front) = refl
same_note q (notes.Message message at front) = refl
same_note q (notes.Closed at front) = refl

all_said : (q : ℕ) (put : List Note) → dones_in q put ≡ told_count q (map said put)
all_said q [] = refl
all_said q (note ∷ put) =
    count_more (completes q) note put ∙ ap (λ b. cond b 1 0 + dones_in q put) (same_note q note) ∙ ap (λ n. cond (is_completed q (said note).told) 1 0 + n) (all_said q put)
    ∙ sym (count_more (λ (n : JournalNote). is_completed q n.told) (said note) (map said put))

-- ---- What it takes

more_by : (s : Setup) (l : Sizes) (past : List Entry) (t q at : ℕ) (cause : Cause) → is_some (row s l past at cause) ≡ true → below q (commands_of t past) + answered_by t q cause ≡ below q (commands_of t past + commands_by t cause)
more_by s l past t q at c.Opened some = none_more q (commands_of t past)
more_by s l past t q at (c.Take task seq request) some =
    let next = taken_next s l (readings s l past) at task seq request some in
    more_taken t task q (commands_of t past) seq request (λ e. next.0 ∙ all_commands task past next.1 ∙ ap (λ u. commands_of u past) e)
more_by s l past t q at (c.Arrived packet) some = none_more q (commands_of t past)
more_by s l past t q at (c.Broke why) some = none_more q (commands_of t past)
more_by s l past t q at c.Tick some = none_more q (commands_of t past)
more_by s l past t q at c.GaveUp some = none_more q (commands_of t past)
more_by s l past t q at c.Finish some = none_more q (commands_of t past)

abbrev asked : ℕ → ℕ → List (ℕ × Cause) → ℕ
asked t q takes = sum_by (λ (take : ℕ × Cause). answered_by t q take.1) takes

one_asked : (t q entry : ℕ) (cause : Cause) → asked t q (take_in entry cause) ≡ answered_by t q cause
one_asked t q entry c.Opened = refl
one_asked t q entry (c.Take task seq request) = sum_by-cons (λ (take : ℕ × Cause). answered_by t q take.1) (entry, c.Take task seq request) [] ∙ omega arith
one_asked t q entry (c.Arrived packet) = refl
one_asked t q entry (c.Broke why) = refl
one_asked t q entry c.Tick = refl
one_asked t q entry c.GaveUp = refl
one_asked t q entry c.Finish = refl

all_asked : (s : Setup) (l : Sizes) (past : List Entry) → IsLegalPast s l past → (t q : ℕ) → asked t q (takes_in past) ≡ below q (commands_of t past)
all_asked s l [] legal t q = rw (le-ltb q 0 (omega arith)) refl
all_asked s l (e ∷ past) legal t q =
    let both = sum_by-append (λ (take : ℕ × Cause). answered_by t q take.1) (takes_in past) (take_in (length past) e.cause) in
    let own = one_asked t q (length past) e.cause in
    let before = all_asked s l past legal.1 t q in
    let more = more_by s l past t q e.at e.cause (has_row (row s l past e.at e.cause) e.effects legal.0) in
    omega (arith, both, own, before, more)

all_taken : (t q : ℕ) (taken : List Submission) (takes : List (ℕ × Cause)) → BecomeAll taken takes → commands_in t q taken ≡ asked t q takes
all_taken t q [] [] h = refl
all_taken t q [] (take ∷ takes) h = absurd h
all_taken t q (s ∷ taken) [] h = absurd h
all_taken t q (s ∷ taken) (take ∷ takes) h =
    count_more (is_command t q) s taken ∙ ap (λ n. cond (is_command t q s) 1 0 + n) (all_taken t q taken takes h.1) ∙ ap (λ cause. answered_by t q cause + asked t q takes) (sym h.0.same)
    ∙ sym (sum_by-cons (λ (x : ℕ × Cause). answered_by t q x.1) take takes)

-- ---- Both

pub none_twice : (s : Setup) (l : Sizes) (past : List Entry) (taken : List Submission) (m : Mail) → IsLegalPast s l past → AreTakes taken past → IsPosted (reverse past) m
    → (t : ℕ) (p : Putting) → slice_get m.putters t ≡ Some p → (q : ℕ) → dones_in q p.put ≤ commands_in t q taken
none_twice s l past taken m legal takes posted t p there q =
    let all = ap (told_count q) (posted_are_notes (reverse past) m t p posted there ∙ ap (notes_of t) (reverse-reverse past)) in
    let both = count_append (λ (n : JournalNote). is_completed q n.told) (map said (p.put ++ held_for t m.next)) (map (λ (w : Placed). w.note) (waiting t (reverse past) m.place)) in
    let put = all_said q (p.put ++ held_for t m.next) in
    let parts = count_append (completes q) p.put (held_for t m.next) in
    let told = all_told t q past in
    let once = each_is_open_or_done s l past legal t q in
    let asks = all_asked s l past legal t q in
    let take = all_taken t q taken (takes_in past) takes in
    omega (arith, all, both, put, parts, told, once, asks, take)
