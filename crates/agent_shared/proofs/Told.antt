-- What a task got, where all that the journal tells it was put into its mailbox.
use Rattle.std.proofs.Common.{◌≡◌, ℕ, zero, suc, ◌+◌, ◌-◌, ◌<◌, Bool, cond, List, [], ◌∷◌, ◌++◌, map, take, min, max, length, reverse, Some, All, refl, sym, ap, ◌∙◌, subst, arith, append-nil, length-append}
use Rattle.std.specs.Prelude.{◌^◌, count_by, slice_get}
use Rattle.std.specs.List.{flat_map}
use Rattle.std.proofs.lemmas.List.{length-reverse, reverse-append}
use Rattle.std.proofs.lemmas.List.Elements.{All-append, All-nil, All-cons, All-head, All-tail, All-map, All-weaker}
use Rattle.std.proofs.lemmas.Option.{slice_get_within}
use Rattle.std.proofs.Math.Nat.{le-max_left, le-max_right}
use Rattle.agent_journal.specs.declared.entry.Entry.{Entry}
use Rattle.agent_journal.specs.declared.outcome.Outcome.{Outcome}
use Rattle.agent_journal.specs.Readings.{completes}
use Rattle.agent_journal.specs.Projections.{messages_of}
use Rattle.agent_journal.specs.Notes.{Note as JournalNote, notes_by, notes_of, done_by, dones_of, completed_in, is_passed}
use Rattle.agent_journal.proofs.Notes.{notes_are_projections}
use Rattle.agent_table.proofs.Counts.{count_more}
use Rattle.command_pool.specs.Hands.{times}
use Rattle.command_pool.proofs.Held.{times_same}
use Rattle.task_queues.specs.declared.note.Note.{Note}
use Rattle.task_queues.specs.declared.note.Note.TheVariants as notes
use Rattle.task_queues.specs.Fronts.{front_in, number_in}
use Rattle.task_queues.specs.MailboxPasses.{Putting}
use Rattle.task_end.specs.Notes.{outcome_in, outcomes_in, message_in, messages_in, seen_by, counted}
use Rattle.agent_posts.specs.Waiting.{Placed, placed, told_in, waiting}
use Rattle.agent_posts.specs.Mail.{Mail, said, Tells, AreTold, held_for, IsPosted, IsAllPut}
use Rattle.agent_posts.proofs.Growing.{told_both, posted_are_notes}
use Rattle.agent_shared.proofs.Completions.{seqs, both_times, done_times}

-- ---- All was put

pub all_told : (t : ℕ) (entries : List Entry) (m : Mail) (p : Putting) → IsPosted entries m → IsAllPut entries m → slice_get m.putters t ≡ Some p → AreTold (told_in t 0 entries) p.put
all_told t entries m p posted all there =
    let made = posted.made t p there in
    let none : waiting t entries m.place ≡ [] = all.none_waits t (slice_get_within m.putters t p there) in
    let told : told_in t 0 entries ≡ made.before = made.in_order ∙ ap (λ w. made.before ++ w) none ∙ append-nil made.before in
    let put : p.put ++ held_for t m.next ≡ p.put = ap (λ n. p.put ++ held_for t n) all.none_held ∙ append-nil p.put in
    subst (λ from. AreTold from p.put) (sym told) (subst (AreTold made.before) put made.told)

pub all_said : (t : ℕ) (entries : List Entry) (m : Mail) (p : Putting) → IsPosted entries m → IsAllPut entries m → slice_get m.putters t ≡ Some p → map said p.put ≡ notes_of t (reverse entries)
all_said t entries m p posted all there =
    let whole = posted_are_notes entries m t p posted there in
    let none : waiting t entries m.place ≡ [] = all.none_waits t (slice_get_within m.putters t p there) in
    let put : p.put ++ held_for t m.next ≡ p.put = ap (λ n. p.put ++ held_for t n) all.none_held ∙ append-nil p.put in
    sym (append-nil (map said p.put)) ∙ ap (λ ns. map said ns ++ []) (sym put) ∙ ap (λ w. map said (p.put ++ held_for t m.next) ++ map (λ (x : Placed). x.note) w) (sym none) ∙ whole

-- ---- What notes say of completions and messages

abbrev dones_in : List JournalNote → List (ℕ × Outcome)
dones_in ns = flat_map (λ note. completed_in note.told) ns

abbrev passes : JournalNote → Bool
passes note = is_passed note.told

pub done_is : (note : Note) → outcome_in note ≡ completed_in (said note).told
done_is (notes.Done seq outcome at front) = refl
done_is (notes.Message message at front) = refl
done_is (notes.Closed at front) = refl

dones_are : (got : List Note) → outcomes_in got ≡ dones_in (map said got)
dones_are [] = refl
dones_are (note ∷ got) = ap (λ ds. ds ++ outcomes_in got) (done_is note) ∙ ap (λ ds. completed_in (said note).told ++ ds) (dones_are got)

pub outcomes_are : (t : ℕ) (past : List Entry) (got : List Note) → map said got ≡ notes_of t past → outcomes_in got ≡ dones_of t past
outcomes_are t past got is = dones_are got ∙ ap dones_in is ∙ (notes_are_projections t past).dones

pass_is : (note : Note) → length (message_in note) ≡ cond (passes (said note)) 1 0
pass_is (notes.Done seq outcome at front) = refl
pass_is (notes.Message message at front) = refl
pass_is (notes.Closed at front) = refl

passes_are : (got : List Note) → length (messages_in got) ≡ count_by passes (map said got)
passes_are [] = refl
passes_are (note ∷ got) =
    length-append (message_in note) (messages_in got) ∙ ap (λ n. n + length (messages_in got)) (pass_is note) ∙ ap (λ n. cond (passes (said note)) 1 0 + n) (passes_are got)
    ∙ sym (count_more passes (said note) (map said got))

pub messages_are : (t : ℕ) (past : List Entry) (got : List Note) → map said got ≡ notes_of t past → counted (messages_in got) ≡ min (messages_of t past) (2 ^ 64 - 1)
messages_are t past got is = ap (λ n. min n (2 ^ 64 - 1)) (passes_are got ∙ ap (count_by passes) is ∙ (notes_are_projections t past).messages)

-- ---- Where a note's entry stands

-- what a journal tells a task, its newest entry first
abbrev pub told_at : ℕ → List Entry → List Placed
told_at t [] = []
told_at t (e ∷ past) = told_at t past ++ placed (length past) (notes_by t e)

pub told_is : (t : ℕ) (past : List Entry) → told_in t 0 (reverse past) ≡ told_at t past
told_is t [] = refl
told_is t (e ∷ past) =
    ap (told_in t 0) (reverse-append (e ∷ []) past) ∙ told_both t 0 (reverse past) (e ∷ []) ∙ ap (λ ps. ps ++ told_in t (0 + length (reverse past)) (e ∷ [])) (told_is t past)
    ∙ ap (λ n. told_at t past ++ told_in t n (e ∷ [])) (omega (arith, size)) ∙ ap (λ ps. told_at t past ++ ps) (append-nil (placed (length past) (notes_by t e)))
  where
    size : length (reverse past) ≡ length past
    size = length-reverse past

-- The note is of this entry, of which a completion that it tells is one.
pub record StandsAt (t : ℕ) (past : List Entry) (p : Placed) : Type 0 where
  pub later : List Entry
  pub entry : Entry
  pub before : List Entry
  pub stands : past ≡ later ++ entry ∷ before
  pub numbered : p.entry ≡ length before
  pub completes_one : (q : ℕ) (outcome : Outcome) → completed_in p.note.told ≡ (q, outcome) ∷ [] → 0 < count_by (completes t q) entry.effects

-- a completion that a note tells, among those that all tell
abbrev Counts : List JournalNote → JournalNote → Type 0
Counts ns note = (q : ℕ) (outcome : Outcome) → completed_in note.told ≡ (q, outcome) ∷ [] → 0 < times q (seqs (dones_in ns))

one_of : (q : ℕ) (outcome : Outcome) (rest : List (ℕ × Outcome)) → 0 < times q (seqs ((q, outcome) ∷ rest))
one_of q outcome rest = let same = times_same q (seqs rest) in omega (arith, same)

each_counts : (ns : List JournalNote) → All (Counts ns) ns
each_counts [] = All-nil (Counts [])
each_counts (note ∷ ns) =
    All-cons (Counts (note ∷ ns)) note ns
    (λ q outcome is. subst (λ ds. 0 < times q (seqs (ds ++ dones_in ns))) (sym is) (one_of q outcome (dones_in ns)))
    (All-weaker (Counts ns) (Counts (note ∷ ns)) (λ x h q outcome is. let both = both_times q (completed_in note.told) (dones_in ns) in let some = h q outcome is in omega (arith, both, some)) ns (each_counts ns))

-- the completions of one entry
dones_by : (t : ℕ) (e : Entry) → dones_in (notes_by t e) ≡ flat_map (done_by t) e.effects
dones_by t e = (notes_are_projections t (e ∷ [])).dones

stands_more : (t : ℕ) (e : Entry) (past : List Entry) (p : Placed) → StandsAt t past p → StandsAt t (e ∷ past) p
stands_more t e past p h =
    record {
      later = e ∷ h.later;
      entry = h.entry;
      before = h.before;
      stands = ap (λ es. e ∷ es) h.stands;
      numbered = h.numbered;
      completes_one = h.completes_one;
    }

pub each_stands : (t : ℕ) (past : List Entry) → All (StandsAt t past) (told_at t past)
each_stands t [] = All-nil (StandsAt t [])
each_stands t (e ∷ past) =
    All-append (StandsAt t (e ∷ past)) (told_at t past) (placed (length past) (notes_by t e))
    (All-weaker (StandsAt t past) (StandsAt t (e ∷ past)) (stands_more t e past) (told_at t past) (each_stands t past))
    (All-map (StandsAt t (e ∷ past)) (λ note. record { entry = length past; note = note }) (notes_by t e)
    (All-weaker (Counts (notes_by t e)) (λ note. StandsAt t (e ∷ past) (record { entry = length past; note = note })) here (notes_by t e) (each_counts (notes_by t e))))
  where
    here : (note : JournalNote) → Counts (notes_by t e) note → StandsAt t (e ∷ past) (record { entry = length past; note = note })
    here note h = record {
      later = [];
      entry = e;
      before = past;
      stands = refl;
      numbered = refl;
      completes_one = λ q outcome is. subst (λ n. 0 < n) (ap (λ ds. times q (seqs ds)) (dones_by t e) ∙ done_times t q e.effects) (h q outcome is);
    }

-- what a note of a mailbox tells, and where that stands
abbrev pub IsTelling : ℕ → List Entry → Note → Type 0
IsTelling t past note = (p : Placed) × StandsAt t past p × Tells p note

tellings : (t : ℕ) (past : List Entry) (from : List Placed) (got : List Note) → AreTold from got → All (StandsAt t past) from → All (IsTelling t past) got
tellings t past [] [] told all = All-nil (IsTelling t past)
tellings t past [] (note ∷ got) told all = absurd told
tellings t past (p ∷ from) [] told all = absurd told
tellings t past (p ∷ from) (note ∷ got) told all =
    All-cons (IsTelling t past) note got (p, All-head (StandsAt t past) p from all, told.0) (tellings t past from got told.1 (All-tail (StandsAt t past) p from all))

pub each_tells : (t : ℕ) (past : List Entry) (got : List Note) → AreTold (told_at t past) got → All (IsTelling t past) got
each_tells t past got told = tellings t past (told_at t past) got told (each_stands t past)

-- ---- What was seen of notes

-- whoever was told the first of the notes, this many, has seen the entries of these
pub seen_before : (m : ℕ) (from : List Placed) (got : List Note) → AreTold from got → All (λ (p : Placed). p.entry < seen_by (take m got)) (take m from)
seen_before m [] [] told = none m
  where
    none : (m : ℕ) → All (λ (p : Placed). p.entry < seen_by (take m [])) (take m [])
    none zero = All-nil (λ (p : Placed). p.entry < 0)
    none (suc m) = All-nil (λ (p : Placed). p.entry < 0)
seen_before m [] (note ∷ got) told = absurd told
seen_before m (p ∷ from) [] told = absurd told
seen_before zero (p ∷ from) (note ∷ got) told = All-nil (λ (p : Placed). p.entry < 0)
seen_before (suc m) (p ∷ from) (note ∷ got) told =
    let own = number_in (front_in note) in
    let rest = seen_by (take m got) in
    All-cons (λ (x : Placed). x.entry < max own rest) p (take m from) (let left = le-max_left own rest in let above = told.0.above in omega (arith, left, above))
    (All-weaker (λ (x : Placed). x.entry < rest) (λ (x : Placed). x.entry < max own rest) (λ x h. let right = le-max_right own rest in omega (arith, right, h)) (take m from) (seen_before m from got told.1))
