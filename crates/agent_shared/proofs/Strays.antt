-- No note that was put of a journal is stray.
use Rattle.std.proofs.Common.{◌≡◌, ℕ, ◌+◌, ◌<◌, ◌≤◌, Bool, false, List, [], ◌∷◌, ◌++◌, map, All, sym, ap, ◌∙◌, subst, arith, append_assoc, append-nil}
use Rattle.std.proofs.lemmas.Bool.{cases_lt}
use Rattle.std.proofs.lemmas.Grind.{flat_map-append}
use mathlib.Core.Logic.{inl, inr}
use Rattle.agent_journal.specs.declared.entry.Entry.{Entry}
use Rattle.agent_journal.specs.declared.entry.Cause.{Cause}
use Rattle.agent_journal.specs.declared.entry.Cause.TheVariants as c
use Rattle.agent_journal.specs.declared.outcome.Outcome.{Outcome}
use Rattle.agent_journal.specs.declared.setup.Setup.{Setup}
use Rattle.agent_journal.specs.Readings.{is_leave}
use Rattle.agent_journal.specs.Projections.{commands_of, completions_of, NoneEarly}
use Rattle.agent_journal.specs.Notes.{notes_of, completed_in as completed_by}
use Rattle.agent_table.specs.Histories.{IsLegalPast}
use Rattle.agent_table.specs.Sizes.{Sizes}
use Rattle.agent_table.proofs.Once.{few, each_is_open_or_done, none_is_early}
use Rattle.command_pool.specs.Hands.{times}
use Rattle.command_pool.proofs.Held.{times_same}
use Rattle.task_queues.specs.declared.note.Note.{Note}
use Rattle.task_queues.specs.declared.submission.Submission.{Submission}
use Rattle.task_queues.specs.Submissions.{of_task}
use Rattle.task_queues.specs.Fronts.{front_in, number_in}
use Rattle.task_end.specs.Notes.{outcome_in, outcomes_in, completed_in}
use Rattle.task_end.specs.Commands.{NoneIsStray, IsOtherOrBehind}
use Rattle.agent_posts.specs.Mail.{said, AreTold}
use Rattle.agent_requests.specs.Takes.{take_of, AreTakes}
use Rattle.agent_shared.specs.Gathered.{IsTakenAt}
use Rattle.agent_shared.proofs.Takes.{was_taken}
use Rattle.agent_shared.proofs.Completions.{seqs, both_times, completed_times}
use Rattle.agent_shared.proofs.Told.{told_at, IsTelling, each_tells, done_is, outcomes_are}
use Rattle.agent_shared.proofs.Requests.{came_from, of_each, at_seam}

abbrev task_in : Cause → ℕ
task_in (c.Take task seq request) = task
task_in _ = 0

abbrev seq_in : Cause → ℕ
seq_in (c.Take task seq request) = seq
seq_in _ = 0

abbrev leave_in : Cause → Bool
leave_in (c.Take task seq request) = is_leave request
leave_in _ = false

outcomes_cut : (before : List Note) (note : Note) (after : List Note) → outcomes_in (before ++ note ∷ after) ≡ outcomes_in before ++ (outcomes_in (note ∷ []) ++ outcomes_in after)
outcomes_cut before note after = flat_map-append outcome_in before (note ∷ after) ∙ ap (λ ds. outcomes_in before ++ (ds ++ outcomes_in after)) (sym (append-nil (outcome_in note)))

module _ (s : Setup) (l : Sizes) (past : List Entry) (legal : IsLegalPast s l past) (t : ℕ) where
  -- a command isn't completed twice
  once : (q : ℕ) → completions_of t q past ≤ 1
  once q = let sum = each_is_open_or_done s l past legal t q in let most = few q (commands_of t past) in omega (arith, sum, most)

  twice : (q : ℕ) (outcome : Outcome) (before : List Note) (note : Note) (after got : List Note) → got ≡ before ++ note ∷ after → outcomes_in (note ∷ []) ≡ (q, outcome) ∷ []
      → map said got ≡ notes_of t past → 0 < times q (completed_in before) → ⊥
  twice q outcome before note after got stands is said_is again =
      let all : times q (seqs (outcomes_in got)) ≡ completions_of t q past = ap (λ ds. times q (seqs ds)) (outcomes_are t past got said_is) ∙ completed_times t q past in
      let cut : outcomes_in got ≡ outcomes_in before ++ (outcomes_in (note ∷ []) ++ outcomes_in after) = ap outcomes_in stands ∙ outcomes_cut before note after in
      let parts = both_times q (outcomes_in before) (outcomes_in (note ∷ []) ++ outcomes_in after) in
      let own : times q (seqs (outcomes_in (note ∷ []) ++ outcomes_in after)) ≡ 1 + times q (seqs (outcomes_in after)) =
      ap (λ ds. times q (seqs (ds ++ outcomes_in after))) is ∙ times_same q (seqs (outcomes_in after)) in
      let sum = ap (λ ds. times q (seqs ds)) cut in
      let most = once q in absurd (omega (arith, all, parts, own, sum, most, again))

  legal_from : (later past' : List Entry) → IsLegalPast s l (later ++ past') → IsLegalPast s l past'
  legal_from [] past' h = h
  legal_from (e ∷ later) past' h = legal_from later past' h.1

  early_at : (q : ℕ) (e : Entry) (before : List Entry) → NoneEarly (e ∷ before) → 0 < completions_of t q (e ∷ before) → q < commands_of t (e ∷ before)
  early_at q e before none some = elim (cases_lt q (commands_of t (e ∷ before))) [
    | inl less ↦ less
    | inr least ↦ let zero_is = none.0 t q least in absurd (omega (arith, some, zero_is))
  ]

  early : (q : ℕ) (outcome : Outcome) (note : Note) (taken sent : List Submission) → outcomes_in (note ∷ []) ≡ (q, outcome) ∷ [] → IsTelling t past note → AreTakes taken past → sent ≡ of_task t taken
      → All (IsOtherOrBehind q (number_in (front_in note))) sent → ⊥
  early q outcome note taken sent is telling takes sent_is all =
      let p = telling.0 in
      let at = telling.1 in
      let tells = telling.2 in
      let told : completed_by p.note.told ≡ (q, outcome) ∷ [] = ap (λ n. completed_by n.told) (sym tells.says) ∙ sym (done_is note) ∙ sym (append-nil (outcome_in note)) ∙ is in
      let some = at.completes_one q outcome told in
      let now = at.entry ∷ at.before in
      let legal_now = legal_from at.later now (subst (IsLegalPast s l) at.stands legal) in
      let less : q < commands_of t now = early_at q at.entry at.before (none_is_early s l now legal_now) (omega (arith, some)) in
      let was = was_taken s l t q now legal_now less in
      let whole : IsTakenAt t q was.place past = record {
        later = at.later ++ was.taken.later;
        entry = was.taken.entry;
        before = was.taken.before;
        request = was.taken.request;
        stands = at.stands ∙ ap (λ es. at.later ++ es) was.taken.stands ∙ sym (append_assoc at.later was.taken.later (was.taken.entry ∷ was.taken.before));
        numbered = was.taken.numbered;
        takes = was.taken.takes;
        commands = was.taken.commands;
      } in
      let came = came_from taken past t q was.place takes whole in
      let one = came.submission in
      let same : c.Take t q was.taken.request ≡ take_of one = came.becomes.same in
      let behind = of_each (IsOtherOrBehind q (number_in (front_in note))) t came.before one came.after (sym (ap task_in same)) (subst (All (IsOtherOrBehind q (number_in (front_in note)))) (sent_is ∙ ap (of_task t) came.stands) all) in
      let later = behind (sym (ap seq_in same)) (sym (ap leave_in same) ∙ was.taken.commands) in
      let seen = came.becomes.seen in
      let within = was.within in
      let numbered = at.numbered in
      let above = tells.above in absurd (omega (arith, later, seen, within, numbered, above))

  pub none_stray : (taken sent : List Submission) (got : List Note) → AreTakes taken past → sent ≡ of_task t taken → AreTold (told_at t past) got → map said got ≡ notes_of t past → NoneIsStray sent got
  none_stray taken sent got takes sent_is told said_is stray = elim stray.again_or_early [
    | inl again ↦ twice stray.seq stray.outcome stray.before stray.note stray.after got stray.stands stray.completes said_is again
    | inr all ↦ early stray.seq stray.outcome stray.note taken sent stray.completes
        (at_seam (IsTelling t past) stray.before stray.note stray.after (subst (All (IsTelling t past)) stray.stands (each_tells t past got told))) takes sent_is all
  ]
