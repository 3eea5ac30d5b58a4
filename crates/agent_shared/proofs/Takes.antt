-- A command of a legal journal, and its Take.
use Rattle.std.proofs.Common.{◌≡◌, ℕ, ◌+◌, ◌<◌, ◌≤◌, Bool, true, false, List, [], ◌∷◌, length, refl, sym, ap, ◌∙◌, arith}
use Rattle.std.specs.Prelude.{◌==◌, ◌&&◌, not, if◌then◌else◌, is_some}
use Rattle.std.proofs.lemmas.Bool.{cases_lt, eqb-true}
use mathlib.Core.Logic.{inl, inr}
use Rattle.agent_journal.specs.declared.request.Request.{Request}
use Rattle.agent_journal.specs.declared.entry.Cause.{Cause}
use Rattle.agent_journal.specs.declared.entry.Cause.TheVariants as c
use Rattle.agent_journal.specs.declared.entry.Entry.{Entry}
use Rattle.agent_journal.specs.declared.setup.Setup.{Setup}
use Rattle.agent_journal.specs.Readings.{is_leave, takes_of, has_left}
use Rattle.agent_journal.specs.Projections.{commands_by, commands_of}
use Rattle.agent_table.specs.Histories.{IsLegalPast, readings, row}
use Rattle.agent_table.specs.Sizes.{Sizes}
use Rattle.agent_table.proofs.Commands.{all_commands}
use Rattle.agent_table.proofs.Once.{has_row, taken_next}
use Rattle.agent_shared.specs.Gathered.{IsTakenAt}

module _ (s : Setup) (l : Sizes) (t q : ℕ) where
  -- command q was taken
  pub record WasTaken (past : List Entry) : Type 0 where
    pub place : ℕ
    pub taken : IsTakenAt t q place past
    pub within : place < length past

  earlier : (e : Entry) (past : List Entry) → WasTaken past → WasTaken (e ∷ past)
  earlier e past w =
      let within = w.within in record {
        place = w.place;
        taken = record {
          later = e ∷ w.taken.later;
          entry = w.taken.entry;
          before = w.taken.before;
          request = w.taken.request;
          stands = ap (λ es. e ∷ es) w.taken.stands;
          numbered = w.taken.numbered;
          takes = w.taken.takes;
          commands = w.taken.commands;
        };
        within = omega (arith, within);
      }

  by_take : (e : Entry) (past : List Entry) (task seq : ℕ) (request : Request) → e.cause ≡ c.Take task seq request → is_some (row s l past e.at (c.Take task seq request)) ≡ true
      → commands_of t past ≤ q → (mine leaves : Bool) → (t == task) ≡ mine → is_leave request ≡ leaves → q < commands_of t past + (if mine && not leaves then 1 else 0) → WasTaken (e ∷ past)
  by_take e past task seq request is row_is least false leaves mine_is leaves_is less = absurd (omega (arith, least, less))
  by_take e past task seq request is row_is least true true mine_is leaves_is less = absurd (omega (arith, least, less))
  by_take e past task seq request is row_is least true false mine_is leaves_is less =
      let next : (seq ≡ takes_of task past) × (has_left task past ≡ false) = taken_next s l (readings s l past) e.at task seq request row_is in
      let same : t ≡ task = eqb-true t task mine_is in
      let all : takes_of task past ≡ commands_of task past = all_commands task past next.1 in
      let of_t : commands_of task past ≡ commands_of t past = ap (λ u. commands_of u past) (sym same) in
      let first = next.0 in
      let is_q : seq ≡ q = omega (arith, least, less, first, all, of_t) in
      record {
        place = length past;
        taken = record {
          later = [];
          entry = e;
          before = past;
          request = request;
          stands = refl;
          numbered = refl;
          takes = is ∙ ap (λ u. c.Take u seq request) (sym same) ∙ ap (λ n. c.Take t n request) is_q;
          commands = leaves_is;
        };
        within = omega arith;
      }

  at_entry : (e : Entry) (past : List Entry) (cause : Cause) → e.cause ≡ cause → is_some (row s l past e.at cause) ≡ true → commands_of t past ≤ q → q < commands_of t past + commands_by t cause → WasTaken (e ∷ past)
  at_entry e past c.Opened is row_is least less = absurd (omega (arith, least, less))
  at_entry e past (c.Take task seq request) is row_is least less = by_take e past task seq request is row_is least (t == task) (is_leave request) refl refl less
  at_entry e past (c.Arrived packet) is row_is least less = absurd (omega (arith, least, less))
  at_entry e past (c.Broke why) is row_is least less = absurd (omega (arith, least, less))
  at_entry e past c.Tick is row_is least less = absurd (omega (arith, least, less))
  at_entry e past c.GaveUp is row_is least less = absurd (omega (arith, least, less))
  at_entry e past c.Finish is row_is least less = absurd (omega (arith, least, less))

  -- of so many commands each was taken
  pub was_taken : (past : List Entry) → IsLegalPast s l past → q < commands_of t past → WasTaken past
  was_taken [] legal less = absurd (omega (arith, less))
  was_taken (e ∷ past) legal less = elim (cases_lt q (commands_of t past)) [
    | inl before ↦ earlier e past (was_taken past legal.1 before)
    | inr least ↦ at_entry e past e.cause refl (has_row (row s l past e.at e.cause) e.effects legal.0) least less
  ]
