-- The rows of one phase, as the rows of a journal, and what is due.
use Rattle.std.proofs.Common.{◌≡◌, ℕ, ◌≤◌, Bool, true, false, List, [], ◌∷◌, Option, Some, None, is_some, refl, sym, ap, ◌∙◌, subst, arith}
use Rattle.std.specs.Prelude.{nat_lt, nat_le, if◌then◌else◌}
use Rattle.std.specs.List.{AllByRecursion}
use Rattle.std.proofs.lemmas.Bool.{le-ltb}
use Rattle.mqtt_packet.specs.declared.packet.Packet.{Packet}
use Rattle.mqtt_packet.specs.Spelling.{is_sound}
use Rattle.agent_journal.specs.declared.entry.Cause.{Cause}
use Rattle.agent_journal.specs.declared.entry.Cause.TheVariants as c
use Rattle.agent_journal.specs.declared.entry.Entry.{Entry}
use Rattle.agent_journal.specs.declared.request.Request.{Request}
use Rattle.agent_journal.specs.declared.setup.Setup.{Setup}
use Rattle.agent_journal.specs.declared.setup.Phase.{Phase}
use Rattle.agent_journal.specs.declared.setup.Phase.TheVariants.{Off}
use Rattle.agent_journal.specs.Readings.{pending_of}
use Rattle.agent_journal.specs.Projections.{commands_of}
use Rattle.agent_table.specs.Arrivals.{arrived_row, arrived_in}
use Rattle.agent_table.specs.Deliveries.{is_among}
use Rattle.agent_table.specs.Effects.{used, fresh_id}
use Rattle.agent_table.specs.Histories.{IsLegalPast, phase_of, phase_by, readings, row, effects_of, due_by, due_causes, first_row}
use Rattle.agent_table.specs.Laws.{HasIdentifiers}
use Rattle.agent_table.specs.Readings.{Readings}
use Rattle.agent_table.specs.Rows.{Row, when}
use Rattle.agent_table.specs.Sizes.{Sizes}
use Rattle.agent_table.specs.Table.{row_of, cause_row}
use Rattle.agent_table.specs.Takes.{take_row, take_in, may_take}
use Rattle.agent_table.proofs.Awaiting.{some_free, drawn_low}
use Rattle.agent_table.proofs.Commands.{below, all_commands}
use Rattle.agent_table.proofs.Counts.{opened}
use Rattle.agent_table.proofs.Fresh.{fresh_is_free}
use Rattle.agent_table.proofs.Once.{each_is_open_or_done, taken_next}
use Rattle.agent_table.proofs.Staying.{StaysOff, off_row}

-- ---- Rows

-- A property of a row where there is one.
module _ (P : Row → Type 0) where
  abbrev pub OfRow : Option Row → Type 0
  OfRow None = Unit {0}
  OfRow (Some found) = P found

  of_when : (b : Bool) (row : Option Row) → OfRow row → OfRow (when b row)
  of_when true row h = h
  of_when false row h = tt

  pub arrives_in : (s : Setup) (l : Sizes) (r : Readings) (at : ℕ) (packet : Packet) (phase : Phase) → r.phase ≡ phase → OfRow (arrived_in s l r packet phase) → OfRow (row_of s l r at (c.Arrived packet))
  unfolding row_of arrived_row
  arrives_in s l r at packet phase is h =
      of_when (nat_le r.last_time at) (arrived_row s l r packet) (of_when (is_sound packet) (arrived_in s l r packet r.phase) (subst (λ (x : Phase). OfRow (arrived_in s l r packet x)) (sym is) h))

  pub takes_in : (s : Setup) (l : Sizes) (r : Readings) (at task seq : ℕ) (request : Request) (phase : Phase) → r.phase ≡ phase → OfRow (take_in s l r task seq request phase) → OfRow (row_of s l r at (c.Take task seq request))
  unfolding row_of take_row
  takes_in s l r at task seq request phase is h =
      of_when (nat_le r.last_time at) (take_row s l r task seq request) (of_when (may_take s r task seq request) (take_in s l r task seq request r.phase) (subst (λ (x : Phase). OfRow (take_in s l r task seq request x)) (sym is) h))

  -- any other cause
  pub of_cause : (s : Setup) (l : Sizes) (r : Readings) (at : ℕ) (cause : Cause) → OfRow (cause_row s l r at cause) → OfRow (row_of s l r at cause)
  unfolding row_of
  of_cause s l r at cause h = of_when (nat_le r.last_time at) (cause_row s l r at cause) h

  pub of_found : (row : Option Row) (found : Row) → row ≡ Some found → OfRow row → P found
  of_found row found e h = subst OfRow e h

-- ---- A journal

pub phase_behind : (s : Setup) (l : Sizes) (past : List Entry) (at : ℕ) (cause : Cause) (found : Row) → row s l past at cause ≡ Some found
    → phase_of s l (record { at = at; cause = cause; effects = found.effects } ∷ past) ≡ found.phase
phase_behind s l past at cause found e = ap (λ r. phase_by r (phase_of s l past)) e

pub legal_behind : (s : Setup) (l : Sizes) (past : List Entry) (at : ℕ) (cause : Cause) (found : Row) → row s l past at cause ≡ Some found → IsLegalPast s l past
    → IsLegalPast s l (record { at = at; cause = cause; effects = found.effects } ∷ past)
legal_behind s l past at cause found e legal = (ap effects_of e, legal)

-- an agent that has ended stays so
pub off_behind : (s : Setup) (l : Sizes) (past : List Entry) (at : ℕ) (cause : Cause) (found : Row) → row s l past at cause ≡ Some found → phase_of s l past ≡ Off → found.phase ≡ Off
off_behind s l past at cause found e off = let h : StaysOff (Some found) = subst StaysOff e (off_row s l (readings s l past) at cause off) in h.0

few : (b : Bool) → (if b then 1 else 0) ≤ 1
few true = omega arith
few false = omega arith

-- a command stands once among the open ones
pub open_once : (s : Setup) (l : Sizes) (past : List Entry) → IsLegalPast s l past → (t q : ℕ) → opened t q (pending_of past) ≤ 1
open_once s l past legal t q = omega (arith, each_is_open_or_done s l past legal t q, few (nat_lt q (commands_of t past)))

-- a Take is of a new command, and finds an identifier that no open one has
pub is_new : (s : Setup) (l : Sizes) (past : List Entry) (at task seq : ℕ) (request : Request) (found : Row) → row s l past at (c.Take task seq request) ≡ Some found → IsLegalPast s l past → opened task seq (pending_of past) ≡ 0
is_new s l past at task seq request found e legal =
    let next = taken_next s l (readings s l past) at task seq request (ap is_some e) in
    let all : seq ≡ commands_of task past = next.0 ∙ all_commands task past next.1 in
    let none : below seq (commands_of task past) ≡ 0 = rw (le-ltb seq (commands_of task past) (omega (arith, all))) refl in
    omega (arith, each_is_open_or_done s l past legal task seq, none)

pub is_free : (s : Setup) (l : Sizes) (past : List Entry) → HasIdentifiers l → IsLegalPast s l past → is_among (used (readings s l past)) (fresh_id (readings s l past)) ≡ false
is_free s l past free legal = fresh_is_free (readings s l past).last_drawn (used (readings s l past)) (drawn_low s l past free legal) (some_free s l past free legal)

-- ---- What is due

abbrev pub IsDue : Cause → Type 0
IsDue c.Finish = Unit {0}
IsDue (c.Broke reason) = Unit {0}
IsDue c.Tick = Unit {0}
IsDue c.GaveUp = Unit {0}
IsDue _ = ⊥

first_is : (s : Setup) (l : Sizes) (r : Readings) (at : ℕ) (causes : List Cause) (cause : Cause) → AllByRecursion IsDue causes → first_row s l r at causes ≡ Some cause → IsDue cause
first_is s l r at [] cause h e = absurd (cc e)
first_is s l r at (x ∷ causes) cause h e = go (is_some (row_of s l r at x)) e (first_is s l r at causes cause h.1)
  where
    value : Option Cause → Cause
    value None = x
    value (Some y) = y

    go : (b : Bool) → (if b then Some x else first_row s l r at causes) ≡ Some cause → (first_row s l r at causes ≡ Some cause → IsDue cause) → IsDue cause
    go true is rest = subst IsDue (ap value is) h.0
    go false is rest = rest is

pub due_is : (s : Setup) (l : Sizes) (r : Readings) (at : ℕ) (cause : Cause) → due_by s l r at ≡ Some cause → IsDue cause
due_is s l r at cause e = first_is s l r at due_causes cause (tt, (tt, (tt, (tt, (tt, tt))))) e
