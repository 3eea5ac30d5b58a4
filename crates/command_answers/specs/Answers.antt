-- What a command answers, and how it ends: its text is written, and its exit status told.
use Rattle.std.specs.Prelude.{◌≡◌, ◌≢◌, ◌==◌, ℕ, List, Option, Result, Ok, Err, if◌then◌else◌}
use Rattle.std.specs.Io.KnownBytes.{Appends}
use Rattle.agent_link.specs.Counts.{raised}
use Rattle.agent_link.specs.Writes.{AppendsFront}
use Rattle.agent_link.specs.declared.fault.Fault.{Fault}
use Rattle.agent_link.specs.declared.fault.Fault.TheVariants as faults

pub record Answer : Type 0 where
  pub text : List ℕ
  pub status : ℕ

abbrev pub answer : ℕ → List ℕ → Answer
answer status text = record { text = text; status = status }

-- A sink at one moment: what was written to it, where it tells that, and its count of faults.
pub record SinkNow : Type 0 where
  pub written : Option (List ℕ)
  pub faults : ℕ

abbrev pub sink_now : Option (List ℕ) → ℕ → SinkNow
sink_now written faults = record { written = written; faults = faults }

-- How a command ended that had this answer, over a sink that was as `before` and is as `now`.
pub record Ends (status : ℕ) (before now : SinkNow) (a : Answer) : Type 0 where
  -- Unless memory ran out (7) or the sink failed (8), the whole text was written, and its status is told.
  pub whole : status ≢ 7 → status ≢ 8 → Appends before.written now.written a.text
  pub told : status ≢ 7 → status ≢ 8 → status ≡ a.status
  -- In both of these cases a front of that text was written.
  pub memory : status ≡ 7 → AppendsFront before.written now.written a.text
  pub sink : status ≡ 8 → AppendsFront before.written now.written a.text
  -- The sink's count of faults rose by one where it failed, and stayed else.
  pub faults : now.faults ≡ (if status == 8 then raised before.faults else before.faults)

-- A status that neither want of memory nor a fault of the sink has.
pub record IsPlain (status : ℕ) : Type 0 where
  pub not_memory : status ≢ 7
  pub not_sink : status ≢ 8

-- the status of a command that wrote its text so
abbrev pub exit_status : Result (Unit {0}) Fault → ℕ → ℕ
exit_status (Ok _) status = status
exit_status (Err faults.Failed) status = 8
exit_status (Err faults.NoMemory) status = 7
