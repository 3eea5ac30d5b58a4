-- Calls that fail by plan, in the forms over memory.
use Rattle.std.specs.Prelude.{ℕ, List}
use Rattle.agent_link.specs.Counts.{raised}

-- The numbers of the calls that fail, the number of the next call, and the faults so far.
pub record Planned : Type 0 where
  pub fails : List ℕ
  pub call : ℕ
  pub faults : ℕ

-- A source over memory: what is left of its bytes.
pub record Held : Type 0 where
  pub bytes : List ℕ
  pub plan : Planned

abbrev pub after_call : Planned → Planned
after_call plan = record plan { call = raised plan.call }

abbrev pub after_fault : Planned → Planned
after_fault plan = record plan { call = raised plan.call; faults = raised plan.faults }
