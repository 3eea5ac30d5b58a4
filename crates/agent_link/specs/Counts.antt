-- Counts of the outside: of faults, ends and idle receives. A count never falls. It is a u64, and at the greatest one
-- it stays.
use Rattle.std.specs.Prelude.{ℕ, ◌+◌, ◌-◌, ◌^◌, ◌≤◌, min, Result, Ok, Err}
use Rattle.agent_link.specs.declared.fault.Fault.{Fault}
use Rattle.agent_link.specs.declared.fault.Fault.TheVariants as faults

-- the count behind one more
abbrev pub raised : ℕ → ℕ
raised count = min (count + 1) (2 ^ 64 - 1)

-- the count of faults behind a call with this result: one more where it failed, and else as it was, also where memory ran out
abbrev pub counted : {T : Type 0} → Result T Fault → ℕ → ℕ
counted (Err faults.Failed) count = raised count
counted _ count = count

-- The count rose, or it stands at the greatest u64.
abbrev pub Rose : ℕ → ℕ → Type 0
Rose before now = raised before ≤ now

-- The count rose by n at least, or it stands at the greatest u64.
abbrev pub RoseBy : ℕ → ℕ → ℕ → Type 0
RoseBy n before now = min (before + n) (2 ^ 64 - 1) ≤ now

-- The count didn't fall, and where this happened it rose.
pub record Counted (happened : Type 0) (before now : ℕ) : Type 0 where
  pub later : before ≤ now
  pub rose : happened → Rose before now

-- The counts of a link: how often a call failed, a receive found the connection ended, and a receive heard nothing.
pub record LinkCounts : Type 0 where
  pub faults : ℕ
  pub ends : ℕ
  pub nothings : ℕ

-- those of a link that has done nothing
abbrev pub uncounted : LinkCounts
uncounted = record { faults = 0; ends = 0; nothings = 0 }

-- behind one fault, one end, one receive that heard nothing
abbrev pub with_fault : LinkCounts → LinkCounts
with_fault counts = record counts { faults = raised counts.faults }

abbrev pub with_end : LinkCounts → LinkCounts
with_end counts = record counts { ends = raised counts.ends }

abbrev pub with_nothing : LinkCounts → LinkCounts
with_nothing counts = record counts { nothings = raised counts.nothings }
