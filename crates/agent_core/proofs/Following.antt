-- The number of a Take that has a row.
use Rattle.std.proofs.Common.{◌≡◌, ℕ, not, Some, is_some, ap}
use Rattle.std.specs.Prelude.{◌&&◌, ◌==◌, nat_lt, slice_index_or}
use Rattle.std.proofs.lemmas.Bool.{eqb-true, and_parts}
use Rattle.agent_journal.specs.declared.entry.Cause.{Cause}
use Rattle.agent_journal.specs.declared.entry.Cause.TheVariants as c
use Rattle.agent_journal.specs.declared.request.Request.{Request}
use Rattle.agent_journal.specs.Requests.{is_valid}
use Rattle.agent_table.specs.Rows.{Row}
use Rattle.agent_table.specs.Table.{cause_row}
use Rattle.agent_table.specs.Takes.{take_row, take_in, may_take}
use Rattle.agent_core.specs.Kept.{Kept, readings_in}
use Rattle.agent_core.proofs.Breaks.{some_when}
use Rattle.agent_core.proofs.Noting.{IsNext}

-- a Take with a row has its task's next number
numbered : (k : Kept) (task seq : ℕ) (request : Request) (row : Row) → take_row k.setup k.sizes (readings_in k) task seq request ≡ Some row → seq ≡ slice_index_or k.takes task 0
unfolding take_row may_take
numbered k task seq request row e =
    let r = readings_in k in
    let may = (some_when (nat_lt task k.setup.tasks && not (r.left task) && (seq == r.takes task) && is_valid request) (take_in k.setup k.sizes r task seq request r.phase) (ap is_some e)).0 in
    let four = and_parts (nat_lt task k.setup.tasks && not (r.left task) && (seq == r.takes task)) (is_valid request) may in
    let three = and_parts (nat_lt task k.setup.tasks && not (r.left task)) (seq == r.takes task) four.0 in
    eqb-true seq (r.takes task) three.1

pub next_in : (k : Kept) (at : ℕ) (cause : Cause) (row : Row) → cause_row k.setup k.sizes (readings_in k) at cause ≡ Some row → IsNext cause k.takes
next_in k at c.Opened row e = tt
next_in k at (c.Take task seq request) row e = numbered k task seq request row e
next_in k at (c.Arrived packet) row e = tt
next_in k at (c.Broke why) row e = tt
next_in k at c.Tick row e = tt
next_in k at c.GaveUp row e = tt
next_in k at c.Finish row e = tt
