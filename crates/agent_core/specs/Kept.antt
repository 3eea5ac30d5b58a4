-- What the agent keeps, as plain data: its setup, its sizes, and what the table reads off its journal.
use Rattle.std.specs.Prelude.{ℕ, Bool, false, List, [], ◌++◌, map, Option, None, replicate, slice_index_or, if◌then◌else◌}
use Rattle.agent_journal.specs.declared.entry.Cause.{Cause}
use Rattle.agent_journal.specs.declared.off.OffBy.{OffBy}
use Rattle.agent_journal.specs.declared.setup.Setup.{Setup}
use Rattle.agent_journal.specs.declared.setup.Phase.{Phase}
use Rattle.agent_journal.specs.declared.setup.Phase.TheVariants.{Down}
use Rattle.agent_journal.specs.Offs.{is_terminated}
use Rattle.agent_journal.specs.Readings.{Pending}
use Rattle.agent_table.specs.Readings.{Readings, unless_off}
use Rattle.agent_table.specs.Routes.{while_opening}
use Rattle.agent_table.specs.Rows.{Row}
use Rattle.agent_table.specs.Sessions.{is_wiping, is_first, while_connected}
use Rattle.agent_table.specs.Sizes.{Sizes}
use Rattle.agent_table.specs.Table.{row_of}
use Rattle.subscriptions.specs.Routing.{Routing, nothing, routes, renewable}
use Rattle.std.specs.Prelude.{true}

pub record Kept : Type 0 where
  pub setup : Setup
  pub sizes : Sizes
  pub phase : Phase
  -- the time of the newest entry, and whether it sends
  pub last_time : ℕ
  pub just_sent : Bool
  -- by task: how many requests were taken, and whether Leave was
  pub takes : List ℕ
  pub left : List Bool
  -- how many connections or openings broke since the last accepted CONNACK, at most reopen + 2
  pub breaks : ℕ
  -- how many CONNACKs accepted, at most most_accepted
  pub accepted : ℕ
  pub pending : List Pending
  pub released : List ℕ
  pub held : List ℕ
  pub last_drawn : ℕ
  -- of the newest connection
  pub ping : Option ℕ
  pub last_sent : Option ℕ
  pub routing : Routing
  -- how the agent came to Off
  pub off : Option OffBy

-- More CONNACKs that accepted read like so many: only whether the first was, and, where an old session is wiped, the second.
abbrev pub most_accepted : Setup → ℕ
most_accepted s = if s.wipe then 2 else 1

-- what the table reads
abbrev pub readings_in : Kept → Readings
readings_in k = record {
  phase = k.phase;
  last_time = k.last_time;
  just_sent = k.just_sent;
  takes = λ t. slice_index_or k.takes t 0;
  left = λ t. slice_index_or k.left t false;
  breaks = k.breaks;
  wiping = is_wiping k.setup k.accepted;
  first = is_first k.setup k.accepted;
  pending = k.pending;
  released = k.released;
  held = k.held;
  last_drawn = k.last_drawn;
  ping = while_connected k.phase k.ping;
  last_sent = while_connected k.phase k.last_sent;
  routes = unless_off k.phase (routes k.routing);
  renewals = unless_off k.phase k.routing.renewals;
  renewable = while_opening k.phase (renewable true k.routing);
  unsure = while_opening k.phase (renewable false k.routing);
  terminated = is_terminated k.off;
}

abbrev pub row_now : Kept → ℕ → Cause → Option Row
row_now k at cause = row_of k.setup k.sizes (readings_in k) at cause

-- the identifiers in use
abbrev pub used_in : Kept → List ℕ
used_in k = map (λ command. command.id) k.pending ++ map (λ renewal. renewal.id) k.routing.renewals

-- the agent before its first entry
abbrev pub beginning : Setup → Sizes → Kept
beginning s l = record {
  setup = s;
  sizes = l;
  phase = Down;
  last_time = 0;
  just_sent = false;
  takes = replicate s.tasks 0;
  left = replicate s.tasks false;
  breaks = 0;
  accepted = 0;
  pending = [];
  released = [];
  held = [];
  last_drawn = 0;
  ping = None;
  last_sent = None;
  routing = nothing;
  off = None;
}
