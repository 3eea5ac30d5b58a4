-- Ties at the beginning, and as those of each connection.
use Rattle.agent_journal.specs.Wires.{connections, Wired}
use Rattle.agent_table.specs.Ties.{stages, Heard}
use Rattle.agent_ties.specs.Heard.{IsHandedIn, LastHeard}
use Rattle.agent_ties.specs.Laws.{TiesBegin, TiesAreWhole}
use Rattle.agent_ties.specs.Seen.{phase_seen}
use Rattle.agent_ties.specs.Wired.{LastWired}
use Rattle.agent_ties.proofs.Heard.{is_heard}
use Rattle.agent_ties.proofs.Wired.{is_wired}
use Rattle.agent_ties.proofs.Wires.{each_tied}

pub ties_begin : TiesBegin
ties_begin setup sizes = record { wired = tt; heard = tt }

pub ties_are_whole : TiesAreWhole
ties_are_whole v h = (
  each_tied Wired (LastWired (phase_seen v)) (is_wired (phase_seen v)) (connections v.past) v.taken h.wired,
  each_tied Heard (LastHeard IsHandedIn (phase_seen v) v.stream) (is_heard (phase_seen v) v.stream) (stages v.setup v.sizes v.past) v.given h.heard,
)
