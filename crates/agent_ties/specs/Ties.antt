-- A journal's ties to its link, at each moment of an agent.
use Rattle.std.specs.Prelude.{◌≡◌, ℕ, ◌≤◌}
use Rattle.mqtt_packet.specs.Splitting.{Kept as Stream}
use Rattle.agent_journal.specs.Readings.{last_time_of}
use Rattle.agent_ties.specs.Seen.{Seen}
use Rattle.agent_ties.specs.Heard.{AreHeard, AreHanding}
use Rattle.agent_ties.specs.Wired.{AreWired}

-- between two calls
pub record Ties (v : Seen) : Type 0 where
  pub wired : AreWired v
  pub heard : AreHeard v

-- while packets of this stream are handed in
pub record Handing (now : ℕ) (stream : Stream) (v : Seen) : Type 0 where
  pub wired : AreWired v
  pub handing : AreHanding v
  pub same : v.stream ≡ stream
  pub time : last_time_of v.past ≤ now
