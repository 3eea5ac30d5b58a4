-- A worked example: the journal of one task that publishes once.
use Rattle.std.specs.Prelude.{◌≡◌, ℕ, false, List, [], ◌∷◌, None, codes}
use Rattle.mqtt_packet.specs.declared.qos.Qos.TheVariants.{AtMostOnce}
use Rattle.mqtt_packet.specs.declared.packet.Packet.TheVariants as p
use Rattle.agent_journal.specs.declared.request.Request.TheVariants as requests
use Rattle.agent_journal.specs.declared.outcome.Outcome.TheVariants as o
use Rattle.agent_journal.specs.declared.entry.Cause.TheVariants as c
use Rattle.agent_journal.specs.declared.entry.Entry.{Entry}
use Rattle.agent_journal.specs.declared.effect.Effect.TheVariants as f
use Rattle.agent_journal.specs.declared.setup.Setup.{Setup}

abbrev pub setup : Setup
setup = record { to = []; client = codes "dev"; keep_alive = 60; reopen = 5; wipe = false; tasks = 1 }

-- `a/b` is published with the payload `hi`
abbrev pub journal : List Entry
journal =
    record { at = 0; cause = c.Opened; effects = f.Send (p.Connect false 60 (codes "dev") None None None) ∷ [] }
    ∷ record { at = 0; cause = c.Arrived (p.ConnAck false 0); effects = [] }
    ∷ record { at = 0; cause = c.Take 0 0 (requests.Publish AtMostOnce (codes "a/b") (codes "hi")); effects = f.Send (p.Publish false AtMostOnce false (codes "a/b") 0 (codes "hi")) ∷ f.Done 0 0 o.Done ∷ [] }
    ∷ record { at = 0; cause = c.Take 0 1 requests.Leave; effects = [] }
    ∷ record { at = 0; cause = c.Finish; effects = f.Send p.Disconnect ∷ [] }
    ∷ []
