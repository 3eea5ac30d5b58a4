-- Worked journals, and the bytes that are saved of them.
use Rattle.std.specs.Prelude.{◌≡◌, ℕ, false, List, [], ◌∷◌, ◌++◌, replicate, reverse, codes}
use Rattle.mqtt_packet.specs.declared.packet.Packet.TheVariants as p
use Rattle.mqtt_packet.specs.declared.qos.Qos.TheVariants.{ExactlyOnce}
use Rattle.agent_journal.specs.declared.entry.Entry.{Entry}
use Rattle.agent_journal.specs.declared.setup.Setup.{Setup}
use Rattle.agent_table.specs.Worked.{usual, begins, takes, request, packet, sends, arrives}
use Rattle.session_readings.specs.Saved.{saved}

abbrev pub alone : Setup
alone = record { to = []; client = codes "dev"; keep_alive = 60; reopen = 5; wipe = false; tasks = 1 }

-- A new agent: Down, and the first CONNACK is still to come.
abbrev pub FirstIsSaved : Type 0
FirstIsSaved = saved alone usual [] ≡ 0 ∷ 0 ∷ 0 ∷ 1 ∷ replicate 89 0

-- `hi` is published on `a/b` at QoS 2, and its PUBREC is answered
abbrev pub released : List Entry
released = begins (takes 0 (request ExactlyOnce) (sends (packet false ExactlyOnce 1)) ∷ arrives (p.PubRec 1) (sends (p.PubRel 1)) ∷ [])

-- Up, one CONNACK accepted, one Take; the last entry sends, and drew nothing since identifier 1
abbrev pub released_front : List ℕ
released_front = 2 ∷ 0 ∷ 0 ∷ 0 ∷ 1 ∷ 0 ∷ 0 ∷ 0 ∷ 0 ∷ 0 ∷ 0 ∷ 0 ∷ 0 ∷ 0 ∷ 0 ∷ 0 ∷ 0 ∷ 1 ∷ replicate 56 0

-- no identifier is held; task 0, number 0, Released, eleven bytes of PUBLISH; identifier 1 is released; no routes
abbrev pub released_back : List ℕ
released_back =
    1 ∷ 0 ∷ 0 ∷ 0 ∷ 0 ∷ 0 ∷ 0 ∷ 0 ∷ 0 ∷ 0 ∷ 1 ∷ 0 ∷ 0 ∷ 0 ∷ 1 ∷ 0 ∷ 0 ∷ 0 ∷ 0 ∷ 0 ∷ 0 ∷ 0 ∷ 0 ∷ 2 ∷ 0 ∷ 0 ∷ 0 ∷ 11
    ∷ 52 ∷ 9 ∷ 0 ∷ 3 ∷ 97 ∷ 47 ∷ 98 ∷ 0 ∷ 1 ∷ 104 ∷ 105 ∷ 0 ∷ 1 ∷ 0 ∷ 1 ∷ 0 ∷ 0 ∷ []

abbrev pub ReleasedIsSaved : Type 0
ReleasedIsSaved = saved alone usual (reverse released) ≡ released_front ++ released_back

abbrev pub JournalsAreSaved : Type 0
JournalsAreSaved = FirstIsSaved × ReleasedIsSaved
