-- Where the publishes of both directions stand (MQTT 3.1.1, sections 4.3 and 4.4), and the table of their stages.
use Rattle.std.specs.Prelude.{ℕ, ◌+◌, Bool, not, ◌==◌, nat_lt, List, [], ◌∷◌, ◌++◌, length, Option, Some, None, if◌then◌else◌, filter}
use Rattle.std.specs.List.{list_any}
use Rattle.mqtt_packet.specs.declared.qos.Qos.{Qos}
use Rattle.mqtt_packet.specs.declared.qos.Qos.TheVariants.{AtMostOnce, AtLeastOnce, ExactlyOnce}
use Rattle.qos_state.specs.declared.answers.Stage.{Stage}
use Rattle.qos_state.specs.declared.answers.Stage.TheVariants.{Sent1, Sent2, Released}
use Rattle.qos_state.specs.declared.answers.AckKind.{AckKind}
use Rattle.qos_state.specs.declared.answers.AckKind.TheVariants.{PubAck, PubRec, PubComp}
use Rattle.qos_state.specs.declared.answers.AckAnswer.{AckAnswer}
use Rattle.qos_state.specs.declared.answers.AckAnswer.TheVariants.{Finished, Release, Passed}
use Rattle.qos_state.specs.declared.answers.Received.{Received}
use Rattle.qos_state.specs.declared.answers.Received.TheVariants.{New, Repeat, Full}

-- Identifiers, by what each awaits.
pub record Deliveries : Type 0 where
  -- own publishes at QoS 1 that await PUBACK, in the order in which they were sent
  pub at_least_once : List ℕ
  -- own publishes at QoS 2 that await PUBREC, in the order in which they were sent
  pub exactly_once : List ℕ
  -- own publishes at QoS 2 that await PUBCOMP, in the order of their first PUBRECs
  pub released : List ℕ
  -- publishes at QoS 2 that came and await PUBREL, in the order in which they came
  pub held : List ℕ

abbrev pub nothing : Deliveries
nothing = record { at_least_once = []; exactly_once = []; released = []; held = [] }

abbrev pub is_among : List ℕ → ℕ → Bool
is_among ns n = list_any (λ m. m == n) ns

-- the others, in their order
abbrev pub without : ℕ → List ℕ → List ℕ
without n ns = filter (λ m. not (m == n)) ns

-- ---- Own publishes

-- how many own publishes are open
abbrev pub open_count : Deliveries → ℕ
open_count d = length d.at_least_once + length d.exactly_once + length d.released

abbrev pub stage_of : Deliveries → ℕ → Option Stage
stage_of d n =
    if is_among d.at_least_once n then Some Sent1
    else if is_among d.exactly_once n then Some Sent2
    else if is_among d.released n then Some Released
    else None

-- behind the first PUBLISH of identifier n
abbrev pub started : ℕ → Qos → Deliveries → Deliveries
started n AtMostOnce d = d
started n AtLeastOnce d = record d { at_least_once = d.at_least_once ++ n ∷ [] }
started n ExactlyOnce d = record d { exactly_once = d.exactly_once ++ n ∷ [] }

-- What an acknowledgement asks for, by the stage of its identifier (sections 4.3.2 and 4.3.3).
abbrev pub answer : AckKind → Option Stage → AckAnswer
answer PubAck None = Passed
answer PubAck (Some Sent1) = Finished
answer PubAck (Some Sent2) = Passed
answer PubAck (Some Released) = Passed
answer PubRec None = Passed
answer PubRec (Some Sent1) = Passed
answer PubRec (Some Sent2) = Release
answer PubRec (Some Released) = Release
answer PubComp None = Passed
answer PubComp (Some Sent1) = Passed
answer PubComp (Some Sent2) = Passed
answer PubComp (Some Released) = Finished

-- no open publish has the identifier n
abbrev pub freed : ℕ → Deliveries → Deliveries
freed n d = record d { at_least_once = without n d.at_least_once; exactly_once = without n d.exactly_once; released = without n d.released }

-- n is the last of the released ones
abbrev pub released_last : ℕ → Deliveries → Deliveries
released_last n d = record d { exactly_once = without n d.exactly_once; released = d.released ++ n ∷ [] }

-- behind an acknowledgement of identifier n, by the stage before it
abbrev pub acknowledged : AckKind → ℕ → Option Stage → Deliveries → Deliveries
acknowledged PubAck n None d = d
acknowledged PubAck n (Some Sent1) d = freed n d
acknowledged PubAck n (Some Sent2) d = d
acknowledged PubAck n (Some Released) d = d
acknowledged PubRec n None d = d
acknowledged PubRec n (Some Sent1) d = d
acknowledged PubRec n (Some Sent2) d = released_last n d
acknowledged PubRec n (Some Released) d = d
acknowledged PubComp n None d = d
acknowledged PubComp n (Some Sent1) d = d
acknowledged PubComp n (Some Sent2) d = d
acknowledged PubComp n (Some Released) d = freed n d

-- ---- Publishes that come

-- What a QoS 2 PUBLISH of identifier n asks for, where there is room to hold so many (section 4.3.3).
abbrev pub arrival : ℕ → Deliveries → ℕ → Received
arrival room d n = if is_among d.held n then Repeat else if nat_lt (length d.held) room then New else Full

abbrev pub received : Received → ℕ → Deliveries → Deliveries
received New n d = record d { held = d.held ++ n ∷ [] }
received Repeat n d = d
received Full n d = d

-- behind a PUBREL of identifier n
abbrev pub unheld : ℕ → Deliveries → Deliveries
unheld n d = record d { held = without n d.held }

-- behind the loss of the session
abbrev pub none_held : Deliveries → Deliveries
none_held d = record d { held = [] }
