-- Where the broker has the session of its one client, and which identifiers it has received there.
use Rattle.std.specs.Prelude.{◌≡◌, ℕ, Bool, true, false, List, [], ◌∷◌}
use Rattle.mqtt_packet.specs.declared.packet.Packet.{Packet}
use Rattle.mqtt_packet.specs.declared.packet.Packet.TheVariants as p
use Rattle.broker_core.specs.declared.link.Link.{Link}
use Rattle.broker_core.specs.declared.link.Link.TheVariants.{Gone, Opened, Accepted}
use Rattle.broker_core.specs.Kept.{Kept}
use Rattle.broker_core.specs.Session.{Session}

abbrev pub IsOwn : List ℕ → List Session → Type 0
IsOwn client [] = Unit {0}
IsOwn client (session ∷ []) = session.client ≡ client
IsOwn client (session ∷ other ∷ sessions) = ⊥

-- There is none but the client's, which outlives connections: on the connection, or without one.
abbrev pub IsHomeOn : List ℕ → Link → List Session → Type 0
IsHomeOn client Gone others = IsOwn client others
IsHomeOn client Opened others = IsOwn client others
IsHomeOn client (Accepted clean session) others = (clean ≡ false) × (session.client ≡ client) × (others ≡ [])

abbrev pub IsHome : List ℕ → Kept → Type 0
IsHome client k = IsHomeOn client k.link k.others

abbrev pub some_session : List Session → Bool
some_session [] = false
some_session (session ∷ sessions) = true

abbrev pub has_session_on : Link → List Session → Bool
has_session_on Gone others = some_session others
has_session_on Opened others = some_session others
has_session_on (Accepted clean session) others = true

abbrev pub has_session : Kept → Bool
has_session k = has_session_on k.link k.others

-- the identifiers of the QoS 2 PUBLISHes that came in it and whose PUBREL didn't
abbrev pub received_first : List Session → List ℕ
received_first [] = []
received_first (session ∷ sessions) = session.received

abbrev pub received_in : Link → List Session → List ℕ
received_in Gone others = received_first others
received_in Opened others = received_first others
received_in (Accepted clean session) others = session.received

abbrev pub received_of : Kept → List ℕ
received_of k = received_in k.link k.others

-- ---- CONNECT and CONNACK

-- a CONNECT is the client's, for a session that outlives the connection
abbrev pub IsOwnConnect : List ℕ → Packet → Type 0
IsOwnConnect client (p.Connect clean keep_alive id will user password) = (clean ≡ false) × (id ≡ client)
IsOwnConnect client _ = Unit {0}

abbrev pub is_connect : Packet → Bool
is_connect (p.Connect clean keep_alive client will user password) = true
is_connect _ = false

abbrev pub is_connack : Packet → Bool
is_connack (p.ConnAck present code) = true
is_connack _ = false
