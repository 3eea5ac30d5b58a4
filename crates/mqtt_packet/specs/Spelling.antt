-- How a control packet is spelled in bytes (MQTT 3.1.1, chapters 2 and 3), as a function of the packet, and which
-- packets have a spelling.
use Rattle.std.specs.Prelude.{ℕ, zero, suc, ◌+◌, ◌*◌, ◌/◌, ◌%◌, ◌<◌, Bool, true, false, ◌&&◌, ◌||◌, not, ◌==◌, nat_lt, nat_le, List, [], ◌∷◌, ◌++◌, length, Option, Some, None, is_some, if◌then◌else◌, codes}
use Rattle.std.specs.Int.{to_be_bytes}
use Rattle.std.specs.List.{list_any, list_all, flat_map}
use Rattle.std.specs.Str.{is_utf8}
use mir.Syntax.{w16}
use Rattle.mqtt_packet.specs.declared.qos.Qos.{Qos}
use Rattle.mqtt_packet.specs.declared.qos.Qos.TheVariants.{AtMostOnce, AtLeastOnce, ExactlyOnce}
use Rattle.mqtt_packet.specs.declared.packet.Packet.{Packet}
use Rattle.mqtt_packet.specs.declared.packet.Packet.TheVariants as p
use Rattle.mqtt_packet.specs.declared.will.Ask.{Ask}
use Rattle.mqtt_packet.specs.declared.will.Will.{Will}
use Rattle.mqtt_packet.specs.Flags.{bit, level}

-- the first byte of a PUBLISH (section 3.3.1)
abbrev pub publish_first : Bool → Qos → Bool → ℕ
publish_first dup qos retain = 48 + 8 * bit dup + 2 * level qos + bit retain

-- the first byte: the type in the high nibble and the flags in the low one (section 2.2)
abbrev pub first : Packet → ℕ
first (p.Connect clean keep_alive client will user password) = 16
first (p.ConnAck present code) = 32
first (p.Publish dup qos retain topic id payload) = publish_first dup qos retain
first (p.PubAck id) = 64
first (p.PubRec id) = 80
first (p.PubRel id) = 98
first (p.PubComp id) = 112
first (p.Subscribe id asks) = 130
first (p.SubAck id return_codes) = 144
first (p.Unsubscribe id filters) = 162
first (p.UnsubAck id) = 176
first p.PingReq = 192
first p.PingResp = 208
first p.Disconnect = 224

-- a number of two bytes, the high one first (section 1.5.2)
abbrev pub number : ℕ → List ℕ
number n = to_be_bytes w16 n

-- a string or binary data behind its length (section 1.5.3)
abbrev pub string : List ℕ → List ℕ
string bytes = number (length bytes) ++ bytes

-- protocol name `MQTT` and level 4 (sections 3.1.2.1 and 3.1.2.2)
abbrev pub protocol : List ℕ
protocol = string (codes "MQTT") ++ 4 ∷ []

-- the will's bits of the connect flags (sections 3.1.2.5 to 3.1.2.7)
abbrev pub will_flags : Option Will → ℕ
will_flags None = 0
will_flags (Some will) = 4 + 8 * level will.qos + 32 * bit will.retain

-- the connect flags (section 3.1.2.3)
abbrev pub connect_flags : Bool → Option Will → Option (List ℕ) → Option (List ℕ) → ℕ
connect_flags clean will user password = 2 * bit clean + will_flags will + 64 * bit (is_some password) + 128 * bit (is_some user)

-- the will's topic and message (sections 3.1.3.2 and 3.1.3.3)
abbrev pub will_part : Option Will → List ℕ
will_part None = []
will_part (Some will) = string will.topic ++ string will.message

-- a user name or a password (sections 3.1.3.4 and 3.1.3.5)
abbrev pub optional : Option (List ℕ) → List ℕ
optional None = []
optional (Some content) = string content

-- the payload behind the client identifier (section 3.1.3)
abbrev pub extras : Option Will → Option (List ℕ) → Option (List ℕ) → List ℕ
extras will user password = will_part will ++ (optional user ++ optional password)

abbrev pub connect_body : Bool → ℕ → List ℕ → Option Will → Option (List ℕ) → Option (List ℕ) → List ℕ
connect_body clean keep_alive client will user password =
    protocol ++ (connect_flags clean will user password) ∷ [] ++ number keep_alive ++ string client ++ extras will user password

-- the identifier, which a PUBLISH has above quality of service 0 (section 3.3.2.2)
abbrev pub identifier_for : Qos → ℕ → List ℕ
identifier_for AtMostOnce id = []
identifier_for AtLeastOnce id = number id
identifier_for ExactlyOnce id = number id

abbrev pub publish_body : Qos → List ℕ → ℕ → List ℕ → List ℕ
publish_body qos topic id payload = string topic ++ identifier_for qos id ++ payload

-- a filter and the quality of service that is asked for it (section 3.8.3)
abbrev pub ask_bytes : Ask → List ℕ
ask_bytes ask = string ask.filter ++ level ask.qos ∷ []

-- what stands behind the remaining length
abbrev pub body : Packet → List ℕ
body (p.Connect clean keep_alive client will user password) = connect_body clean keep_alive client will user password
body (p.ConnAck present code) = bit present ∷ code ∷ []
body (p.Publish dup qos retain topic id payload) = publish_body qos topic id payload
body (p.PubAck id) = number id
body (p.PubRec id) = number id
body (p.PubRel id) = number id
body (p.PubComp id) = number id
body (p.Subscribe id asks) = number id ++ flat_map ask_bytes asks
body (p.SubAck id return_codes) = number id ++ return_codes
body (p.Unsubscribe id filters) = number id ++ flat_map string filters
body (p.UnsubAck id) = number id
body p.PingReq = []
body p.PingResp = []
body p.Disconnect = []

-- a number of at most k groups of 7 bits, the low group first; bit 7 says that another byte follows
unfoldable pub groups : ℕ → ℕ → List ℕ
groups zero n = []
groups (suc k) n = if nat_lt n 128 then n ∷ [] else (n % 128 + 128) ∷ groups k (n / 128)

-- the remaining length (section 2.2.3)
abbrev pub remaining : ℕ → List ℕ
remaining n = groups 4 n

abbrev pub frame : ℕ → List ℕ → List ℕ
frame head bytes = head ∷ remaining (length bytes) ++ bytes

abbrev pub spelling : Packet → List ℕ
spelling packet = frame (first packet) (body packet)

-- a string in UTF-8 without U+0000 (section 1.5.3)
abbrev pub is_string : List ℕ → Bool
is_string bytes = nat_lt (length bytes) 65536 && is_utf8 bytes && not (list_any (λ b. b == 0) bytes)

-- binary data, behind its length of two bytes
abbrev pub is_data : List ℕ → Bool
is_data bytes = nat_lt (length bytes) 65536

abbrev pub is_identifier : ℕ → Bool
is_identifier id = not (id == 0)

-- the identifier is 0 exactly at quality of service 0, where there is no repeat either (sections 3.3.1.1 and 2.3.1)
abbrev pub is_delivery : Bool → Qos → ℕ → Bool
is_delivery dup AtMostOnce id = id == 0 && not dup
is_delivery dup AtLeastOnce id = is_identifier id
is_delivery dup ExactlyOnce id = is_identifier id

abbrev pub is_will : Option Will → Bool
is_will None = true
is_will (Some will) = is_string will.topic && is_data will.message

-- a user name, and a password only beside one (section 3.1.2.9)
abbrev pub are_credentials : Option (List ℕ) → Option (List ℕ) → Bool
are_credentials None None = true
are_credentials None (Some password) = false
are_credentials (Some user) None = is_string user
are_credentials (Some user) (Some password) = is_string user && is_data password

abbrev pub is_ask : Ask → Bool
is_ask ask = is_string ask.filter

-- 0, 1 and 2 grant a quality of service, 128 refuses (section 3.9.3)
abbrev pub is_return_code : ℕ → Bool
is_return_code code = nat_le code 2 || code == 128

abbrev pub has_some : {X : Type 0} → List X → Bool
has_some xs = not (length xs == 0)

-- the fields are in their ranges
abbrev pub has_fields : Packet → Bool
has_fields (p.Connect clean keep_alive client will user password) = are_credentials user password && (is_will will && is_string client)
has_fields (p.ConnAck present code) = nat_le code 5 && (code == 0 || not present)
has_fields (p.Publish dup qos retain topic id payload) = is_string topic && is_delivery dup qos id
has_fields (p.PubAck id) = is_identifier id
has_fields (p.PubRec id) = is_identifier id
has_fields (p.PubRel id) = is_identifier id
has_fields (p.PubComp id) = is_identifier id
has_fields (p.Subscribe id asks) = is_identifier id && (has_some asks && list_all is_ask asks)
has_fields (p.SubAck id return_codes) = is_identifier id && (has_some return_codes && list_all is_return_code return_codes)
has_fields (p.Unsubscribe id filters) = is_identifier id && (has_some filters && list_all is_string filters)
has_fields (p.UnsubAck id) = is_identifier id
has_fields p.PingReq = true
has_fields p.PingResp = true
has_fields p.Disconnect = true

-- Whether a packet has a spelling: its fields are in their ranges, and it has at most 262,144 bytes. This is the packet
-- limit of this project.
abbrev pub is_sound : Packet → Bool
is_sound packet = has_fields packet && nat_le (length (spelling packet)) 262144

-- The numbers of a packet fit their types, as those of each value in the program do.
abbrev pub IsOfItsTypes : Packet → Type 0
IsOfItsTypes (p.Connect clean keep_alive client will user password) = keep_alive < 65536
IsOfItsTypes (p.ConnAck present code) = Unit {0}
IsOfItsTypes (p.Publish dup qos retain topic id payload) = id < 65536
IsOfItsTypes (p.PubAck id) = id < 65536
IsOfItsTypes (p.PubRec id) = id < 65536
IsOfItsTypes (p.PubRel id) = id < 65536
IsOfItsTypes (p.PubComp id) = id < 65536
IsOfItsTypes (p.Subscribe id asks) = id < 65536
IsOfItsTypes (p.SubAck id return_codes) = id < 65536
IsOfItsTypes (p.Unsubscribe id filters) = id < 65536
IsOfItsTypes (p.UnsubAck id) = id < 65536
IsOfItsTypes p.PingReq = Unit {0}
IsOfItsTypes p.PingResp = Unit {0}
IsOfItsTypes p.Disconnect = Unit {0}
