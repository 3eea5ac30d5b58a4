-- Which bytes spell a control packet (MQTT 3.1.1, chapters 1.5, 2 and 3): a relation between a packet and a whole list of
-- bytes. It says nothing of how packets are written or read.
use Rattle.std.specs.Prelude.{◌≡◌, ◌⊎◌, ℕ, zero, suc, ◌+◌, ◌*◌, ◌<◌, ◌≤◌, Bool, false, List, [], ◌∷◌, ◌++◌, length, Option, Some, None, is_some, codes, IsUtf8}
use Rattle.std.specs.List.{Contains}
use Rattle.mqtt_packet.specs.declared.qos.Qos.{Qos}
use Rattle.mqtt_packet.specs.declared.qos.Qos.TheVariants.{AtMostOnce, AtLeastOnce, ExactlyOnce}
use Rattle.mqtt_packet.specs.declared.packet.Packet.{Packet}
use Rattle.mqtt_packet.specs.declared.packet.Packet.TheVariants as p
use Rattle.mqtt_packet.specs.declared.will.Ask.{Ask}
use Rattle.mqtt_packet.specs.declared.will.Will.{Will}
use Rattle.mqtt_packet.specs.Flags.{bit, level}

-- ---- Data representations (section 1.5)

-- a number of two bytes, the high one first (section 1.5.2)
abbrev pub IsNumber : List ℕ → ℕ → Type 0
IsNumber [] n = ⊥
IsNumber (a ∷ []) n = ⊥
IsNumber (high ∷ low ∷ []) n = (high < 256) × (low < 256) × (n ≡ 256 * high + low)
IsNumber (a ∷ b ∷ c ∷ bytes) n = ⊥

-- binary data behind its length (sections 3.1.3.3 and 3.1.3.5)
abbrev pub IsData : List ℕ → List ℕ → Type 0
IsData bytes content = (len : List ℕ) × IsNumber len (length content) × (bytes ≡ len ++ content)

-- UTF-8 without U+0000 (section 1.5.3, MQTT-1.5.3-1 and MQTT-1.5.3-2)
abbrev pub IsText : List ℕ → Type 0
IsText text = IsUtf8 text × (Contains text 0 → ⊥)

-- a string behind its length (section 1.5.3)
abbrev pub IsString : List ℕ → List ℕ → Type 0
IsString bytes text = IsData bytes text × IsText text

-- ---- Fixed header (section 2.2)

-- the type of a packet (section 2.2.1, table 2.1)
abbrev pub type_of : Packet → ℕ
type_of (p.Connect clean keep_alive client will user password) = 1
type_of (p.ConnAck present code) = 2
type_of (p.Publish dup qos retain topic id payload) = 3
type_of (p.PubAck id) = 4
type_of (p.PubRec id) = 5
type_of (p.PubRel id) = 6
type_of (p.PubComp id) = 7
type_of (p.Subscribe id asks) = 8
type_of (p.SubAck id return_codes) = 9
type_of (p.Unsubscribe id filters) = 10
type_of (p.UnsubAck id) = 11
type_of p.PingReq = 12
type_of p.PingResp = 13
type_of p.Disconnect = 14

-- the flags of a packet (section 2.2.2, table 2.2): DUP in bit 3, the quality of service in bits 2 and 1, RETAIN in bit 0
abbrev pub flags_of : Packet → ℕ
flags_of (p.Connect clean keep_alive client will user password) = 0
flags_of (p.ConnAck present code) = 0
flags_of (p.Publish dup qos retain topic id payload) = 8 * bit dup + 2 * level qos + bit retain
flags_of (p.PubAck id) = 0
flags_of (p.PubRec id) = 0
flags_of (p.PubRel id) = 2
flags_of (p.PubComp id) = 0
flags_of (p.Subscribe id asks) = 2
flags_of (p.SubAck id return_codes) = 0
flags_of (p.Unsubscribe id filters) = 2
flags_of (p.UnsubAck id) = 0
flags_of p.PingReq = 0
flags_of p.PingResp = 0
flags_of p.Disconnect = 0

-- the first byte: the type in the high nibble, the flags in the low one
abbrev pub IsHead : Packet → ℕ → Type 0
IsHead packet head = head ≡ 16 * type_of packet + flags_of packet

-- The remaining length (section 2.2.3), of at most k bytes. A byte below 128 is the last and stands for itself. One from
-- 128 on has the low seven bits, and the bytes behind it stand for the rest. That this rest isn't 0, so that each number
-- has its shortest form alone, is a rule of this project.
abbrev pub IsLengthIn : ℕ → List ℕ → ℕ → Type 0
IsLengthIn zero bytes n = ⊥
IsLengthIn (suc k) [] n = ⊥
IsLengthIn (suc k) (b ∷ []) n = (b < 128) × (n ≡ b)
IsLengthIn (suc k) (b ∷ c ∷ bytes) n = (128 ≤ b) × (b < 256) × (high : ℕ) × (0 < high) × (n + 128 ≡ b + 128 * high) × IsLengthIn k (c ∷ bytes) high

abbrev pub IsLength : List ℕ → ℕ → Type 0
IsLength bytes n = IsLengthIn 4 bytes n

-- ---- Variable header and payload

-- a packet identifier, which isn't 0 (section 2.3.1, MQTT-2.3.1-1)
abbrev pub IsIdentifier : List ℕ → ℕ → Type 0
IsIdentifier bytes id = IsNumber bytes id × (0 < id)

-- the parts of a CONNECT's payload that a flag calls for (section 3.1.3)
abbrev pub IsStringWhereSome : List ℕ → Option (List ℕ) → Type 0
IsStringWhereSome bytes None = bytes ≡ []
IsStringWhereSome bytes (Some text) = IsString bytes text

abbrev pub IsDataWhereSome : List ℕ → Option (List ℕ) → Type 0
IsDataWhereSome bytes None = bytes ≡ []
IsDataWhereSome bytes (Some content) = IsData bytes content

-- the will's topic and message (sections 3.1.3.2 and 3.1.3.3)
abbrev pub IsWillWhereSome : List ℕ → Option Will → Type 0
IsWillWhereSome bytes None = bytes ≡ []
IsWillWhereSome bytes (Some will) = (topic message : List ℕ) × (bytes ≡ topic ++ message) × IsString topic will.topic × IsData message will.message

-- will flag, will quality of service and will retain, the last two 0 without a will (sections 3.1.2.5 to 3.1.2.7)
abbrev pub will_bits : Option Will → ℕ
will_bits None = 0
will_bits (Some will) = 32 * bit will.retain + 8 * level will.qos + 4

-- the connect flags (section 3.1.2.3); bit 0 is reserved and 0
abbrev pub AreConnectFlags : ℕ → Bool → Option Will → Option (List ℕ) → Option (List ℕ) → Type 0
AreConnectFlags flags clean will user password = flags ≡ 128 * bit (is_some user) + 64 * bit (is_some password) + will_bits will + 2 * bit clean

-- no password without a user name (section 3.1.2.9, MQTT-3.1.2-22)
abbrev pub HasUserForPassword : Option (List ℕ) → Option (List ℕ) → Type 0
HasUserForPassword user None = Unit {0}
HasUserForPassword (Some user) (Some password) = Unit {0}
HasUserForPassword None (Some password) = ⊥

-- CONNECT (section 3.1): protocol name, protocol level 4, connect flags, keep alive, client identifier, will, user name, password
abbrev pub IsConnect : Bool → ℕ → List ℕ → Option Will → Option (List ℕ) → Option (List ℕ) → List ℕ → Type 0
IsConnect clean keep_alive client will user password bytes =
    (protocol : List ℕ) × (flags : ℕ) × (seconds name wills users passwords : List ℕ)
    × (bytes ≡ protocol ++ 4 ∷ flags ∷ (seconds ++ (name ++ (wills ++ (users ++ passwords)))))
    × IsString protocol (codes "MQTT")
    × AreConnectFlags flags clean will user password
    × IsNumber seconds keep_alive
    × IsString name client
    × IsWillWhereSome wills will
    × IsStringWhereSome users user
    × IsDataWhereSome passwords password
    × HasUserForPassword user password

-- CONNACK (section 3.2): session present in bit 0, and a return code of table 3.1; with a code above 0 no session is
-- present (MQTT-3.2.2-4)
abbrev pub IsConnAck : Bool → ℕ → List ℕ → Type 0
IsConnAck present code bytes = (bytes ≡ bit present ∷ code ∷ []) × (code ≤ 5) × ((code ≡ 0) ⊎ (present ≡ false))

-- the identifier, which a PUBLISH has above quality of service 0 (section 3.3.2.2)
abbrev pub IsIdentifierAt : Qos → List ℕ → ℕ → Type 0
IsIdentifierAt AtMostOnce bytes id = (bytes ≡ []) × (id ≡ 0)
IsIdentifierAt AtLeastOnce bytes id = IsIdentifier bytes id
IsIdentifierAt ExactlyOnce bytes id = IsIdentifier bytes id

-- DUP is 0 at quality of service 0 (section 3.3.1.1, MQTT-3.3.1-2)
abbrev pub MayRepeat : Qos → Bool → Type 0
MayRepeat AtMostOnce dup = dup ≡ false
MayRepeat AtLeastOnce dup = Unit {0}
MayRepeat ExactlyOnce dup = Unit {0}

-- PUBLISH (section 3.3): topic, identifier, payload. Which strings are names of topics is no matter of its spelling.
abbrev pub IsPublish : Bool → Qos → List ℕ → ℕ → List ℕ → List ℕ → Type 0
IsPublish dup qos topic id payload bytes =
    (name number : List ℕ) × (bytes ≡ name ++ (number ++ payload)) × IsString name topic × IsIdentifierAt qos number id × MayRepeat qos dup

-- pairs of a filter and the quality of service that is asked for it (section 3.8.3)
abbrev pub AreAsks : List Ask → List ℕ → Type 0
AreAsks [] bytes = bytes ≡ []
AreAsks (ask ∷ asks) bytes = (filter rest : List ℕ) × (bytes ≡ filter ++ level ask.qos ∷ rest) × IsString filter ask.filter × AreAsks asks rest

-- filters (section 3.10.3)
abbrev pub AreFilters : List (List ℕ) → List ℕ → Type 0
AreFilters [] bytes = bytes ≡ []
AreFilters (filter ∷ filters) bytes = (name rest : List ℕ) × (bytes ≡ name ++ rest) × IsString name filter × AreFilters filters rest

-- return codes (section 3.9.3): the quality of service that is granted, or 128 for a failure
abbrev pub AreReturnCodes : List ℕ → Type 0
AreReturnCodes [] = Unit {0}
AreReturnCodes (code ∷ return_codes) = ((code ≤ 2) ⊎ (code ≡ 128)) × AreReturnCodes return_codes

-- an identifier, then a list with at least one member (MQTT-3.8.3-3, MQTT-3.10.3-2, and section 3.9.3)
abbrev pub IsList : {X : Type 0} → ℕ → List X → (List ℕ → Type 0) → List ℕ → Type 0
IsList id xs Are bytes = (number rest : List ℕ) × (bytes ≡ number ++ rest) × IsIdentifier number id × (0 < length xs) × Are rest

-- what stands behind the remaining length
abbrev pub IsBody : Packet → List ℕ → Type 0
IsBody (p.Connect clean keep_alive client will user password) bytes = IsConnect clean keep_alive client will user password bytes
IsBody (p.ConnAck present code) bytes = IsConnAck present code bytes
IsBody (p.Publish dup qos retain topic id payload) bytes = IsPublish dup qos topic id payload bytes
IsBody (p.PubAck id) bytes = IsIdentifier bytes id
IsBody (p.PubRec id) bytes = IsIdentifier bytes id
IsBody (p.PubRel id) bytes = IsIdentifier bytes id
IsBody (p.PubComp id) bytes = IsIdentifier bytes id
IsBody (p.Subscribe id asks) bytes = IsList id asks (AreAsks asks) bytes
IsBody (p.SubAck id return_codes) bytes = IsList id return_codes (λ rest. (rest ≡ return_codes) × AreReturnCodes return_codes) bytes
IsBody (p.Unsubscribe id filters) bytes = IsList id filters (AreFilters filters) bytes
IsBody (p.UnsubAck id) bytes = IsIdentifier bytes id
IsBody p.PingReq bytes = bytes ≡ []
IsBody p.PingResp bytes = bytes ≡ []
IsBody p.Disconnect bytes = bytes ≡ []

-- The bytes are the spelling of the packet: its first byte, the remaining length, and that many bytes; 262,144 bytes at
-- most. This limit is the project's own.
abbrev pub Spells : Packet → List ℕ → Type 0
Spells packet [] = ⊥
Spells packet (head ∷ bytes) =
    IsHead packet head × (len body : List ℕ) × (bytes ≡ len ++ body) × IsLength len (length body) × IsBody packet body × (1 + length bytes ≤ 262144)

abbrev pub HasSpelling : Packet → Type 0
HasSpelling packet = (bytes : List ℕ) × Spells packet bytes
