-- What bytes read as, as functions from lists of bytes. A reading is `None` where the bytes aren't in the grammar.
use Rattle.std.specs.Prelude.{◌≡◌, ℕ, zero, suc, ◌+◌, ◌-◌, ◌*◌, ◌/◌, ◌%◌, Bool, true, ◌&&◌, ◌||◌, not, ◌==◌, nat_eq, nat_lt, nat_le, List, [], ◌∷◌, length, take, drop, Option, Some, None, Result, Ok, Err, is_some, if◌then◌else◌}
use Rattle.std.specs.Int.{from_be_bytes}
use Rattle.std.specs.List.{list_all, starts_with}
use mir.Syntax.{w16}
use Rattle.mqtt_packet.specs.declared.qos.Qos.{Qos}
use Rattle.mqtt_packet.specs.declared.qos.Qos.TheVariants.{AtMostOnce, AtLeastOnce, ExactlyOnce}
use Rattle.mqtt_packet.specs.declared.packet.Packet.{Packet}
use Rattle.mqtt_packet.specs.declared.packet.Packet.TheVariants as p
use Rattle.mqtt_packet.specs.declared.will.Ask.{Ask}
use Rattle.mqtt_packet.specs.declared.will.Will.{Will}
use Rattle.mqtt_packet.specs.declared.refusal.Refusal.{Refusal}
use Rattle.mqtt_packet.specs.declared.refusal.Refusal.TheVariants as refusals
use Rattle.mqtt_packet.specs.declared.kind.Kind.{Kind}
use Rattle.mqtt_packet.specs.declared.kind.Kind.TheVariants as kinds
use Rattle.mqtt_packet.specs.declared.remaining.Remaining.{Remaining}
use Rattle.mqtt_packet.specs.declared.remaining.Remaining.TheVariants.{Is, Part, Wrong}
use Rattle.mqtt_packet.specs.Spelling.{protocol, connect_flags, is_string, is_return_code, has_some}

-- Seen by view, an answer is the reading, and Bad exactly where there is none. Want of memory says nothing.
abbrev pub Gives : {X Y : Type 0} → (X → Y) → Result X Refusal → Option Y → Type 0
Gives view (Ok x) read = read ≡ Some (view x)
Gives view (Err refusals.Bad) read = read ≡ None
Gives view (Err refusals.Memory) read = Unit {0}

-- what a reading leads to, where there is one
infixl 10 ◌>>=◌
abbrev pub ◌>>=◌ : {A B : Type 0} → Option A → (A → Option B) → Option B
None >>= next = None
(Some x) >>= next = next x

-- ---- Data (section 1.5): a value, and the bytes behind it

unfoldable pub byte_at : List ℕ → Option (ℕ × List ℕ)
byte_at [] = None
byte_at (byte ∷ rest) = Some (byte, rest)

unfoldable pub number_at : List ℕ → Option (ℕ × List ℕ)
number_at [] = None
number_at (a ∷ []) = None
number_at (high ∷ low ∷ rest) = Some (from_be_bytes w16 (high ∷ low ∷ []), rest)

unfoldable pub data_at : List ℕ → Option (List ℕ × List ℕ)
data_at bytes = do
  n ← number_at bytes
  if nat_lt (length n.1) n.0 then None else Some (take n.0 n.1, drop n.0 n.1)

unfoldable pub string_at : List ℕ → Option (List ℕ × List ℕ)
string_at bytes = do
  text ← data_at bytes
  if is_string text.0 then Some text else None

-- an identifier, which isn't 0 (section 2.3.1)
unfoldable pub identifier_at : List ℕ → Option (ℕ × List ℕ)
identifier_at bytes = do
  id ← number_at bytes
  if id.0 == 0 then None else Some id

-- all of the bytes: nothing stands behind
abbrev pub whole : {A : Type 0} → A → List ℕ → Option A
whole x [] = Some x
whole x (b ∷ bytes) = None

-- one after another to the end, at most so many; each takes a byte at least
unfoldable pub items_in : {A : Type 0} → (List ℕ → Option (A × List ℕ)) → ℕ → List ℕ → Option (List A)
items_in item most [] = Some []
items_in item zero (b ∷ bytes) = None
items_in item (suc most) (b ∷ bytes) = do
  first ← item (b ∷ bytes)
  others ← items_in item most first.1
  Some (first.0 ∷ others)

-- at least one
unfoldable pub some_items : {A : Type 0} → (List ℕ → Option (A × List ℕ)) → List ℕ → Option (List A)
some_items item bytes = if has_some bytes then items_in item (length bytes) bytes else None

-- ---- First byte and remaining length (section 2.2)

unfoldable pub qos_of : ℕ → Option Qos
qos_of n = if n == 0 then Some AtMostOnce else if n == 1 then Some AtLeastOnce else if n == 2 then Some ExactlyOnce else None

abbrev pub may_repeat : Qos → Bool → Bool
may_repeat AtMostOnce dup = not dup
may_repeat AtLeastOnce dup = true
may_repeat ExactlyOnce dup = true

-- no quality of service 3, and no DUP at quality of service 0 (sections 3.3.1.1 and 3.3.1.2)
unfoldable pub publish_kind : ℕ → Option Kind
publish_kind head = do
  qos ← qos_of (head / 2 % 4)
  if may_repeat qos (head / 8 % 2 == 1) then Some (kinds.Publish (head / 8 % 2 == 1) qos (head % 2 == 1)) else None

-- the kind of packet that a first byte begins
unfoldable pub kind_of : ℕ → Option Kind
kind_of head =
    if head == 16 then Some kinds.Connect
    else if head == 32 then Some kinds.ConnAck
    else if nat_le 48 head && nat_le head 63 then publish_kind head
    else if head == 64 then Some kinds.PubAck
    else if head == 80 then Some kinds.PubRec
    else if head == 98 then Some kinds.PubRel
    else if head == 112 then Some kinds.PubComp
    else if head == 130 then Some kinds.Subscribe
    else if head == 144 then Some kinds.SubAck
    else if head == 162 then Some kinds.Unsubscribe
    else if head == 176 then Some kinds.UnsubAck
    else if head == 192 then Some kinds.PingReq
    else if head == 208 then Some kinds.PingResp
    else if head == 224 then Some kinds.Disconnect
    else None

-- a byte from 128 on, in front of the rest of a remaining length
abbrev pub behind : ℕ → Remaining → Remaining
behind b (Is n count) = if n == 0 then Wrong else Is (b - 128 + 128 * n) (count + 1)
behind b Part = Part
behind b Wrong = Wrong

-- the remaining length in front, of at most so many bytes (section 2.2.3)
unfoldable pub remaining_in : ℕ → List ℕ → Remaining
remaining_in zero bytes = Wrong
remaining_in (suc most) [] = Part
remaining_in (suc most) (b ∷ bytes) = if nat_lt b 128 then Is b 1 else behind b (remaining_in most bytes)

-- ---- What stands behind the remaining length (chapter 3)

-- the will's topic and message (sections 3.1.3.2 and 3.1.3.3)
unfoldable pub will_at : ℕ → List ℕ → Option (Option Will × List ℕ)
will_at flags bytes = do
  qos ← qos_of (flags / 8 % 4)
  topic ← string_at bytes
  message ← data_at topic.1
  Some (Some (record { topic = topic.0; message = message.0; qos = qos; retain = flags / 32 % 2 == 1 }), message.1)

-- the user name and the password (sections 3.1.3.4 and 3.1.3.5)
unfoldable pub user_at : List ℕ → Option (Option (List ℕ) × List ℕ)
user_at bytes = do
  user ← string_at bytes
  Some (Some user.0, user.1)

unfoldable pub password_at : List ℕ → Option (Option (List ℕ) × List ℕ)
password_at bytes = do
  password ← data_at bytes
  Some (Some password.0, password.1)

-- each where it is flagged (sections 3.1.2.5 to 3.1.2.9)
unfoldable pub will_for : ℕ → List ℕ → Option (Option Will × List ℕ)
will_for flags bytes = if flags / 4 % 2 == 1 then will_at flags bytes else Some (None, bytes)

unfoldable pub user_for : ℕ → List ℕ → Option (Option (List ℕ) × List ℕ)
user_for flags bytes = if flags / 128 % 2 == 1 then user_at bytes else Some (None, bytes)

unfoldable pub password_for : ℕ → List ℕ → Option (Option (List ℕ) × List ℕ)
password_for flags bytes = if flags / 64 % 2 == 1 then password_at bytes else Some (None, bytes)

-- a password stands only beside a user name (section 3.1.2.9)
abbrev pub is_allowed : Option (List ℕ) → Option (List ℕ) → Bool
is_allowed user password = is_some user || not (is_some password)

-- Nothing stands behind, and the flags are those of what was read: without a will its quality of service and its retain
-- are 0, and so is the reserved bit.
unfoldable pub connect_with : ℕ → ℕ → List ℕ → Option Will → Option (List ℕ) → Option (List ℕ) → List ℕ → Option Packet
connect_with flags keep_alive client will user password rest =
    if has_some rest then None
    else if flags == connect_flags (flags / 2 % 2 == 1) will user password && is_allowed user password then Some (p.Connect (flags / 2 % 2 == 1) keep_alive client will user password)
    else None

unfoldable pub connect_behind : List ℕ → Option Packet
connect_behind bytes = do
  flags ← byte_at bytes
  keep_alive ← number_at flags.1
  client ← string_at keep_alive.1
  will ← will_for flags.0 client.1
  user ← user_for flags.0 will.1
  password ← password_for flags.0 user.1
  connect_with flags.0 keep_alive.0 client.0 will.0 user.0 password.0 password.1

unfoldable pub connect_of : List ℕ → Option Packet
connect_of bytes = if starts_with nat_eq bytes protocol then connect_behind (drop 7 bytes) else None

unfoldable pub connack_of : List ℕ → Option Packet
connack_of [] = None
connack_of (flags ∷ []) = None
connack_of (flags ∷ code ∷ []) = if nat_le flags 1 && (nat_le code 5 && (code == 0 || flags == 0)) then Some (p.ConnAck (flags == 1) code) else None
connack_of (flags ∷ code ∷ b ∷ bytes) = None

unfoldable pub identifier_for : Qos → List ℕ → Option (ℕ × List ℕ)
identifier_for AtMostOnce bytes = Some (0, bytes)
identifier_for AtLeastOnce bytes = identifier_at bytes
identifier_for ExactlyOnce bytes = identifier_at bytes

unfoldable pub publish_of : Bool → Qos → Bool → List ℕ → Option Packet
publish_of dup qos retain bytes = do
  topic ← string_at bytes
  id ← identifier_for qos topic.1
  Some (p.Publish dup qos retain topic.0 id.0 id.1)

unfoldable pub ask_at : List ℕ → Option (Ask × List ℕ)
ask_at bytes = do
  filter ← string_at bytes
  level ← byte_at filter.1
  qos ← qos_of level.0
  Some (record { filter = filter.0; qos = qos }, level.1)

unfoldable pub subscribe_of : List ℕ → Option Packet
subscribe_of bytes = do
  id ← identifier_at bytes
  asks ← some_items ask_at id.1
  Some (p.Subscribe id.0 asks)

unfoldable pub unsubscribe_of : List ℕ → Option Packet
unsubscribe_of bytes = do
  id ← identifier_at bytes
  filters ← some_items string_at id.1
  Some (p.Unsubscribe id.0 filters)

unfoldable pub suback_of : List ℕ → Option Packet
suback_of bytes = do
  id ← identifier_at bytes
  if has_some id.1 && list_all is_return_code id.1 then Some (p.SubAck id.0 id.1) else None

-- an identifier and nothing else
unfoldable pub identifier_of : List ℕ → Option ℕ
identifier_of bytes = do
  id ← identifier_at bytes
  whole id.0 id.1

-- the packet of this kind that the bytes behind the remaining length give
abbrev pub packet_of : Kind → List ℕ → Option Packet
packet_of kinds.Connect bytes = connect_of bytes
packet_of kinds.ConnAck bytes = connack_of bytes
packet_of (kinds.Publish dup qos retain) bytes = publish_of dup qos retain bytes
packet_of kinds.PubAck bytes = identifier_of bytes >>= λ id. Some (p.PubAck id)
packet_of kinds.PubRec bytes = identifier_of bytes >>= λ id. Some (p.PubRec id)
packet_of kinds.PubRel bytes = identifier_of bytes >>= λ id. Some (p.PubRel id)
packet_of kinds.PubComp bytes = identifier_of bytes >>= λ id. Some (p.PubComp id)
packet_of kinds.Subscribe bytes = subscribe_of bytes
packet_of kinds.SubAck bytes = suback_of bytes
packet_of kinds.Unsubscribe bytes = unsubscribe_of bytes
packet_of kinds.UnsubAck bytes = identifier_of bytes >>= λ id. Some (p.UnsubAck id)
packet_of kinds.PingReq bytes = whole p.PingReq bytes
packet_of kinds.PingResp bytes = whole p.PingResp bytes
packet_of kinds.Disconnect bytes = whole p.Disconnect bytes
