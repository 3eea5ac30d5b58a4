-- What stands in front of bytes: a packet's spelling, exactly where the grammar has one.
use Rattle.std.proofs.Common.{◌≡◌, ℕ, suc, ◌+◌, ◌*◌, ◌≤◌, Bool, true, false, cond, ltb, List, [], ◌∷◌, ◌++◌, length, take, drop, Option, Some, None, refl, sym, ap, subst, ◌∙◌, append_assoc, arith, length-append}
use Rattle.std.specs.Prelude.{nat_le}
use Rattle.std.proofs.lemmas.Bool.{leb-true, le-leb, ltb-false, le-ltb, and_parts, and_from}
use Rattle.std.proofs.lemmas.List.{take_at, drop_at, length-take, length-drop}
use Rattle.std.proofs.Math.Seq.{take-add}
use Rattle.mqtt_packet.specs.declared.qos.Qos.{Qos}
use Rattle.mqtt_packet.specs.declared.qos.Qos.TheVariants.{AtMostOnce, AtLeastOnce, ExactlyOnce}
use Rattle.mqtt_packet.specs.declared.packet.Packet.{Packet}
use Rattle.mqtt_packet.specs.declared.packet.Packet.TheVariants as p
use Rattle.mqtt_packet.specs.declared.kind.Kind.{Kind}
use Rattle.mqtt_packet.specs.declared.remaining.Remaining.{Remaining}
use Rattle.mqtt_packet.specs.declared.remaining.Remaining.TheVariants.{Is, Part, Wrong}
use Rattle.mqtt_packet.specs.declared.front.Front.{Front}
use Rattle.mqtt_packet.specs.declared.front.Front.TheVariants as fronts
use Rattle.mqtt_packet.specs.declared.front.Verdict.TheVariants as verdicts
use Rattle.mqtt_packet.specs.Grammar.{IsHead, IsLength, IsBody, Spells, type_of, flags_of}
use Rattle.mqtt_packet.specs.Spelling.{first, body, groups, spelling, is_string, is_delivery, has_fields, is_sound}
use Rattle.mqtt_packet.specs.Reading.{kind_of, remaining_in, packet_of, may_repeat}
use Rattle.mqtt_packet.specs.Stream.{AreBytes}
use Rattle.mqtt_packet.specs.Fronts.{read_as, frame_of, measured, behind_head, front_of}
use Rattle.mqtt_packet.specs.Spelling.{IsOfItsTypes}
use Rattle.mqtt_packet.proofs.Numbers.{bytes_drop, bytes_take, bytes_tail}
use Rattle.mqtt_packet.proofs.Lengths.{length_one, length_is, length_read, length_took}
use Rattle.mqtt_packet.proofs.Shapes.{body_one, body_is}
use Rattle.mqtt_packet.proofs.Readings.{kind, head_of, is_kind, head_first, head_read, head_took}
use Rattle.mqtt_packet.proofs.Bodies.{body_read, body_took}

-- ---- The grammar and the spelling

head_one : (packet : Packet) → 16 * type_of packet + flags_of packet ≡ first packet
head_one (p.Connect clean keep_alive client will user password) = refl
head_one (p.ConnAck present code) = refl
head_one (p.Publish dup qos retain topic id payload) = omega arith
head_one (p.PubAck id) = refl
head_one (p.PubRec id) = refl
head_one (p.PubRel id) = refl
head_one (p.PubComp id) = refl
head_one (p.Subscribe id asks) = refl
head_one (p.SubAck id return_codes) = refl
head_one (p.Unsubscribe id filters) = refl
head_one (p.UnsubAck id) = refl
head_one p.PingReq = refl
head_one p.PingResp = refl
head_one p.Disconnect = refl

pub spell_one : (packet : Packet) (bytes : List ℕ) → Spells packet bytes → (bytes ≡ spelling packet) × (is_sound packet ≡ true) × IsOfItsTypes packet
spell_one packet [] h = absurd h
spell_one packet (head ∷ bytes) h =
    let b = body_one packet h.2 h.5 in
    let len = length_one 4 h.1 (length h.2) h.4 in
    let head_is : head ≡ first packet = h.0 ∙ head_one packet in
    let bytes_are : bytes ≡ groups 4 (length (body packet)) ++ body packet = h.3 ∙ ap (λ (t : List ℕ). t ++ h.2) len ∙ ap (λ (t : List ℕ). groups 4 (length t) ++ t) b.0 in
    let all : head ∷ bytes ≡ spelling packet = ap (λ (x : ℕ). x ∷ bytes) head_is ∙ ap (λ (t : List ℕ). first packet ∷ t) bytes_are in
    let short : length (spelling packet) ≤ 262144 = omega (arith, h.6, ap length all) in
    (all, and_from (has_fields packet) (nat_le (length (spelling packet)) 262144) b.1 (le-leb _ _ short), b.2)

pub spell_is : (packet : Packet) → is_sound packet ≡ true → IsOfItsTypes packet → Spells packet (spelling packet)
spell_is packet e fits =
    let parts = and_parts (has_fields packet) (nat_le (length (spelling packet)) 262144) e in
    let short = leb-true (length (spelling packet)) 262144 parts.1 in
    let len = length-append (groups 4 (length (body packet))) (body packet) in
    (sym (head_one packet), groups 4 (length (body packet)), body packet, refl, length_is (length (body packet)) (omega (arith, short, len)), body_is packet parts.0 fits, omega (arith, short))

-- ---- A frame in front

-- behind a remaining length stands a frame of so many bytes
pub framed : (k : Kind) (len body behind : List ℕ) → 1 + length len + length body ≤ 262144 → frame_of k (length body) (length len) (len ++ (body ++ behind)) ≡ read_as (packet_of k body) (1 + length len + length body)
unfolding frame_of
framed k len body behind short =
    let small : ltb 262144 (1 + length len + length body) ≡ false = le-ltb _ _ short in
    let there : ltb (length (len ++ (body ++ behind))) (length len + length body) ≡ false = le-ltb _ _ (omega (arith, length-append len (body ++ behind), length-append body behind)) in
    rw (small, there, drop_at len (body ++ behind) (length len) refl, take_at body behind (length body) refl) refl

delivered : (dup : Bool) (qos : Qos) (id : ℕ) → is_delivery dup qos id ≡ true → may_repeat qos dup ≡ true
delivered dup AtMostOnce id e = (and_parts _ _ e).1
delivered dup AtLeastOnce id e = refl
delivered dup ExactlyOnce id e = refl

kind_fits : (packet : Packet) → has_fields packet ≡ true → is_kind (kind packet) ≡ true
kind_fits (p.Connect clean keep_alive client will user password) e = refl
kind_fits (p.ConnAck present code) e = refl
kind_fits (p.Publish dup qos retain topic id payload) e = delivered dup qos id (and_parts (is_string topic) (is_delivery dup qos id) e).1
kind_fits (p.PubAck id) e = refl
kind_fits (p.PubRec id) e = refl
kind_fits (p.PubRel id) e = refl
kind_fits (p.PubComp id) e = refl
kind_fits (p.Subscribe id asks) e = refl
kind_fits (p.SubAck id return_codes) e = refl
kind_fits (p.Unsubscribe id filters) e = refl
kind_fits (p.UnsubAck id) e = refl
kind_fits p.PingReq e = refl
kind_fits p.PingResp e = refl
kind_fits p.Disconnect e = refl

-- the first byte of a packet tells its kind
pub first_read : (packet : Packet) → has_fields packet ≡ true → kind_of (first packet) ≡ Some (kind packet)
first_read packet e = ap kind_of (sym (head_first packet)) ∙ head_read (kind packet) (kind_fits packet e)

pub front_read : (packet : Packet) (bytes more : List ℕ) → Spells packet bytes → front_of (bytes ++ more) ≡ fronts.Packet packet (length bytes)
unfolding front_of
front_read packet [] more h = absurd h
front_read packet (head ∷ bytes) more h =
    let s = spell_one packet (head ∷ bytes) h in
    let fields = (and_parts (has_fields packet) (nat_le (length (spelling packet)) 262144) s.1).0 in
    let b = body_one packet h.2 h.5 in
    let len = length-append h.1 h.2 in
    let size : length (head ∷ bytes) ≡ 1 + length h.1 + length h.2 = omega (arith, ap length h.3, len) in
    let rest : bytes ++ more ≡ h.1 ++ (h.2 ++ more) = ap (λ (t : List ℕ). t ++ more) h.3 ∙ append_assoc h.1 h.2 more in
    let kind_is : kind_of head ≡ Some (kind packet) = ap kind_of (h.0 ∙ head_one packet) ∙ first_read packet fields in
    let measured_is : remaining_in 4 (h.1 ++ (h.2 ++ more)) ≡ Is (length h.2) (length h.1) = length_read 4 h.1 (h.2 ++ more) (length h.2) h.4 in
    let packet_is : packet_of (kind packet) h.2 ≡ Some packet = ap (packet_of (kind packet)) b.0 ∙ body_read packet fields s.2 in
    ap (λ (o : Option Kind). behind_head o (bytes ++ more)) kind_is
    ∙ ap (λ (t : List ℕ). measured (kind packet) (remaining_in 4 t) t) rest
    ∙ ap (λ (r : Remaining). measured (kind packet) r (h.1 ++ (h.2 ++ more))) measured_is
    ∙ framed (kind packet) h.1 h.2 more (omega (arith, h.6, size))
    ∙ ap (λ (o : Option Packet). read_as o (1 + length h.1 + length h.2)) packet_is
    ∙ ap (λ (n : ℕ). fronts.Packet packet n) (sym size)

-- ---- What a front says of its parts

-- a kind was read
pub some_kind : (o : Option Kind) (bytes : List ℕ) (f : Front) → behind_head o bytes ≡ f → (f ≡ fronts.Ended verdicts.Bad → ⊥) → (k : Kind) × (o ≡ Some k) × (measured k (remaining_in 4 bytes) bytes ≡ f)
some_kind None bytes f e not_bad = absurd (not_bad (sym e))
some_kind (Some k) bytes f e not_bad = (k, refl, e)

-- and a remaining length
pub some_length : (k : Kind) (r : Remaining) (bytes : List ℕ) (f : Front) → measured k r bytes ≡ f → (f ≡ fronts.Ended verdicts.Bad → ⊥) → (f ≡ fronts.More → ⊥) → (n count : ℕ) × (r ≡ Is n count) × (frame_of k n count bytes ≡ f)
some_length k (Is n count) bytes f e not_bad not_more = (n, count, refl, e)
some_length k Part bytes f e not_bad not_more = absurd (not_more (sym e))
some_length k Wrong bytes f e not_bad not_more = absurd (not_bad (sym e))

abbrev packet_in : Front → Option Packet
packet_in (fronts.Packet packet size) = Some packet
packet_in fronts.More = None
packet_in (fronts.Ended verdict) = None

abbrev size_in : Front → ℕ
size_in (fronts.Packet packet size) = size
size_in fronts.More = 0
size_in (fronts.Ended verdict) = 0

read_took : (o : Option Packet) (n : ℕ) (packet : Packet) (size : ℕ) → read_as o n ≡ fronts.Packet packet size → (o ≡ Some packet) × (n ≡ size)
read_took None n packet size e = absurd cc
read_took (Some one) n packet size e = (ap packet_in e, ap size_in e)

frame_took : (long short : Bool) (o : Option Packet) (n : ℕ) (packet : Packet) (size : ℕ) → cond long (fronts.Ended (verdicts.TooLong n)) (cond short fronts.More (read_as o n)) ≡ fronts.Packet packet size
    → (long ≡ false) × (short ≡ false) × (o ≡ Some packet) × (n ≡ size)
frame_took true short o n packet size e = absurd cc
frame_took false true o n packet size e = absurd cc
frame_took false false o n packet size e = let r = read_took o n packet size e in (refl, refl, r.0, r.1)

-- what a packet in front takes is its spelling
pub front_took : (bytes : List ℕ) (packet : Packet) (size : ℕ) → AreBytes bytes → front_of bytes ≡ fronts.Packet packet size → Spells packet (take size bytes) × (size ≤ length bytes)
unfolding front_of frame_of
front_took [] packet size fits e = absurd cc
front_took (head ∷ bytes) packet size fits e =
    let k = some_kind (kind_of head) bytes (fronts.Packet packet size) e (λ x. absurd cc) in
    let l = some_length k.0 (remaining_in 4 bytes) bytes (fronts.Packet packet size) k.2 (λ x. absurd cc) (λ x. absurd cc) in
    let n = l.0 in
    let count = l.1 in
    let own = take n (drop count bytes) in
    let f = frame_took (ltb 262144 (1 + count + n)) (ltb (length bytes) (count + n)) (packet_of k.0 own) (1 + count + n) packet size l.3 in
    let h = head_took head k.0 (fits 0) k.1 in
    let tail = bytes_tail head bytes fits in
    let len = length_took 4 bytes n count tail l.2 in
    let b = body_took k.0 own packet (bytes_take n (drop count bytes) (bytes_drop count bytes tail)) h.1 f.2 in
    let short : 1 + count + n ≤ 262144 = ltb-false _ _ f.0 in
    let there : count + n ≤ length bytes = ltb-false _ _ f.1 in
    let own_len : length own ≡ n = omega (arith, length-take n (drop count bytes), length-drop count bytes, there) in
    let size_is : suc (count + n) ≡ size = omega (arith, f.3) in
    let head_is : IsHead packet head = h.0 ∙ ap head_of (sym b.1) ∙ head_first packet ∙ sym (head_one packet) in
    let all : take (count + n) bytes ≡ take count bytes ++ own = take-add count n bytes in
    let length_of : IsLength (take count bytes) (length own) = subst (λ (m : ℕ). IsLength (take count bytes) m) (sym own_len) len.0 in
    let body_of : IsBody packet own = subst (λ (t : List ℕ). IsBody packet t) (sym b.0) (body_is packet b.2 b.3) in
    subst (λ (m : ℕ). Spells packet (take m (head ∷ bytes)) × (m ≤ length (head ∷ bytes))) size_is
    ((head_is, take count bytes, own, all, length_of, body_of, omega (arith, short, length-take (count + n) bytes, there)), omega (arith, there))
