-- The verdict of a rest: what the front of the bytes is as a function, and what the definitions say of it.
use Rattle.std.proofs.Common.{◌≡◌, ℕ, ◌+◌, ◌<◌, ◌≤◌, Bool, true, false, cond, ltb, List, [], ◌∷◌, ◌++◌, length, take, drop, Option, Some, None, refl, sym, ap, subst, ◌∙◌, append_assoc, arith, inl, inr, length-append}
use Rattle.std.specs.Prelude.{◌⊎◌}
use Rattle.std.proofs.lemmas.Bool.{lt-ltb, ltb-true, ltb-false, le-ltb}
use Rattle.std.proofs.lemmas.List.{append-nil, take-append-drop, length-take, length-drop, take_at, drop-append-le, take-append-le}
use Rattle.mqtt_packet.specs.declared.qos.Qos.{Qos}
use Rattle.mqtt_packet.specs.declared.qos.Qos.TheVariants.{AtMostOnce, AtLeastOnce, ExactlyOnce}
use Rattle.mqtt_packet.specs.declared.packet.Packet.{Packet}
use Rattle.mqtt_packet.specs.declared.packet.Packet.TheVariants as p
use Rattle.mqtt_packet.specs.declared.will.Ask.{Ask}
use Rattle.mqtt_packet.specs.declared.kind.Kind.{Kind}
use Rattle.mqtt_packet.specs.declared.kind.Kind.TheVariants as kinds
use Rattle.mqtt_packet.specs.declared.remaining.Remaining.{Remaining}
use Rattle.mqtt_packet.specs.declared.remaining.Remaining.TheVariants.{Is, Part, Wrong}
use Rattle.mqtt_packet.specs.declared.front.Front.{Front}
use Rattle.mqtt_packet.specs.declared.front.Front.TheVariants as fronts
use Rattle.mqtt_packet.specs.declared.front.Verdict.{Verdict}
use Rattle.mqtt_packet.specs.declared.front.Verdict.TheVariants as verdicts
use Rattle.mqtt_packet.specs.Grammar.{IsLength, Spells}
use Rattle.mqtt_packet.specs.Spelling.{first, body, groups, is_string, is_sound}
use Rattle.mqtt_packet.specs.Reading.{kind_of, remaining_in, packet_of, may_repeat}
use Rattle.mqtt_packet.specs.Stream.{AreBytes, BeginsNoPacket, HasWrongHead, HasWrongFrame, IsBad, HasSizeAboveLimit, IsTooLong, IsPartial}
use Rattle.mqtt_packet.specs.Fronts.{read_as, frame_of, measured, behind_head, front_of}
use Rattle.mqtt_packet.specs.Splitting.{IsVerdict}
use Rattle.mqtt_packet.specs.Spelling.{IsOfItsTypes}
use Rattle.mqtt_packet.proofs.Numbers.{bytes_take, bytes_tail, plain_string}
use Rattle.mqtt_packet.proofs.Lengths.{length_read, length_took, wrong_on, is_on, part_on, part_fits}
use Rattle.mqtt_packet.proofs.Readings.{head_of, is_kind, head_took}
use Rattle.mqtt_packet.proofs.Fronts.{spell_is, front_read, front_took, framed, some_kind, some_length}

-- ---- Each kind has a packet

empty_string : is_string [] ≡ true
empty_string = plain_string [] (omega arith) refl

abbrev an_ask : Ask
an_ask = record { filter = []; qos = AtMostOnce }

abbrev an_id : Qos → ℕ
an_id AtMostOnce = 0
an_id AtLeastOnce = 1
an_id ExactlyOnce = 1

abbrev a_packet : Kind → Packet
a_packet kinds.Connect = p.Connect true 0 [] None None None
a_packet kinds.ConnAck = p.ConnAck false 0
a_packet (kinds.Publish dup qos retain) = p.Publish dup qos retain [] (an_id qos) []
a_packet kinds.PubAck = p.PubAck 1
a_packet kinds.PubRec = p.PubRec 1
a_packet kinds.PubRel = p.PubRel 1
a_packet kinds.PubComp = p.PubComp 1
a_packet kinds.Subscribe = p.Subscribe 1 (an_ask ∷ [])
a_packet kinds.SubAck = p.SubAck 1 (0 ∷ [])
a_packet kinds.Unsubscribe = p.Unsubscribe 1 ([] ∷ [])
a_packet kinds.UnsubAck = p.UnsubAck 1
a_packet kinds.PingReq = p.PingReq
a_packet kinds.PingResp = p.PingResp
a_packet kinds.Disconnect = p.Disconnect

a_publish_sound : (dup : Bool) (qos : Qos) (retain : Bool) → may_repeat qos dup ≡ true → is_sound (p.Publish dup qos retain [] (an_id qos) []) ≡ true
unfolding groups
a_publish_sound true AtMostOnce retain e = absurd cc
a_publish_sound false AtMostOnce retain e = rw empty_string refl
a_publish_sound dup AtLeastOnce retain e = rw empty_string refl
a_publish_sound dup ExactlyOnce retain e = rw empty_string refl

a_packet_sound : (k : Kind) → is_kind k ≡ true → is_sound (a_packet k) ≡ true
unfolding groups
a_packet_sound kinds.Connect e = rw empty_string refl
a_packet_sound kinds.ConnAck e = refl
a_packet_sound (kinds.Publish dup qos retain) e = a_publish_sound dup qos retain e
a_packet_sound kinds.PubAck e = refl
a_packet_sound kinds.PubRec e = refl
a_packet_sound kinds.PubRel e = refl
a_packet_sound kinds.PubComp e = refl
a_packet_sound kinds.Subscribe e = rw empty_string refl
a_packet_sound kinds.SubAck e = refl
a_packet_sound kinds.Unsubscribe e = rw empty_string refl
a_packet_sound kinds.UnsubAck e = refl
a_packet_sound kinds.PingReq e = refl
a_packet_sound kinds.PingResp e = refl
a_packet_sound kinds.Disconnect e = refl

an_id_small : (qos : Qos) → an_id qos < 65536
an_id_small AtMostOnce = omega arith
an_id_small AtLeastOnce = omega arith
an_id_small ExactlyOnce = omega arith

a_packet_fits : (k : Kind) → IsOfItsTypes (a_packet k)
a_packet_fits kinds.Connect = omega arith
a_packet_fits kinds.ConnAck = tt
a_packet_fits (kinds.Publish dup qos retain) = an_id_small qos
a_packet_fits kinds.PubAck = omega arith
a_packet_fits kinds.PubRec = omega arith
a_packet_fits kinds.PubRel = omega arith
a_packet_fits kinds.PubComp = omega arith
a_packet_fits kinds.Subscribe = omega arith
a_packet_fits kinds.SubAck = omega arith
a_packet_fits kinds.Unsubscribe = omega arith
a_packet_fits kinds.UnsubAck = omega arith
a_packet_fits kinds.PingReq = tt
a_packet_fits kinds.PingResp = tt
a_packet_fits kinds.Disconnect = tt

a_packet_head : (k : Kind) → first (a_packet k) ≡ head_of k
a_packet_head kinds.Connect = refl
a_packet_head kinds.ConnAck = refl
a_packet_head (kinds.Publish dup qos retain) = refl
a_packet_head kinds.PubAck = refl
a_packet_head kinds.PubRec = refl
a_packet_head kinds.PubRel = refl
a_packet_head kinds.PubComp = refl
a_packet_head kinds.Subscribe = refl
a_packet_head kinds.SubAck = refl
a_packet_head kinds.Unsubscribe = refl
a_packet_head kinds.UnsubAck = refl
a_packet_head kinds.PingReq = refl
a_packet_head kinds.PingResp = refl
a_packet_head kinds.Disconnect = refl

-- a first byte that tells a kind begins a spelling
begun : (head : ℕ) (k : Kind) → head < 256 → kind_of head ≡ Some k → ((packet : Packet) (more : List ℕ) → Spells packet (head ∷ more) → ⊥) → ⊥
begun head k lt e none =
    let h = head_took head k lt e in
    let packet = a_packet k in
    let s = spell_is packet (a_packet_sound k h.1) (a_packet_fits k) in
    none packet (groups 4 (length (body packet)) ++ body packet) (subst (λ (b : ℕ). Spells packet (b ∷ (groups 4 (length (body packet)) ++ body packet))) (a_packet_head k ∙ sym h.0) s)

-- ---- Bad

no_packet : (f : Front) (packet : Packet) (size : ℕ) → f ≡ fronts.Ended verdicts.Bad → f ≡ fronts.Packet packet size → ⊥
no_packet f packet size e h = let g : fronts.Ended verdicts.Bad ≡ fronts.Packet packet size = sym e ∙ h in absurd cc

-- a first byte that tells no kind begins no spelling
never_begun : (head : ℕ) → kind_of head ≡ None → (packet : Packet) (more : List ℕ) → Spells packet (head ∷ more) → ⊥
unfolding front_of
never_begun head e packet more h =
    let read : front_of (head ∷ (more ++ [])) ≡ fronts.Packet packet (length (head ∷ more)) = front_read packet (head ∷ more) [] h in
    let bad : front_of (head ∷ (more ++ [])) ≡ fronts.Ended verdicts.Bad = ap (λ (o : Option Kind). behind_head o (more ++ [])) e in
    no_packet (front_of (head ∷ (more ++ []))) packet (length (head ∷ more)) bad read

is_not_wrong : (r : Remaining) (n count : ℕ) → r ≡ Wrong → r ≡ Is n count → ⊥
is_not_wrong r n count e h = let g : Wrong ≡ Is n count = sym e ∙ h in absurd cc

-- bytes that are no length stay so, however they go on
never_length : (bytes : List ℕ) → remaining_in 4 bytes ≡ Wrong → (more len behind : List ℕ) (n : ℕ) → bytes ++ more ≡ len ++ behind → IsLength len n → ⊥
never_length bytes e more len behind n same h =
    is_not_wrong (remaining_in 4 (bytes ++ more)) n (length len) (wrong_on 4 bytes more e) (ap (remaining_in 4) same ∙ length_read 4 len behind n h)

frame_bad : (long short : Bool) (o : Option Packet) (n : ℕ) → cond long (fronts.Ended (verdicts.TooLong n)) (cond short fronts.More (read_as o n)) ≡ fronts.Ended verdicts.Bad → (long ≡ false) × (short ≡ false) × (o ≡ None)
frame_bad true short o n e = absurd cc
frame_bad false true o n e = absurd cc
frame_bad false false None n e = (refl, refl, refl)
frame_bad false false (Some packet) n e = absurd cc

-- a whole frame that isn't read spells nothing
wrong_frame : (head : ℕ) (k : Kind) (bytes : List ℕ) (n count : ℕ) → AreBytes (head ∷ bytes) → front_of (head ∷ bytes) ≡ fronts.Ended verdicts.Bad → remaining_in 4 bytes ≡ Is n count → frame_of k n count bytes ≡ fronts.Ended verdicts.Bad → HasWrongFrame (head ∷ bytes)
unfolding frame_of
wrong_frame head k bytes n count fits bad e f =
    let own = take n (drop count bytes) in
    let behind = drop n (drop count bytes) in
    let parts = frame_bad (ltb 262144 (1 + count + n)) (ltb (length bytes) (count + n)) (packet_of k own) (1 + count + n) f in
    let short : 1 + count + n ≤ 262144 = ltb-false _ _ parts.0 in
    let there : count + n ≤ length bytes = ltb-false _ _ parts.1 in
    let len = length_took 4 bytes n count (bytes_tail head bytes fits) e in
    let own_len : length own ≡ n = omega (arith, length-take n (drop count bytes), length-drop count bytes, there) in
    let count_len : length (take count bytes) ≡ count = omega (arith, length-take count bytes, there) in
    let same : bytes ≡ take count bytes ++ (own ++ behind) = sym (take-append-drop count bytes) ∙ ap (λ (t : List ℕ). take count bytes ++ t) (sym (take-append-drop n (drop count bytes))) in (
      take count bytes,
      own,
      behind,
      same,
      subst (λ (m : ℕ). IsLength (take count bytes) m) (sym own_len) len.0,
      omega (arith, short, own_len, count_len),
      λ packet h. no_packet (front_of (head ∷ bytes)) packet (length (head ∷ (take count bytes ++ own))) bad
          (ap (λ (t : List ℕ). front_of (head ∷ t)) (same ∙ sym (append_assoc (take count bytes) own behind)) ∙ front_read packet (head ∷ (take count bytes ++ own)) behind h),
    )

bad_measured : (head : ℕ) (k : Kind) (bytes : List ℕ) (r : Remaining) → AreBytes (head ∷ bytes) → front_of (head ∷ bytes) ≡ fronts.Ended verdicts.Bad → remaining_in 4 bytes ≡ r → measured k r bytes ≡ fronts.Ended verdicts.Bad → IsBad (head ∷ bytes)
bad_measured head k bytes (Is n count) fits bad e f = inr (inr (wrong_frame head k bytes n count fits bad e f))
bad_measured head k bytes Part fits bad e f = absurd cc
bad_measured head k bytes Wrong fits bad e f = inr (inl (never_length bytes e))

bad_kind : (head : ℕ) (bytes : List ℕ) (o : Option Kind) → AreBytes (head ∷ bytes) → front_of (head ∷ bytes) ≡ fronts.Ended verdicts.Bad → kind_of head ≡ o → behind_head o bytes ≡ fronts.Ended verdicts.Bad → IsBad (head ∷ bytes)
bad_kind head bytes None fits bad e f = inl (never_begun head e)
bad_kind head bytes (Some k) fits bad e f = bad_measured head k bytes (remaining_in 4 bytes) fits bad refl f

pub bad_is : (bytes : List ℕ) → AreBytes bytes → front_of bytes ≡ fronts.Ended verdicts.Bad → IsBad bytes
unfolding front_of
bad_is [] fits e = absurd cc
bad_is (head ∷ bytes) fits e = bad_kind head bytes (kind_of head) fits e refl e

-- the other way
from_head : (head : ℕ) (bytes : List ℕ) (o : Option Kind) → head < 256 → kind_of head ≡ o → HasWrongHead (head ∷ bytes) → behind_head o bytes ≡ fronts.Ended verdicts.Bad
from_head head bytes None lt e h = refl
from_head head bytes (Some k) lt e h = absurd (begun head k lt e h)

from_length : (k : Kind) (bytes : List ℕ) (r : Remaining) → AreBytes bytes → remaining_in 4 bytes ≡ r → ((more len behind : List ℕ) (n : ℕ) → bytes ++ more ≡ len ++ behind → IsLength len n → ⊥) → measured k r bytes ≡ fronts.Ended verdicts.Bad
from_length k bytes (Is n count) fits e h =
    let len = length_took 4 bytes n count fits e in
    absurd (h [] (take count bytes) (drop count bytes) n (append-nil bytes ∙ sym (take-append-drop count bytes)) len.0)
from_length k bytes Part fits e h =
    let part = part_on 4 bytes fits e in
    absurd (h (1 ∷ []) (bytes ++ 1 ∷ []) [] part.0 (sym (append-nil (bytes ++ 1 ∷ []))) part.2)
from_length k bytes Wrong fits e h = refl

from_kind : (bytes : List ℕ) (o : Option Kind) → ((k : Kind) → o ≡ Some k → measured k (remaining_in 4 bytes) bytes ≡ fronts.Ended verdicts.Bad) → behind_head o bytes ≡ fronts.Ended verdicts.Bad
from_kind bytes None h = refl
from_kind bytes (Some k) h = h k refl

from_read : (o : Option Packet) (size : ℕ) → ((packet : Packet) → read_as o size ≡ fronts.Packet packet size → ⊥) → read_as o size ≡ fronts.Ended verdicts.Bad
from_read None size none = refl
from_read (Some packet) size none = absurd (none packet refl)

-- a frame's bytes from the front of the whole
frame_front : (head : ℕ) (len body behind : List ℕ) → take (1 + length len + length body) (head ∷ (len ++ (body ++ behind))) ≡ head ∷ (len ++ body)
frame_front head len body behind =
    ap (λ (t : List ℕ). take (1 + length len + length body) (head ∷ t)) (sym (append_assoc len body behind))
    ∙ take_at (head ∷ (len ++ body)) behind (1 + length len + length body) (omega (arith, length-append len body))

from_frame : (head : ℕ) (bytes : List ℕ) → AreBytes (head ∷ bytes) → HasWrongFrame (head ∷ bytes) → front_of (head ∷ bytes) ≡ fronts.Ended verdicts.Bad
unfolding front_of
from_frame head bytes fits h =
    let len = h.0 in
    let own = h.1 in
    let size = 1 + length len + length own in
    let measured_is : remaining_in 4 bytes ≡ Is (length own) (length len) = ap (remaining_in 4) h.3 ∙ length_read 4 len (own ++ h.2) (length own) h.4 in
    from_kind bytes (kind_of head) (λ k e.
    let read : measured k (remaining_in 4 bytes) bytes ≡ read_as (packet_of k own) size =
    ap (λ (r : Remaining). measured k r bytes) measured_is ∙ ap (λ (t : List ℕ). frame_of k (length own) (length len) t) h.3 ∙ framed k len own h.2 h.5 in
    read ∙ from_read (packet_of k own) size (λ packet f.
    let front : front_of (head ∷ bytes) ≡ fronts.Packet packet size = ap (λ (o : Option Kind). behind_head o bytes) e ∙ read ∙ f in
    let spelled = (front_took (head ∷ bytes) packet size fits front).0 in
    h.6 packet (subst (λ (t : List ℕ). Spells packet t) (ap (λ (t : List ℕ). take size (head ∷ t)) h.3 ∙ frame_front head len own h.2) spelled)))

pub bad_from : (bytes : List ℕ) → AreBytes bytes → IsBad bytes → front_of bytes ≡ fronts.Ended verdicts.Bad
unfolding front_of
bad_from [] fits (inl h) = absurd h
bad_from [] fits (inr (inl h)) = absurd h
bad_from [] fits (inr (inr h)) = absurd h
bad_from (head ∷ bytes) fits (inl h) = from_head head bytes (kind_of head) (fits 0) refl h
bad_from (head ∷ bytes) fits (inr (inl h)) = from_kind bytes (kind_of head) (λ k e. from_length k bytes (remaining_in 4 bytes) (bytes_tail head bytes fits) refl h)
bad_from (head ∷ bytes) fits (inr (inr h)) = from_frame head bytes fits h

-- ---- TooLong

abbrev long_in : Front → ℕ
long_in (fronts.Packet packet size) = 0
long_in fronts.More = 0
long_in (fronts.Ended verdicts.Bad) = 0
long_in (fronts.Ended (verdicts.TooLong size)) = size

read_short : (o : Option Packet) (n size : ℕ) → read_as o n ≡ fronts.Ended (verdicts.TooLong size) → ⊥
read_short None n size e = absurd cc
read_short (Some packet) n size e = absurd cc

frame_long : (long short : Bool) (o : Option Packet) (n size : ℕ) → cond long (fronts.Ended (verdicts.TooLong n)) (cond short fronts.More (read_as o n)) ≡ fronts.Ended (verdicts.TooLong size) → (long ≡ true) × (n ≡ size)
frame_long true short o n size e = (refl, ap long_in e)
frame_long false true o n size e = absurd cc
frame_long false false o n size e = absurd (read_short o n size e)

size_is : (bytes : List ℕ) (size : ℕ) → AreBytes bytes → front_of bytes ≡ fronts.Ended (verdicts.TooLong size) → HasSizeAboveLimit bytes size
unfolding front_of frame_of
size_is [] size fits e = absurd cc
size_is (head ∷ bytes) size fits e =
    let k = some_kind (kind_of head) bytes (fronts.Ended (verdicts.TooLong size)) e (λ x. absurd cc) in
    let l = some_length k.0 (remaining_in 4 bytes) bytes (fronts.Ended (verdicts.TooLong size)) k.2 (λ x. absurd cc) (λ x. absurd cc) in
    let n = l.0 in
    let count = l.1 in
    let f = frame_long (ltb 262144 (1 + count + n)) (ltb (length bytes) (count + n)) (packet_of k.0 (take n (drop count bytes))) (1 + count + n) size l.3 in
    let len = length_took 4 bytes n count (bytes_tail head bytes fits) l.2 in
    let long : 262144 < 1 + count + n = ltb-true _ _ f.0 in
    let count_len : length (take count bytes) ≡ count = omega (arith, length-take count bytes, len.1) in
    (take count bytes, drop count bytes, n, sym (take-append-drop count bytes), len.0, omega (arith, f.1, count_len), omega (arith, f.1, long))

bad_not_long : (f : Front) (size : ℕ) → f ≡ fronts.Ended verdicts.Bad → f ≡ fronts.Ended (verdicts.TooLong size) → ⊥
bad_not_long f size e h = let g : fronts.Ended verdicts.Bad ≡ fronts.Ended (verdicts.TooLong size) = sym e ∙ h in absurd cc

pub long_is : (bytes : List ℕ) (size : ℕ) → AreBytes bytes → front_of bytes ≡ fronts.Ended (verdicts.TooLong size) → IsTooLong bytes size
long_is bytes size fits e = ((λ bad. bad_not_long (front_of bytes) size (bad_from bytes fits bad) e), size_is bytes size fits e)

long_frame : (k : Kind) (n count : ℕ) (bytes : List ℕ) → 262144 < 1 + count + n → frame_of k n count bytes ≡ fronts.Ended (verdicts.TooLong (1 + count + n))
unfolding frame_of
long_frame k n count bytes long = rw (lt-ltb _ _ long) refl

from_size : (head : ℕ) (bytes : List ℕ) (o : Option Kind) (size : ℕ) → kind_of head ≡ o → (IsBad (head ∷ bytes) → ⊥) → HasSizeAboveLimit (head ∷ bytes) size → behind_head o bytes ≡ fronts.Ended (verdicts.TooLong size)
from_size head bytes None size e not_bad h = absurd (not_bad (inl (never_begun head e)))
from_size head bytes (Some k) size e not_bad h =
    let measured_is : remaining_in 4 bytes ≡ Is h.2 (length h.0) = ap (remaining_in 4) h.3 ∙ length_read 4 h.0 h.1 h.2 h.4 in
    ap (λ (r : Remaining). measured k r bytes) measured_is ∙ long_frame k h.2 (length h.0) bytes (omega (arith, h.5, h.6)) ∙ ap (λ (n : ℕ). fronts.Ended (verdicts.TooLong n)) (sym h.5)

pub long_from : (bytes : List ℕ) (size : ℕ) → IsTooLong bytes size → front_of bytes ≡ fronts.Ended (verdicts.TooLong size)
unfolding front_of
long_from [] size h = absurd h.1
long_from (head ∷ bytes) size h = from_size head bytes (kind_of head) size refl h.0 h.1

-- ---- More

more_not_bad : (f : Front) → f ≡ fronts.More → f ≡ fronts.Ended verdicts.Bad → ⊥
more_not_bad f e h = let g : fronts.More ≡ fronts.Ended verdicts.Bad = sym e ∙ h in absurd cc

more_not_long : (f : Front) (size : ℕ) → f ≡ fronts.More → f ≡ fronts.Ended (verdicts.TooLong size) → ⊥
more_not_long f size e h = let g : fronts.More ≡ fronts.Ended (verdicts.TooLong size) = sym e ∙ h in absurd cc

more_no_packet : (f : Front) (packet : Packet) (size : ℕ) → f ≡ fronts.More → f ≡ fronts.Packet packet size → ⊥
more_no_packet f packet size e h = let g : fronts.More ≡ fronts.Packet packet size = sym e ∙ h in absurd cc

pub more_is : (bytes : List ℕ) → AreBytes bytes → front_of bytes ≡ fronts.More → IsPartial bytes
more_is bytes fits e =
    let not_bad = λ (bad : IsBad bytes). more_not_bad (front_of bytes) e (bad_from bytes fits bad) in (
      not_bad,
      (λ size long. more_not_long (front_of bytes) size e (long_from bytes size (not_bad, long))),
    )

frame_more : (long short : Bool) (o : Option Packet) (n : ℕ) → cond long (fronts.Ended (verdicts.TooLong n)) (cond short fronts.More (read_as o n)) ≡ fronts.More → (long ≡ false) × (short ≡ true)
frame_more true short o n e = absurd cc
frame_more false true o n e = (refl, refl)
frame_more false false None n e = absurd cc
frame_more false false (Some packet) n e = absurd cc

measured_more : (k : Kind) (r : Remaining) (bytes : List ℕ) → remaining_in 4 bytes ≡ r → measured k r bytes ≡ fronts.More → length bytes < 262143
unfolding frame_of
measured_more k (Is n count) bytes e f =
    let parts = frame_more (ltb 262144 (1 + count + n)) (ltb (length bytes) (count + n)) (packet_of k (take n (drop count bytes))) (1 + count + n) f in
    omega (arith, ltb-false 262144 (1 + count + n) parts.0, ltb-true (length bytes) (count + n) parts.1)
measured_more k Part bytes e f = let few = part_fits 4 bytes e in omega (arith, few)
measured_more k Wrong bytes e f = absurd cc

more_kind : (bytes : List ℕ) (o : Option Kind) → behind_head o bytes ≡ fronts.More → length bytes < 262143
more_kind bytes None e = absurd cc
more_kind bytes (Some k) e = measured_more k (remaining_in 4 bytes) bytes refl e

-- less than a packet is held
pub more_short : (bytes : List ℕ) → front_of bytes ≡ fronts.More → length bytes ≤ 262143
unfolding front_of
more_short [] e = omega arith
more_short (head ∷ bytes) e = let few = more_kind bytes (kind_of head) e in omega (arith, few)

-- ---- A verdict stays, however the bytes go on

abbrev verdict_in : Front → Verdict
verdict_in (fronts.Packet packet size) = verdicts.Bad
verdict_in fronts.More = verdicts.Bad
verdict_in (fronts.Ended verdict) = verdict

frame_verdict : (long short : Bool) (o : Option Packet) (n : ℕ) (verdict : Verdict) → cond long (fronts.Ended (verdicts.TooLong n)) (cond short fronts.More (read_as o n)) ≡ fronts.Ended verdict → ((long ≡ true) × (verdicts.TooLong n ≡ verdict)) ⊎ ((long ≡ false) × (short ≡ false) × (read_as o n ≡ fronts.Ended verdict))
frame_verdict true short o n verdict e = inl (refl, ap verdict_in e)
frame_verdict false true o n verdict e = absurd cc
frame_verdict false false o n verdict e = inr (refl, refl, e)

frame_stays : (k : Kind) (n count : ℕ) (bytes more : List ℕ) (verdict : Verdict) → frame_of k n count bytes ≡ fronts.Ended verdict → frame_of k n count (bytes ++ more) ≡ fronts.Ended verdict
unfolding frame_of
frame_stays k n count bytes more verdict e =
    elim (frame_verdict (ltb 262144 (1 + count + n)) (ltb (length bytes) (count + n)) (packet_of k (take n (drop count bytes))) (1 + count + n) verdict e) [
      | inl h ↦ rw h.0 (ap (λ (o : Verdict). fronts.Ended o) h.1)
      | inr h ↦
          let there : count + n ≤ length bytes = ltb-false _ _ h.1 in
          let still : ltb (length (bytes ++ more)) (count + n) ≡ false = le-ltb _ _ (omega (arith, there, length-append bytes more)) in
          let same : take n (drop count (bytes ++ more)) ≡ take n (drop count bytes) =
          ap (take n) (drop-append-le count bytes more (omega (arith, there))) ∙ take-append-le n (drop count bytes) more (omega (arith, there, length-drop count bytes)) in
          rw (h.0, still, same) h.2
    ]

measured_stays : (k : Kind) (r : Remaining) (bytes more : List ℕ) (verdict : Verdict) → remaining_in 4 bytes ≡ r → measured k r bytes ≡ fronts.Ended verdict → measured k (remaining_in 4 (bytes ++ more)) (bytes ++ more) ≡ fronts.Ended verdict
measured_stays k (Is n count) bytes more verdict e f = ap (λ (r : Remaining). measured k r (bytes ++ more)) (is_on 4 bytes more n count e) ∙ frame_stays k n count bytes more verdict f
measured_stays k Part bytes more verdict e f = absurd cc
measured_stays k Wrong bytes more verdict e f = ap (λ (r : Remaining). measured k r (bytes ++ more)) (wrong_on 4 bytes more e) ∙ f

kind_stays : (o : Option Kind) (bytes more : List ℕ) (verdict : Verdict) → behind_head o bytes ≡ fronts.Ended verdict → behind_head o (bytes ++ more) ≡ fronts.Ended verdict
kind_stays None bytes more verdict e = e
kind_stays (Some k) bytes more verdict e = measured_stays k (remaining_in 4 bytes) bytes more verdict refl e

verdict_stays : (bytes more : List ℕ) (verdict : Verdict) → front_of bytes ≡ fronts.Ended verdict → front_of (bytes ++ more) ≡ fronts.Ended verdict
unfolding front_of
verdict_stays [] more verdict e = absurd cc
verdict_stays (head ∷ bytes) more verdict e = kind_stays (kind_of head) bytes more verdict e

pub verdict_is : (bytes : List ℕ) (verdict : Verdict) → AreBytes bytes → front_of bytes ≡ fronts.Ended verdict → IsVerdict bytes verdict
verdict_is bytes verdicts.Bad fits e = bad_is bytes fits e
verdict_is bytes (verdicts.TooLong size) fits e = long_is bytes size fits e

verdict_from : (bytes : List ℕ) (verdict : Verdict) → AreBytes bytes → IsVerdict bytes verdict → front_of bytes ≡ fronts.Ended verdict
verdict_from bytes verdicts.Bad fits h = bad_from bytes fits h
verdict_from bytes (verdicts.TooLong size) fits h = long_from bytes size h

bytes_front : (bytes more : List ℕ) → AreBytes (bytes ++ more) → AreBytes bytes
bytes_front bytes more fits = subst (λ (t : List ℕ). AreBytes t) (take_at bytes more (length bytes) refl) (bytes_take (length bytes) (bytes ++ more) fits)

pub verdict_on : (bytes more : List ℕ) (verdict : Verdict) → AreBytes (bytes ++ more) → IsVerdict bytes verdict → IsVerdict (bytes ++ more) verdict
verdict_on bytes more verdict fits h = verdict_is (bytes ++ more) verdict fits (verdict_stays bytes more verdict (verdict_from bytes verdict (bytes_front bytes more fits) h))

-- ---- Where no packet stands in front, no front of the bytes is a spelling

no_front : (bytes : List ℕ) → ((packet : Packet) (size : ℕ) → front_of bytes ≡ fronts.Packet packet size → ⊥) → BeginsNoPacket bytes
no_front bytes none packet front behind e h = none packet (length front) (ap front_of e ∙ front_read packet front behind h)

ended_no_packet : (f : Front) (verdict : Verdict) (packet : Packet) (size : ℕ) → f ≡ fronts.Ended verdict → f ≡ fronts.Packet packet size → ⊥
ended_no_packet f verdict packet size e h = let g : fronts.Ended verdict ≡ fronts.Packet packet size = sym e ∙ h in absurd cc

pub partial_begins_none : (bytes : List ℕ) → front_of bytes ≡ fronts.More → BeginsNoPacket bytes
partial_begins_none bytes e = no_front bytes (λ packet size h. more_no_packet (front_of bytes) packet size e h)

pub ended_begins_none : (bytes : List ℕ) (verdict : Verdict) → front_of bytes ≡ fronts.Ended verdict → BeginsNoPacket bytes
ended_begins_none bytes verdict e = no_front bytes (λ packet size h. ended_no_packet (front_of bytes) verdict packet size e h)

pub verdict_begins_none : (bytes : List ℕ) (verdict : Verdict) → AreBytes bytes → IsVerdict bytes verdict → BeginsNoPacket bytes
verdict_begins_none bytes verdict fits h = ended_begins_none bytes verdict (verdict_from bytes verdict fits h)
