-- Each list of bytes has one reading as a stream, and each rest one verdict.
use Rattle.std.proofs.Common.{◌≡◌, ℕ, zero, suc, ◌<◌, ◌≤◌, List, [], ◌∷◌, ◌++◌, length, take, drop, refl, sym, ap, ◌∙◌, append_assoc, arith, inl, inr}
use Rattle.std.specs.Prelude.{◌⊎◌}
use Rattle.std.proofs.lemmas.List.{take-append-drop, take_at, drop_at, length-drop}
use Rattle.mqtt_packet.specs.declared.packet.Packet.{Packet}
use Rattle.mqtt_packet.specs.declared.front.Front.{Front}
use Rattle.mqtt_packet.specs.declared.front.Front.TheVariants as fronts
use Rattle.mqtt_packet.specs.declared.front.Verdict.TheVariants as verdicts
use Rattle.mqtt_packet.specs.Grammar.{Spells}
use Rattle.mqtt_packet.specs.Stream.{AreBytes, SpellAll, BeginsNoPacket, IsStream, IsBad, IsTooLong, IsPartial}
use Rattle.mqtt_packet.specs.Fronts.{front_of}
use Rattle.mqtt_packet.specs.Laws.{BytesAreAStream, StreamsAreUnique, RestsHaveAVerdict, SizesAreUnique}
use Rattle.mqtt_packet.proofs.Numbers.{bytes_drop}
use Rattle.mqtt_packet.proofs.Lengths.{length_read}
use Rattle.mqtt_packet.proofs.Fronts.{front_read, front_took}
use Rattle.mqtt_packet.proofs.Verdicts.{verdict_is, more_is, partial_begins_none, ended_begins_none}
use Rattle.mqtt_packet.specs.declared.remaining.Remaining.{Remaining}
use Rattle.mqtt_packet.specs.declared.remaining.Remaining.TheVariants.{Is, Part, Wrong}
use Rattle.mqtt_packet.specs.Reading.{remaining_in}

-- ---- There is one

-- behind a packet in front
behind_packet : (bytes : List ℕ) (packet : Packet) (size : ℕ) → AreBytes bytes → front_of bytes ≡ fronts.Packet packet size → (packets : List Packet) × (rest : List ℕ) × IsStream (drop size bytes) packets rest → (packets : List Packet) × (rest : List ℕ) × IsStream bytes packets rest
behind_packet bytes packet size fits e (packets, rest, s) =
    let own = take size bytes in (
      packet ∷ packets,
      rest,
      (own ++ s.0, (sym (take-append-drop size bytes) ∙ ap (λ (t : List ℕ). own ++ t) s.1.0 ∙ sym (append_assoc own s.0 rest), (own, s.0, refl, (front_took bytes packet size fits e).0, s.1.1), s.1.2)),
    )

some_size : (bytes : List ℕ) (packet : Packet) (size : ℕ) → AreBytes bytes → front_of bytes ≡ fronts.Packet packet size → (0 < size) × (size ≤ length bytes)
some_size bytes packet zero fits e = absurd (front_took bytes packet 0 fits e).0
some_size bytes packet (suc size) fits e = (omega arith, (front_took bytes packet (suc size) fits e).1)

-- by what stands in front, where the rest behind a packet is a stream
by_front : (bytes : List ℕ) (f : Front) → AreBytes bytes → front_of bytes ≡ f → ((size : ℕ) → 0 < size → size ≤ length bytes → (packets : List Packet) × (rest : List ℕ) × IsStream (drop size bytes) packets rest) → (packets : List Packet) × (rest : List ℕ) × IsStream bytes packets rest
by_front bytes (fronts.Packet packet size) fits e go =
    let some = some_size bytes packet size fits e in
    behind_packet bytes packet size fits e (go size some.0 some.1)
by_front bytes fronts.More fits e go = ([], bytes, ([], (refl, refl, partial_begins_none bytes e)))
by_front bytes (fronts.Ended verdict) fits e go = ([], bytes, ([], (refl, refl, ended_begins_none bytes verdict e)))

read : (most : ℕ) (bytes : List ℕ) → length bytes ≤ most → AreBytes bytes → (packets : List Packet) × (rest : List ℕ) × IsStream bytes packets rest
read zero bytes room fits = by_front bytes (front_of bytes) fits refl (λ size some le. absurd (omega (arith, room, some, le)))
read (suc most) bytes room fits = by_front bytes (front_of bytes) fits refl (λ size some le. read most (drop size bytes) (omega (arith, room, some, length-drop size bytes)) (bytes_drop size bytes fits))

pub bytes_are_a_stream : BytesAreAStream
bytes_are_a_stream bytes fits = read (length bytes) bytes (omega arith) fits

-- ---- There are not two

pub same_front : (packet other : Packet) (bytes a b x y : List ℕ) → Spells packet a → Spells other b → bytes ≡ a ++ x → bytes ≡ b ++ y → (packet ≡ other) × (a ≡ b) × (x ≡ y)
same_front packet other bytes a b x y h k e f =
    let both : fronts.Packet packet (length a) ≡ fronts.Packet other (length b) = sym (front_read packet a x h) ∙ ap front_of (sym e ∙ f) ∙ front_read other b y k in
    let same : packet ≡ other = cc in
    let len : length a ≡ length b = cc in
    let ab : a ++ x ≡ b ++ y = sym e ∙ f in
    (same, sym (take_at a x (length a) refl) ∙ ap (take (length a)) ab ∙ take_at b y (length a) (sym len), sym (drop_at a x (length a) refl) ∙ ap (drop (length a)) ab ∙ drop_at b y (length a) (sym len))

unique : (bytes : List ℕ) (ps qs : List Packet) (front other r s : List ℕ) → bytes ≡ front ++ r → bytes ≡ other ++ s → SpellAll ps front → SpellAll qs other → BeginsNoPacket r → BeginsNoPacket s → (ps ≡ qs) × (r ≡ s)
unique bytes [] [] front other r s e f h k none last = (refl, sym (e ∙ ap (λ (t : List ℕ). t ++ r) h) ∙ f ∙ ap (λ (t : List ℕ). t ++ s) k)
unique bytes [] (q ∷ qs) front other r s e f h k none last =
    absurd (none q k.0 (k.1 ++ s) (sym (e ∙ ap (λ (t : List ℕ). t ++ r) h) ∙ f ∙ ap (λ (t : List ℕ). t ++ s) k.2 ∙ append_assoc k.0 k.1 s) k.3)
unique bytes (p ∷ ps) [] front other r s e f h k none last =
    absurd (last p h.0 (h.1 ++ r) (sym (f ∙ ap (λ (t : List ℕ). t ++ s) k) ∙ e ∙ ap (λ (t : List ℕ). t ++ r) h.2 ∙ append_assoc h.0 h.1 r) h.3)
unique bytes (p ∷ ps) (q ∷ qs) front other r s e f h k none last =
    let one = same_front p q bytes h.0 k.0 (h.1 ++ r) (k.1 ++ s) h.3 k.3 (e ∙ ap (λ (t : List ℕ). t ++ r) h.2 ∙ append_assoc h.0 h.1 r) (f ∙ ap (λ (t : List ℕ). t ++ s) k.2 ∙ append_assoc k.0 k.1 s) in
    let rest = unique (h.1 ++ r) ps qs h.1 k.1 r s refl one.2 h.4 k.4 none last in
    (ap (λ (x : Packet). x ∷ ps) one.0 ∙ ap (λ (xs : List Packet). q ∷ xs) rest.0, rest.1)

pub streams_are_unique : StreamsAreUnique
streams_are_unique bytes ps qs r s a b = unique bytes ps qs a.0 b.0 r s a.1.0 b.1.0 a.1.1 b.1.1 a.1.2 b.1.2

-- ---- Verdicts

verdict_by : (rest : List ℕ) (f : Front) → AreBytes rest → BeginsNoPacket rest → front_of rest ≡ f → IsBad rest ⊎ (((size : ℕ) × IsTooLong rest size) ⊎ IsPartial rest)
verdict_by rest (fronts.Packet packet size) fits none e = absurd (none packet (take size rest) (drop size rest) (sym (take-append-drop size rest)) (front_took rest packet size fits e).0)
verdict_by rest fronts.More fits none e = inr (inr (more_is rest fits e))
verdict_by rest (fronts.Ended verdicts.Bad) fits none e = inl (verdict_is rest verdicts.Bad fits e)
verdict_by rest (fronts.Ended (verdicts.TooLong size)) fits none e = inr (inl (size, verdict_is rest (verdicts.TooLong size) fits e))

pub rests_have_a_verdict : RestsHaveAVerdict
rests_have_a_verdict rest fits none = verdict_by rest (front_of rest) fits none refl

abbrev value_of : Remaining → ℕ
value_of (Is n count) = n
value_of Part = 0
value_of Wrong = 0

abbrev count_of : Remaining → ℕ
count_of (Is n count) = count
count_of Part = 0
count_of Wrong = 0

pub sizes_are_unique : SizesAreUnique
sizes_are_unique [] one other h k = absurd h
sizes_are_unique (head ∷ bytes) one other h k =
    let both : Is h.2 (length h.0) ≡ Is k.2 (length k.0) = sym (length_read 4 h.0 h.1 h.2 h.4) ∙ ap (remaining_in 4) (sym h.3 ∙ k.3) ∙ length_read 4 k.0 k.1 k.2 k.4 in
    let n : h.2 ≡ k.2 = ap value_of both in
    let count : length h.0 ≡ length k.0 = ap count_of both in
    omega (arith, h.5, k.5, n, count)
