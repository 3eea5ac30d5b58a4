-- The packets and commands of a saved session: what is written is read, and what is read was written.
use Rattle.std.proofs.Common.{◌≡◌, ℕ, ◌^◌, ◌<◌, ◌≤◌, Bool, true, false, cond, ltb, List, [], ◌∷◌, ◌++◌, length, take, drop, Option, Some, None, refl, sym, ap, subst, ◌∙◌, arith}
use Rattle.std.specs.Prelude.{◌==◌}
use Rattle.std.specs.Int.{w32}
use Rattle.std.specs.List.{flat_map, AllByRecursion}
use Rattle.std.proofs.lemmas.Bool.{ltb-false, le-ltb, leb-true, and_parts}
use Rattle.std.proofs.lemmas.List.{take_at, drop_at, take-append-drop, length-append, length-take, drop_all, append-nil}
use Rattle.mqtt_packet.specs.declared.packet.Packet.{Packet}
use Rattle.mqtt_packet.specs.declared.packet.Packet.TheVariants as p
use Rattle.mqtt_packet.specs.declared.splitter.Next.{Next}
use Rattle.mqtt_packet.specs.declared.splitter.Next.TheVariants as answers
use Rattle.mqtt_packet.specs.Fronts.{front_of}
use Rattle.mqtt_packet.specs.Grammar.{Spells}
use Rattle.mqtt_packet.specs.Reading.{◌>>=◌, byte_at, string_at, whole}
use Rattle.mqtt_packet.specs.Spelling.{spelling, string, has_fields}
use Rattle.mqtt_packet.specs.Splitting.{Kept, StandsFor, IsKept, MayDrop}
use Rattle.mqtt_packet.specs.Steps.{next_by, next_of}
use Rattle.mqtt_packet.specs.Stream.{AreBytes}
use Rattle.mqtt_packet.proofs.Fronts.{front_read}
use Rattle.mqtt_packet.proofs.Numbers.{Takes, takes_then, bind_some, some_is, bytes_take, bytes_drop}
use Rattle.mqtt_packet.proofs.Stands.{Goes, next_on, kept_after}
use Rattle.mqtt_packet.proofs.Uniqueness.{sound_are_spelled, spelled_are_sound, have_one_spelling}
use Rattle.session_text.specs.declared.session.Command.{Command}
use Rattle.session_text.specs.Laws.{HasSpelling, IsString, AreAsked, IsCommand}
use Rattle.session_text.specs.Reading.{wide_at, stage_at, items_at, whole_packet, fresh, packet_in, packet_at, filters_at, command_at}
use Rattle.session_text.specs.Spelling.{byte, number32, stage_number, packet_text, filters_text, packet_and_filters, command_text}
use Rattle.session_text.proofs.Exact.{Exact, read_on, read_last, took_on}
use Rattle.session_text.proofs.Values.{Any, byte_exact, exact32, stage_exact, string_exact}
use Rattle.session_text.proofs.Records.{items_exact}

-- ---- Packets

-- a test that must fail, in front of more
guarded : {A : Type 0} (b : Bool) (x : Option A) (y : A) → cond b None x ≡ Some y → (b ≡ false) × (x ≡ Some y)
guarded true x y e = absurd (cc e)
guarded false x y e = (refl, e)

spelled : (packet : Packet) → HasSpelling packet → Spells packet (spelling packet)
spelled packet is = sound_are_spelled packet is.types is.sound

-- a packet has at most 262,144 bytes
short : (packet : Packet) → HasSpelling packet → length (spelling packet) ≤ 262144
short packet is = leb-true _ _ (and_parts (has_fields packet) _ is.sound).1

packet_in_read : (packet : Packet) → HasSpelling packet → packet_in (spelling packet) ≡ Some packet
unfolding packet_in
packet_in_read packet is =
    let bytes = spelling packet in
    let front = ap front_of (sym (append-nil bytes)) ∙ front_read packet bytes [] (spelled packet is) in
    let next = ap (next_by (fresh bytes)) front in
    let gone : drop (length bytes) bytes ≡ [] = drop_all (length bytes) bytes (omega arith) in
    ap (λ (a : Next × Kept). whole_packet a.0 a.1.rest) next ∙ rw gone refl

whole_is : (packet other : Packet) (rest : List ℕ) → whole packet rest ≡ Some other → (rest ≡ []) × (packet ≡ other)
whole_is packet other [] e = (refl, some_is packet other e)
whole_is packet other (b ∷ rest) e = absurd (cc e)

fresh_stands : (bytes : List ℕ) → AreBytes bytes → StandsFor (fresh bytes) bytes []
fresh_stands bytes fits = record { bytes = fits; front = []; dropped = []; stream = sym (append-nil bytes); spelled = refl; at = refl; may_drop = refl; verdict = tt }

packet_in_took : (bytes : List ℕ) (packet : Packet) → AreBytes bytes → packet_in bytes ≡ Some packet → Spells packet bytes
unfolding packet_in
packet_in_took bytes packet fits e = go (next_of (fresh bytes)).0 (next_of (fresh bytes)).1 (next_on (fresh bytes) bytes [] (fresh_stands bytes fits)) (kept_after (fresh bytes) (next_of (fresh bytes)).1 (next_of (fresh bytes)).0 refl) e
  where
    go : (next : Next) (k : Kept) → Goes bytes [] (next, k) → IsKept next k → whole_packet next k.rest ≡ Some packet → Spells packet bytes
    go (answers.Packet other) k goes kept read =
        let is = whole_is other packet k.rest read in
        let s = goes.stands in
        let gone : s.dropped ≡ [] = subst (λ v. MayDrop v s.dropped) kept s.may_drop in
        let all : bytes ≡ s.front = s.stream ∙ ap (λ (t : List ℕ). s.front ++ (t ++ s.dropped)) is.0 ∙ ap (λ (t : List ℕ). s.front ++ t) gone ∙ append-nil s.front in
        let own = s.spelled in
        let front : s.front ≡ own.0 = own.2 ∙ ap (λ (t : List ℕ). own.0 ++ t) own.4 ∙ append-nil own.0 in
        subst (λ (q : Packet). Spells q bytes) is.1 (subst (λ (t : List ℕ). Spells other t) (sym (all ∙ front)) own.3)
    go answers.More k goes kept read = absurd (cc read)
    go (answers.Bad at) k goes kept read = absurd (cc read)
    go (answers.TooLong at len) k goes kept read = absurd (cc read)

pub packet_in_is : (bytes : List ℕ) (packet : Packet) → AreBytes bytes → packet_in bytes ≡ Some packet → (bytes ≡ spelling packet) × HasSpelling packet
packet_in_is bytes packet fits e =
    let spells = packet_in_took bytes packet fits e in
    let sound = spelled_are_sound packet bytes spells in
    (have_one_spelling packet bytes (spelling packet) spells (sound_are_spelled packet sound.1 sound.0), record { sound = sound.0; types = sound.1 })

packet_read : (packet : Packet) (rest : List ℕ) → HasSpelling packet → packet_at (packet_text packet ++ rest) ≡ Some (packet, rest)
unfolding packet_at
packet_read packet rest is =
    let bytes = spelling packet in
    let small = short packet is in
    let long : ltb (length (bytes ++ rest)) (length bytes) ≡ false = le-ltb _ _ (omega (arith, length-append bytes rest)) in
    read_on (wide_at w32) (number32 (length bytes)) bytes rest (length bytes) _ _ (exact32.read (length bytes) (bytes ++ rest) (omega (arith, small)))
    (rw (long, take_at bytes rest (length bytes) refl, drop_at bytes rest (length bytes) refl, packet_in_read packet is) refl)

packet_took : (bytes : List ℕ) (packet : Packet) (rest : List ℕ) → AreBytes bytes → packet_at bytes ≡ Some (packet, rest) → Takes bytes (packet_text packet) rest × HasSpelling packet
unfolding packet_at
packet_took bytes packet rest fits e =
    let t0 = took_on (wide_at w32) number32 (λ n. n < 2 ^ 32) exact32 bytes _ (packet, rest) fits e in
    let n = t0.value in
    let own = take n t0.rest in
    let g = guarded (ltb (length t0.rest) n) (packet_in own >>= λ q. Some (q, drop n t0.rest)) (packet, rest) t0.next_is in
    let b = bind_some (packet_in own) (λ q. Some (q, drop n t0.rest)) (packet, rest) g.1 in
    let is = packet_in_is own b.0 (bytes_take n t0.rest t0.takes.rest_fits) b.1 in
    let long : n ≤ length t0.rest = ltb-false _ _ g.0 in
    let len : length own ≡ n = omega (arith, length-take n t0.rest, long) in
    let second : Takes t0.rest own (drop n t0.rest) = record { parts = sym (take-append-drop n t0.rest); rest_fits = bytes_drop n t0.rest t0.takes.rest_fits } in
    let both : Takes bytes (number32 n ++ own) (drop n t0.rest) = takes_then bytes (number32 n) t0.rest own (drop n t0.rest) t0.takes second in
    let sized : Takes bytes (number32 (length own) ++ own) (drop n t0.rest) = subst (λ (k : ℕ). Takes bytes (number32 k ++ own) (drop n t0.rest)) (sym len) both in
    let all : Takes bytes (packet_text b.0) (drop n t0.rest) = subst (λ (t : List ℕ). Takes bytes (number32 (length t) ++ t) (drop n t0.rest)) is.0 sized in
    subst (λ (x : Packet × List ℕ). Takes bytes (packet_text x.0) x.1 × HasSpelling x.0) (some_is (b.0, drop n t0.rest) (packet, rest) b.2) (all, is.1)

pub packet_exact : Exact Packet packet_at packet_text HasSpelling
packet_exact = record { read = packet_read; took = packet_took }

-- ---- What a splitter holds behind a packet

-- bytes behind it
pub held_behind : (next : Next) (held : ℕ) → (held == 0) ≡ false → (rest : List ℕ) → held ≡ length rest → whole_packet next rest ≡ None
held_behind (answers.Packet packet) held some [] is = absurd (cc (some, ap (λ n. n == 0) is))
held_behind (answers.Packet packet) held some (b ∷ rest) is = refl
held_behind answers.More held some rest is = refl
held_behind (answers.Bad at) held some rest is = refl
held_behind (answers.TooLong at len) held some rest is = refl

-- none
pub none_held : (packet : Packet) (held : ℕ) → held ≡ 0 → (rest : List ℕ) → held ≡ length rest → whole packet rest ≡ Some packet
none_held packet held none [] is = refl
none_held packet held none (b ∷ rest) is = absurd (omega (arith, none, is))

-- ---- What an unsubscribe asked for

texts_exact : (n : ℕ) → Exact (List (List ℕ)) (items_at string_at n) (flat_map string) (λ texts. (length texts ≡ n) × AllByRecursion IsString texts)
texts_exact n = items_exact string_at string IsString string_exact n

asked_read : (filters : List (List ℕ)) (rest : List ℕ) → (length filters < 256) × AllByRecursion IsString filters
    → (byte_at ((byte (length filters) ++ flat_map string filters) ++ rest) >>= λ n. items_at string_at n.0 n.1) ≡ Some (filters, rest)
asked_read filters rest are = read_on byte_at (byte (length filters)) (flat_map string filters) rest (length filters) _ _ (byte_exact.read (length filters) (flat_map string filters ++ rest) are.0) ((texts_exact (length filters)).read filters rest (refl, are.1))

asked_took : (bytes : List ℕ) (filters : List (List ℕ)) (rest : List ℕ) → AreBytes bytes → (byte_at bytes >>= λ n. items_at string_at n.0 n.1) ≡ Some (filters, rest)
    → Takes bytes (byte (length filters) ++ flat_map string filters) rest × ((length filters < 256) × AllByRecursion IsString filters)
asked_took bytes filters rest fits e =
    let t0 = took_on byte_at byte (λ b. b < 256) byte_exact bytes _ (filters, rest) fits e in
    let t1 = (texts_exact t0.value).took t0.rest filters rest t0.takes.rest_fits t0.next_is in
    let both : Takes bytes (byte t0.value ++ flat_map string filters) rest = takes_then bytes (byte t0.value) t0.rest (flat_map string filters) rest t0.takes t1.0 in
    (subst (λ (n : ℕ). Takes bytes (byte n ++ flat_map string filters) rest) (sym t1.1.0) both, (omega (arith, t0.is, t1.1.0), t1.1.1))

abbrev none_asked : List ℕ → Option (List (List ℕ) × List ℕ)
none_asked rest = Some ([], rest)

nothing_read : (filters : List (List ℕ)) (rest : List ℕ) → filters ≡ [] → none_asked rest ≡ Some (filters, rest)
nothing_read filters rest e = ap (λ (fs : List (List ℕ)). Some (fs, rest)) (sym e)

nothing_took : (bytes : List ℕ) (filters : List (List ℕ)) (rest : List ℕ) → AreBytes bytes → none_asked bytes ≡ Some (filters, rest) → Takes bytes [] rest × (filters ≡ [])
nothing_took bytes filters rest fits e =
    subst (λ (x : List (List ℕ) × List ℕ). Takes bytes [] x.1 × (x.0 ≡ [])) (some_is ([], bytes) (filters, rest) e) (record { parts = refl; rest_fits = fits }, refl)

filters_read : (packet : Packet) (filters : List (List ℕ)) (rest : List ℕ) → AreAsked packet filters → filters_at packet (filters_text packet filters ++ rest) ≡ Some (filters, rest)
unfolding filters_at
filters_read (p.Connect clean keep_alive client will user password) filters rest are = nothing_read filters rest are
filters_read (p.ConnAck present code) filters rest are = nothing_read filters rest are
filters_read (p.Publish dup qos retain topic id payload) filters rest are = nothing_read filters rest are
filters_read (p.PubAck id) filters rest are = nothing_read filters rest are
filters_read (p.PubRec id) filters rest are = nothing_read filters rest are
filters_read (p.PubRel id) filters rest are = nothing_read filters rest are
filters_read (p.PubComp id) filters rest are = nothing_read filters rest are
filters_read (p.Subscribe id asks) filters rest are = nothing_read filters rest are
filters_read (p.SubAck id codes) filters rest are = nothing_read filters rest are
filters_read (p.Unsubscribe id named) filters rest are = asked_read filters rest are
filters_read (p.UnsubAck id) filters rest are = nothing_read filters rest are
filters_read p.PingReq filters rest are = nothing_read filters rest are
filters_read p.PingResp filters rest are = nothing_read filters rest are
filters_read p.Disconnect filters rest are = nothing_read filters rest are

filters_took : (packet : Packet) (bytes : List ℕ) (filters : List (List ℕ)) (rest : List ℕ) → AreBytes bytes → filters_at packet bytes ≡ Some (filters, rest) → Takes bytes (filters_text packet filters) rest × AreAsked packet filters
unfolding filters_at
filters_took (p.Connect clean keep_alive client will user password) bytes filters rest fits e = nothing_took bytes filters rest fits e
filters_took (p.ConnAck present code) bytes filters rest fits e = nothing_took bytes filters rest fits e
filters_took (p.Publish dup qos retain topic id payload) bytes filters rest fits e = nothing_took bytes filters rest fits e
filters_took (p.PubAck id) bytes filters rest fits e = nothing_took bytes filters rest fits e
filters_took (p.PubRec id) bytes filters rest fits e = nothing_took bytes filters rest fits e
filters_took (p.PubRel id) bytes filters rest fits e = nothing_took bytes filters rest fits e
filters_took (p.PubComp id) bytes filters rest fits e = nothing_took bytes filters rest fits e
filters_took (p.Subscribe id asks) bytes filters rest fits e = nothing_took bytes filters rest fits e
filters_took (p.SubAck id codes) bytes filters rest fits e = nothing_took bytes filters rest fits e
filters_took (p.Unsubscribe id named) bytes filters rest fits e = asked_took bytes filters rest fits e
filters_took (p.UnsubAck id) bytes filters rest fits e = nothing_took bytes filters rest fits e
filters_took p.PingReq bytes filters rest fits e = nothing_took bytes filters rest fits e
filters_took p.PingResp bytes filters rest fits e = nothing_took bytes filters rest fits e
filters_took p.Disconnect bytes filters rest fits e = nothing_took bytes filters rest fits e

filters_exact : (packet : Packet) → Exact (List (List ℕ)) (filters_at packet) (filters_text packet) (AreAsked packet)
filters_exact packet = record { read = filters_read packet; took = filters_took packet }

-- ---- Commands

command_read : (c : Command) (rest : List ℕ) → IsCommand c → command_at (command_text c ++ rest) ≡ Some (c, rest)
unfolding command_at
command_read c rest is =
    let behind = packet_and_filters c.packet c.filters in
    read_on (wide_at w32) (number32 c.task) (number32 c.seq ++ (byte (stage_number c.stage) ++ behind)) rest c.task _ _ (exact32.read c.task ((number32 c.seq ++ (byte (stage_number c.stage) ++ behind)) ++ rest) is.task)
    (read_on (wide_at w32) (number32 c.seq) (byte (stage_number c.stage) ++ behind) rest c.seq _ _ (exact32.read c.seq ((byte (stage_number c.stage) ++ behind) ++ rest) is.seq)
    (read_on stage_at (byte (stage_number c.stage)) behind rest c.stage _ _ (stage_exact.read c.stage (behind ++ rest) tt)
    (read_on packet_at (packet_text c.packet) (filters_text c.packet c.filters) rest c.packet _ _ (packet_exact.read c.packet (filters_text c.packet c.filters ++ rest) is.packet)
    (read_last (filters_at c.packet) (filters_text c.packet c.filters) rest c.filters _ _ ((filters_exact c.packet).read c.filters rest is.filters) refl))))

command_took : (bytes : List ℕ) (c : Command) (rest : List ℕ) → AreBytes bytes → command_at bytes ≡ Some (c, rest) → Takes bytes (command_text c) rest × IsCommand c
unfolding command_at
command_took bytes c rest fits e =
    let t0 = took_on (wide_at w32) number32 (λ n. n < 2 ^ 32) exact32 bytes _ (c, rest) fits e in
    let t1 = took_on (wide_at w32) number32 (λ n. n < 2 ^ 32) exact32 t0.rest _ (c, rest) t0.takes.rest_fits t0.next_is in
    let t2 = took_on stage_at (λ stage. byte (stage_number stage)) Any stage_exact t1.rest _ (c, rest) t1.takes.rest_fits t1.next_is in
    let t3 = took_on packet_at packet_text HasSpelling packet_exact t2.rest _ (c, rest) t2.takes.rest_fits t2.next_is in
    let t4 = took_on (filters_at t3.value) (filters_text t3.value) (AreAsked t3.value) (filters_exact t3.value) t3.rest _ (c, rest) t3.takes.rest_fits t3.next_is in
    let own : Command = record { task = t0.value; seq = t1.value; stage = t2.value; packet = t3.value; filters = t4.value } in
    let e34 = takes_then t2.rest (packet_text t3.value) t3.rest (filters_text t3.value t4.value) t4.rest t3.takes t4.takes in
    let e24 = takes_then t1.rest (byte (stage_number t2.value)) t2.rest (packet_and_filters t3.value t4.value) t4.rest t2.takes e34 in
    let e14 = takes_then t0.rest (number32 t1.value) t1.rest (byte (stage_number t2.value) ++ packet_and_filters t3.value t4.value) t4.rest t1.takes e24 in
    let all : Takes bytes (command_text own) t4.rest = takes_then bytes (number32 t0.value) t0.rest (number32 t1.value ++ (byte (stage_number t2.value) ++ packet_and_filters t3.value t4.value)) t4.rest t0.takes e14 in
    subst (λ (x : Command × List ℕ). Takes bytes (command_text x.0) x.1 × IsCommand x.0) (some_is (own, t4.rest) (c, rest) t4.next_is) (all, record { task = t0.is; seq = t1.is; packet = t3.is; filters = t4.is })

pub command_exact : Exact Command command_at command_text IsCommand
command_exact = record { read = command_read; took = command_took }
