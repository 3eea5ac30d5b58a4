-- The fields of a saved session: what is written is read, and what is read was written.
use Rattle.std.proofs.Common.{◌≡◌, ℕ, ◌^◌, ◌<◌, ◌≤◌, Bool, true, false, cond, ltb, List, [], ◌∷◌, ◌++◌, length, take, drop, Option, Some, None, refl, sym, ap, subst, ◌∙◌, arith}
use Rattle.std.specs.Prelude.{◌&&◌, ◌==◌, nat_le}
use Rattle.std.specs.Int.{Width, w32, w64, byte_len, from_be_bytes, to_be_bytes}
use Rattle.std.proofs.lemmas.Bool.{eqb-true, ltb-false, le-ltb, le-leb, leb-true, and_parts, and_from}
use Rattle.std.proofs.lemmas.List.{take_at, drop_at, take-append-drop, length-append, length-take}
use Rattle.std.proofs.lemmas.Nat.{be_bytes_4, be_bytes_8, from_be_bytes-to_be_bytes_4, from_be_bytes-to_be_bytes_8}
use Rattle.mqtt_packet.specs.declared.qos.Qos.{Qos}
use Rattle.mqtt_packet.specs.Flags.{bit, level}
use Rattle.mqtt_packet.specs.Reading.{◌>>=◌, byte_at, number_at, string_at, qos_of}
use Rattle.mqtt_packet.specs.Spelling.{string}
use Rattle.mqtt_packet.specs.Stream.{AreBytes}
use Rattle.mqtt_packet.proofs.Numbers.{Takes, takes_then, bind_some, some_is, not_refused, accepted, bytes_drop, bytes_take, number_read, number_took, string_read, string_took}
use Rattle.mqtt_packet.proofs.Parts.{byte_took, qos_read, qos_took}
use Rattle.topic_filter.specs.Texts.{is_filter}
use Rattle.agent_journal.specs.declared.off.OffBy.{OffBy}
use Rattle.agent_journal.specs.declared.off.OffBy.TheVariants as by
use Rattle.agent_journal.specs.declared.setup.Phase.{Phase}
use Rattle.agent_journal.specs.declared.setup.Phase.TheVariants.{Down, Opening, Up, Spilled, Off}
use Rattle.session_text.specs.declared.session.Stage.{Stage}
use Rattle.session_text.specs.declared.session.Stage.TheVariants.{NoPublish, Sent, Released}
use Rattle.session_text.specs.Laws.{IsOff, IsString, IsFilter, IsNumber16, IsNumber64}
use Rattle.session_text.specs.Reading.{wide_at, flag_of, flag_at, phase_in, phase_at, off_in, off_at, stage_in, stage_at, qos_at, filter_at}
use Rattle.session_text.specs.Spelling.{byte, flag, number16, number32, number64, phase_number, off_number, refusal_code, off_text, stage_number}
use Rattle.session_text.proofs.Exact.{Exact}

abbrev pub Any : {A : Type 0} → A → Type 0
Any x = Unit {0}

-- ---- Single bytes

below : (bytes : List ℕ) (b : ℕ) (rest : List ℕ) → AreBytes bytes → byte_at bytes ≡ Some (b, rest) → b < 256
unfolding byte_at
below [] b rest fits e = absurd cc
below (a ∷ bytes) b rest fits e = subst (λ (x : ℕ × List ℕ). x.0 < 256) (some_is (a, bytes) (b, rest) e) (fits 0)

pub byte_exact : Exact ℕ byte_at byte (λ b. b < 256)
unfolding byte_at byte
byte_exact = record {
  read = λ b rest is. refl;
  took = λ bytes b rest fits e. (byte_took bytes b rest fits e, below bytes b rest fits e);
}

-- a value that stands in a byte as a number
pub coded : {A : Type 0} (code : A → ℕ) (decode : ℕ → Option A) → ((x : A) → decode (code x) ≡ Some x) → ((n : ℕ) (x : A) → decode n ≡ Some x → n ≡ code x)
    → Exact A (λ bytes. byte_at bytes >>= λ b. decode b.0 >>= λ x. Some (x, b.1)) (λ x. byte (code x)) Any
unfolding byte_at byte
coded {A} code decode reads takes = record {
  read = λ x rest is. ap (λ (o : Option A). o >>= λ y. Some (y, rest)) (reads x);
  took = λ bytes x rest fits e.
      let b = bind_some (byte_at bytes) (λ b. decode b.0 >>= λ x. Some (x, b.1)) (x, rest) e in
      let v = bind_some (decode b.0.0) (λ x. Some (x, b.0.1)) (x, rest) b.2 in
      let pair = some_is (v.0, b.0.1) (x, rest) v.2 in
      let t = byte_took bytes b.0.0 b.0.1 fits b.1 in
      let own : Takes bytes (byte (code v.0)) b.0.1 = subst (λ (n : ℕ). Takes bytes (byte n) b.0.1) (takes b.0.0 v.0 v.1) t in
      (subst (λ (p : A × List ℕ). Takes bytes (byte (code p.0)) p.1) pair own, tt);
}

-- one more row of a table of numbers
row : {A : Type 0} (code : A → ℕ) (n k : ℕ) (x y : A) (others : Option A) → code x ≡ k → cond (n == k) (Some x) others ≡ Some y → (others ≡ Some y → n ≡ code y) → n ≡ code y
row {A} code n k x y others is e rest = go (n == k) refl e
  where
    go : (b : Bool) → (n == k) ≡ b → cond b (Some x) others ≡ Some y → n ≡ code y
    go true same found = eqb-true n k same ∙ sym is ∙ ap code (some_is x y found)
    go false same found = rest found

none : {A : Type 0} {B : Type 0} (y : A) → None ≡ Some y → B
none y e = absurd (cc e)

flag_read : (b : Bool) → flag_of (bit b) ≡ Some b
flag_read true = refl
flag_read false = refl

flag_took : (n : ℕ) (b : Bool) → flag_of n ≡ Some b → n ≡ bit b
flag_took n b e = row bit n 0 false b _ refl e (λ e1. row bit n 1 true b _ refl e1 (λ e2. none b e2))

pub flag_exact : Exact Bool flag_at flag Any
unfolding flag_at flag byte
flag_exact = coded bit flag_of flag_read flag_took

phase_read : (phase : Phase) → phase_in (phase_number phase) ≡ Some phase
phase_read Down = refl
phase_read Opening = refl
phase_read Up = refl
phase_read Spilled = refl
phase_read Off = refl

phase_took : (n : ℕ) (phase : Phase) → phase_in n ≡ Some phase → n ≡ phase_number phase
phase_took n x e =
    row phase_number n 0 Down x _ refl e (λ e1. row phase_number n 1 Opening x _ refl e1 (λ e2. row phase_number n 2 Up x _ refl e2 (λ e3. row phase_number n 3 Spilled x _ refl e3 (λ e4. row phase_number n 4 Off x _ refl e4 (λ e5. none x e5)))))

pub phase_exact : Exact Phase phase_at (λ phase. byte (phase_number phase)) Any
unfolding phase_at
phase_exact = coded phase_number phase_in phase_read phase_took

stage_read : (stage : Stage) → stage_in (stage_number stage) ≡ Some stage
stage_read NoPublish = refl
stage_read Sent = refl
stage_read Released = refl

stage_took : (n : ℕ) (stage : Stage) → stage_in n ≡ Some stage → n ≡ stage_number stage
stage_took n x e = row stage_number n 0 NoPublish x _ refl e (λ e1. row stage_number n 1 Sent x _ refl e1 (λ e2. row stage_number n 2 Released x _ refl e2 (λ e3. none x e3)))

pub stage_exact : Exact Stage stage_at (λ stage. byte (stage_number stage)) Any
unfolding stage_at
stage_exact = coded stage_number stage_in stage_read stage_took

pub qos_exact : Exact Qos qos_at (λ qos. byte (level qos)) Any
unfolding qos_at
qos_exact = coded level qos_of qos_read qos_took

-- ---- How the agent came to Off

refused : (code : ℕ) → 1 ≤ code → code ≤ 5 → (nat_le 1 code && nat_le code 5) ≡ true
refused code least most = and_from (nat_le 1 code) (nat_le code 5) (le-leb 1 code least) (le-leb code 5 most)

off_in_read : (off : Option OffBy) → IsOff off → off_in (off_number off) (refusal_code off) ≡ Some off
off_in_read None is = refl
off_in_read (Some by.Finish) is = refl
off_in_read (Some by.Disconnect) is = refl
off_in_read (Some by.Terminate) is = refl
off_in_read (Some by.GaveUp) is = refl
off_in_read (Some (by.Refused code)) is = rw (refused code is.0 is.1) refl
off_in_read (Some by.Bytes) is = refl
off_in_read (Some by.Wrong) is = refl
off_in_read (Some by.Held) is = refl

-- what the two bytes say
record AreOff (n code : ℕ) (off : Option OffBy) : Type 0 where
  number : n ≡ off_number off
  refusal : code ≡ refusal_code off
  is : IsOff off

off_row : (n k code : ℕ) (x y : Option OffBy) (others : Option (Option OffBy)) → AreOff k 0 x → code ≡ 0 → cond (n == k) (Some x) others ≡ Some y → (others ≡ Some y → AreOff n code y) → AreOff n code y
off_row n k code x y others are zero_code e rest = go (n == k) refl e
  where
    go : (b : Bool) → (n == k) ≡ b → cond b (Some x) others ≡ Some y → AreOff n code y
    go true same found =
        let is : x ≡ y = some_is x y found in
        subst (λ (o : Option OffBy). AreOff n code o) is (record { number = eqb-true n k same ∙ are.number; refusal = zero_code ∙ are.refusal; is = are.is })
    go false same found = rest found

off_in_took : (n code : ℕ) (off : Option OffBy) → off_in n code ≡ Some off → AreOff n code off
off_in_took n code off e = go (n == 5) refl e
  where
    table : (zero_code : code ≡ 0)
        → cond (n == 0) (Some None) (cond (n == 1) (Some (Some by.Finish)) (cond (n == 2) (Some (Some by.Disconnect)) (cond (n == 3) (Some (Some by.Terminate)) (cond (n == 4) (Some (Some by.GaveUp)) (cond (n == 6) (Some (Some by.Bytes)) (cond (n == 7) (Some (Some by.Wrong)) (cond (n == 8) (Some (Some by.Held)) None))))))) ≡ Some off
        → AreOff n code off
    table z e0 =
        off_row n 0 code None off _ (record { number = refl; refusal = refl; is = tt }) z e0
        (λ e1. off_row n 1 code (Some by.Finish) off _ (record { number = refl; refusal = refl; is = tt }) z e1
        (λ e2. off_row n 2 code (Some by.Disconnect) off _ (record { number = refl; refusal = refl; is = tt }) z e2
        (λ e3. off_row n 3 code (Some by.Terminate) off _ (record { number = refl; refusal = refl; is = tt }) z e3
        (λ e4. off_row n 4 code (Some by.GaveUp) off _ (record { number = refl; refusal = refl; is = tt }) z e4
        (λ e5. off_row n 6 code (Some by.Bytes) off _ (record { number = refl; refusal = refl; is = tt }) z e5
        (λ e6. off_row n 7 code (Some by.Wrong) off _ (record { number = refl; refusal = refl; is = tt }) z e6
        (λ e7. off_row n 8 code (Some by.Held) off _ (record { number = refl; refusal = refl; is = tt }) z e7
        (λ e8. none off e8))))))))

    without : (b : Bool) → (code == 0) ≡ b
        → cond b (cond (n == 0) (Some None) (cond (n == 1) (Some (Some by.Finish)) (cond (n == 2) (Some (Some by.Disconnect)) (cond (n == 3) (Some (Some by.Terminate)) (cond (n == 4) (Some (Some by.GaveUp)) (cond (n == 6) (Some (Some by.Bytes)) (cond (n == 7) (Some (Some by.Wrong)) (cond (n == 8) (Some (Some by.Held)) None)))))))) None ≡ Some off
        → AreOff n code off
    without true zero_is found = table (eqb-true code 0 zero_is) found
    without false zero_is found = none off found

    go : (b : Bool) → (n == 5) ≡ b
        → cond b (cond (nat_le 1 code && nat_le code 5) (Some (Some (by.Refused code))) None)
        (cond (code == 0) (cond (n == 0) (Some None) (cond (n == 1) (Some (Some by.Finish)) (cond (n == 2) (Some (Some by.Disconnect)) (cond (n == 3) (Some (Some by.Terminate)) (cond (n == 4) (Some (Some by.GaveUp)) (cond (n == 6) (Some (Some by.Bytes)) (cond (n == 7) (Some (Some by.Wrong)) (cond (n == 8) (Some (Some by.Held)) None)))))))) None) ≡ Some off
        → AreOff n code off
    go true five found =
        let g = accepted (nat_le 1 code && nat_le code 5) (Some (by.Refused code)) off found in
        let parts = and_parts (nat_le 1 code) (nat_le code 5) g.0 in
        subst (λ (o : Option OffBy). AreOff n code o) g.1 (record { number = eqb-true n 5 five; refusal = refl; is = (leb-true 1 code parts.0, leb-true code 5 parts.1) })
    go false five found = without (code == 0) refl found

off_took : (bytes : List ℕ) (off : Option OffBy) (rest : List ℕ) → AreBytes bytes → off_at bytes ≡ Some (off, rest) → Takes bytes (off_text off) rest × IsOff off
unfolding off_at byte
off_took bytes off rest fits e =
    let a = bind_some (byte_at bytes) (λ number. byte_at number.1 >>= λ code. off_in number.0 code.0 >>= λ o. Some (o, code.1)) (off, rest) e in
    let b = bind_some (byte_at a.0.1) (λ code. off_in a.0.0 code.0 >>= λ o. Some (o, code.1)) (off, rest) a.2 in
    let c = bind_some (off_in a.0.0 b.0.0) (λ o. Some (o, b.0.1)) (off, rest) b.2 in
    let one = byte_took bytes a.0.0 a.0.1 fits a.1 in
    let two = byte_took a.0.1 b.0.0 b.0.1 one.rest_fits b.1 in
    let both : Takes bytes (byte a.0.0 ++ byte b.0.0) b.0.1 = takes_then bytes (byte a.0.0) a.0.1 (byte b.0.0) b.0.1 one two in
    let are = off_in_took a.0.0 b.0.0 c.0 c.1 in
    let own : Takes bytes (off_text c.0) b.0.1 = subst (λ (n : ℕ). Takes bytes (byte n ++ byte (refusal_code c.0)) b.0.1) are.number (subst (λ (n : ℕ). Takes bytes (byte a.0.0 ++ byte n) b.0.1) are.refusal both) in
    subst (λ (p : Option OffBy × List ℕ). Takes bytes (off_text p.0) p.1 × IsOff p.0) (some_is (c.0, b.0.1) (off, rest) c.2) (own, are.is)

off_read : (off : Option OffBy) (rest : List ℕ) → IsOff off → off_at (off_text off ++ rest) ≡ Some (off, rest)
unfolding off_at byte_at byte
off_read off rest is = ap (λ (o : Option (Option OffBy)). o >>= λ x. Some (x, rest)) (off_in_read off is)

pub off_exact : Exact (Option OffBy) off_at off_text IsOff
off_exact = record { read = off_read; took = off_took }

-- ---- Wide numbers

record IsWide (w : Width) (limit : ℕ) : Type 0 where
  len : (n : ℕ) → length (to_be_bytes w n) ≡ byte_len w
  back : (bytes : List ℕ) → length bytes ≡ byte_len w → AreBytes bytes → to_be_bytes w (from_be_bytes w bytes) ≡ bytes
  again : (n : ℕ) → n < limit → from_be_bytes w (to_be_bytes w n) ≡ n
  below : (bytes : List ℕ) → AreBytes bytes → from_be_bytes w bytes < limit

wide32 : IsWide w32 (2 ^ 32)
wide32 = record {
  len = λ n. refl;
  back = λ bytes len fits. be_bytes_4 bytes _ len fits refl;
  again = λ n lt. from_be_bytes-to_be_bytes_4 n lt;
  below = λ bytes fits. omega (arith, fits 0, fits 1, fits 2, fits 3);
}

wide64 : IsWide w64 (2 ^ 64)
wide64 = record {
  len = λ n. refl;
  back = λ bytes len fits. be_bytes_8 bytes _ len fits refl;
  again = λ n lt. from_be_bytes-to_be_bytes_8 n lt;
  below = λ bytes fits. omega (arith, fits 0, fits 1, fits 2, fits 3, fits 4, fits 5, fits 6, fits 7);
}

wide_took : (w : Width) (limit : ℕ) (wide : IsWide w limit) (bytes : List ℕ) (n : ℕ) (rest : List ℕ) → AreBytes bytes → wide_at w bytes ≡ Some (n, rest) → Takes bytes (to_be_bytes w n) rest × (n < limit)
unfolding wide_at
wide_took w limit wide bytes n rest fits e =
    let g = not_refused (ltb (length bytes) (byte_len w)) (from_be_bytes w (take (byte_len w) bytes), drop (byte_len w) bytes) (n, rest) e in
    let long : byte_len w ≤ length bytes = ltb-false _ _ g.0 in
    let n-is : from_be_bytes w (take (byte_len w) bytes) ≡ n = ap (λ (p : ℕ × List ℕ). p.0) g.1 in
    let rest-is : drop (byte_len w) bytes ≡ rest = ap (λ (p : ℕ × List ℕ). p.1) g.1 in
    let front : to_be_bytes w n ≡ take (byte_len w) bytes = rw (← n-is) (wide.back (take (byte_len w) bytes) (omega (arith, length-take (byte_len w) bytes, long)) (bytes_take (byte_len w) bytes fits)) in
    (record { parts = rw (front, ← rest-is) (sym (take-append-drop (byte_len w) bytes)); rest_fits = rw (← rest-is) (bytes_drop (byte_len w) bytes fits) }, rw (← n-is) (wide.below (take (byte_len w) bytes) (bytes_take (byte_len w) bytes fits)))

wide_read : (w : Width) (limit : ℕ) (wide : IsWide w limit) (n : ℕ) (rest : List ℕ) → n < limit → wide_at w (to_be_bytes w n ++ rest) ≡ Some (n, rest)
unfolding wide_at
wide_read w limit wide n rest lt =
    let len = wide.len n in
    let long : ltb (length (to_be_bytes w n ++ rest)) (byte_len w) ≡ false = le-ltb _ _ (omega (arith, length-append (to_be_bytes w n) rest, len)) in
    rw (long, take_at (to_be_bytes w n) rest (byte_len w) len, drop_at (to_be_bytes w n) rest (byte_len w) len, wide.again n lt) refl

pub exact32 : Exact ℕ (wide_at w32) number32 (λ n. n < 2 ^ 32)
unfolding number32
exact32 = record { read = λ n rest lt. wide_read w32 (2 ^ 32) wide32 n rest lt; took = λ bytes n rest fits e. wide_took w32 (2 ^ 32) wide32 bytes n rest fits e }

pub exact64 : Exact ℕ (wide_at w64) number64 IsNumber64
unfolding number64
exact64 = record { read = λ n rest lt. wide_read w64 (2 ^ 64) wide64 n rest lt; took = λ bytes n rest fits e. wide_took w64 (2 ^ 64) wide64 bytes n rest fits e }

pub exact16 : Exact ℕ number_at number16 IsNumber16
exact16 = record { read = λ n rest lt. number_read n rest lt; took = λ bytes n rest fits e. number_took bytes n rest fits e }

-- ---- Texts

pub string_exact : Exact (List ℕ) string_at string IsString
string_exact = record { read = λ text rest is. string_read text rest is; took = λ bytes text rest fits e. string_took bytes text rest fits e }

filter_read : (topics rest : List ℕ) → IsFilter topics → filter_at (string topics ++ rest) ≡ Some (topics, rest)
unfolding filter_at
filter_read topics rest is = rw (string_read topics rest is.text, is.filter) refl

filter_took : (bytes topics rest : List ℕ) → AreBytes bytes → filter_at bytes ≡ Some (topics, rest) → Takes bytes (string topics) rest × IsFilter topics
unfolding filter_at
filter_took bytes topics rest fits e =
    let b = bind_some (string_at bytes) (λ text. cond (is_filter text.0) (Some text) None) (topics, rest) e in
    let t = string_took bytes b.0.0 b.0.1 fits b.1 in
    let g = accepted (is_filter b.0.0) b.0 (topics, rest) b.2 in
    subst (λ (p : List ℕ × List ℕ). Takes bytes (string p.0) p.1 × IsFilter p.0) g.1 (t.0, record { text = t.1; filter = g.0 })

pub filter_exact : Exact (List ℕ) filter_at string IsFilter
filter_exact = record { read = filter_read; took = filter_took }
