-- What is written is read back: heads, strings and values.
use Rattle.std.proofs.Common.{◌≡◌, ℕ, ◌+◌, ◌*◌, ◌/◌, ◌%◌, ◌^◌, ◌<◌, ◌≤◌, true, List, [], ◌∷◌, ◌++◌, length, Some, None, refl, ap, ◌∙◌, arith, ⊎_elim, length-append}
use Rattle.std.specs.Int.{from_be_bytes, to_be_bytes, Width, w8, w16, w32, w64, byte_len}
use Rattle.std.proofs.lemmas.Bool.{cases_lt, lt-ltb, le-ltb, eq-eqb, ne_eqb}
use Rattle.std.proofs.lemmas.List.{take_at, drop_at, append-nil}
use Rattle.std.proofs.lemmas.Nat.{from_be_bytes-to_be_bytes_2, from_be_bytes-to_be_bytes_4, from_be_bytes-to_be_bytes_8}
use Rattle.stream_blocks.specs.Spelling.{head}
use Rattle.stream_blocks.specs.Reading.{number_at, byte_at, argument_at, head_at, counted, counted_behind, is_content, piece_at, chunks_at, content_of}

-- an argument behind the first byte of its head
pub record Begins (major n : ℕ) : Type 0 where
  pub info : ℕ
  pub digits : List ℕ
  pub is : head major n ≡ (32 * major + info) ∷ digits
  pub small : info < 28
  pub read : (rest : List ℕ) → argument_at info (digits ++ rest) ≡ Some (n, rest)

pub wide : (w : Width) (n : ℕ) (digits rest : List ℕ) → length digits ≡ byte_len w → from_be_bytes w digits ≡ n → number_at w (digits ++ rest) ≡ Some (n, rest)
wide w n digits rest len is =
    rw (le-ltb (length (digits ++ rest)) (byte_len w) (omega (arith, len, length-append digits rest)), take_at digits rest (byte_len w) len, drop_at digits rest (byte_len w) len, is) refl

begins_8 : (major n : ℕ) → 4294967296 ≤ n → n < 2 ^ 64 → Begins major n
unfolding head argument_at
begins_8 major n le fits = record {
  info = 27;
  digits = to_be_bytes w64 n;
  is = rw (le-ltb n 24 (omega (arith, le)), le-ltb n 256 (omega (arith, le)), le-ltb n 65536 (omega (arith, le)), le-ltb n 4294967296 le) refl;
  small = omega arith;
  read = λ rest. wide w64 n (to_be_bytes w64 n) rest refl (from_be_bytes-to_be_bytes_8 n fits);
}

begins_4 : (major n : ℕ) → 65536 ≤ n → n < 4294967296 → Begins major n
unfolding head argument_at
begins_4 major n le lt = record {
  info = 26;
  digits = to_be_bytes w32 n;
  is = rw (le-ltb n 24 (omega (arith, le)), le-ltb n 256 (omega (arith, le)), le-ltb n 65536 le, lt-ltb n 4294967296 lt) refl;
  small = omega arith;
  read = λ rest. wide w32 n (to_be_bytes w32 n) rest refl (from_be_bytes-to_be_bytes_4 n lt);
}

begins_2 : (major n : ℕ) → 256 ≤ n → n < 65536 → Begins major n
unfolding head argument_at
begins_2 major n le lt = record {
  info = 25;
  digits = to_be_bytes w16 n;
  is = rw (le-ltb n 24 (omega (arith, le)), le-ltb n 256 le, lt-ltb n 65536 lt) refl;
  small = omega arith;
  read = λ rest. wide w16 n (to_be_bytes w16 n) rest refl (from_be_bytes-to_be_bytes_2 n lt);
}

begins_1 : (major n : ℕ) → 24 ≤ n → n < 256 → Begins major n
unfolding head argument_at byte_at
begins_1 major n le lt = record {
  info = 24;
  digits = to_be_bytes w8 n;
  is = rw (le-ltb n 24 le, lt-ltb n 256 lt) refl;
  small = omega arith;
  read = λ rest. ap (λ (k : ℕ). Some (k, rest)) (omega (arith, lt));
}

begins_0 : (major n : ℕ) → n < 24 → Begins major n
unfolding head argument_at
begins_0 major n lt = record {
  info = n;
  digits = [];
  is = rw (lt-ltb n 24 lt) refl;
  small = omega (arith, lt);
  read = λ rest. rw (lt-ltb n 24 lt) refl;
}

pub begins : (major n : ℕ) → n < 2 ^ 64 → Begins major n
begins major n fits =
    ⊎_elim (begins_0 major n) (λ a. ⊎_elim (begins_1 major n a) (λ b. ⊎_elim (begins_2 major n b) (λ c. ⊎_elim (begins_4 major n c) (λ d. begins_8 major n d fits) (cases_lt n 4294967296)) (cases_lt n 65536)) (cases_lt n 256)) (cases_lt n 24)

head_by : (major n : ℕ) (rest : List ℕ) (b : Begins major n) → head_at major (((32 * major + b.info) ∷ b.digits) ++ rest) ≡ Some (n, rest)
unfolding head_at
head_by major n rest b =
    let same : (32 * major + b.info) / 32 ≡ major = omega (arith, b.small) in
    let low : (32 * major + b.info) % 32 ≡ b.info = omega (arith, b.small) in
    rw (same, low, eq-eqb major major refl) (b.read rest)

pub head_again : (major n : ℕ) (rest : List ℕ) → n < 2 ^ 64 → head_at major (head major n ++ rest) ≡ Some (n, rest)
head_again major n rest fits = let b = begins major n fits in rw b.is (head_by major n rest b)

no_chunks_by : (major n : ℕ) (rest : List ℕ) (b : Begins major n) → chunks_at major (((32 * major + b.info) ∷ b.digits) ++ rest) ≡ None
unfolding chunks_at
no_chunks_by major n rest b =
    let same : (32 * major + b.info) / 32 ≡ major = omega (arith, b.small) in
    let low : (32 * major + b.info) % 32 ≡ b.info = omega (arith, b.small) in
    rw (same, low, eq-eqb major major refl, ne_eqb b.info 31 (λ e. omega (arith, e, b.small))) refl

-- A string of definite length is none in chunks.
pub no_chunks : (major n : ℕ) (rest : List ℕ) → n < 2 ^ 64 → chunks_at major (head major n ++ rest) ≡ None
no_chunks major n rest fits = let b = begins major n fits in rw b.is (no_chunks_by major n rest b)

pub counted_again : (major : ℕ) (content rest : List ℕ) → is_content major content ≡ true → counted major (length content) (content ++ rest) ≡ Some (content, rest)
unfolding counted
counted_again major content rest right =
    rw (le-ltb (length (content ++ rest)) (length content) (omega (arith, length-append content rest)), take_at content rest (length content) refl, drop_at content rest (length content) refl, right) refl

pub piece_again : (major : ℕ) (content rest : List ℕ) → length content < 2 ^ 64 → is_content major content ≡ true → piece_at major (head major (length content) ++ (content ++ rest)) ≡ Some (content, rest)
unfolding piece_at
piece_again major content rest fits right =
    ap (counted_behind major) (head_again major (length content) (content ++ rest) fits) ∙ counted_again major content rest right

pub content_again : (content rest : List ℕ) → length content < 2 ^ 64 → content_of (head 2 (length content) ++ (content ++ rest)) ≡ content
unfolding content_of
content_again content rest fits =
    rw (no_chunks 2 (length content) (content ++ rest) fits, piece_again 2 content rest fits refl) (append-nil content)
