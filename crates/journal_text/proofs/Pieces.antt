-- The pieces of a line are words, and each names what it stands for: numbers, bytes in hexadecimal, payloads, topics.
use Rattle.std.proofs.Common.{◌≡◌, ℕ, zero, suc, ◌+◌, ◌*◌, ◌/◌, ◌%◌, ◌^◌, ◌<◌, Bool, true, false, cond, List, [], ◌∷◌, ◌++◌, length, slice_index, Option, Some, None, Result, Ok, refl, sym, ap, ◌∙◌, arith}
use Rattle.std.specs.Prelude.{◌&&◌, ◌==◌, not, nat_lt, nat_le, decimal}
use Rattle.std.specs.List.{list_all}
use Rattle.std.proofs.lemmas.Bool.{agree_below_at, and_parts, ltb-true, eqb-true}
use Rattle.std.proofs.lemmas.Fmt.{decimal_by_steps, decimal_injective}
use Rattle.hex.specs.Hex.{IsBytes, encode_with, encode_lower, lower_digits, decode_of}
use Rattle.hex.specs.declared.error.FromHexError.{FromHexError}
use Rattle.hex.proofs.HexLemmas.{decode_of-encode_lower, length-encode_with}
use Rattle.plain_text.specs.Escapes.{is_plain, digit_of, escaped_byte, escaped, value_of, onto, Nothing, bytes_in}
use Rattle.plain_text.specs.Payloads.{payload_text}
use Rattle.agent_table.proofs.SoundRows.{all_both}
use Rattle.journal_text.specs.Typed.{AreBytes}
use Rattle.journal_text.proofs.Marks.{IsWord, IsPlain}

-- ---- Numbers

pub decimal_word : (n : ℕ) → n < 2 ^ 64 → IsWord (decimal n)
decimal_word n fits = decimal_by_steps (λ n digits. IsWord digits) (λ n one. (omega arith, tt)) (λ n digits more word. all_both IsPlain digits ((48 + n % 10) ∷ []) word (omega arith, tt)) n fits

pub decimal_same : (m n : ℕ) → m < 2 ^ 64 → n < 2 ^ 64 → decimal m ≡ decimal n → m ≡ n
decimal_same m n p q e = decimal_injective m n p q e

-- ---- Hexadecimal

lower_plain : (d : ℕ) → d < 16 → 32 < slice_index lower_digits d
lower_plain d low = ltb-true 32 (slice_index lower_digits d) (agree_below_at (λ d. nat_lt 32 (slice_index lower_digits d)) (λ d. true) 16 d refl low)

pub hex_word : (bytes : List ℕ) → AreBytes bytes → IsWord (encode_lower bytes)
unfolding encode_with
hex_word [] all = tt
hex_word (b ∷ bytes) all = let fits = all.0 in (lower_plain (b / 16) (omega (arith, fits)), (lower_plain (b % 16) (omega arith), hex_word bytes all.1))

are_bytes : (bytes : List ℕ) → AreBytes bytes → IsBytes bytes
are_bytes [] all i = omega arith
are_bytes (b ∷ bytes) all zero = all.0
are_bytes (b ∷ bytes) all (suc i) = are_bytes bytes all.1 i

ok_same : (one other : List ℕ) (read : Result (List ℕ) FromHexError) → read ≡ Ok one → read ≡ Ok other → one ≡ other
ok_same one other read e k = let both : Ok one ≡ Ok other = sym e ∙ k in cc

pub hex_same : (one other : List ℕ) → AreBytes one → AreBytes other → encode_lower one ≡ encode_lower other → one ≡ other
hex_same one other p q e = ok_same one other (decode_of (encode_lower one)) (decode_of-encode_lower one (are_bytes one p)) (ap decode_of e ∙ decode_of-encode_lower other (are_bytes other q))

-- ---- Payloads

pub payload_word : (bytes : List ℕ) → AreBytes bytes → IsWord (payload_text bytes)
payload_word [] all = (omega arith, tt)
payload_word (b ∷ bytes) all = hex_word (b ∷ bytes) all

two_digits : (b : ℕ) (bytes : List ℕ) → encode_lower (b ∷ bytes) ≡ 45 ∷ [] → ⊥
two_digits b bytes e = let size = length-encode_with lower_digits (b ∷ bytes) in let one = ap length e in omega (arith, size, one)

pub payload_same : (one other : List ℕ) → AreBytes one → AreBytes other → payload_text one ≡ payload_text other → one ≡ other
payload_same [] [] p q e = refl
payload_same [] (b ∷ other) p q e = absurd (two_digits b other (sym e))
payload_same (a ∷ one) [] p q e = absurd (two_digits a one e)
payload_same (a ∷ one) (b ∷ other) p q e = hex_same (a ∷ one) (b ∷ other) p q e

-- ---- Topics

-- a word that is written out
pub letters : (bytes : List ℕ) → list_all (λ b. nat_lt 32 b) bytes ≡ true → IsWord bytes
letters [] e = tt
letters (b ∷ bytes) e = let two = and_parts (nat_lt 32 b) (list_all (λ b. nat_lt 32 b) bytes) e in (ltb-true 32 b two.0, letters bytes two.1)

byte_word : (b : ℕ) → b < 256 → IsWord (escaped_byte b)
byte_word b fits = letters (escaped_byte b) (agree_below_at (λ b. list_all (λ c. nat_lt 32 c) (escaped_byte b)) (λ b. true) 256 b refl fits)

pub escaped_word : (bytes : List ℕ) → AreBytes bytes → IsWord (escaped bytes)
escaped_word [] all = tt
escaped_word (b ∷ bytes) all = all_both IsPlain (escaped_byte b) (escaped bytes) (byte_word b all.0) (escaped_word bytes all.1)

abbrev is_digit : ℕ → ℕ → Bool
is_digit n b = by_value (value_of b)
  where
    by_value : Option ℕ → Bool
    by_value None = false
    by_value (Some m) = m == n

some_value : (n : ℕ) (value : Option ℕ) → (elim value as (λ x. Bool) [ None ↦ false | Some m ↦ m == n ]) ≡ true → value ≡ Some n
some_value n None e = absurd (cc e)
some_value n (Some m) e = ap Some (eqb-true m n e)

digit_read : (n : ℕ) → n < 16 → value_of (digit_of n) ≡ Some n
digit_read n low = some_value n (value_of (digit_of n)) (agree_below_at (λ n. elim (value_of (digit_of n)) as (λ x. Bool) [ None ↦ false | Some m ↦ m == n ]) (λ n. true) 16 n refl low)

-- what is written for a byte is read as it
byte_read : (b : ℕ) (word : List ℕ) → b < 256 → bytes_in Nothing (escaped_byte b ++ word) ≡ onto b (bytes_in Nothing word)
unfolding bytes_in
byte_read b word fits = by (is_plain b) refl
  where
    other : (plain : Bool) → is_plain b ≡ plain → plain ≡ true → (b == 37) ≡ false
    other true e is = go (b == 37) (and_parts (nat_le 33 b && nat_le b 126) (not (b == 37)) e).1
      where
        go : (same : Bool) → not same ≡ true → same ≡ false
        go true e = absurd (cc e)
        go false e = refl
    other false e is = absurd (cc is)

    by : (plain : Bool) → is_plain b ≡ plain → bytes_in Nothing (cond plain (b ∷ []) (37 ∷ digit_of (b / 16) ∷ digit_of (b % 16) ∷ []) ++ word) ≡ onto b (bytes_in Nothing word)
    by true e = rw (e, other true e refl) refl
    by false e =
        let whole : 16 * (b / 16) + b % 16 ≡ b = omega arith in
        rw (digit_read (b / 16) (omega (arith, fits)), digit_read (b % 16) (omega arith), whole) refl

escaped_read : (bytes : List ℕ) → AreBytes bytes → bytes_in Nothing (escaped bytes) ≡ Some bytes
unfolding bytes_in
escaped_read [] all = refl
escaped_read (b ∷ bytes) all = byte_read b (escaped bytes) all.0 ∙ ap (onto b) (escaped_read bytes all.1)

some_same : (one other : List ℕ) → Some one ≡ Some other → one ≡ other
some_same one other e = cc

pub escaped_same : (one other : List ℕ) → AreBytes one → AreBytes other → escaped one ≡ escaped other → one ≡ other
escaped_same one other p q e = some_same one other (sym (escaped_read one p) ∙ ap (bytes_in Nothing) e ∙ escaped_read other q)
