-- Pairs of hexadecimal digits are bytes.
use Rattle.std.proofs.Common.{◌≡◌, ℕ, zero, suc, ◌+◌, ◌-◌, ◌*◌, ◌<◌, Bool, true, false, cond, List, [], ◌∷◌, length, Option, Some, None, Result, Ok, Err, refl, arith}
use Rattle.std.specs.Prelude.{nat_le, slice_index_or, ◌&&◌, ◌==◌, ◌%◌}
use Rattle.std.proofs.lemmas.Bool.{and_parts, leb-true}
use Rattle.hex.specs.Hex.{◌>>=◌, hex_digit_value, digit_or_error, pair_value, decode_pairs, decode_of}
use Rattle.hex.specs.declared.error.FromHexError.{FromHexError}
use Rattle.hex.specs.declared.error.FromHexError.TheVariants.{OddLength}

abbrev pub AreBytes : List ℕ → Type 0
AreBytes bytes = (i : ℕ) → slice_index_or bytes i 0 < 256

pub no_bytes : AreBytes []
no_bytes i = omega arith

more_bytes : (b : ℕ) (bytes : List ℕ) → b < 256 → AreBytes bytes → AreBytes (b ∷ bytes)
more_bytes b bytes h k zero = h
more_bytes b bytes h k (suc i) = k i

digit_small : (c v : ℕ) → hex_digit_value c ≡ Some v → v < 16
digit_small c v e = by (nat_le 65 c && nat_le c 70) (nat_le 97 c && nat_le c 102) (nat_le 48 c && nat_le c 57) refl refl refl e
  where
    within : (low high base : ℕ) → (nat_le low c && nat_le c high) ≡ true → high - base < 16 → c - base < 16
    within low high base test h = let parts = and_parts (nat_le low c) (nat_le c high) test in let less = leb-true c high parts.1 in omega (arith, less, h)

    by : (a b d : Bool) → (nat_le 65 c && nat_le c 70) ≡ a → (nat_le 97 c && nat_le c 102) ≡ b → (nat_le 48 c && nat_le c 57) ≡ d → cond a (Some (c - 55)) (cond b (Some (c - 87)) (cond d (Some (c - 48)) None)) ≡ Some v → v < 16
    by true b d x y z h = let it : c - 55 ≡ v = cc h in let less = within 65 70 55 x (omega arith) in omega (arith, it, less)
    by false true d x y z h = let it : c - 87 ≡ v = cc h in let less = within 97 102 87 y (omega arith) in omega (arith, it, less)
    by false false true x y z h = let it : c - 48 ≡ v = cc h in let less = within 48 57 48 z (omega arith) in omega (arith, it, less)
    by false false false x y z h = absurd (cc h)

-- what a decoding gives
abbrev IsSmall : Result ℕ FromHexError → Type 0
IsSmall (Ok b) = b < 256
IsSmall (Err e) = Unit {0}

abbrev pub AreSmall : Result (List ℕ) FromHexError → Type 0
AreSmall (Ok bytes) = AreBytes bytes
AreSmall (Err e) = Unit {0}

pair_small : (high low i : ℕ) → IsSmall (pair_value high low i)
pair_small high low i = by (hex_digit_value high) (hex_digit_value low) (digit_small high) (digit_small low)
  where
    by : (h l : Option ℕ) → ((v : ℕ) → h ≡ Some v → v < 16) → ((v : ℕ) → l ≡ Some v → v < 16) → IsSmall (digit_or_error high i h >>= λ x. digit_or_error low (i + 1) l >>= λ y. Ok (x * 16 + y))
    by (Some x) (Some y) h k = let first = h x refl in let second = k y refl in omega (arith, first, second)
    by (Some x) None h k = tt
    by None l h k = tt

onto_small : (b : Result ℕ FromHexError) (bytes : Result (List ℕ) FromHexError) → IsSmall b → AreSmall bytes → AreSmall (b >>= λ x. bytes >>= λ xs. Ok (x ∷ xs))
onto_small (Ok b) (Ok bytes) h k = more_bytes b bytes h k
onto_small (Ok b) (Err e) h k = tt
onto_small (Err e) bytes h k = tt

pairs_small : (i : ℕ) (text : List ℕ) → AreSmall (decode_pairs i text)
unfolding decode_pairs
pairs_small i [] = no_bytes
pairs_small i (digit ∷ []) = tt
pairs_small i (high ∷ low ∷ rest) = onto_small (pair_value high low i) (decode_pairs (i + 2) rest) (pair_small high low i) (pairs_small (i + 2) rest)

pub decoding_small : (text : List ℕ) → AreSmall (decode_of text)
decoding_small text = by (length text % 2 == 1) (decode_pairs 0 text) (pairs_small 0 text)
  where
    by : (odd : Bool) (r : Result (List ℕ) FromHexError) → AreSmall r → AreSmall (cond odd (Err OddLength) r)
    by true r h = tt
    by false r h = h
