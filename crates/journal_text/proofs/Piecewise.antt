-- Texts that are written piece by piece: the written front grows by each piece.
use Rattle.std.proofs.Common.{◌≡◌, ℕ, ◌+◌, ◌<◌, ◌≤◌, List, [], ◌∷◌, ◌++◌, length, take, drop, get_or, Option, refl, sym, ap, ◌∙◌, subst, append-nil, arith}
use Rattle.std.specs.Prelude.{◌/◌, ◌%◌, slice_index}
use Rattle.std.specs.Io.KnownBytes.{Appends}
use Rattle.std.proofs.KnownBytes.{Appends-nil, Appends-trans}
use Rattle.std.proofs.Math.Seq.{take-add}
use Rattle.std.proofs.lemmas.List.{take-append-drop, take_all}
use Rattle.std.proofs.lemmas.Grind.{flat_map-append}
use Rattle.hex.specs.Hex.{encode_lower, encode_with, lower_digits}
use Rattle.agent_link.specs.Writes.{AppendsFront}
use Rattle.agent_link.proofs.Writing.{front_behind, front_longer}
use Rattle.plain_text.specs.Escapes.{escaped, escaped_byte}

encoded : (t xs ys : List ℕ) → encode_with t (xs ++ ys) ≡ encode_with t xs ++ encode_with t ys
unfolding encode_with
encoded t [] ys = refl
encoded t (x ∷ xs) ys = ap (λ digits. slice_index t (x / 16) ∷ slice_index t (x % 16) ∷ digits) (encoded t xs ys)

-- a text of bytes that is made piece by piece
pub record IsPiecewise (text : List ℕ → List ℕ) : Type 0 where
  pub none : text [] ≡ []
  pub more : (xs ys : List ℕ) → text (xs ++ ys) ≡ text xs ++ text ys

module _ (text : List ℕ → List ℕ) (piecewise : IsPiecewise text) where
  piece_more : (a b c : Option (List ℕ)) (bytes : List ℕ) (at n : ℕ) → Appends a b (text (take at bytes)) → Appends b c (text (take n (drop at bytes))) → Appends a c (text (take (at + n) bytes))
  piece_more a b c bytes at n before h =
      subst (Appends a c) (sym (ap text (take-add at n bytes) ∙ piecewise.more (take at bytes) (take n (drop at bytes))))
      (Appends-trans a b c (text (take at bytes)) (text (take n (drop at bytes))) before h)

  -- the text of all is that of the front and that of the rest
  whole : (bytes : List ℕ) (at : ℕ) → text bytes ≡ text (take at bytes) ++ text (drop at bytes)
  whole bytes at = ap text (sym (take-append-drop at bytes)) ∙ piecewise.more (take at bytes) (drop at bytes)

  piece_stopped : (a b c : Option (List ℕ)) (bytes : List ℕ) (at : ℕ) → Appends a b (text (take at bytes)) → AppendsFront b c (text (drop at bytes)) → AppendsFront a c (text bytes)
  piece_stopped a b c bytes at before h = subst (AppendsFront a c) (sym (whole bytes at)) (front_behind a b c (text (take at bytes)) (text (drop at bytes)) before h)

  -- a front of the text of a front
  front_of : (b c : Option (List ℕ)) (bytes : List ℕ) (n : ℕ) → AppendsFront b c (text (take n bytes)) → AppendsFront b c (text bytes)
  front_of b c bytes n h = subst (AppendsFront b c) (sym (whole bytes n)) (front_longer b c (text (take n bytes)) (text (drop n bytes)) h)

  piece_all : (a b : Option (List ℕ)) (bytes : List ℕ) (at : ℕ) → length bytes ≤ at → Appends a b (text (take at bytes)) → Appends a b (text bytes)
  piece_all a b bytes at end h = subst (λ front. Appends a b (text front)) (take_all at bytes end) h

  piece_none : (a : Option (List ℕ)) (bytes : List ℕ) → Appends a a (text (take 0 bytes))
  piece_none a bytes = subst (Appends a a) (sym piecewise.none) (Appends-nil a)

hex_text : IsPiecewise encode_lower
unfolding encode_with
hex_text = record { none = refl; more = encoded lower_digits }

escaped_text : IsPiecewise escaped
escaped_text = record { none = refl; more = flat_map-append escaped_byte }

pub hex_none : (a : Option (List ℕ)) (bytes : List ℕ) → Appends a a (encode_lower (take 0 bytes))
hex_none a bytes = piece_none encode_lower hex_text a bytes

pub hex_more : (a b c : Option (List ℕ)) (bytes rest piece : List ℕ) (at n : ℕ) → Appends a b (encode_lower (take at bytes)) → Appends b c (encode_lower piece) → piece ≡ take n rest → rest ≡ drop at bytes
    → n ≡ length piece → Appends a c (encode_lower (take (at + n) bytes))
hex_more a b c bytes rest piece at n before h is rest_is len =
    piece_more encode_lower hex_text a b c bytes at n before (subst (λ p. Appends b c (encode_lower p)) (is ∙ ap (take n) rest_is) h)

pub hex_stopped : (a b c : Option (List ℕ)) (bytes rest piece : List ℕ) (at n : ℕ) → Appends a b (encode_lower (take at bytes)) → AppendsFront b c (encode_lower piece) → piece ≡ take n rest → rest ≡ drop at bytes
    → AppendsFront a c (encode_lower bytes)
hex_stopped a b c bytes rest piece at n before h is rest_is =
    piece_stopped encode_lower hex_text a b c bytes at before (front_of encode_lower hex_text b c (drop at bytes) n (subst (λ p. AppendsFront b c (encode_lower p)) (is ∙ ap (take n) rest_is) h))

pub hex_all : (a b : Option (List ℕ)) (bytes : List ℕ) (at : ℕ) → length bytes ≤ at → Appends a b (encode_lower (take at bytes)) → Appends a b (encode_lower bytes)
hex_all a b bytes at end h = piece_all encode_lower hex_text a b bytes at end h

pub escaped_none : (a : Option (List ℕ)) (bytes : List ℕ) → Appends a a (escaped (take 0 bytes))
escaped_none a bytes = piece_none escaped escaped_text a bytes

pub escaped_more : (a b c : Option (List ℕ)) (bytes rest : List ℕ) (at n : ℕ) → Appends a b (escaped (take at bytes)) → Appends b c (escaped (take n rest)) → rest ≡ drop at bytes → Appends a c (escaped (take (at + n) bytes))
escaped_more a b c bytes rest at n before h rest_is =
    piece_more escaped escaped_text a b c bytes at n before (subst (λ r. Appends b c (escaped (take n r))) rest_is h)

pub escaped_stopped : (a b c : Option (List ℕ)) (bytes rest : List ℕ) (at : ℕ) → Appends a b (escaped (take at bytes)) → AppendsFront b c (escaped rest) → rest ≡ drop at bytes → AppendsFront a c (escaped bytes)
escaped_stopped a b c bytes rest at before h rest_is = piece_stopped escaped escaped_text a b c bytes at before (subst (λ r. AppendsFront b c (escaped r)) rest_is h)

pub escaped_all : (a b : Option (List ℕ)) (bytes : List ℕ) (at : ℕ) → length bytes ≤ at → Appends a b (escaped (take at bytes)) → Appends a b (escaped bytes)
escaped_all a b bytes at end h = piece_all escaped escaped_text a b bytes at end h

-- a run of bytes that stand for themselves
pub run_plain : (a b : Option (List ℕ)) (text plain : List ℕ) (n : ℕ) → Appends a b plain → plain ≡ take n text → escaped (take n text) ≡ take n text → Appends a b (escaped (take n text))
run_plain a b text plain n h is stands = subst (Appends a b) (is ∙ sym stands) h

pub run_stopped : (a b : Option (List ℕ)) (text plain : List ℕ) (n : ℕ) → AppendsFront a b plain → plain ≡ take n text → escaped (take n text) ≡ take n text → AppendsFront a b (escaped text)
run_stopped a b text plain n h is stands = front_of escaped escaped_text a b text n (subst (AppendsFront a b) (is ∙ sym stands) h)

single : (text : List ℕ) → 0 < length text → escaped_byte (get_or text 0 0) ≡ escaped (take 1 text)
single [] some = absurd (omega arith)
single (b ∷ text) some = sym (append-nil (escaped_byte b))

-- one byte that doesn't
pub run_escaped : (a b : Option (List ℕ)) (text : List ℕ) (byte : ℕ) → 0 < length text → byte ≡ get_or text 0 0 → Appends a b (escaped_byte byte) → Appends a b (escaped (take 1 text))
run_escaped a b text byte some is h = subst (Appends a b) (ap escaped_byte is ∙ single text some) h

pub escape_stopped : (a b : Option (List ℕ)) (text : List ℕ) (byte : ℕ) → 0 < length text → byte ≡ get_or text 0 0 → AppendsFront a b (escaped_byte byte) → AppendsFront a b (escaped text)
escape_stopped a b text byte some is h = front_of escaped escaped_text a b text 1 (subst (AppendsFront a b) (ap escaped_byte is ∙ single text some) h)
