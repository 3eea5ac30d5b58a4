-- Heads and strings of the grammar are read as what they stand for.
use Rattle.std.proofs.Common.{◌≡◌, ℕ, ◌+◌, ◌*◌, ◌/◌, ◌%◌, ◌<◌, ◌≤◌, true, List, [], ◌∷◌, ◌++◌, length, Some, None, Ok, refl, sym, ap, subst, ◌∙◌, arith, inl, inr, ⊎_elim, append_assoc}
use Rattle.std.specs.Int.{to_be_bytes, w8, w16, w32, w64}
use Rattle.std.proofs.lemmas.Bool.{cases_eq, lt-ltb, le-ltb, le-leb, eq-eqb, ne_eqb}
use Rattle.std.proofs.lemmas.List.{append-nil}
use Rattle.std.proofs.lemmas.Nat.{from_be_bytes-to_be_bytes_2, from_be_bytes-to_be_bytes_4, from_be_bytes-to_be_bytes_8}
use Rattle.std.proofs.lemmas.Str.{is_utf8-from_IsUtf8}
use Rattle.stream_blocks.specs.Grammar.{IsHead, IsContent, IsPiece, AreChunks, IsString}
use Rattle.stream_blocks.specs.Reading.{or_bad, byte_at, argument_at, head_at, counted_behind, is_content, piece_at, break_at, chunks_at, chunks_end, string_end, pieces_content, content_of, rest_of, value_end}
use Rattle.stream_blocks.specs.Laws.{HeadsAreRead, StringsAreRead, ValuesAreRead}
use Rattle.stream_blocks.proofs.Again.{wide, counted_again}
use Rattle.stream_blocks.proofs.Chunks.{at_break, at_chunk, content_more, content_end}

-- a head: its first byte, and what its argument reads as
pub record Heads (major n : ℕ) (bytes : List ℕ) : Type 0 where
  pub info : ℕ
  pub digits : List ℕ
  pub is : bytes ≡ (32 * major + info) ∷ digits
  pub small : info < 28
  pub read : (rest : List ℕ) → argument_at info (digits ++ rest) ≡ Some (n, rest)

pub heads : (major : ℕ) (bytes : List ℕ) (n : ℕ) → IsHead major bytes n → Heads major n bytes
unfolding argument_at byte_at
heads major bytes n (inl h) = record { info = n; digits = []; is = h.1; small = omega (arith, h.0); read = λ rest. rw (lt-ltb n 24 h.0) refl }
heads major bytes n (inr (inl h)) = record { info = 24; digits = to_be_bytes w8 n; is = h.1; small = omega arith; read = λ rest. ap (λ (m : ℕ). Some (m, rest)) (omega (arith, h.0)) }
heads major bytes n (inr (inr (inl h))) = record { info = 25; digits = to_be_bytes w16 n; is = h.1; small = omega arith; read = λ rest. wide w16 n (to_be_bytes w16 n) rest refl (from_be_bytes-to_be_bytes_2 n h.0) }
heads major bytes n (inr (inr (inr (inl h)))) = record { info = 26; digits = to_be_bytes w32 n; is = h.1; small = omega arith; read = λ rest. wide w32 n (to_be_bytes w32 n) rest refl (from_be_bytes-to_be_bytes_4 n h.0) }
heads major bytes n (inr (inr (inr (inr h)))) = record { info = 27; digits = to_be_bytes w64 n; is = h.1; small = omega arith; read = λ rest. wide w64 n (to_be_bytes w64 n) rest refl (from_be_bytes-to_be_bytes_8 n h.0) }

head_by : (major n : ℕ) (bytes rest : List ℕ) (h : Heads major n bytes) → head_at major (((32 * major + h.info) ∷ h.digits) ++ rest) ≡ Some (n, rest)
unfolding head_at
head_by major n bytes rest h =
    let same : (32 * major + h.info) / 32 ≡ major = omega (arith, h.small) in
    let low : (32 * major + h.info) % 32 ≡ h.info = omega (arith, h.small) in
    rw (same, low, eq-eqb major major refl) (h.read rest)

pub heads_are_read : HeadsAreRead
heads_are_read major n bytes rest is =
    let h = heads major bytes n is in
    ap (λ (b : List ℕ). head_at major (b ++ rest)) h.is ∙ head_by major n bytes rest h

content_right : (major : ℕ) (content : List ℕ) → IsContent major content → is_content major content ≡ true
content_right major content right =
    ⊎_elim (λ e. rw (eq-eqb major 3 e, is_utf8-from_IsUtf8 content (right e)) refl) (λ apart. rw (ne_eqb major 3 apart) refl) (cases_eq major 3)

pub piece_is : (major : ℕ) (bytes content rest : List ℕ) → IsPiece major bytes content → piece_at major (bytes ++ rest) ≡ Some (content, rest)
unfolding piece_at
piece_is major bytes content rest p =
    ap (λ (b : List ℕ). piece_at major (b ++ rest)) p.1 ∙ ap (piece_at major) (append_assoc p.0 content rest)
    ∙ ap (counted_behind major) (heads_are_read major (length content) p.0 (content ++ rest) p.2) ∙ counted_again major content rest (content_right major content p.3)

-- the first byte of a piece
record Starts (major : ℕ) (bytes : List ℕ) : Type 0 where
  info : ℕ
  behind : List ℕ
  is : bytes ≡ (32 * major + info) ∷ behind
  small : info < 28

starts : (major : ℕ) (bytes content : List ℕ) → IsPiece major bytes content → Starts major bytes
starts major bytes content p =
    let h = heads major p.0 (length content) p.2 in
    record { info = h.info; behind = h.digits ++ content; is = p.1 ∙ ap (λ (b : List ℕ). b ++ content) h.is; small = h.small }

no_break_by : (major info : ℕ) (behind rest : List ℕ) → major < 7 → info < 28 → break_at (((32 * major + info) ∷ behind) ++ rest) ≡ None
unfolding break_at
no_break_by major info behind rest low small = rw (ne_eqb (32 * major + info) 255 (λ e. omega (arith, e, low, small))) refl

pub no_break : (major : ℕ) (bytes content rest : List ℕ) → major < 7 → IsPiece major bytes content → break_at (bytes ++ rest) ≡ None
no_break major bytes content rest low p =
    let s = starts major bytes content p in
    ap (λ (b : List ℕ). break_at (b ++ rest)) s.is ∙ no_break_by major s.info s.behind rest low s.small

no_chunks_by : (major info : ℕ) (behind rest : List ℕ) → info < 28 → chunks_at major (((32 * major + info) ∷ behind) ++ rest) ≡ None
unfolding chunks_at
no_chunks_by major info behind rest small =
    let same : (32 * major + info) / 32 ≡ major = omega (arith, small) in
    let low : (32 * major + info) % 32 ≡ info = omega (arith, small) in
    rw (same, low, eq-eqb major major refl, ne_eqb info 31 (λ e. omega (arith, e, small))) refl

no_chunks_in : (major : ℕ) (bytes content rest : List ℕ) → IsPiece major bytes content → chunks_at major (bytes ++ rest) ≡ None
no_chunks_in major bytes content rest p =
    let s = starts major bytes content p in
    ap (λ (b : List ℕ). chunks_at major (b ++ rest)) s.is ∙ no_chunks_by major s.info s.behind rest s.small

-- ---- Chunks up to their break

chunks_are : (major : ℕ) (chunks : List (List ℕ)) (inside content rest : List ℕ) → major < 7 → AreChunks major chunks inside content
    → chunks_end major (length (inside ++ (255 ∷ rest)) + 1) (inside ++ (255 ∷ rest)) ≡ Ok rest
unfolding break_at
chunks_are major [] inside content rest low h =
    ap (λ (t : List ℕ). chunks_end major (length (t ++ (255 ∷ rest)) + 1) (t ++ (255 ∷ rest))) h.0 ∙ at_break major (255 ∷ rest) rest (chunks_end major (length (255 ∷ rest) + 1) (255 ∷ rest)) refl refl
chunks_are major (chunk ∷ chunks) inside content rest low h =
    let behind = h.1 in
    let left = behind ++ (255 ∷ rest) in
    ap (λ (t : List ℕ). chunks_end major (length t + 1) t) (ap (λ (t : List ℕ). t ++ (255 ∷ rest)) h.3 ∙ append_assoc chunk behind (255 ∷ rest))
    ∙ sym (at_chunk major (chunk ++ left) left h.0 (chunks_end major (length (chunk ++ left) + 1) (chunk ++ left)) (no_break major chunk h.0 left low h.5) (piece_is major chunk h.0 left h.5) refl)
    ∙ chunks_are major chunks behind h.2 rest low h.6

no_piece : (rest : List ℕ) → piece_at 2 (255 ∷ rest) ≡ None
unfolding piece_at head_at
no_piece rest = refl

pieces_are : (chunks : List (List ℕ)) (inside content rest : List ℕ) → AreChunks 2 chunks inside content → pieces_content (length (inside ++ (255 ∷ rest)) + 1) (inside ++ (255 ∷ rest)) ≡ content
pieces_are [] inside content rest h =
    ap (λ (t : List ℕ). pieces_content (length (t ++ (255 ∷ rest)) + 1) (t ++ (255 ∷ rest))) h.0 ∙ content_end (255 ∷ rest) (no_piece rest) ∙ sym h.1
pieces_are (chunk ∷ chunks) inside content rest h =
    let behind = h.1 in
    let left = behind ++ (255 ∷ rest) in
    ap (λ (t : List ℕ). pieces_content (length t + 1) t) (ap (λ (t : List ℕ). t ++ (255 ∷ rest)) h.3 ∙ append_assoc chunk behind (255 ∷ rest))
    ∙ content_more (chunk ++ left) left h.0 (piece_is 2 chunk h.0 left h.5)
    ∙ ap (λ (t : List ℕ). h.0 ++ t) (pieces_are chunks behind h.2 rest h.6) ∙ sym h.4

chunks_begin : (major : ℕ) (bytes : List ℕ) → chunks_at major ((32 * major + 31) ∷ bytes) ≡ Some bytes
unfolding chunks_at
chunks_begin major bytes =
    let same : (32 * major + 31) / 32 ≡ major = omega arith in
    let low : (32 * major + 31) % 32 ≡ 31 = omega arith in
    rw (same, low, eq-eqb major major refl) refl

chunked_is : (major : ℕ) (bytes rest inside : List ℕ) → bytes ≡ (32 * major + 31) ∷ (inside ++ 255 ∷ []) → chunks_at major (bytes ++ rest) ≡ Some (inside ++ (255 ∷ rest))
chunked_is major bytes rest inside e =
    ap (λ (t : List ℕ). chunks_at major (t ++ rest)) e ∙ ap (λ (t : List ℕ). chunks_at major ((32 * major + 31) ∷ t)) (append_assoc inside (255 ∷ []) rest) ∙ chunks_begin major (inside ++ (255 ∷ rest))

ends_by : (major : ℕ) (bytes content rest : List ℕ) → major < 7 → IsString major bytes content → string_end major (bytes ++ rest) ≡ Ok rest
unfolding string_end
ends_by major bytes content rest low (inl p) = rw (no_chunks_in major bytes content rest p, piece_is major bytes content rest p) refl
ends_by major bytes content rest low (inr h) = rw (chunked_is major bytes rest h.1 h.2) (chunks_are major h.0 h.1 content rest low h.3)

holds_by : (bytes content rest : List ℕ) → IsString 2 bytes content → content_of (bytes ++ rest) ≡ content
unfolding content_of
holds_by bytes content rest (inl p) = rw (no_chunks_in 2 bytes content rest p, piece_is 2 bytes content rest p) (append-nil content)
holds_by bytes content rest (inr h) = rw (chunked_is 2 bytes rest h.1 h.2) (pieces_are h.0 h.1 content rest h.3)

pub strings_are_read : StringsAreRead
strings_are_read major bytes content rest low is = (ends_by major bytes content rest low is, λ e. holds_by bytes content rest (subst (λ (m : ℕ). IsString m bytes content) e is))

-- ---- Values

record Begun (major : ℕ) (bytes : List ℕ) : Type 0 where
  info : ℕ
  behind : List ℕ
  is : bytes ≡ (32 * major + info) ∷ behind
  small : info < 32

string_begun : (major : ℕ) (bytes content : List ℕ) → IsString major bytes content → Begun major bytes
string_begun major bytes content (inl p) = let s = starts major bytes content p in record { info = s.info; behind = s.behind; is = s.is; small = omega (arith, s.small) }
string_begun major bytes content (inr h) = record { info = 31; behind = h.1 ++ 255 ∷ []; is = h.2; small = omega arith }

-- what a first byte leads to
on_unsigned : (b : ℕ) (bytes : List ℕ) → b < 32 → value_end (b ∷ bytes) ≡ or_bad (b ∷ bytes) (rest_of (head_at 0 (b ∷ bytes)))
unfolding value_end
on_unsigned b bytes lt = rw (lt-ltb b 32 lt) refl

on_negative : (b : ℕ) (bytes : List ℕ) → 32 ≤ b → b < 64 → value_end (b ∷ bytes) ≡ or_bad (b ∷ bytes) (rest_of (head_at 1 (b ∷ bytes)))
unfolding value_end
on_negative b bytes le lt = rw (le-ltb b 32 le, lt-ltb b 64 lt) refl

on_bytes : (b : ℕ) (bytes : List ℕ) → 64 ≤ b → b < 96 → value_end (b ∷ bytes) ≡ string_end 2 (b ∷ bytes)
unfolding value_end
on_bytes b bytes le lt = rw (le-ltb b 32 (omega (arith, le)), le-ltb b 64 le, lt-ltb b 96 lt) refl

on_text : (b : ℕ) (bytes : List ℕ) → 96 ≤ b → b < 128 → value_end (b ∷ bytes) ≡ string_end 3 (b ∷ bytes)
unfolding value_end
on_text b bytes le lt = rw (le-ltb b 32 (omega (arith, le)), le-ltb b 64 (omega (arith, le)), le-ltb b 96 le, lt-ltb b 128 lt) refl

on_simple : (b : ℕ) (bytes : List ℕ) → 244 ≤ b → b ≤ 246 → value_end (b ∷ bytes) ≡ Ok bytes
unfolding value_end
on_simple b bytes le most =
    rw (le-ltb b 32 (omega (arith, le)), le-ltb b 64 (omega (arith, le)), le-ltb b 96 (omega (arith, le)), le-ltb b 128 (omega (arith, le)), le-leb 244 b le, le-leb b 246 most) refl

number_end : (major n : ℕ) (bytes rest : List ℕ) → head_at major bytes ≡ Some (n, rest) → or_bad bytes (rest_of (head_at major bytes)) ≡ Ok rest
number_end major n bytes rest e = rw e refl

unsigned_is : (n : ℕ) (bytes rest : List ℕ) → IsHead 0 bytes n → value_end (bytes ++ rest) ≡ Ok rest
unsigned_is n bytes rest is =
    let h = heads 0 bytes n is in
    let whole : bytes ++ rest ≡ h.info ∷ (h.digits ++ rest) = ap (λ (t : List ℕ). t ++ rest) h.is ∙ ap (λ (b : ℕ). b ∷ (h.digits ++ rest)) (omega arith) in
    let read : head_at 0 (h.info ∷ (h.digits ++ rest)) ≡ Some (n, rest) = ap (head_at 0) (sym whole) ∙ heads_are_read 0 n bytes rest is in
    ap value_end whole ∙ on_unsigned h.info (h.digits ++ rest) (omega (arith, h.small)) ∙ number_end 0 n (h.info ∷ (h.digits ++ rest)) rest read

negative_is : (n : ℕ) (bytes rest : List ℕ) → IsHead 1 bytes n → value_end (bytes ++ rest) ≡ Ok rest
negative_is n bytes rest is =
    let h = heads 1 bytes n is in
    let whole : bytes ++ rest ≡ (32 + h.info) ∷ (h.digits ++ rest) = ap (λ (t : List ℕ). t ++ rest) h.is ∙ ap (λ (b : ℕ). b ∷ (h.digits ++ rest)) (omega arith) in
    let read : head_at 1 ((32 + h.info) ∷ (h.digits ++ rest)) ≡ Some (n, rest) = ap (head_at 1) (sym whole) ∙ heads_are_read 1 n bytes rest is in
    ap value_end whole ∙ on_negative (32 + h.info) (h.digits ++ rest) (omega arith) (omega (arith, h.small)) ∙ number_end 1 n ((32 + h.info) ∷ (h.digits ++ rest)) rest read

bytes_is : (content bytes rest : List ℕ) → IsString 2 bytes content → value_end (bytes ++ rest) ≡ Ok rest
bytes_is content bytes rest is =
    let h = string_begun 2 bytes content is in
    let whole : bytes ++ rest ≡ (64 + h.info) ∷ (h.behind ++ rest) = ap (λ (t : List ℕ). t ++ rest) h.is ∙ ap (λ (b : ℕ). b ∷ (h.behind ++ rest)) (omega arith) in
    ap value_end whole ∙ on_bytes (64 + h.info) (h.behind ++ rest) (omega arith) (omega (arith, h.small)) ∙ ap (string_end 2) (sym whole) ∙ ends_by 2 bytes content rest (omega arith) is

text_is : (content bytes rest : List ℕ) → IsString 3 bytes content → value_end (bytes ++ rest) ≡ Ok rest
text_is content bytes rest is =
    let h = string_begun 3 bytes content is in
    let whole : bytes ++ rest ≡ (96 + h.info) ∷ (h.behind ++ rest) = ap (λ (t : List ℕ). t ++ rest) h.is ∙ ap (λ (b : ℕ). b ∷ (h.behind ++ rest)) (omega arith) in
    ap value_end whole ∙ on_text (96 + h.info) (h.behind ++ rest) (omega arith) (omega (arith, h.small)) ∙ ap (string_end 3) (sym whole) ∙ ends_by 3 bytes content rest (omega arith) is

simple_is : (b : ℕ) (bytes rest : List ℕ) → 244 ≤ b → b ≤ 246 → bytes ≡ b ∷ [] → value_end (bytes ++ rest) ≡ Ok rest
simple_is b bytes rest le most e = ap (λ (t : List ℕ). value_end (t ++ rest)) e ∙ on_simple b rest le most

pub values_are_read : ValuesAreRead
values_are_read bytes rest (inl h) = unsigned_is h.0 bytes rest h.1
values_are_read bytes rest (inr (inl h)) = negative_is h.0 bytes rest h.1
values_are_read bytes rest (inr (inr (inl h))) = bytes_is h.0 bytes rest h.1
values_are_read bytes rest (inr (inr (inr (inl h)))) = text_is h.0 bytes rest h.1
values_are_read bytes rest (inr (inr (inr (inr (inl e))))) = simple_is 244 bytes rest (omega arith) (omega arith) e
values_are_read bytes rest (inr (inr (inr (inr (inr (inl e)))))) = simple_is 245 bytes rest (omega arith) (omega arith) e
values_are_read bytes rest (inr (inr (inr (inr (inr (inr e)))))) = simple_is 246 bytes rest (omega arith) (omega arith) e
