-- Texts that were put into the front of a buffer.
use Rattle.std.proofs.Common.{◌≡◌, ℕ, ◌+◌, List, ◌++◌, length, take, drop, refl, sym, ap, ◌∙◌}
use Rattle.std.proofs.lemmas.List.{take-append-drop}
use Rattle.stream_blocks.proofs.Chunks.{drop_on}

-- A front that was put, with all else as it was, is the whole.
pub whole_from : (new old text : List ℕ) (n : ℕ) → take n new ≡ text → drop n new ≡ drop n old → n ≡ length text → new ≡ text ++ drop (length text) old
whole_from new old text n front back len = sym (take-append-drop n new) ∙ rw (front, back, len) refl

-- Two puts, one behind the other.
pub two_puts : (new mid old one two : List ℕ) (n m : ℕ) → take m mid ≡ one → drop m mid ≡ drop m old → take n new ≡ take m mid ++ two → drop n new ≡ drop n mid → n ≡ m + length two → n ≡ length (one ++ two)
    → new ≡ (one ++ two) ++ drop (length (one ++ two)) old
two_puts new mid old one two n m front back front2 back2 e len =
    whole_from new old (one ++ two) n (front2 ∙ ap (λ (t : List ℕ). t ++ two) front) (back2 ∙ drop_on n m (length two) mid old e back) len
