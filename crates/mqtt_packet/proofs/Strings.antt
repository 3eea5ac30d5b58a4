-- A text is UTF-8, as the test of a string asks.
use Rattle.std.proofs.Common.{◌≡◌, ℕ, List, true, false, IsUtf8}
use Rattle.std.specs.Str.{is_utf8}
use Rattle.std.proofs.lemmas.Bool.{false_from_ne_true}
use Rattle.std.proofs.lemmas.Str.{is_utf8-from_IsUtf8, IsUtf8-from_is_utf8}

pub in_utf8 : (bytes : List ℕ) → IsUtf8 bytes → is_utf8 bytes ≡ true
in_utf8 bytes text = is_utf8-from_IsUtf8 bytes text

pub not_utf8 : (bytes : List ℕ) → (IsUtf8 bytes → ⊥) → is_utf8 bytes ≡ false
not_utf8 bytes not_text = false_from_ne_true (is_utf8 bytes) (λ e. not_text (IsUtf8-from_is_utf8 bytes e))
