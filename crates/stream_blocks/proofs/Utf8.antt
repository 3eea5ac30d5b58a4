-- What from_utf8 tells of a test for UTF-8.
use Rattle.std.proofs.Common.{◌≡◌, ℕ, true, false, List, IsUtf8}
use Rattle.std.specs.Str.{is_utf8}
use Rattle.std.proofs.lemmas.Bool.{false_from_ne_true}
use Rattle.std.proofs.lemmas.Str.{is_utf8-from_IsUtf8, IsUtf8-from_is_utf8}

pub in_utf8 : (bytes : List ℕ) → IsUtf8 bytes → is_utf8 bytes ≡ true
in_utf8 bytes h = is_utf8-from_IsUtf8 bytes h

pub not_utf8 : (bytes : List ℕ) → (IsUtf8 bytes → ⊥) → is_utf8 bytes ≡ false
not_utf8 bytes h = false_from_ne_true (is_utf8 bytes) (λ e. h (IsUtf8-from_is_utf8 bytes e))
