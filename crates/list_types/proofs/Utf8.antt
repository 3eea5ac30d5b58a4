-- `IsUtf8` and its test are one.
use Rattle.std.proofs.Common.{◌≡◌, ℕ, List, Bool, true, false, IsUtf8, refl}
use Rattle.std.specs.Str.{is_utf8}
use Rattle.std.proofs.lemmas.Str.{IsUtf8-from_is_utf8, is_utf8-from_IsUtf8}

pub is_text : (bytes : List ℕ) → IsUtf8 bytes → true ≡ is_utf8 bytes
is_text bytes text = let e = is_utf8-from_IsUtf8 bytes text in cc

flag : (b : Bool) → (b ≡ true → ⊥) → false ≡ b
flag true not_true = absurd (not_true refl)
flag false not_true = refl

pub is_no_text : (bytes : List ℕ) → (IsUtf8 bytes → ⊥) → false ≡ is_utf8 bytes
is_no_text bytes not_text = flag (is_utf8 bytes) (λ e. not_text (IsUtf8-from_is_utf8 bytes e))
