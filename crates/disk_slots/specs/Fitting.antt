-- Images of a disk over memory have its size.
use Rattle.std.specs.Prelude.{◌≡◌, ℕ, suc, Bool, List, [], ◌∷◌, length}
use Rattle.std.proofs.Common.{refl, sym, ◌∙◌, ap}
use Rattle.disk_slots.specs.Memory.{masked, Agrees}

length-masked : (ms : List Bool) (xs : List ℕ) → length (masked ms xs) ≡ length xs
length-masked [] xs = refl
length-masked (m ∷ ms) [] = refl
length-masked (m ∷ ms) (x ∷ xs) = ap suc (length-masked ms xs)

pub image_len : (ms : List Bool) (settled c : List ℕ) → Agrees ms settled c → length c ≡ length settled
image_len ms settled c e = sym (length-masked ms c) ∙ ap length e ∙ length-masked ms settled
