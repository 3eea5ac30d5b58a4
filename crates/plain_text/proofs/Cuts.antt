-- What the first place of a mark says of a cut there.
use Rattle.std.proofs.Common.{◌≡◌, ℕ, zero, suc, ◌<◌, ◌≤◌, List, [], ◌∷◌, length, take, drop, get_or, Some, None, Bool, true, false, refl, ap, arith}
use Rattle.std.specs.Prelude.{◌==◌}
use Rattle.plain_text.specs.Words.{cut, onto_front}

-- No test passes below n.
abbrev pub NoneBelow : ℕ → List ℕ → ℕ → Type 0
NoneBelow mark bytes n = (k : ℕ) → 0 ≤ k → k < n → (get_or bytes k 0 == mark) ≡ true → ⊥

flag : (b : Bool) → (b ≡ true → ⊥) → b ≡ false
flag true not_true = absurd (not_true refl)
flag false not_true = refl

later : (mark b : ℕ) (bytes : List ℕ) (n : ℕ) → NoneBelow mark (b ∷ bytes) (suc n) → NoneBelow mark bytes n
later mark b bytes n none k low high = none (suc k) (omega arith) (omega arith)

pub cut_found : (mark : ℕ) (bytes : List ℕ) (at : ℕ) → at < length bytes → NoneBelow mark bytes at → (get_or bytes at 0 == mark) ≡ true
    → (take at bytes, Some (drop 1 (drop at bytes))) ≡ cut mark bytes
unfolding cut
cut_found mark [] at within none here = absurd (omega arith)
cut_found mark (b ∷ bytes) zero within none here = rw here refl
cut_found mark (b ∷ bytes) (suc at) within none here =
    let not_first : (b == mark) ≡ false = flag (b == mark) (none 0 (omega arith) (omega arith)) in
    let rest : (take at bytes, Some (drop 1 (drop at bytes))) ≡ cut mark bytes = cut_found mark bytes at (omega arith) (later mark b bytes at none) here in
    rw not_first (ap (onto_front b) rest)

pub cut_nowhere : (mark : ℕ) (bytes : List ℕ) → NoneBelow mark bytes (length bytes) → (bytes, None) ≡ cut mark bytes
unfolding cut
cut_nowhere mark [] none = refl
cut_nowhere mark (b ∷ bytes) none =
    let not_first : (b == mark) ≡ false = flag (b == mark) (none 0 (omega arith) (omega arith)) in
    let rest : (bytes, None) ≡ cut mark bytes = cut_nowhere mark bytes (later mark b bytes (length bytes) none) in
    rw not_first (ap (onto_front b) rest)
