-- Many steps of the generator at once.
use Rattle.std.proofs.Common.{◌≡◌, ℕ, zero, suc, ◌+◌, ◌*◌, ◌/◌, ◌%◌, ◌^◌, ◌≤◌, refl, sym, ap, ◌∙◌, arith, ⊎_elim}
use Rattle.std.proofs.lemmas.Bool.{cases_eq}
use Rattle.std.proofs.Math.Nat.{add-mod, add-mod-mod, mul_assoc}
use Rattle.std.proofs.lemmas.Nat.{mul-mod_first, mul-mod_second}
use native.Mathlib.Nat as nat
use Rattle.thing_service.specs.Generator.{next, state}

-- one step: x ↦ a x + c
abbrev pub step : ℕ → ℕ → ℕ → ℕ
step a c x = (a * x + c) % 2 ^ 64

-- n of them
pub run : ℕ → ℕ → ℕ → ℕ → ℕ
run a c zero x = x
run a c (suc n) x = run a c n (step a c x)

run_last : (a c n x : ℕ) → run a c (suc n) x ≡ step a c (run a c n x)
unfolding run
run_last a c zero x = refl
run_last a c (suc n) x = run_last a c n (step a c x)

pub state_is : (seed n : ℕ) → state seed n ≡ run 6364136223846793005 1442695040888963407 n seed
unfolding state next run
state_is seed zero = refl
state_is seed (suc n) = ap (step 6364136223846793005 1442695040888963407) (state_is seed n) ∙ sym (run_last 6364136223846793005 1442695040888963407 n seed)

-- what is added is taken modulo m before or behind
added : (x y z m : ℕ) → x % m ≡ y % m → (x + z) % m ≡ (y + z) % m
added x y z m e = add-mod x z m ∙ ap (λ (n : ℕ). (n + z % m) % m) e ∙ sym (add-mod y z m)

-- Two steps are one of x ↦ a² x + (a c + c).
two_steps : (a c x : ℕ) → step a c (step a c x) ≡ step ((a * a) % 2 ^ 64) (step a c c) x
two_steps a c x =
    let m = 2 ^ 64 in
    let z = a * x + c in
    let left : step a c (step a c x) ≡ (a * z + c) % m = added (a * (z % m)) (a * z) c m (mul-mod_second a z m) in
    let parts : a * z + c ≡ a * a * x + (a * c + c) = omega (arith, nat.mul-add a (a * x) c, mul_assoc a a x) in
    let right : ((a * a) % m * x + (a * c + c) % m) % m ≡ (a * a * x + (a * c + c)) % m = added ((a * a) % m * x) (a * a * x) ((a * c + c) % m) m (mul-mod_first (a * a) x m) ∙ add-mod-mod (a * a * x) (a * c + c) m in
    left ∙ ap (λ (n : ℕ). n % m) parts ∙ sym right

doubled : (a c k n x : ℕ) → n ≡ 2 * k → run a c n x ≡ run ((a * a) % 2 ^ 64) (step a c c) k x
unfolding run
doubled a c zero zero x e = refl
doubled a c zero (suc n) x e = absurd (omega (arith, e))
doubled a c (suc k) zero x e = absurd (omega (arith, e))
doubled a c (suc k) (suc zero) x e = absurd (omega (arith, e))
doubled a c (suc k) (suc (suc n)) x e = doubled a c k n (step a c (step a c x)) (omega (arith, e)) ∙ ap (run ((a * a) % 2 ^ 64) (step a c c) k) (two_steps a c x)

pub even_steps : (a c n x : ℕ) → (n % 2 ≡ 1 → ⊥) → run a c n x ≡ run ((a * a) % 2 ^ 64) (step a c c) (n / 2) x
even_steps a c n x even = doubled a c (n / 2) n x (omega (arith, even_is))
  where
    even_is : n % 2 ≡ 0
    even_is = ⊎_elim (λ e. absurd (even e)) (λ apart. omega (arith, apart)) (cases_eq (n % 2) 1)

pub odd_steps : (a c n x : ℕ) → n % 2 ≡ 1 → run a c n x ≡ run ((a * a) % 2 ^ 64) (step a c c) (n / 2) (step a c x)
unfolding run
odd_steps a c zero x odd = absurd (omega (arith, odd))
odd_steps a c (suc n) x odd = doubled a c (suc n / 2) n (step a c x) (omega (arith, odd))

pub none_left : (a c n x : ℕ) → n ≤ 0 → x ≡ run a c n x
unfolding run
none_left a c zero x none = refl
none_left a c (suc n) x none = absurd (omega (arith, none))
