-- How often a number stands in a list, and in the lists of all passes.
use Rattle.std.proofs.Common.{◌≡◌, ◌≢◌, ℕ, zero, suc, ◌+◌, ◌<◌, ◌≤◌, ◌==◌, if◌then◌else◌, List, [], ◌∷◌, ◌++◌, set, refl, sym, ap, ◌∙◌, ⊎_elim, eq-eqb, ne_eqb, arith}
use mathlib.Core.Option.{some, some-injective, some-ne-none}
use lib.ListN.{get_elem?}
use Rattle.std.proofs.lemmas.Bool.{cases_eq}
use Rattle.command_pool.specs.declared.hand.Hand.{Hand}
use Rattle.command_pool.specs.Hands.{times, without}
use Rattle.command_pool.specs.Rule.{holders}

-- what an element counts, where it is x and where it isn't
one : (x y : ℕ) → x ≡ y → ◌≡◌ {A = ℕ} (if x == y then 1 else 0) 1
one x y e = ap (λ b. if◌then◌else◌ {A = ℕ} b 1 0) (eq-eqb x y e)

none_of : (x y : ℕ) → x ≢ y → ◌≡◌ {A = ℕ} (if x == y then 1 else 0) 0
none_of x y apart = ap (λ b. if◌then◌else◌ {A = ℕ} b 1 0) (ne_eqb x y apart)

pub times_same : (x : ℕ) (l : List ℕ) → times x (x ∷ l) ≡ 1 + times x l
times_same x l = omega (arith, one x x refl)

pub times_other : (x y : ℕ) (l : List ℕ) → x ≢ y → times x (y ∷ l) ≡ times x l
times_other x y l apart = omega (arith, none_of x y apart)

found : (x y : ℕ) (l : List ℕ) → x ≡ y → without x (y ∷ l) ≡ l
found x y l e = ap (λ b. if b then l else y ∷ without x l) (eq-eqb x y e)

-- what was taken last and is given back leaves what was held before
pub back_as_before : (x : ℕ) (l : List ℕ) → without x (x ∷ l) ≡ l
back_as_before x l = found x x l refl

passed : (x y : ℕ) (l : List ℕ) → x ≢ y → without x (y ∷ l) ≡ y ∷ without x l
passed x y l apart = ap (λ b. if b then l else y ∷ without x l) (ne_eqb x y apart)

pub times-without_same : (x : ℕ) (l : List ℕ) → 0 < times x l → times x (without x l) + 1 ≡ times x l
times-without_same x [] held = absurd (omega arith)
times-without_same x (y ∷ ys) held = ⊎_elim
    (λ e. omega (arith, ap (times x) (found x y ys e), one x y e))
    (λ apart. omega (arith, ap (times x) (passed x y ys apart), none_of x y apart, times-without_same x ys (omega (arith, none_of x y apart))))
    (cases_eq x y)

pub times-without_other : (x y : ℕ) (l : List ℕ) → y ≢ x → times y (without x l) ≡ times y l
times-without_other x y [] apart = refl
times-without_other x y (z ∷ zs) apart = ⊎_elim
    (λ e. ap (times y) (found x z zs e) ∙ sym (times_other y z zs (λ h. apart (h ∙ sym e))))
    (λ past. omega (arith, ap (times y) (passed x z zs past), times-without_other x y zs apart))
    (cases_eq x z)

-- a number that was held once is gone
pub gone : (x : ℕ) (l : List ℕ) → times x l ≡ 1 → times x (without x l) ≡ 0
gone x l once = omega (arith, times-without_same x l (omega arith))

pub holders-set : (x : ℕ) (l : List Hand) (i : ℕ) (v w : Hand) → get_elem? l i ≡ some v → holders x (set l i w) + times x v.held ≡ holders x l + times x w.held
holders-set x [] i v w is = absurd (some-ne-none v (sym is))
holders-set x (u ∷ us) zero v w is = let same : times x u.held ≡ times x v.held = ap (λ (h : Hand). times x h.held) (some-injective u v is) in omega arith
holders-set x (u ∷ us) (suc i) v w is = omega (arith, holders-set x us i v w is)

pub holders-append : (x : ℕ) (l : List Hand) (w : Hand) → holders x (l ++ w ∷ []) ≡ holders x l + times x w.held
holders-append x [] w = omega arith
holders-append x (u ∷ us) w = omega (arith, holders-append x us w)

pub one_holder : (x : ℕ) (l : List Hand) (i : ℕ) (v : Hand) → get_elem? l i ≡ some v → times x v.held ≤ holders x l
one_holder x [] i v is = absurd (some-ne-none v (sym is))
one_holder x (u ∷ us) zero v is = let same : times x u.held ≡ times x v.held = ap (λ (h : Hand). times x h.held) (some-injective u v is) in omega arith
one_holder x (u ∷ us) (suc i) v is = omega (arith, one_holder x us i v is)

pub two_holders : (x : ℕ) (l : List Hand) (i j : ℕ) (v w : Hand) → get_elem? l i ≡ some v → get_elem? l j ≡ some w → i ≢ j
    → times x v.held + times x w.held ≤ holders x l
two_holders x [] i j v w is at apart = absurd (some-ne-none v (sym is))
two_holders x (u ∷ us) zero zero v w is at apart = absurd (apart refl)
two_holders x (u ∷ us) zero (suc j) v w is at apart =
    let same : times x u.held ≡ times x v.held = ap (λ (h : Hand). times x h.held) (some-injective u v is) in omega (arith, one_holder x us j w at)
two_holders x (u ∷ us) (suc i) zero v w is at apart =
    let same : times x u.held ≡ times x w.held = ap (λ (h : Hand). times x h.held) (some-injective u w at) in omega (arith, one_holder x us i v is)
two_holders x (u ∷ us) (suc i) (suc j) v w is at apart = omega (arith, two_holders x us i j v w is at (λ e. apart (ap suc e)))

-- who holds a number that is held
pub holder_of : (x : ℕ) (l : List Hand) → 0 < holders x l → (at : ℕ) × (v : Hand) × (get_elem? l at ≡ some v) × (0 < times x v.held)
holder_of x [] held = absurd (omega arith)
holder_of x (u ∷ us) held =
    ⊎_elim (λ apart. let there = holder_of x us (omega arith) in (suc there.0, there.1, there.2, there.3)) (λ here. (zero, u, refl, omega arith)) (cases_eq (times x u.held) 0)
