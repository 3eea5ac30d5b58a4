-- Lists that are cut in front of a member, and how often a number stands in a list.
use Rattle.std.proofs.Common.{true, false, true≢false, ◌≡◌, ◌≢◌, ℕ, zero, suc, ◌+◌, ◌<◌, ◌≤◌, ◌==◌, ◌&&◌, ◌||◌, if◌then◌else◌, Bool, List, [], ◌∷◌, ◌++◌, take, drop, get_or, slice_set, length, Option, None, Some, refl, sym, ap, ◌∙◌, subst, ⊎_elim, eq-eqb, ne_eqb, arith}
use Rattle.std.specs.List.{position, position_or_len, list_any}
use Rattle.std.specs.Option.{is_none, is_some}
use Rattle.std.proofs.lemmas.Bool.{cases_eq, cases_lt, lt-ltb, le-ltb}
use Rattle.std.proofs.lemmas.List.Folds.{list_any_none}
use Rattle.std.proofs.lemmas.List.Sums.{fails_before_first}
use Rattle.command_pool.specs.Hands.{times}
use Rattle.command_pool.specs.Rule.{once_below}

pub cut : {A : Type 0} (xs : List A) (k : ℕ) (d : A) → k < length xs → xs ≡ take k xs ++ get_or xs k d ∷ drop (suc k) xs
cut [] k d within = absurd (omega (arith, within))
cut (x ∷ xs) zero d within = refl
cut (x ∷ xs) (suc k) d within = ap (λ l. x ∷ l) (cut xs k d (omega (arith, within)))

pub set_cut : {A : Type 0} (xs : List A) (k : ℕ) (y : A) → k < length xs → slice_set xs k y ≡ take k xs ++ y ∷ drop (suc k) xs
set_cut [] k y within = absurd (omega (arith, within))
set_cut (x ∷ xs) zero y within = refl
set_cut (x ∷ xs) (suc k) y within = ap (λ l. x ∷ l) (set_cut xs k y (omega (arith, within)))

pub some_is_none : {A : Type 0} (x : A) → Some x ≡ None → ⊥
some_is_none x e = cc

-- where no place is found, no member passes
pub none_passes : {A : Type 0} (p : A → Bool) (xs : List A) → position p xs ≡ None → list_any p xs ≡ false
none_passes p xs none = ⊎_elim
    (λ within. absurd (some_is_none (position_or_len p xs) (rw (lt-ltb (position_or_len p xs) (length xs) within) at none)))
    (λ past. list_any_none p xs (λ k d within. fails_before_first p xs k d (omega (arith, within, past))))
    (cases_lt (position_or_len p xs) (length xs))

pub neither_of : (a b : Bool) → (a || b) ≡ false → (a ≡ false) × (b ≡ false)
neither_of true b e = absurd (true≢false e)
neither_of false b e = (refl, e)

pub none_of : {A : Type 0} (o : Option A) → is_none o ≡ true → o ≡ None
none_of None e = refl
none_of (Some x) e = absurd (true≢false (sym e))

-- what one member counts
abbrev pub one : ℕ → ℕ → ℕ
one x y = if x == y then 1 else 0

pub times_both : (x : ℕ) (a b : List ℕ) → times x (a ++ b) ≡ times x a + times x b
times_both x [] b = omega arith
times_both x (y ∷ a) b = omega (arith, times_both x a b)

-- a member more or fewer in the middle
pub times_middle : (x y : ℕ) (a b : List ℕ) → times x (a ++ y ∷ b) ≡ times x (a ++ b) + one x y
times_middle x y a b = omega (arith, times_both x a (y ∷ b), times_both x a b)

pub times_here : (x : ℕ) (b : List ℕ) → 0 < times x (x ∷ b)
times_here x b = omega (arith, ap (λ (t : Bool). if◌then◌else◌ {A = ℕ} t 1 0) (eq-eqb x x refl))

pub one_same : (x y : ℕ) → x ≡ y → one x y ≡ 1
one_same x y e = ap (λ (t : Bool). if◌then◌else◌ {A = ℕ} t 1 0) (eq-eqb x y e)

pub one_other : (x y : ℕ) → x ≢ y → one x y ≡ 0
one_other x y apart = ap (λ (t : Bool). if◌then◌else◌ {A = ℕ} t 1 0) (ne_eqb x y apart)

-- ---- One of the first

pub once_lt : (count x : ℕ) → x < count → once_below count x ≡ 1
once_lt count x below = ap (λ (b : Bool). if◌then◌else◌ {A = ℕ} b 1 0) (lt-ltb x count below)

pub once_few : (count x : ℕ) → once_below count x ≤ 1
once_few count x = ⊎_elim (λ below. omega (arith, once_lt count x below)) (λ above. omega (arith, ap (λ (b : Bool). if◌then◌else◌ {A = ℕ} b 1 0) (le-ltb x count above))) (cases_lt x count)

pub once_more : (count x : ℕ) → once_below (count + 1) x ≡ once_below count x + one x count
once_more count x = ⊎_elim
    (λ below. omega (arith, once_lt count x below, once_lt (count + 1) x (omega (arith, below)), one_other x count (λ e. omega (arith, e, below))))
    (λ above. ⊎_elim
    (λ e. omega (arith, once_lt (count + 1) x (omega (arith, e)), one_same x count e, ap (λ (b : Bool). if◌then◌else◌ {A = ℕ} b 1 0) (le-ltb x count above)))
    (λ apart. omega (
      arith,
      one_other x count apart,
      ap (λ (b : Bool). if◌then◌else◌ {A = ℕ} b 1 0) (le-ltb x count above),
      ap (λ (b : Bool). if◌then◌else◌ {A = ℕ} b 1 0) (le-ltb x (count + 1) (past above apart)),
    ))
    (cases_eq x count))
    (cases_lt x count)
  where
    past : count ≤ x → x ≢ count → count + 1 ≤ x
    past above apart = ⊎_elim (λ below. absurd (apart (omega (arith, above, below)))) (λ le. le) (cases_lt x (count + 1))
