-- Steps that leave the page's history keep the rule.
use Rattle.std.proofs.Common.{◌≡◌, ℕ, ◌≢◌, List, [], ◌∷◌, ◌++◌, set, refl, ◌∙◌, ap, subst, ⊎_elim, fold, Result, Ok, Err, false, is_err, MatchResult, OnOk}
use mathlib.Core.Option.{some}
use lib.ListN.{get_elem?}
use Rattle.left_right.specs.Register.{Admits, TurnsAt, Forks, Merges}
use Rattle.atomic_table.proofs.Lists.{at_set, at_snoc}
use Rattle.shadow_mirror.specs.Pasts.{Past}
use Rattle.shadow_mirror.specs.Known.{Fits, AllFit, Sights, known_of}
use Rattle.shadow_mirror.specs.declared.known.Known.{Known}
use Rattle.shadow_mirror.specs.declared.known.Known.TheVariants.{Nothing}

pub admits : Admits AllFit Nothing
admits x views h seat v at = ⊎_elim (h seat v) (λ (e : Nothing ≡ v). subst (λ (z : Known). Fits z x.book) e tt) (at_snoc views Nothing v seat at)

fits_own : (x : Past) → Fits (known_of x.book) x.book
fits_own x = refl

pub sights : (seat : ℕ) (v : Known) (x y : Past) → x.book ≡ y.book → TurnsAt AllFit seat v x y Sights
sights seat v x y same views h at = (
  known_of y.book,
  (λ j u e. ⊎_elim (λ (t : (j ≡ seat) × (known_of y.book ≡ u)). subst (λ (z : Known). Fits z y.book) t.1 (fits_own y)) (λ (t : (j ≢ seat) × (get_elem? views j ≡ some u)). subst (Fits u) same (h j u t.1))
      (at_set views seat j (known_of y.book) u e)),
  (h seat v at, refl),
)

set_fits : (x : Past) (views : List Known) (seat : ℕ) (v : Known) → AllFit x views → Fits v x.book → AllFit x (set views seat v)
set_fits x views seat v h fits j u e = ⊎_elim (λ (t : (j ≡ seat) × (v ≡ u)). subst (λ (z : Known). Fits z x.book) t.1 fits) (λ (t : (j ≢ seat) × (get_elem? views j ≡ some u)). h j u t.1) (at_set views seat j v u e)

pub forks : (seat : ℕ) (v : Known) → Forks AllFit seat v v v
forks seat v x views h at j u e = ⊎_elim (set_fits x views seat v h (h seat v at) j u) (λ (same : v ≡ u). subst (λ (z : Known). Fits z x.book) same (h seat v at)) (at_snoc (set views seat v) v u j e)

-- the one takes in what the other knows
pub merges : (seat : ℕ) (v : Known) (other : ℕ) (w : Known) → Merges AllFit seat v other w w Nothing
merges seat v other w x views h at apart there =
    let b : Fits w x.book = ⊎_elim (λ (t : (other ≡ seat) × (w ≡ w)). absurd (apart t.0)) (λ (t : (other ≢ seat) × (get_elem? views other ≡ some w)). h other w t.1) (at_set views seat other w w there) in
    set_fits x (set views seat w) other Nothing (set_fits x views seat w h b) tt

pub same_book : (b : _) (x : Past) → Fits (known_of b) x.book → x.book ≡ b
same_book b x fits = fits

pub last_shown : (x y : Past) (xs : List Past) → fold (λ (_ n : Past). n) x (xs ++ y ∷ []) ≡ y
last_shown x y [] = refl
last_shown x y (z ∷ xs) = last_shown z y xs

-- the page that was appended is the last of those that wait
pub appended : {T E : Type 0} (r : Result T E) (x y next : Past) (was now : List Past) (Q : E → Type 0) → is_err r ≡ false → MatchResult r (λ _. now ≡ was ++ y ∷ []) Q → next ≡ fold (λ (_ n : Past). n) x now → next ≡ y
appended (Ok v) x y next was now Q ok added is = is ∙ ap (λ (l : List Past). fold (λ (_ n : Past). n) x l) added ∙ last_shown x y was
appended (Err e) x y next was now Q ok added is = absurd (cc ok)

-- what is shown where the publish succeeded
pub shows : {T E : Type 0} (r : Result T E) (x y next : Past) (log : List Past) (R Q : Type 0) → fold (λ (_ n : Past). n) x log ≡ next → MatchResult r (λ _. (y ≡ fold (λ (_ n : Past). n) x log) × R) (λ _. Q) → OnOk r (y ≡ next)
shows (Ok v) x y next log R Q is h = h.0 ∙ is
shows (Err e) x y next log R Q is h = tt

-- and what is known then
pub knows : {T E : Type 0} (r : Result T E) (v w : Known) (x y next : Past) → v ≡ known_of next.book → MatchResult r (λ _. Sights v x y w) (λ _. w ≡ v) → OnOk r (y ≡ next) → w ≡ known_of next.book
knows (Ok u) v w x y next is h shown = h.1 ∙ ap (λ (p : Past). known_of p.book) shown
knows (Err e) v w x y next is h shown = h ∙ is
