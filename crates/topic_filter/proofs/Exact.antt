-- The matcher over lists of levels answers exactly the relation.
use Rattle.std.proofs.Common.{◌≡◌, ℕ, List, [], ◌∷◌, Bool, true, false, not, refl}
use Rattle.std.specs.Prelude.{◌&&◌}
use Rattle.std.specs.Bool.{Decides}
use Rattle.std.proofs.lemmas.Bool.{and_parts, and_from}
use Rattle.std.proofs.lemmas.Bool.Decides.{Decides-and, Decides-or}
use Rattle.std.proofs.lemmas.Slice.Eq.{bytes_eq-Decides}
use Rattle.topic_filter.specs.Levels.{levels_of, plus, hash}
use Rattle.topic_filter.specs.Fitting.{Fits, FitsLevel, FitsLevels, IsRest, fits, fits_level, fits_levels, is_rest, is_end, begins_wild, begins_dollar}

exact_level : (wanted level : List ℕ) → Decides (fits_level wanted level) (FitsLevel wanted level)
exact_level wanted level = Decides-or _ _ (bytes_eq-Decides wanted plus) (bytes_eq-Decides wanted level)

exact_end : (levels : List (List ℕ)) → Decides (is_end levels) (levels ≡ [])
exact_end [] = (λ e. refl, λ e. refl)
exact_end (level ∷ levels) = (λ e. absurd (cc e), λ e. absurd (cc e))

exact_rest : (wanted : List ℕ) (filter : List (List ℕ)) → Decides (is_rest wanted filter) (IsRest wanted filter)
exact_rest wanted filter = Decides-and _ _ (bytes_eq-Decides wanted hash) (exact_end filter)

exact_levels : (filter name : List (List ℕ)) → Decides (fits_levels filter name) (FitsLevels filter name)
exact_levels [] [] = (λ e. tt, λ h. refl)
exact_levels [] (level ∷ name) = (λ e. absurd (cc e), λ h. absurd h)
exact_levels (wanted ∷ filter) [] = exact_rest wanted filter
exact_levels (wanted ∷ filter) (level ∷ name) =
    Decides-or _ _ (exact_rest wanted filter) (Decides-and _ _ (exact_level wanted level) (exact_levels filter name))

exact_dollar : (wild dollar : Bool) → Decides (not (wild && dollar)) (wild ≡ true → dollar ≡ false)
exact_dollar true true = (λ e. absurd (cc e), λ h. absurd (cc (h refl)))
exact_dollar true false = (λ e w. refl, λ h. refl)
exact_dollar false dollar = (λ e w. absurd (cc w), λ h. refl)

pub exact : (filter name : List ℕ) → Decides (fits filter name) (Fits filter name)
unfolding fits
exact filter name =
    let levels = exact_levels (levels_of filter) (levels_of name) in
    let dollar = exact_dollar (begins_wild filter) (begins_dollar name) in (
      λ e. let both = and_parts (fits_levels (levels_of filter) (levels_of name)) (not (begins_wild filter && begins_dollar name)) e in record { levels = levels.0 both.0; dollar = dollar.0 both.1 },
      λ h. and_from _ _ (levels.1 h.levels) (dollar.1 h.dollar),
    )
