-- The levels of a filter, tested one after the other.
use Rattle.std.proofs.Common.{◌≡◌, ℕ, ◌<◌, List, [], ◌∷◌, length, take, drop, refl, sym, ap, ◌∙◌, arith}
use Rattle.std.specs.Prelude.{◌&&◌}
use Rattle.topic_filter.specs.Levels.{levels_of}
use Rattle.topic_filter.specs.Texts.{are_filter_levels, is_filter_level, is_last_level}
use Rattle.topic_filter.proofs.Parts.{first_len, level_last, level_more, some_level}

empty : (xs : List ℕ) → length xs ≡ 0 → xs ≡ []
empty [] none = refl
empty (x ∷ xs) none = absurd (omega arith)

-- The level is the last one.
pub tested_last : (text level rest : List ℕ) (n : ℕ) → n ≡ first_len text → level ≡ take n text → rest ≡ drop n text → length rest ≡ 0
    → are_filter_levels (levels_of text) ≡ is_last_level level
tested_last text level rest n place front back none =
    let last : levels_of text ≡ take (first_len text) text ∷ [] = level_last text (ap (λ k. drop k text) (sym place) ∙ sym back ∙ empty rest none) in
    rw (last, front, place) refl

tested_by : (level : List ℕ) (levels : List (List ℕ)) → 0 < length levels → are_filter_levels (level ∷ levels) ≡ (is_filter_level level && are_filter_levels levels)
tested_by level [] some = absurd (omega arith)
tested_by level (below ∷ levels) some = refl

-- Others follow.
pub tested_more : (text level rest below : List ℕ) (n c : ℕ) → n ≡ first_len text → level ≡ take n text → rest ≡ drop n text → rest ≡ c ∷ below
    → are_filter_levels (levels_of text) ≡ (is_filter_level level && are_filter_levels (levels_of below))
tested_more text level rest below n c place front back some =
    let more : levels_of text ≡ take (first_len text) text ∷ levels_of below = level_more text c below (ap (λ k. drop k text) (sym place) ∙ sym back ∙ some) in
    rw (more, front, place) (tested_by (take (first_len text) text) (levels_of below) (some_level below))
