-- Names as filters: their levels are no wildcards.
use Rattle.std.proofs.Common.{◌≡◌, ℕ, ◌<◌, List, [], ◌∷◌, inl, inr, length, Bool, true, false, not, cond, refl, sym, ap, ◌∙◌, subst, arith}
use Rattle.std.specs.Prelude.{◌==◌, ◌&&◌, ◌||◌, ◌↔◌}
use Rattle.std.specs.List.{list_all, onto_first, join_with_byte}
use Rattle.std.proofs.lemmas.Bool.{and_parts, and_from, or_right}
use Rattle.std.proofs.lemmas.List.Splits.{join_with_byte-slice_split}
use Rattle.topic_filter.specs.Levels.{levels_of, plus, hash}
use Rattle.topic_filter.specs.Texts.{is_name, is_filter, has_length, is_name_byte, are_filter_levels}
use Rattle.topic_filter.specs.Fitting.{Fits, FitsLevels, begins_wild}
use Rattle.topic_filter.proofs.Parts.{some_level}

-- each level may stand in a name
abbrev are_named : List (List ℕ) → Bool
are_named levels = list_all (λ level. list_all is_name_byte level) levels

named_by : (slash : Bool) (b : ℕ) (parts : List (List ℕ)) → 0 < length parts → is_name_byte b ≡ true → are_named parts ≡ true → are_named (cond slash ([] ∷ parts) (onto_first b parts)) ≡ true
named_by slash b [] some named rest = absurd (omega arith)
named_by true b (level ∷ parts) some named rest = rest
named_by false b (level ∷ parts) some named rest =
    let parts_named = and_parts (list_all is_name_byte level) (are_named parts) rest in
    and_from _ _ (and_from _ _ named parts_named.0) parts_named.1

named_levels : (text : List ℕ) → list_all is_name_byte text ≡ true → are_named (levels_of text) ≡ true
named_levels [] named = refl
named_levels (b ∷ text) named =
    let both = and_parts (is_name_byte b) (list_all is_name_byte text) named in
    named_by (b == 47) b (levels_of text) (some_level text) both.0 (named_levels text both.1)

named_filter : (levels : List (List ℕ)) → are_named levels ≡ true → are_filter_levels levels ≡ true
named_filter [] named = refl
named_filter (level ∷ []) named =
    let both = and_parts (list_all is_name_byte level) true named in
    or_right _ _ (or_right _ _ both.0)
named_filter (level ∷ below ∷ levels) named =
    let both = and_parts (list_all is_name_byte level) (are_named (below ∷ levels)) named in
    and_from _ _ (or_right _ _ both.0) (named_filter (below ∷ levels) both.1)

pub names_are_filters : (name : List ℕ) → is_name name ≡ true → is_filter name ≡ true
unfolding is_name is_filter
names_are_filters name named =
    let both = and_parts (has_length name) (list_all is_name_byte name) named in
    and_from _ _ both.0 (named_filter (levels_of name) (named_levels name both.1))

not_wild : (level wild : List ℕ) → list_all is_name_byte level ≡ true → list_all is_name_byte wild ≡ false → level ≡ wild → ⊥
not_wild level wild named unnamed e = cc (sym named ∙ ap (list_all is_name_byte) e ∙ unnamed)

same_levels : (filter name : List (List ℕ)) → are_named filter ≡ true → FitsLevels filter name → name ≡ filter
same_levels [] [] named fit = refl
same_levels [] (level ∷ name) named fit = absurd fit
same_levels (wanted ∷ filter) [] named fit =
    let both = and_parts (list_all is_name_byte wanted) (are_named filter) named in
    absurd (not_wild wanted hash both.0 refl fit.0)
same_levels (wanted ∷ filter) (level ∷ name) named (inl rest) =
    let both = and_parts (list_all is_name_byte wanted) (are_named filter) named in
    absurd (not_wild wanted hash both.0 refl rest.0)
same_levels (wanted ∷ filter) (level ∷ name) named (inr (inl any, below)) =
    let both = and_parts (list_all is_name_byte wanted) (are_named filter) named in
    absurd (not_wild wanted plus both.0 refl any)
same_levels (wanted ∷ filter) (level ∷ name) named (inr (inr same, below)) =
    let both = and_parts (list_all is_name_byte wanted) (are_named filter) named in
    let others : name ≡ filter = same_levels filter name both.1 below in
    cc

fits_itself : (levels : List (List ℕ)) → FitsLevels levels levels
fits_itself [] = tt
fits_itself (level ∷ levels) = inr (inr refl, fits_itself levels)

tame_by : (zero plus hash rest : Bool) → ((not zero && not plus && not hash) && rest) ≡ true → (plus || hash) ≡ true → ⊥
tame_by zero false false rest named wild = cc wild
tame_by true true hash rest named wild = cc named
tame_by false true hash rest named wild = cc named
tame_by true false true rest named wild = cc named
tame_by false false true rest named wild = cc named

tame : (name : List ℕ) → list_all is_name_byte name ≡ true → begins_wild name ≡ true → ⊥
tame [] named wild = cc wild
tame (b ∷ name) named wild = tame_by (b == 0) (b == 43) (b == 35) (list_all is_name_byte name) named wild

from_levels : (a b : List ℕ) → levels_of a ≡ levels_of b → a ≡ b
from_levels a b e = sym (join_with_byte-slice_split 47 a) ∙ ap (join_with_byte 47) e ∙ join_with_byte-slice_split 47 b

pub plain_fits_itself : (filter name : List ℕ) → is_name filter ≡ true → Fits filter name ↔ (name ≡ filter)
unfolding is_name
plain_fits_itself filter name named =
    let both = and_parts (has_length filter) (list_all is_name_byte filter) named in (
      λ fit. from_levels name filter (same_levels (levels_of filter) (levels_of name) (named_levels filter both.1) fit.levels),
      λ same. subst (λ (n : List ℕ). Fits filter n) (sym same) (record { levels = fits_itself (levels_of filter); dollar = λ wild. absurd (tame filter both.1 wild) }),
    )
