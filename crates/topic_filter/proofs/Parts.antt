-- The levels of a text, taken off one after the other.
use Rattle.std.proofs.Common.{◌≡◌, ℕ, suc, ◌+◌, ◌<◌, List, [], ◌∷◌, length, take, drop, Bool, true, false, not, cond, get_or, ◌≤◌, eq-eqb, refl, sym, arith}
use Rattle.std.specs.Prelude.{◌==◌}
use Rattle.std.specs.List.{position_or_len, onto_first}
use Rattle.std.proofs.lemmas.Bool.{ne_eqb}
use Rattle.std.proofs.lemmas.List.Sums.{position_or_len_is}
use Rattle.std.proofs.lemmas.List.Splits.{length-slice_split}
use Rattle.topic_filter.specs.Levels.{levels_of}

abbrev pub is_slash : ℕ → Bool
is_slash b = b == 47

-- there is a first level
pub some_level : (text : List ℕ) → 0 < length (levels_of text)
some_level text = omega (arith, length-slice_split is_slash text)

-- how long the first level is
abbrev pub first_len : List ℕ → ℕ
first_len text = position_or_len is_slash text

abbrev pub behind : List ℕ → List ℕ
behind text = drop (first_len text) text

last_by : (slash : Bool) (b : ℕ) (text : List ℕ) (parts : List (List ℕ)) (n : ℕ) → (drop n text ≡ [] → parts ≡ take n text ∷ [])
    → drop (cond (not slash) (1 + n) 0) (b ∷ text) ≡ [] → cond slash ([] ∷ parts) (onto_first b parts) ≡ take (cond (not slash) (1 + n) 0) (b ∷ text) ∷ []
last_by true b text parts n others none = absurd (cc none)
last_by false b text parts n others none =
    let longer : 1 + n ≡ suc n = omega arith in
    let rest : drop n text ≡ [] = rw longer at none in
    rw (longer, others rest) refl

-- No other level follows.
pub level_last : (text : List ℕ) → behind text ≡ [] → levels_of text ≡ take (first_len text) text ∷ []
level_last [] none = refl
level_last (b ∷ text) none = last_by (b == 47) b text (levels_of text) (first_len text) (level_last text) none

more_by : (slash : Bool) (b : ℕ) (text : List ℕ) (c : ℕ) (below : List ℕ) (parts : List (List ℕ)) (n : ℕ) → parts ≡ levels_of text
    → (drop n text ≡ c ∷ below → parts ≡ take n text ∷ levels_of below)
    → drop (cond (not slash) (1 + n) 0) (b ∷ text) ≡ c ∷ below → cond slash ([] ∷ parts) (onto_first b parts) ≡ take (cond (not slash) (1 + n) 0) (b ∷ text) ∷ levels_of below
more_by true b text c below parts n same others some =
    let e : text ≡ below = cc in
    rw (same, e) refl
more_by false b text c below parts n same others some =
    let longer : 1 + n ≡ suc n = omega arith in
    let rest : drop n text ≡ c ∷ below = rw longer at some in
    rw (longer, others rest) refl

-- Others follow behind a `/`.
pub level_more : (text : List ℕ) (c : ℕ) (below : List ℕ) → behind text ≡ c ∷ below → levels_of text ≡ take (first_len text) text ∷ levels_of below
level_more [] c below some = absurd (cc some)
level_more (b ∷ text) c below some = more_by (b == 47) b text c below (levels_of text) (first_len text) refl (level_more text c below) some

-- the place of the first `/`, or the end
pub place_found : (text : List ℕ) (n : ℕ) → n ≤ length text → ((k : ℕ) → k < n → get_or text k 0 ≡ 47 → ⊥) → (n < length text → get_or text n 0 ≡ 47) → n ≡ first_len text
place_found text n within before here =
    sym (position_or_len_is is_slash text n 0 within (λ k below. ne_eqb (get_or text k 0) 47 (before k below)) (λ below. eq-eqb (get_or text n 0) 47 (here below)))
