-- `/#` behind a filter fits what the filter fits, and every level below.
use Rattle.std.proofs.Common.{◌≡◌, ℕ, suc, ◌<◌, List, [], ◌∷◌, ◌++◌, ◌⊎◌, inl, inr, length, Bool, true, false, cond, refl, sym, ap, ◌∙◌, subst, arith, append-nil, append_assoc, length-append}
use Rattle.std.specs.Prelude.{◌==◌, ◌↔◌, Contains, codes}
use Rattle.std.specs.List.{onto_first}
use Rattle.std.proofs.lemmas.Bool.{eqb-true}
use Rattle.topic_filter.specs.Levels.{levels_of, hash}
use Rattle.topic_filter.specs.Laws.{FitsAbove}
use Rattle.topic_filter.specs.Fitting.{Fits, FitsLevels, begins_wild, begins_dollar}
use Rattle.topic_filter.proofs.Parts.{some_level}

onto_append : (b : ℕ) (parts others : List (List ℕ)) → 0 < length parts → onto_first b (parts ++ others) ≡ onto_first b parts ++ others
onto_append b [] others some = absurd (omega arith)
onto_append b (level ∷ parts) others some = refl

joined_by : (slash : Bool) (b : ℕ) (whole parts others : List (List ℕ)) → 0 < length parts → whole ≡ parts ++ others
    → cond slash ([] ∷ whole) (onto_first b whole) ≡ cond slash ([] ∷ parts) (onto_first b parts) ++ others
joined_by true b whole parts others some e = ap (λ levels. [] ∷ levels) e
joined_by false b whole parts others some e = ap (onto_first b) e ∙ onto_append b parts others some

-- a `/` parts the levels before it from those behind
levels_joined : (parent below : List ℕ) → levels_of (parent ++ 47 ∷ below) ≡ levels_of parent ++ levels_of below
levels_joined [] below = refl
levels_joined (b ∷ parent) below = joined_by (b == 47) b (levels_of (parent ++ 47 ∷ below)) (levels_of parent) (levels_of below) (some_level parent) (levels_joined parent below)

-- no level is `#`
HasNoHash : List (List ℕ) → Type 0
HasNoHash [] = Unit {0}
HasNoHash (level ∷ levels) = (level ≡ hash → ⊥) × HasNoHash levels

no_hash_by : (slash : Bool) (b : ℕ) (parts : List (List ℕ)) → (b ≡ 35 → ⊥) → HasNoHash parts → HasNoHash (cond slash ([] ∷ parts) (onto_first b parts))
unfolding HasNoHash
no_hash_by true b parts other none = (λ e. cc e, none)
no_hash_by false b [] other none = (λ e. other (cc e), tt)
no_hash_by false b (level ∷ parts) other none = (λ e. other (cc e), none.1)

no_hash : (text : List ℕ) → (Contains text 35 → ⊥) → HasNoHash (levels_of text)
unfolding HasNoHash
no_hash [] none = (λ e. cc e, tt)
no_hash (b ∷ text) none =
    no_hash_by (b == 47) b (levels_of text) (λ e. none (0, omega arith, e)) (no_hash text (λ found. none (suc found.0, omega (arith, found.1), found.2)))

-- the filter fits a front of these levels
record FitsFront (filter name : List (List ℕ)) : Type 0 where
  pub front : List (List ℕ)
  pub rest : List (List ℕ)
  pub whole : name ≡ front ++ rest
  pub fit : FitsLevels filter front

fits_front : (filter name : List (List ℕ)) → HasNoHash filter → FitsLevels (filter ++ hash ∷ []) name → FitsFront filter name
unfolding HasNoHash
fits_front [] name none fit = record { front = []; rest = name; whole = refl; fit = tt }
fits_front (wanted ∷ filter) [] none fit = absurd (none.0 fit.0)
fits_front (wanted ∷ filter) (level ∷ name) none (inl rest) = absurd (none.0 rest.0)
fits_front (wanted ∷ filter) (level ∷ name) none (inr (here, below)) =
    let others = fits_front filter name none.1 below in
    record { front = level ∷ others.front; rest = others.rest; whole = ap (λ levels. level ∷ levels) others.whole; fit = inr (here, others.fit) }

fits_more : (filter front rest : List (List ℕ)) → HasNoHash filter → FitsLevels filter front → FitsLevels (filter ++ hash ∷ []) (front ++ rest)
unfolding HasNoHash
fits_more [] [] [] none fit = (refl, refl)
fits_more [] [] (level ∷ rest) none fit = inl (refl, refl)
fits_more [] (level ∷ front) rest none fit = absurd fit
fits_more (wanted ∷ filter) [] rest none fit = absurd (none.0 fit.0)
fits_more (wanted ∷ filter) (level ∷ front) rest none (inl end) = absurd (none.0 end.0)
fits_more (wanted ∷ filter) (level ∷ front) rest none (inr (here, below)) = inr (here, fits_more filter front rest none.1 below)

-- the text before a `/`, and the one behind it
record Parted (name : List ℕ) (front rest : List (List ℕ)) : Type 0 where
  pub parent : List ℕ
  pub below : List ℕ
  pub whole : name ≡ parent ++ 47 ∷ below
  pub front_is : levels_of parent ≡ front
  pub rest_is : levels_of below ≡ rest

parted_by : (slash : Bool) (b : ℕ) (name : List ℕ) (parts front rest : List (List ℕ)) → (b == 47) ≡ slash → levels_of name ≡ parts → 0 < length parts → 0 < length front → 0 < length rest
    → ((others : List (List ℕ)) → 0 < length others → levels_of name ≡ others ++ rest → Parted name others rest)
    → cond slash ([] ∷ parts) (onto_first b parts) ≡ front ++ rest → Parted (b ∷ name) front rest
parted_by slash b name parts [] rest e same some here more others split = absurd (omega arith)
parted_by slash b name [] (level ∷ front) rest e same some here more others split = absurd (omega arith)
parted_by true b name (part ∷ parts) (level ∷ []) rest e same some here more others split =
    let first : [] ∷ [] ≡ level ∷ [] = cc in
    let behind : levels_of name ≡ rest = cc in
    record { parent = []; below = name; whole = ap (λ c. c ∷ name) (eqb-true b 47 e); front_is = first; rest_is = behind }
parted_by true b name (part ∷ parts) (level ∷ next ∷ front) rest e same some here more others split =
    let behind : levels_of name ≡ next ∷ front ++ rest = cc in
    let first : [] ∷ next ∷ front ≡ level ∷ next ∷ front = cc in
    let inner : Parted name (next ∷ front) rest = others (next ∷ front) (omega arith) behind in
    record { parent = b ∷ inner.parent; below = inner.below; whole = ap (λ text. b ∷ text) inner.whole; front_is = rw (e, inner.front_is) first; rest_is = inner.rest_is }
parted_by false b name (part ∷ parts) (level ∷ front) rest e same some here more others split =
    let behind : levels_of name ≡ part ∷ front ++ rest = cc in
    let first : (b ∷ part) ∷ front ≡ level ∷ front = cc in
    let inner : Parted name (part ∷ front) rest = others (part ∷ front) (omega arith) behind in
    record { parent = b ∷ inner.parent; below = inner.below; whole = ap (λ text. b ∷ text) inner.whole; front_is = rw (e, inner.front_is) first; rest_is = inner.rest_is }

parted : (name : List ℕ) (front rest : List (List ℕ)) → 0 < length front → 0 < length rest → levels_of name ≡ front ++ rest → Parted name front rest
parted [] front rest here more split = absurd (omega (arith, ap length split, length-append front rest))
parted (b ∷ name) front rest here more split =
    parted_by (b == 47) b name (levels_of name) front rest refl refl (some_level name) here more (λ others some e. parted name others rest some more e) split

wild_more : (filter more : List ℕ) → begins_wild filter ≡ true → begins_wild (filter ++ more) ≡ true
wild_more [] more wild = absurd (cc wild)
wild_more (b ∷ filter) more wild = wild

wild_less : (filter : List ℕ) → begins_wild (filter ++ codes "/#") ≡ true → begins_wild filter ≡ true
wild_less [] wild = wild
wild_less (b ∷ filter) wild = wild

same_dollar : (parent below : List ℕ) → begins_dollar (parent ++ 47 ∷ below) ≡ begins_dollar parent
same_dollar [] below = refl
same_dollar (b ∷ parent) below = refl

fits_here : (filter name : List ℕ) → HasNoHash (levels_of filter) → Fits filter name → Fits (filter ++ codes "/#") name
fits_here filter name none fit =
    let levels : FitsLevels (levels_of filter ++ hash ∷ []) (levels_of name) =
    subst (λ (n : List (List ℕ)). FitsLevels (levels_of filter ++ hash ∷ []) n) (append-nil (levels_of name)) (fits_more (levels_of filter) (levels_of name) [] none fit.levels) in
    record {
      levels = subst (λ (f : List (List ℕ)). FitsLevels f (levels_of name)) (sym (levels_joined filter (codes "#"))) levels;
      dollar = λ wild. fit.dollar (wild_less filter wild);
    }

fits_above : (filter parent below : List ℕ) → HasNoHash (levels_of filter) → Fits filter parent → Fits (filter ++ codes "/#") (parent ++ 47 ∷ below)
fits_above filter parent below none fit =
    let levels : FitsLevels (levels_of filter ++ hash ∷ []) (levels_of parent ++ levels_of below) = fits_more (levels_of filter) (levels_of parent) (levels_of below) none fit.levels in
    record {
      levels =
          subst (λ (f : List (List ℕ)). FitsLevels f (levels_of (parent ++ 47 ∷ below))) (sym (levels_joined filter (codes "#")))
          (subst (λ (n : List (List ℕ)). FitsLevels (levels_of filter ++ hash ∷ []) n) (sym (levels_joined parent below)) levels);
      dollar = λ wild. same_dollar parent below ∙ fit.dollar (wild_less filter wild);
    }

some_front : (filter front : List (List ℕ)) → HasNoHash filter → 0 < length filter → FitsLevels filter front → 0 < length front
unfolding HasNoHash
some_front [] front none some fit = absurd (omega arith)
some_front (wanted ∷ filter) [] none some fit = absurd (none.0 fit.0)
some_front (wanted ∷ filter) (level ∷ front) none some fit = omega arith

split_fit : (filter name : List ℕ) (front rest : List (List ℕ)) → HasNoHash (levels_of filter) → (begins_wild filter ≡ true → begins_dollar name ≡ false) → levels_of name ≡ front ++ rest
    → FitsLevels (levels_of filter) front → Fits filter name ⊎ FitsAbove filter name
split_fit filter name front [] none dollar whole fit =
    inl (record { levels = subst (λ (n : List (List ℕ)). FitsLevels (levels_of filter) n) (sym (whole ∙ append-nil front)) fit; dollar = dollar })
split_fit filter name front (level ∷ rest) none dollar whole fit =
    let p : Parted name front (level ∷ rest) = parted name front (level ∷ rest) (some_front (levels_of filter) front none (some_level filter) fit) (omega arith) whole in
    inr (
      p.parent,
      p.below,
      p.whole ∙ sym (append_assoc p.parent (codes "/") p.below),
      record {
        levels = subst (λ (n : List (List ℕ)). FitsLevels (levels_of filter) n) (sym p.front_is) fit;
        dollar = λ wild. sym (same_dollar p.parent p.below) ∙ ap begins_dollar (sym p.whole) ∙ dollar wild;
      },
    )

split_whole : (filter name : List ℕ) → HasNoHash (levels_of filter) → Fits (filter ++ codes "/#") name → Fits filter name ⊎ FitsAbove filter name
split_whole filter name none fit =
    let levels : FitsLevels (levels_of filter ++ hash ∷ []) (levels_of name) = subst (λ (f : List (List ℕ)). FitsLevels f (levels_of name)) (levels_joined filter (codes "#")) fit.levels in
    let found = fits_front (levels_of filter) (levels_of name) none levels in
    split_fit filter name found.front found.rest none (λ wild. fit.dollar (wild_more filter (codes "/#") wild)) found.whole found.fit

join_fit : (filter name : List ℕ) → HasNoHash (levels_of filter) → Fits filter name ⊎ FitsAbove filter name → Fits (filter ++ codes "/#") name
join_fit filter name none (inl fit) = fits_here filter name none fit
join_fit filter name none (inr above) =
    subst (λ (n : List ℕ). Fits (filter ++ codes "/#") n) (sym (above.2 ∙ append_assoc above.0 (codes "/") above.1)) (fits_above filter above.0 above.1 none above.3)

pub hash_fits_below : (filter name : List ℕ) → (Contains filter 35 → ⊥) → Fits (filter ++ codes "/#") name ↔ (Fits filter name ⊎ FitsAbove filter name)
hash_fits_below filter name none = (split_whole filter name (no_hash filter none), join_fit filter name (no_hash filter none))
