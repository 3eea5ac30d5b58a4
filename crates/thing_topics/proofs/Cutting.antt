-- What std's methods on texts say of fronts and first levels.
use Rattle.std.proofs.Common.{◌≡◌, ℕ, suc, ◌+◌, ◌<◌, List, [], ◌∷◌, ◌++◌, length, drop, get_or, Bool, true, false, cond, Option, Some, None, Bor, refl, sym, ap, ◌∙◌, arith, eq-eqb}
use Rattle.std.specs.Prelude.{◌==◌, MatchOption}
use Rattle.std.specs.Option.{option_copied}
use Rattle.std.specs.Str.Pattern.{FindsTextPrefix}
use Rattle.std.proofs.lemmas.Str.Pattern.{IsSplitOnceResult, split_parts}
use Rattle.std.proofs.lemmas.Bool.{ne_eqb, eqb-true}
use Rattle.thing_topics.specs.Cuts.{behind, first_level}

-- a text that begins with the front
pub behind_front : (front rest : List ℕ) → behind front (front ++ rest) ≡ Some rest
unfolding behind
behind_front [] rest = refl
behind_front (b ∷ front) rest = rw (eq-eqb b b refl) (behind_front front rest)

none_by : (same : Bool) (b c : ℕ) (front text : List ℕ) → (b == c) ≡ same → ((rest : List ℕ) → c ∷ text ≡ b ∷ front ++ rest → ⊥)
    → (((rest : List ℕ) → text ≡ front ++ rest → ⊥) → behind front text ≡ None) → cond same (behind front text) None ≡ None
none_by true b c front text e none others = others (λ rest h. none rest (cc (eqb-true b c e)))
none_by false b c front text e none others = refl

-- a text that doesn't
pub behind_none : (front text : List ℕ) → ((rest : List ℕ) → text ≡ front ++ rest → ⊥) → behind front text ≡ None
unfolding behind
behind_none [] text none = absurd (none text refl)
behind_none (b ∷ front) [] none = refl
behind_none (b ∷ front) (c ∷ text) none = none_by (b == c) b c front text refl none (behind_none front text)

-- and the other way round
behind_by : (same : Bool) (b c : ℕ) (front text rest : List ℕ) → (b == c) ≡ same → (behind front text ≡ Some rest → text ≡ front ++ rest)
    → cond same (behind front text) None ≡ Some rest → c ∷ text ≡ b ∷ front ++ rest
behind_by true b c front text rest e others h =
    let same : b ≡ c = eqb-true b c e in
    let whole : text ≡ front ++ rest = others h in
    cc
behind_by false b c front text rest e others h = absurd (cc h)

pub front_behind : (front text rest : List ℕ) → behind front text ≡ Some rest → text ≡ front ++ rest
unfolding behind
front_behind [] text rest h = cc
front_behind (b ∷ front) [] rest h = absurd (cc h)
front_behind (b ∷ front) (c ∷ text) rest h = behind_by (b == c) b c front text rest refl (front_behind front text rest) h

-- no byte of the level is `/`
abbrev pub HasNoSlash : List ℕ → Type 0
HasNoSlash level = (i : ℕ) → i < length level → get_or level i 0 ≡ 47 → ⊥

later : (b : ℕ) (level : List ℕ) → HasNoSlash (b ∷ level) → HasNoSlash level
later b level none i within = none (suc i) (omega arith)

first : (b : ℕ) (level : List ℕ) → HasNoSlash (b ∷ level) → (b == 47) ≡ false
first b level none = ne_eqb b 47 (none 0 (omega arith))

pub level_whole : (text : List ℕ) → HasNoSlash text → first_level text ≡ (text, None)
unfolding first_level
level_whole [] none = refl
level_whole (b ∷ text) none = rw (first b text none, level_whole text (later b text none)) refl

pub level_cut : (level below : List ℕ) → HasNoSlash level → first_level (level ++ 47 ∷ below) ≡ (level, Some below)
unfolding first_level
level_cut [] below none = refl
level_cut (b ∷ level) below none = rw (first b level none, level_cut level below (later b level none)) refl

pub stripped : (front text : List ℕ) (r : Option (Bor (List ℕ)))
    → MatchOption r (FindsTextPrefix front text None) (λ x. (n : ℕ) × FindsTextPrefix front text (Some n) × (x.now ≡ drop n text) × (length x.now + n ≡ length text))
    → option_copied r ≡ behind front text
stripped front text None h = sym (behind_none front text h)
stripped front text (Some x) h =
    let e : text ≡ front ++ x.now = h.1.1 ∙ ap (λ rest. front ++ rest) (sym h.2) in
    sym (ap (behind front) e ∙ behind_front front x.now)

pub cut_whole : (text : List ℕ) (r : Option (Bor (List ℕ) × Bor (List ℕ))) → IsSplitOnceResult 47 text r → r ≡ None → (text, None) ≡ first_level text
cut_whole text None h e = sym (level_whole text (split_parts 47 text None h (omega arith)))
cut_whole text (Some x) h e = absurd (cc e)

pub cut_level : (text : List ℕ) (x : Bor (List ℕ) × Bor (List ℕ)) → IsSplitOnceResult 47 text (Some x) → (x.0.now, Some x.1.now) ≡ first_level text
cut_level text x h =
    let parts = split_parts 47 text (Some x) h (omega arith) in
    sym (ap first_level parts.0 ∙ level_cut x.0.now x.1.now parts.1)
