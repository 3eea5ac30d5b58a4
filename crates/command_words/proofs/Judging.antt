-- What clap's last checks make of the rows, and what its getters read.
use Rattle.std.proofs.Common.{◌≡◌, ℕ, Bool, cond, true, false, ◌&&◌, ◌||◌, not, List, [], ◌∷◌, ◌++◌, map, drop, Option, Some, None, is_some, count_by, option_map, find, fold, refl, sym, ap, ◌∙◌, subst}
use Rattle.std.specs.Prelude.{unwrap_or}
use Rattle.std.specs.List.{list_all, list_any}
use Rattle.std.specs.Option.{option_map_or}
use Rattle.std.specs.Str.{bytes_eq}
use Rattle.std.proofs.lemmas.Slice.Eq.{bytes_eq-Decides}
use Rattle.clap.specs.Kinds.{Kinds, or_else}
use Rattle.clap.specs.Facts.{explicit_source}
use Rattle.clap.specs.Faults.{has_free_rules, is_simple_and_free, defaults_fault, entered_fault, fault_of, level_fault, settle_fault, walk_fault}
use Rattle.clap.specs.Takes.{is_given as has_use}
use Rattle.clap.specs.Walk as walk
use Rattle.clap.specs.Walk.{Rule, Text, at_row, finished, has_row, more_values, nothing_held, reading_by, settled, used, walk_from, walked, with_default, is_empty}
use Rattle.clap.specs.Simple.{Shape, built, is_buildable, is_ready, is_simple, entered, filled_from, matches_of}
use Rattle.clap.specs.declared.error.kind.ErrorKind.TheVariants as kind
use Rattle.clap.specs.declared.parser.matches.ValueSource.TheVariants.{DefaultValue}
use Rattle.clap.proofs.WalkLemmas.{both}
use Rattle.command_words.specs.declared.rows.Kind.TheVariants as kinds
use Rattle.command_words.specs.Options.{Given, options_in}
use Rattle.command_words.specs.Tables.{Table, are_distinct, dashed, fits, has_required, is_given, is_whole, named}
use Rattle.command_words.specs.Apps.{app_for, rule_for}
use Rattle.command_words.specs.Fair.{is_fair}
use Rattle.command_words.proofs.Walking.{built_rule, built_rules, guarded, shape, walks}
use Rattle.command_words.proofs.Taking.{at_none, fit_name, made_row, uses_are, all_fresh}

-- ---- Defaults

abbrev pub either : {A : Type 0} → Option A → Option A → Option A
either None o = o
either (Some a) o = Some a

either_none : {A : Type 0} (o : Option A) → o ≡ either o None
either_none None = refl
either_none (Some a) = refl

abbrev default_row : Rule → List Text → walk.Row
default_row a values = record { id = a.id; values = values; count = None; source = Some DefaultValue; reading = reading_by a }

abbrev default_by : Rule → List Text → Text → Option walk.Row
default_by a [] id = None
default_by a (v ∷ vs) id = cond (bytes_eq a.id id) (Some (default_row a (v ∷ vs))) None

-- the row that an argument of this id has where it isn't used
abbrev pub default_of : List Rule → Text → Option walk.Row
default_of [] id = None
default_of (a ∷ c) id = either (default_by a a.defaults id) (default_of c id)

abbrev row_at : Text → List walk.Row → Option walk.Row
row_at id rows = find (λ r. bytes_eq r.id id) rows

row_more : (id : Text) (rows : List walk.Row) (m : walk.Row) → row_at id (rows ++ m ∷ []) ≡ either (row_at id rows) (cond (bytes_eq m.id id) (Some m) None)
row_more id [] m = refl
row_more id (r ∷ rows) m = rw (row_more id rows m) (by (bytes_eq r.id id))
  where
    by : (b : Bool) → cond b (Some r) (either (row_at id rows) (cond (bytes_eq m.id id) (Some m) None)) ≡ either (cond b (Some r) (row_at id rows)) (cond (bytes_eq m.id id) (Some m) None)
    by true = refl
    by false = refl

-- where a row of the id is found, a default adds none
found_first : (id : Text) (rows : List walk.Row) (o : Option walk.Row) → has_row id rows ≡ true → row_at id rows ≡ either (row_at id rows) o
found_first id [] o e = absurd (cc e)
found_first id (r ∷ rows) o e = by (bytes_eq r.id id) e (found_first id rows o)
  where
    by : (b : Bool) → (b || has_row id rows) ≡ true → (has_row id rows ≡ true → row_at id rows ≡ either (row_at id rows) o)
        → cond b (Some r) (row_at id rows) ≡ either (cond b (Some r) (row_at id rows)) o
    by true e k = refl
    by false e k = k e

default_more : (id : Text) (rows : List walk.Row) (a : Rule) → row_at id (with_default rows a) ≡ either (row_at id rows) (default_by a a.defaults id)
default_more id rows a = by a.defaults (has_row a.id rows) refl (bytes_eq a.id id) refl
  where
    by : (d : List Text) (b : Bool) → has_row a.id rows ≡ b → (e : Bool) → bytes_eq a.id id ≡ e
        → row_at id (cond b rows (walk.default_rows a.id (reading_by a) d rows)) ≡ either (row_at id rows) (default_by a d id)
    by [] true h e g = either_none (row_at id rows)
    by [] false h e g = either_none (row_at id rows)
    by (v ∷ vs) true h true g = rw g (found_first id rows (Some (default_row a (v ∷ vs))) (subst (λ (n : Text). has_row n rows ≡ true) ((bytes_eq-Decides a.id id).0 g) h))
    by (v ∷ vs) true h false g = rw g (either_none (row_at id rows))
    by (v ∷ vs) false h e g = ap (row_at id) (at_none a.id (more_values DefaultValue (v ∷ vs)) (default_row a (v ∷ vs) ∷ []) rows h) ∙ row_more id rows (default_row a (v ∷ vs))

either_assoc : {A : Type 0} (a b c : Option A) → either (either a b) c ≡ either a (either b c)
either_assoc None b c = refl
either_assoc (Some x) b c = refl

all_defaults : (id : Text) (c : List Rule) (rows : List walk.Row) → row_at id (fold with_default rows c) ≡ either (row_at id rows) (default_of c id)
all_defaults id [] rows = either_none (row_at id rows)
all_defaults id (a ∷ c) rows =
    all_defaults id c (with_default rows a) ∙ ap (λ o. either o (default_of c id)) (default_more id rows a)
    ∙ either_assoc (row_at id rows) (default_by a a.defaults id) (default_of c id)

-- the row of an option that was given
row_made : (t : Table) (os : List Given) (name : Text) → list_all (fits t) os ≡ true → row_at name (map made_row os) ≡ option_map made_row (named (dashed name) os)
row_made t [] name f = refl
row_made t (o ∷ os) name f =
    let fs = both (fits t o) (list_all (fits t) os) f in
    let same : bytes_eq (drop 2 o.0) name ≡ bytes_eq o.0 (dashed name) = ap (λ n. bytes_eq n (dashed name)) (sym (fit_name t o fs.0)) in
    rw (same, row_made t os name fs.1) (by (bytes_eq o.0 (dashed name)))
  where
    by : (b : Bool) → cond b (Some (made_row o)) (option_map made_row (named (dashed name) os)) ≡ option_map made_row (cond b (Some o) (named (dashed name) os))
    by true = refl
    by false = refl

-- the rows at the end
abbrev pub end_rows : Table → List Given → List walk.Row
end_rows t os = fold with_default (map made_row os) (built_rules t)

pub row_at_end : (t : Table) (os : List Given) (name : Text) → list_all (fits t) os ≡ true
    → row_at name (end_rows t os) ≡ either (option_map made_row (named (dashed name) os)) (default_of (built_rules t) name)
row_at_end t os name f = all_defaults name (built_rules t) (map made_row os) ∙ ap (λ o. either o (default_of (built_rules t) name)) (row_made t os name f)

-- ---- What has to be given

abbrev is_use : Option walk.Row → Bool
is_use o = option_map_or (λ r. explicit_source r.source) o false

no_use : (c : List Rule) (id : Text) → is_use (default_of c id) ≡ false
no_use [] id = refl
no_use (a ∷ c) id = by a.defaults (bytes_eq a.id id) (no_use c id)
  where
    by : (d : List Text) (b : Bool) → is_use (default_of c id) ≡ false → is_use (either (default_by a d id) (default_of c id)) ≡ false
    by [] b k = k
    by (v ∷ vs) b k = at_id (bytes_eq a.id id) k
      where
        at_id : (b : Bool) → is_use (default_of c id) ≡ false → is_use (either (cond b (Some (default_row a (v ∷ vs))) None) (default_of c id)) ≡ false
        at_id true k = refl
        at_id false k = k

use_is_given : (t : Table) (os : List Given) (name : Text) → list_all (fits t) os ≡ true → has_use name (end_rows t os) ≡ is_given (dashed name) os
use_is_given t os name f = ap is_use (row_at_end t os name f) ∙ by (named (dashed name) os)
  where
    by : (o : Option Given) → is_use (either (option_map made_row o) (default_of (built_rules t) name)) ≡ is_some o
    by None = no_use (built_rules t) name
    by (Some o) = refl

abbrev lacks : List walk.Row → Rule → Bool
lacks rows a = a.required && not (has_use a.id rows)

required_are : (t u : Table) (os : List Given) → list_all (fits t) os ≡ true → list_any (lacks (end_rows t os)) (built_rules u) ≡ not (has_required u os)
required_are t [] os f = refl
required_are t ((name, kinds.Flag) ∷ u) os f = required_are t u os f
required_are t ((name, kinds.Optional) ∷ u) os f = required_are t u os f
required_are t ((name, kinds.Required) ∷ u) os f = rw (use_is_given t os name f, required_are t u os f) (by (is_given (dashed name) os) (has_required u os))
  where
    by : (a b : Bool) → (not a || not b) ≡ not (a && b)
    by true b = refl
    by false b = refl

no_kinds : (b : Bool) (rest : Kinds) → or_else (cond b [] []) rest ≡ rest
no_kinds true rest = refl
no_kinds false rest = refl

defaults_pass : (t : Table) (rows : List walk.Row) → defaults_fault rows (built_rules t) ≡ []
unfolding defaults_fault
defaults_pass [] rows = refl
defaults_pass ((name, kinds.Flag) ∷ t) rows =
    let next = with_default rows (built_rule (name, kinds.Flag)) in
    no_kinds (has_row name rows || false) (defaults_fault next (built_rules t)) ∙ defaults_pass t next
defaults_pass ((name, kinds.Required) ∷ t) rows =
    let next = with_default rows (built_rule (name, kinds.Required)) in
    no_kinds (has_row name rows || true) (defaults_fault next (built_rules t)) ∙ defaults_pass t next
defaults_pass ((name, kinds.Optional) ∷ t) rows =
    let next = with_default rows (built_rule (name, kinds.Optional)) in
    no_kinds (has_row name rows || true) (defaults_fault next (built_rules t)) ∙ defaults_pass t next

-- ---- The command, built

filled_are : (t : Table) → filled_from 1 (map rule_for t) ≡ built_rules t
filled_are [] = refl
filled_are ((name, kinds.Flag) ∷ t) = ap (λ rest. built_rule (name, kinds.Flag) ∷ rest) (filled_are t)
filled_are ((name, kinds.Required) ∷ t) = ap (λ rest. built_rule (name, kinds.Required) ∷ rest) (filled_are t)
filled_are ((name, kinds.Optional) ∷ t) = ap (λ rest. built_rule (name, kinds.Optional) ∷ rest) (filled_are t)

abbrev pub built_shape : Text → Table → Shape
built_shape name t = shape (built (app_for name t)).top t

pub top_is : (name : Text) (t : Table) → (built (app_for name t)).top ≡ built_shape name t
top_is name t = ap (λ (rules : List Rule). record (built (app_for name t)).top { rules = rules }) (filled_are t)

-- ---- The verdict

abbrev Stop : Type 0
Stop = Option (Text × List Text)

none_entered : (name : Text) (t : Table) (stop : Stop) → entered (built (app_for name t)) stop ≡ None
none_entered name t None = refl
none_entered name t (Some p) = refl

none_below : (name : Text) (t : Table) (stop : Stop) → entered_fault (built (app_for name t)) stop ≡ []
none_below name t None = refl
none_below name t (Some p) = refl

abbrev walk_held : Text → Table → List Text → walk.Held
walk_held name t words = (fold (walked (built_rules t) []) (walk_from nothing_held) words).held

-- the kinds of the walk and of what waits at its end
abbrev walk_kinds : Text → Table → List Text → Kinds
walk_kinds name t words = or_else (walk_fault (built_shape name t) [] (walk_from nothing_held) words) (settle_fault (built_rules t) false (walk_held name t words))

abbrev walk_rows : Text → Table → List Text → List walk.Row
walk_rows name t words = (settled (built_rules t) (walk_held name t words)).rows

abbrev check_kinds_of : Bool → Kinds
check_kinds_of lacks = cond lacks (kind.MissingRequiredArgument ∷ []) []

regrouped : (w e d c : Kinds) → d ≡ [] → or_else w (or_else [] (or_else e (or_else d c))) ≡ or_else (or_else w e) c
regrouped [] e d c h = rw h refl
regrouped (k ∷ w) e d c h = refl

abbrev level_at : Text → Table → List Text → Shape → Kinds
level_at name t words s =
    let stop = (fold (walked s.rules []) (walk_from nothing_held) words).stopped in
    level_fault s [] nothing_held words (is_some (entered (built (app_for name t)) stop)) (entered_fault (built (app_for name t)) stop)

fault_is : (name : Text) (t : Table) (words : List Text)
    → fault_of (app_for name t) words ≡ or_else (walk_kinds name t words) (check_kinds_of (list_any (lacks (fold with_default (walk_rows name t words) (built_rules t))) (built_rules t)))
fault_is name t words =
    let stop = (fold (walked (built_rules t) []) (walk_from nothing_held) words).stopped in
    ap (level_at name t words) (top_is name t)
    ∙ rw (none_entered name t stop, none_below name t stop)
    (regrouped (walk_fault (built_shape name t) [] (walk_from nothing_held) words) (settle_fault (built_rules t) false (walk_held name t words)) (defaults_fault (walk_rows name t words) (built_rules t))
    (check_kinds_of (list_any (lacks (fold with_default (walk_rows name t words) (built_rules t))) (built_rules t))) (defaults_pass t (walk_rows name t words)))

matches_are : (name : Text) (t : Table) (words : List Text) → matches_of (app_for name t) words ≡ fold with_default (walk_rows name t words) (built_rules t)
matches_are name t words = ap (λ (s : Shape). finished s.rules (fold (walked s.rules []) (walk_from nothing_held) words).held) (top_is name t)

walk_is : (name : Text) (t : Table) (words : List Text) → list_all is_fair words ≡ true
    → guarded (walk_kinds name t words) (walk_rows name t words) ≡ cond (list_all (fits t) (options_in words) && are_distinct (options_in words)) (Some (map made_row (options_in words))) None
walk_is name t words f =
    walks (built (app_for name t)).top t words f nothing_held ∙ uses_are t (options_in words) []
    ∙ rw (all_fresh (options_in words)) (ap (λ b. cond (list_all (fits t) (options_in words) && b) (Some (map made_row (options_in words))) None) (and_true (are_distinct (options_in words))))
  where
    and_true : (b : Bool) → (b && true) ≡ b
    and_true true = refl
    and_true false = refl

abbrev IsEmptyKinds : Kinds → Type 0
IsEmptyKinds ks = ks ≡ []

of_some : (ks : Kinds) (xs rows : List walk.Row) → guarded ks xs ≡ Some rows → (ks ≡ []) × (xs ≡ rows)
of_some [] xs rows e = (refl, ap (λ o. unwrap_or o xs) e)
of_some (k ∷ ks) xs rows e = absurd (cc e)

of_none : (ks : Kinds) (xs : List walk.Row) → guarded ks xs ≡ None → (c : Kinds) → or_else ks c ≡ [] → ⊥
of_none [] xs e c h = absurd (cc e)
of_none (k ∷ ks) xs e c h = absurd (cc h)

pub taken_words : (name : Text) (t : Table) (words : List Text) → list_all is_fair words ≡ true → is_whole t (options_in words) ≡ true
    → (fault_of (app_for name t) words ≡ []) × (matches_of (app_for name t) words ≡ end_rows t (options_in words))
taken_words name t words f whole =
    let os = options_in words in
    let parts = both (list_all (fits t) os) (are_distinct os && has_required t os) whole in
    let more = both (are_distinct os) (has_required t os) parts.1 in
    let made = of_some (walk_kinds name t words) (walk_rows name t words) (map made_row os) (walk_is name t words f ∙ rw (parts.0, more.0) refl) in (
      fault_is name t words ∙ rw (made.0, made.1, required_are t t os parts.0, more.1) refl,
      matches_are name t words ∙ rw made.1 refl,
    )

pub refused_words : (name : Text) (t : Table) (words : List Text) → list_all is_fair words ≡ true → is_whole t (options_in words) ≡ false
    → fault_of (app_for name t) words ≡ [] → ⊥
refused_words name t words f whole none =
    by (list_all (fits t) os) (are_distinct os) (has_required t os) refl refl refl whole
  where
    os : List Given
    os = options_in words

    by : (a b c : Bool) → list_all (fits t) os ≡ a → are_distinct os ≡ b → has_required t os ≡ c → (a && (b && c)) ≡ false → ⊥
    by true true true e d h w = absurd (cc w)
    by true true false e d h w =
        let made = of_some (walk_kinds name t words) (walk_rows name t words) (map made_row os) (walk_is name t words f ∙ rw (e, d) refl) in
        let missing : fault_of (app_for name t) words ≡ kind.MissingRequiredArgument ∷ [] = fault_is name t words ∙ rw (made.0, made.1, required_are t t os e, h) refl in
        absurd (cc (sym missing ∙ none))
    by true false c e d h w = of_none (walk_kinds name t words) (walk_rows name t words) (walk_is name t words f ∙ rw (e, d) refl) _ (sym (fault_is name t words) ∙ none)
    by false b c e d h w = of_none (walk_kinds name t words) (walk_rows name t words) (walk_is name t words f ∙ rw e refl) _ (sym (fault_is name t words) ∙ none)

-- ---- The command is one whose walk clap gives

simple_rules : (t : Table) → list_all (λ (a : Rule). a.is_simple) (map rule_for t) ≡ true
simple_rules [] = refl
simple_rules ((name, kinds.Flag) ∷ t) = simple_rules t
simple_rules ((name, kinds.Required) ∷ t) = simple_rules t
simple_rules ((name, kinds.Optional) ∷ t) = simple_rules t

simple_built : (t : Table) → list_all (λ (a : Rule). a.is_simple) (built_rules t) ≡ true
simple_built [] = refl
simple_built ((name, kinds.Flag) ∷ t) = simple_built t
simple_built ((name, kinds.Required) ∷ t) = simple_built t
simple_built ((name, kinds.Optional) ∷ t) = simple_built t

free_built : (t : Table) → list_all (λ (a : Rule). a.is_free) (built_rules t) ≡ true
free_built [] = refl
free_built ((name, kinds.Flag) ∷ t) = free_built t
free_built ((name, kinds.Required) ∷ t) = free_built t
free_built ((name, kinds.Optional) ∷ t) = free_built t

none_early : (n : ℕ) (t : Table) → list_any (walk.is_early_multiple n) (built_rules t) ≡ false
none_early n [] = refl
none_early n ((name, kinds.Flag) ∷ t) = none_early n t
none_early n ((name, kinds.Required) ∷ t) = none_early n t
none_early n ((name, kinds.Optional) ∷ t) = none_early n t

abbrev ready_top : Text → Table → Shape → Bool
ready_top name t s = is_buildable (app_for name t) && (is_ready s && true)

pub simple : (name : Text) (t : Table) → is_simple (app_for name t) ≡ true
simple name t = ap (ready_top name t) (top_is name t) ∙ rw (simple_rules t, simple_built t, none_early (count_by (λ (a : Rule). is_some a.index) (built_rules t)) t) refl

pub free : (name : Text) (t : Table) → is_simple_and_free (app_for name t) ≡ true
free name t = rw (simple name t) (ap (λ (s : Shape). has_free_rules s && true) (top_is name t) ∙ rw (free_built t) refl)
