-- The rows that options become, and what clap's last checks make of them.
use Rattle.std.proofs.Common.{◌≡◌, ℕ, Bool, cond, true, false, ◌&&◌, ◌||◌, not, List, [], ◌∷◌, ◌++◌, map, drop, Option, Some, None, is_some, option_and_then, refl, sym, ap, ap₂, ◌∙◌, codes, append_assoc, append-nil}
use Rattle.std.specs.Prelude.{unwrap_or}
use Rattle.std.specs.List.{list_all}
use Rattle.std.specs.Option.{option_map_or}
use Rattle.std.specs.Str.{bytes_eq}
use Rattle.std.proofs.lemmas.Slice.Eq.{bytes_eq-Decides}
use Rattle.clap.specs.Walk as walk
use Rattle.clap.specs.Walk.{Rule, Text, at_row, has_row, reading_by, used, with_default, is_empty}
use Rattle.clap.specs.declared.builder.value_parser.Reading.TheVariants.{AsWritten}
use Rattle.clap.specs.declared.parser.matches.ValueSource.TheVariants.{CommandLine}
use Rattle.clap.proofs.WalkLemmas.{both}
use Rattle.command_words.specs.declared.rows.Kind.{Kind}
use Rattle.command_words.specs.declared.rows.Kind.TheVariants as kinds
use Rattle.command_words.specs.Options.{Given}
use Rattle.command_words.specs.Tables.{Row, Table, are_distinct, dashed, fits, fits_kind, is_given, named, row_of}
use Rattle.command_words.proofs.Walking.{taken, taken_by, uses}

-- ---- Names

eq_turned : (a b : List ℕ) → bytes_eq a b ≡ bytes_eq b a
eq_turned a b = by (bytes_eq a b) (bytes_eq b a) refl refl
  where
    by : (x y : Bool) → bytes_eq a b ≡ x → bytes_eq b a ≡ y → x ≡ y
    by true true e d = refl
    by false false e d = refl
    by true false e d = absurd (cc (sym d ∙ (bytes_eq-Decides b a).1 (sym ((bytes_eq-Decides a b).0 e))))
    by false true e d = absurd (cc (sym e ∙ (bytes_eq-Decides a b).1 (sym ((bytes_eq-Decides b a).0 d))))

-- a row's option has the row's name
own_row : (t : Table) (name : List ℕ) (r : Row) → row_of t name ≡ Some r → name ≡ dashed r.0
own_row [] name r e = absurd (cc e)
own_row (x ∷ t) name r e = by (bytes_eq (dashed x.0) name) refl (own_row t name r) e
  where
    by : (b : Bool) → bytes_eq (dashed x.0) name ≡ b → (row_of t name ≡ Some r → name ≡ dashed r.0) → cond b (Some x) (row_of t name) ≡ Some r → name ≡ dashed r.0
    by true hit k is = sym ((bytes_eq-Decides (dashed x.0) name).0 hit) ∙ ap (λ (o : Option Row). dashed (unwrap_or o x).0) is
    by false hit k is = k is

-- the name of an option that has a row, without its dashes
pub fit_name : (t : Table) (o : Given) → fits t o ≡ true → o.0 ≡ dashed (drop 2 o.0)
fit_name t o h = by (row_of t o.0) refl h
  where
    by : (r : Option Row) → row_of t o.0 ≡ r → option_map_or (λ row. fits_kind row.1 o.1) r false ≡ true → o.0 ≡ dashed (drop 2 o.0)
    by None e h = absurd (cc h)
    by (Some r) e h = own_row t o.0 r e ∙ ap (λ n. dashed (drop 2 n)) (sym (own_row t o.0 r e))

-- ---- Rows

pub at_none : (id : Text) (change : walk.Row → List walk.Row) (missing rows : List walk.Row) → has_row id rows ≡ false → at_row id change missing rows ≡ rows ++ missing
at_none id change missing [] e = refl
at_none id change missing (r ∷ rows) e = by (bytes_eq r.id id) (has_row id rows) refl e (at_none id change missing rows)
  where
    by : (b c : Bool) → has_row id rows ≡ c → (b || c) ≡ false → (has_row id rows ≡ false → at_row id change missing rows ≡ rows ++ missing)
        → cond b (change r ++ rows) (r ∷ at_row id change missing rows) ≡ r ∷ (rows ++ missing)
    by true c d e k = absurd (cc e)
    by false true d e k = absurd (cc e)
    by false false d e k = ap (λ rs. r ∷ rs) (k d)

-- the row of an option that was given
abbrev pub made_row : Given → walk.Row
made_row option = record {
  id = drop 2 option.0;
  values = unwrap_or option.1 (codes "true") ∷ [];
  count = None;
  source = Some CommandLine;
  reading = AsWritten;
}

used_is : (k : Kind) (r : Row) (v : Option Text) (rows : List walk.Row) → fits_kind k v ≡ true
    → taken_by k r v rows ≡ cond (has_row r.0 rows) None (Some (rows ++ made_row (dashed r.0, v) ∷ []))
used_is k r v rows f = by k v f (has_row r.0 rows) refl
  where
    put : (m : walk.Row) → has_row r.0 rows ≡ false → (change : walk.Row → List walk.Row) → at_row r.0 change (m ∷ []) (at_row r.0 (λ _. []) [] rows) ≡ rows ++ m ∷ []
    put m e change =
        let bare : at_row r.0 (λ _. []) [] rows ≡ rows = at_none r.0 (λ _. []) [] rows e ∙ append-nil rows in
        ap (at_row r.0 change (m ∷ [])) bare ∙ at_none r.0 change (m ∷ []) rows e

    by : (k : Kind) (v : Option Text) → fits_kind k v ≡ true → (b : Bool) → has_row r.0 rows ≡ b → taken_by k r v rows ≡ cond b None (Some (rows ++ made_row (dashed r.0, v) ∷ []))
    by kinds.Flag None f true e = rw e refl
    by kinds.Flag None f false e = rw e (ap Some (put (made_row (dashed r.0, None)) e (walk.more_values CommandLine (codes "true" ∷ []))))
    by kinds.Flag (Some v) f b e = absurd (cc f)
    by kinds.Required (Some v) f true e = rw e refl
    by kinds.Required (Some v) f false e = rw e (ap Some (put (made_row (dashed r.0, Some v)) e (walk.more_values CommandLine (v ∷ []))))
    by kinds.Required None f b e = absurd (cc f)
    by kinds.Optional (Some v) f true e = rw e refl
    by kinds.Optional (Some v) f false e = rw e (ap Some (put (made_row (dashed r.0, Some v)) e (walk.more_values CommandLine (v ∷ []))))
    by kinds.Optional None f b e = absurd (cc f)

unfit : (k : Kind) (r : Row) (v : Option Text) (rows : List walk.Row) → fits_kind k v ≡ false → taken_by k r v rows ≡ None
unfit kinds.Flag r (Some v) rows f = refl
unfit kinds.Flag r None rows f = absurd (cc f)
unfit kinds.Required r (Some v) rows f = absurd (cc f)
unfit kinds.Required r None rows f = refl
unfit kinds.Optional r (Some v) rows f = absurd (cc f)
unfit kinds.Optional r None rows f = refl

-- an option that fits is taken where no row has its name
fit_taken : (t : Table) (o : Given) (rows : List walk.Row) → fits t o ≡ true → taken (row_of t o.0) o.1 rows ≡ cond (has_row (drop 2 o.0) rows) None (Some (rows ++ made_row o ∷ []))
fit_taken t o rows f = by (row_of t o.0) refl f
  where
    by : (r : Option Row) → row_of t o.0 ≡ r → option_map_or (λ row. fits_kind row.1 o.1) r false ≡ true
        → taken r o.1 rows ≡ cond (has_row (drop 2 o.0) rows) None (Some (rows ++ made_row o ∷ []))
    by None e f = absurd (cc f)
    by (Some r) e f =
        used_is r.1 r o.1 rows f ∙ ap (λ n. cond (has_row (drop 2 n) rows) None (Some (rows ++ made_row (n, o.1) ∷ []))) (sym (own_row t o.0 r e))

unfit_taken : (t : Table) (o : Given) (rows : List walk.Row) → fits t o ≡ false → taken (row_of t o.0) o.1 rows ≡ None
unfit_taken t o rows f = by (row_of t o.0) f
  where
    by : (r : Option Row) → option_map_or (λ row. fits_kind row.1 o.1) r false ≡ false → taken r o.1 rows ≡ None
    by None f = refl
    by (Some r) f = unfit r.1 r o.1 rows f

-- ---- Options that all fit, each once

abbrev fresh : List Given → List walk.Row → Bool
fresh os rows = list_all (λ o. not (has_row (drop 2 o.0) rows)) os

abbrev all_fit : Table → List Given → Bool
all_fit t os = list_all (fits t) os

has_more : (id : Text) (rows : List walk.Row) (m : walk.Row) → has_row id (rows ++ m ∷ []) ≡ (has_row id rows || bytes_eq m.id id)
has_more id [] m = by (bytes_eq m.id id)
  where
    by : (b : Bool) → (b || false) ≡ (false || b)
    by true = refl
    by false = refl
has_more id (r ∷ rows) m = rw (has_more id rows m) (by (bytes_eq r.id id) (has_row id rows) (bytes_eq m.id id))
  where
    by : (a b c : Bool) → (a || (b || c)) ≡ ((a || b) || c)
    by true b c = refl
    by false b c = refl

bare_names : (a b : List ℕ) → a ≡ dashed (drop 2 a) → b ≡ dashed (drop 2 b) → bytes_eq (drop 2 a) (drop 2 b) ≡ bytes_eq a b
bare_names a b e d = ap₂ bytes_eq (sym e) (sym d)

-- an option more that isn't among the others
fresh_more : (t : Table) (o : Given) (os : List Given) (rows : List walk.Row) → fits t o ≡ true → all_fit t os ≡ true
    → fresh os (rows ++ made_row o ∷ []) ≡ (not (is_given o.0 os) && fresh os rows)
fresh_more t o [] rows f g = refl
fresh_more t o (p ∷ os) rows f g =
    let gs = both (fits t p) (all_fit t os) g in
    let same : bytes_eq (drop 2 o.0) (drop 2 p.0) ≡ bytes_eq p.0 o.0 = bare_names o.0 p.0 (fit_name t o f) (fit_name t p gs.0) ∙ eq_turned o.0 p.0 in
    rw (has_more (drop 2 p.0) rows (made_row o), same, fresh_more t o os rows f gs.1)
    (by (has_row (drop 2 p.0) rows) (bytes_eq p.0 o.0) (named o.0 os) (fresh os rows))
  where
    by : (a b : Bool) (n : Option Given) (d : Bool) → (not (a || b) && (not (is_some n) && d)) ≡ (not (is_some (cond b (Some p) n)) && (not a && d))
    by true true n d = refl
    by true false None d = refl
    by true false (Some q) d = refl
    by false true n d = refl
    by false false n d = refl

one_step : (f d g h : Bool) (x : Option (List walk.Row)) → cond (f && (d && (g && h))) x None ≡ cond (f && ((g && d) && h)) x None
one_step false d g h x = refl
one_step true true g h x = by g
  where
    by : (g : Bool) → cond (g && h) x None ≡ cond ((g && true) && h) x None
    by true = refl
    by false = refl
one_step true false g h x = by g
  where
    by : (g : Bool) → None ≡ cond ((g && false) && h) x None
    by true = refl
    by false = refl

none_left : (f d : Bool) (x : Option (List walk.Row)) → None ≡ cond (f && (d && false)) x None
none_left true true x = refl
none_left true false x = refl
none_left false d x = refl

pub uses_are : (t : Table) (os : List Given) (rows : List walk.Row)
    → uses t os rows ≡ cond (all_fit t os && (are_distinct os && fresh os rows)) (Some (rows ++ map made_row os)) None
uses_are t [] rows = ap Some (sym (append-nil rows))
uses_are t (o ∷ os) rows = by (fits t o) refl (has_row (drop 2 o.0) rows) refl (all_fit t os) refl (uses_are t os)
  where
    by : (f : Bool) → fits t o ≡ f → (b : Bool) → has_row (drop 2 o.0) rows ≡ b → (g : Bool) → all_fit t os ≡ g
        → ((rows : List walk.Row) → uses t os rows ≡ cond (all_fit t os && (are_distinct os && fresh os rows)) (Some (rows ++ map made_row os)) None)
        → option_and_then (uses t os) (taken (row_of t o.0) o.1 rows)
        ≡ cond ((f && all_fit t os) && ((not (is_given o.0 os) && are_distinct os) && (not (has_row (drop 2 o.0) rows) && fresh os rows))) (Some (rows ++ made_row o ∷ map made_row os)) None
    by false e b d g c k = ap (option_and_then (uses t os)) (unfit_taken t o rows e)
    by true e true d g c k = rw (fit_taken t o rows e, d) (none_left (all_fit t os) (not (is_given o.0 os) && are_distinct os) (Some (rows ++ made_row o ∷ map made_row os)))
    by true e false d false c k = rw (fit_taken t o rows e, d, k (rows ++ made_row o ∷ []), c) refl
    by true e false d true c k =
        rw (fit_taken t o rows e, d, k (rows ++ made_row o ∷ []), fresh_more t o os rows e c, append_assoc rows (made_row o ∷ []) (map made_row os))
        (one_step (all_fit t os) (are_distinct os) (not (is_given o.0 os)) (fresh os rows) (Some (rows ++ made_row o ∷ map made_row os)))

pub all_fresh : (os : List Given) → fresh os [] ≡ true
all_fresh [] = refl
all_fresh (o ∷ os) = all_fresh os
