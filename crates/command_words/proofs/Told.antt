-- What clap answers, in the table's words.
use Rattle.std.proofs.Common.{◌≡◌, ℕ, Bool, cond, true, false, ◌&&◌, ◌||◌, not, List, [], ◌∷◌, Option, Some, None, is_some, option_map, option_and_then, inl, inr, refl, sym, ap, ◌∙◌, subst, codes, Vec, Global}
use Rattle.std.specs.Prelude.{unwrap_or, slice_get}
use Rattle.std.specs.List.{list_all}
use Rattle.std.specs.Option.{option_map_or}
use Rattle.std.specs.Str.{bytes_eq}
use Rattle.std.proofs.lemmas.Slice.Eq.{bytes_eq-Decides}
use Rattle.clap.specs.Words.{first_value, found_of}
use Rattle.clap.specs.Walk as walk
use Rattle.clap.specs.Walk.{row_text, rows_of, first_of, one_of}
use Rattle.clap.specs.declared.parser.matches.ArgMatches.{ArgMatches}
use Rattle.clap.proofs.WalkLemmas.{both, first_value-rows, one_text-rows}
use Rattle.std.specs.Prelude.{Err}
use Rattle.std.specs.Borrow.{Bor}
use Rattle.clap.specs.Values.{kind_of}
use Rattle.clap.specs.Kinds.{HasKind, IsAmong, Kinds}
use Rattle.clap.specs.Faults.{fault_of, is_simple_and_free}
use Rattle.clap.specs.Simple.{App, HasMatchesOf, is_simple, matches_of}
use Rattle.clap.specs.declared.error.Error.{Error}
use Rattle.clap.specs.declared.error.kind.ErrorKind.{ErrorKind}
use Rattle.clap.specs.declared.error.kind.ErrorKind.TheVariants as errors
use Rattle.command_words.specs.declared.faults.WordsFault.{WordsFault}
use Rattle.command_words.specs.declared.faults.WordsFault.TheVariants as faults
use Rattle.command_words.specs.declared.rows.Kind.{Kind}
use Rattle.command_words.specs.declared.rows.Kind.TheVariants as kinds
use Rattle.command_words.specs.Options.{Given, options_in}
use Rattle.command_words.specs.Apps.{app_for}
use Rattle.command_words.specs.declared.given.Given as found
use Rattle.command_words.specs.Given.{all_given, texts}
use Rattle.command_words.specs.Fair.{is_fair}
use Rattle.command_words.specs.Tables.{Row, Table, are_distinct, has_names, has_required, dashed, fits, fits_kind, in_rows, is_clear, is_flag, is_given, is_sound, is_value, is_whole, named, names_flag, names_value, options_of, row_of, value_of}
use Rattle.command_words.specs.Reading.{Gives}
use Rattle.command_words.specs.Matches.{HoldEach, Holds, Says}
use Rattle.command_words.proofs.Walking.{built_rules}
use Rattle.command_words.proofs.Taking.{made_row}
use Rattle.command_words.proofs.Judging.{default_of, either, end_rows, free, refused_words, row_at_end, simple, taken_words}
use Rattle.command_words.proofs.Unfair.{unfair_words}

named_fits : (t : Table) (os : List Given) (name : List ℕ) (o : Given) → list_all (fits t) os ≡ true → named name os ≡ Some o → (fits t o ≡ true) × (o.0 ≡ name)
named_fits t [] name o f e = absurd (cc e)
named_fits t (p ∷ os) name o f e =
    let fs = both (fits t p) (list_all (fits t) os) f in
    by (bytes_eq p.0 name) refl fs.0 (named_fits t os name o fs.1) e
  where
    by : (b : Bool) → bytes_eq p.0 name ≡ b → fits t p ≡ true → (named name os ≡ Some o → (fits t o ≡ true) × (o.0 ≡ name)) → cond b (Some p) (named name os) ≡ Some o → (fits t o ≡ true) × (o.0 ≡ name)
    by true hit g k is =
        let same : p ≡ o = ap (λ (q : Option Given). unwrap_or q p) is in
        subst (λ (q : Given). (fits t q ≡ true) × (q.0 ≡ name)) same (g, (bytes_eq-Decides p.0 name).0 hit)
    by false hit g k is = k is

no_flag_row : (t : Table) (id : List ℕ) → names_flag t id ≡ false → is_flag (row_of t (dashed id)) ≡ false
no_flag_row [] id e = refl
no_flag_row ((n, k) ∷ t) id e = by (bytes_eq n id) k e (no_flag_row t id)
  where
    by : (b : Bool) (k : Kind) → ((is_flag (Some (n, k)) && b) || names_flag t id) ≡ false → (names_flag t id ≡ false → is_flag (row_of t (dashed id)) ≡ false)
        → is_flag (cond b (Some (n, k)) (row_of t (dashed id))) ≡ false
    by true kinds.Flag e h = absurd (cc e)
    by true kinds.Required e h = refl
    by true kinds.Optional e h = refl
    by false kinds.Flag e h = h e
    by false kinds.Required e h = h e
    by false kinds.Optional e h = h e

-- an option that fits has a value where its row is no flag, and else none
has_value : (r : Option Row) (v : Option (List ℕ)) → option_map_or (λ row. fits_kind row.1 v) r false ≡ true → is_flag r ≡ false → Some (unwrap_or v (codes "true")) ≡ v
has_value None v f e = absurd (cc f)
has_value (Some (n, kinds.Flag)) v f e = absurd (cc e)
has_value (Some (n, kinds.Required)) (Some v) f e = refl
has_value (Some (n, kinds.Required)) None f e = absurd (cc f)
has_value (Some (n, kinds.Optional)) (Some v) f e = refl
has_value (Some (n, kinds.Optional)) None f e = absurd (cc f)

has_none : (r : Option Row) (v : Option (List ℕ)) → option_map_or (λ row. fits_kind row.1 v) r false ≡ true → option_map_or is_value r false ≡ false → unwrap_or v (codes "true") ≡ codes "true"
has_none None v f e = absurd (cc f)
has_none (Some (n, kinds.Flag)) (Some v) f e = absurd (cc f)
has_none (Some (n, kinds.Flag)) None f e = refl
has_none (Some (n, kinds.Required)) v f e = absurd (cc e)
has_none (Some (n, kinds.Optional)) v f e = absurd (cc e)

no_value_row : (t : Table) (id : List ℕ) → names_value t id ≡ false → option_map_or is_value (row_of t (dashed id)) false ≡ false
no_value_row [] id e = refl
no_value_row ((n, k) ∷ t) id e = by (bytes_eq n id) k e (no_value_row t id)
  where
    by : (b : Bool) (k : Kind) → ((is_value (n, k) && b) || names_value t id) ≡ false → (names_value t id ≡ false → option_map_or is_value (row_of t (dashed id)) false ≡ false)
        → option_map_or is_value (cond b (Some (n, k)) (row_of t (dashed id))) false ≡ false
    by true kinds.Flag e h = refl
    by true kinds.Required e h = absurd (cc e)
    by true kinds.Optional e h = absurd (cc e)
    by false kinds.Flag e h = h e
    by false kinds.Required e h = h e
    by false kinds.Optional e h = h e

no_default : (t : Table) (id : List ℕ) → names_flag t id ≡ false → default_of (built_rules t) id ≡ None
no_default [] id e = refl
no_default ((n, kinds.Required) ∷ t) id e = no_default t id e
no_default ((n, kinds.Optional) ∷ t) id e = no_default t id e
no_default ((n, kinds.Flag) ∷ t) id e = by (bytes_eq n id) refl e (no_default t id)
  where
    by : (b : Bool) → bytes_eq n id ≡ b → (b || names_flag t id) ≡ false → (names_flag t id ≡ false → default_of (built_rules t) id ≡ None) → default_of (built_rules ((n, kinds.Flag) ∷ t)) id ≡ None
    by true h e k = absurd (cc e)
    by false h e k = rw h (k e)

off : (t : Table) (id : List ℕ) → Says false (option_and_then row_text (default_of (built_rules t) id))
off [] id = inl refl
off ((n, kinds.Required) ∷ t) id = off t id
off ((n, kinds.Optional) ∷ t) id = off t id
off ((n, kinds.Flag) ∷ t) id = by (bytes_eq n id) refl (off t id)
  where
    by : (b : Bool) → bytes_eq n id ≡ b → Says false (option_and_then row_text (default_of (built_rules t) id)) → Says false (option_and_then row_text (default_of (built_rules ((n, kinds.Flag) ∷ t)) id))
    by true h g = rw h (inr refl)
    by false h g = rw h g

isnt : (b : Bool) → not b ≡ true → b ≡ false
isnt true e = absurd (cc e)
isnt false e = refl

pub hold_each : (t : Table) (os : List Given) (m : ArgMatches) → list_all (fits t) os ≡ true → rows_of (found_of m) ≡ end_rows t os → HoldEach os m t
hold_each t os m f e row clear = by row clear
  where
    values : (id : List ℕ) → names_flag t id ≡ false → (o : Option Given) → named (dashed id) os ≡ o
        → option_and_then (λ (r : walk.Row). slice_get r.values 0) (either (option_map made_row o) None) ≡ option_and_then (λ (p : Given). p.1) o
    values id g None h = refl
    values id g (Some o) h =
        let fit = named_fits t os (dashed id) o f h in
        has_value (row_of t o.0) o.1 fit.0 (subst (λ (n : List ℕ). is_flag (row_of t n) ≡ false) (sym fit.1) (no_flag_row t id g))

    value : (id : List ℕ) → names_flag t id ≡ false → first_value (found_of m) id ≡ value_of (dashed id) os
    value id g = first_value-rows (found_of m) id ∙ ap (first_of id) e
        ∙ ap (option_and_then (λ (r : walk.Row). slice_get r.values 0)) (row_at_end t os id f ∙ ap (either (option_map made_row (named (dashed id) os))) (no_default t id g))
        ∙ values id g (named (dashed id) os) refl

    flag : (id : List ℕ) → names_value t id ≡ false → (o : Option Given) → named (dashed id) os ≡ o
        → Says (is_some o) (option_and_then row_text (either (option_map made_row o) (default_of (built_rules t) id)))
    flag id g None h = off t id
    flag id g (Some o) h =
        let fit = named_fits t os (dashed id) o f h in
        ap Some (has_none (row_of t o.0) o.1 fit.0 (subst (λ (n : List ℕ). option_map_or is_value (row_of t n) false ≡ false) (sym fit.1) (no_value_row t id g)))

    by : (row : Row) → is_clear t row ≡ true → Holds os m row
    by (id, kinds.Required) c = ap (option_map (λ (v : List ℕ). (id, Some v))) (value id (isnt (names_flag t id) c))
    by (id, kinds.Optional) c = ap (option_map (λ (v : List ℕ). (id, Some v))) (value id (isnt (names_flag t id) c))
    by (id, kinds.Flag) c =
        subst (Says (is_given (dashed id) os)) (sym (one_text-rows (found_of m) id ∙ ap (one_of id) e ∙ ap (option_and_then row_text) (row_at_end t os id f)))
        (flag id (isnt (names_value t id) c) (named (dashed id) os) refl)

-- ---- The reader's answers

fair_texts : (words : List (Bor (List ℕ))) → list_all (λ (word : Bor (List ℕ)). is_fair word.now) words ≡ list_all is_fair (texts words)
fair_texts [] = refl
fair_texts (word ∷ words) = ap (λ b. is_fair word.now && b) (fair_texts words)

pub unfair_refused : (t : Table) (words : List (Bor (List ℕ))) (b : Bool) → has_names t ≡ true → b ≡ false → b ≡ list_all (λ (word : Bor (List ℕ)). is_fair word.now) words
    → options_of t (texts words) ≡ None
unfolding options_of
unfair_refused t words b g f e = rw (unfair_words t (texts words) g (sym (fair_texts words) ∙ sym e ∙ f)) refl

pub words_read : (name : List ℕ) (t : Table) (app : App) (words : List (Bor (List ℕ))) (b : Bool) (m : ArgMatches) (given : List Given) → app ≡ app_for name t → b ≡ true
    → b ≡ list_all (λ (word : Bor (List ℕ)). is_fair word.now) words → HasMatchesOf app (texts words) m → (is_simple_and_free app ≡ true → fault_of app (texts words) ≡ [])
    → ((options : List Given) → is_sound t ≡ true → HoldEach options m t → given ≡ in_rows options t) → is_sound t ≡ true
    → options_of t (texts words) ≡ Some given
unfolding options_of
words_read name t app words b m given e f g matches kinds told sound =
    by (is_whole t os) refl
  where
    os : List Given
    os = options_in (texts words)

    fair : list_all is_fair (texts words) ≡ true
    fair = sym (fair_texts words) ∙ sym g ∙ f

    none : fault_of (app_for name t) (texts words) ≡ []
    none = subst (λ (a : App). fault_of a (texts words) ≡ []) e (kinds (ap is_simple_and_free e ∙ free name t))

    by : (w : Bool) → is_whole t os ≡ w → cond w (Some (in_rows os t)) None ≡ Some given
    by true h =
        let rows = (matches (ap is_simple e ∙ simple name t)).0 ∙ ap (λ (a : App). matches_of a (texts words)) e ∙ (taken_words name t (texts words) fair h).1 in
        ap Some (sym (told os sound (hold_each t os m (both (list_all (fits t) os) (are_distinct os && has_required t os) h).0 rows)))
    by false h = absurd (refused_words name t (texts words) fair h none)

abbrev seen : Vec found.Given Global → List Given
seen given = all_given given.items

among_none : (k : ErrorKind) (kinds : Kinds) → kinds ≡ [] → IsAmong k kinds → ⊥
among_none k [] e h = h
among_none k (x ∷ xs) e h = absurd (cc e)

pub words_refused : (name : List ℕ) (t : Table) (app : App) (words : List (Bor (List ℕ))) (b : Bool) (error : Error) (fault : WordsFault) → app ≡ app_for name t → b ≡ true
    → b ≡ list_all (λ (word : Bor (List ℕ)). is_fair word.now) words → (is_simple_and_free app ≡ true → HasKind (fault_of app (texts words)) error)
    → (kind_of error ≡ errors.OutOfMemory → fault ≡ faults.NoMemory) → Gives seen (Err fault) (options_of t (texts words))
unfolding options_of
words_refused name t app words b error faults.NoMemory e f g kinds memory = tt
words_refused name t app words b error faults.Words e f g kinds memory =
    elim (kinds (ap is_simple_and_free e ∙ free name t)) [
      | inl out ↦ absurd (cc (memory out))
      | inr among ↦ by (is_whole t (options_in (texts words))) refl among
    ]
  where
    by : (w : Bool) → is_whole t (options_in (texts words)) ≡ w → IsAmong (kind_of error) (fault_of app (texts words)) → cond w (Some (in_rows (options_in (texts words)) t)) None ≡ None
    by true h among =
        let none = ap (λ (a : App). fault_of a (texts words)) e ∙ (taken_words name t (texts words) (sym (fair_texts words) ∙ sym g ∙ f) h).0 in
        absurd (among_none (kind_of error) (fault_of app (texts words)) none among)
    by false h among = refl
