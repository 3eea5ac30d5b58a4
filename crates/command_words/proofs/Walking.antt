-- clap's walk over words of which each is `--name`, `--name=value` or begins with no dash.
use Rattle.std.proofs.Common.{◌≡◌, ℕ, ◌+◌, Bool, cond, true, false, ◌||◌, not, List, [], ◌∷◌, map, take, drop, suc, Option, Some, None, option_map, option_and_then, find, fold, inl, inr, refl, sym, ap, ap₂, ◌∙◌, subst, arith, codes, ◌⊎◌}
use Rattle.std.specs.Prelude.{◌==◌, unwrap_or}
use Rattle.std.specs.List.{list_all, position_or_len}
use Rattle.std.specs.Str.{bytes_eq}
use Rattle.std.proofs.lemmas.Bool.{eqb-true}
use Rattle.std.proofs.lemmas.Slice.Eq.{bytes_eq-Decides}
use Rattle.clap.specs.Lexer.{has_byte, name_and_value}
use Rattle.clap.specs.Kinds.{Kinds, or_else}
use Rattle.clap.specs.Faults.{long_fault, settle_fault, step_fault, turn_fault, use_fault, walk_fault}
use Rattle.clap.specs.Walk as walk
use Rattle.clap.specs.Walk.{Held, Rule, Text, Waiting, Walk, idle, option, after_step, arg_by_id, arg_by_index, arg_by_long, long_met, long_or_other, after_flag, settled, used, walk_from, walked}
use Rattle.clap.specs.Simple.{Shape, new_rule}
use Rattle.clap.proofs.WalkLemmas.{both}
use Rattle.clap.specs.declared.builder.action.ArgAction.TheVariants.{Set, SetTrue}
use Rattle.clap.specs.declared.builder.value_parser.ValueParser.TheVariants as vp
use Rattle.clap.specs.declared.error.kind.ErrorKind.TheVariants as kind
use Rattle.command_words.specs.declared.rows.Kind.{Kind}
use Rattle.command_words.specs.declared.rows.Kind.TheVariants as kinds
use Rattle.plain_text.specs.Words.{cut, onto_front}
use Rattle.command_words.specs.Options.{Given, is_dashed, options_in, with_next}
use Rattle.command_words.specs.Tables.{Row, Table, dashed, is_required, row_of}
use Rattle.command_words.specs.Fair.{is_fair}

-- ---- A row's rule, once it is built

abbrev pub value_rule : Row → Rule
value_rule row = record (new_rule row.0) {
  long = Some row.0;
  action = Some Set;
  range = Some (record { start_inclusive = 1; end_inclusive = 1 });
  parser = Some vp.String;
  value_names = 1;
  required = is_required row.1;
}

abbrev pub flag_rule : Row → Rule
flag_rule row = record (new_rule row.0) {
  long = Some row.0;
  action = Some SetTrue;
  range = Some (record { start_inclusive = 0; end_inclusive = 0 });
  defaults = codes "false" ∷ [];
  missing = codes "true" ∷ [];
  parser = Some vp.Bool;
}

abbrev rule_by : Row → Kind → Rule
rule_by row kinds.Flag = flag_rule row
rule_by row kinds.Required = value_rule row
rule_by row kinds.Optional = value_rule row

abbrev pub built_rule : Row → Rule
built_rule row = rule_by row row.1

abbrev pub built_rules : Table → List Rule
built_rules = map built_rule

abbrev pub row_named : Table → List ℕ → Option Row
row_named table name = find (λ row. bytes_eq row.0 name) table

by_index : (t : Table) (i : ℕ) → arg_by_index (built_rules t) i ≡ None
by_index [] i = refl
by_index ((name, kinds.Flag) ∷ t) i = by_index t i
by_index ((name, kinds.Required) ∷ t) i = by_index t i
by_index ((name, kinds.Optional) ∷ t) i = by_index t i

choose : {A B : Type 0} (f : A → B) (a : A) (b : Bool) (o : Option A) → cond b (Some (f a)) (option_map f o) ≡ option_map f (cond b (Some a) o)
choose f a true o = refl
choose f a false o = refl

pub by_id : (t : Table) (id : Text) → arg_by_id (built_rules t) id ≡ option_map built_rule (row_named t id)
by_id [] id = refl
by_id ((name, kinds.Flag) ∷ t) id = rw (by_id t id) (choose built_rule (name, kinds.Flag) (bytes_eq name id) (row_named t id))
by_id ((name, kinds.Required) ∷ t) id = rw (by_id t id) (choose built_rule (name, kinds.Required) (bytes_eq name id) (row_named t id))
by_id ((name, kinds.Optional) ∷ t) id = rw (by_id t id) (choose built_rule (name, kinds.Optional) (bytes_eq name id) (row_named t id))

or_none : (b : Bool) → (b || false) ≡ b
or_none true = refl
or_none false = refl

by_long : (t : Table) (name : Text) → arg_by_long (built_rules t) name ≡ option_map built_rule (row_named t name)
by_long [] id = refl
by_long ((name, kinds.Flag) ∷ t) id = rw (or_none (bytes_eq name id), by_long t id) (choose built_rule (name, kinds.Flag) (bytes_eq name id) (row_named t id))
by_long ((name, kinds.Required) ∷ t) id = rw (or_none (bytes_eq name id), by_long t id) (choose built_rule (name, kinds.Required) (bytes_eq name id) (row_named t id))
by_long ((name, kinds.Optional) ∷ t) id = rw (or_none (bytes_eq name id), by_long t id) (choose built_rule (name, kinds.Optional) (bytes_eq name id) (row_named t id))

-- a row is found by its own name
own_name : (t : Table) (name : Text) (r : Row) → row_named t name ≡ Some r → row_named t r.0 ≡ Some r
own_name t name r e = subst (λ (n : Text). row_named t n ≡ Some r) (named t e) e
  where
    named : (t : Table) → row_named t name ≡ Some r → name ≡ r.0
    named [] h = absurd (cc h)
    named (x ∷ t) h = by (bytes_eq x.0 name) refl (named t) h
      where
        by : (b : Bool) → bytes_eq x.0 name ≡ b → (row_named t name ≡ Some r → name ≡ r.0) → cond b (Some x) (row_named t name) ≡ Some r → name ≡ r.0
        by true hit later is = sym ((bytes_eq-Decides x.0 name).0 hit) ∙ ap (λ (o : Option Row). (unwrap_or o x).0) is
        by false hit later is = later is

-- ---- What a walk comes to: the rows, where no step fails

abbrev pub guarded : Kinds → List walk.Row → Option (List walk.Row)
guarded [] rows = Some rows
guarded (k ∷ ks) rows = None

abbrev pub when_none : Kinds → Option (List walk.Row) → Option (List walk.Row)
when_none [] o = o
when_none (k ∷ ks) o = None

abbrev pub shape : Shape → Table → Shape
shape s t = record s { rules = built_rules t; is_leaf = true; args_override_self = false }

abbrev pub outcome : Shape → Walk → List Text → Option (List walk.Row)
outcome s w words =
    let end = (fold (walked s.rules []) w words).held in
    guarded (or_else (walk_fault s [] w words) (settle_fault s.rules s.args_override_self end)) (settled s.rules end).rows

split : (a b c : Kinds) (rows : List walk.Row) → guarded (or_else (or_else a b) c) rows ≡ when_none a (guarded (or_else b c) rows)
split [] b c rows = refl
split (k ∷ ks) b c rows = refl

one_more : (s : Shape) (w : Walk) (word : Text) (words : List Text) → outcome s w (word ∷ words) ≡ when_none (turn_fault s [] w word) (outcome s (walked s.rules [] w word) words)
unfolding walk_fault
one_more s w word words = split (turn_fault s [] w word) _ _ _

abbrev at : Waiting → Held → Walk
at waiting h = record { held = h; waiting = waiting; position = 1; is_trailing = false; stopped = None }

-- ---- A word that begins with no dash, where nothing waits

stray : (s : Shape) (t : Table) (h : Held) (word : Text) → is_dashed word ≡ false → turn_fault (shape s t) [] (at idle h) word ≡ kind.UnknownArgument ∷ []
stray s t h [] e = rw (by_index t 1) refl
stray s t h (x ∷ xs) e = rw e (rw e (rw (by_index t 1) refl))

-- ---- A word `--name` or `--name=value`

-- the word, as it is met where its name is this rule's or no rule's
abbrev met : Table → Waiting → Text → Held → Option Rule → Option Text → Held × walk.Step
met t waiting word h a v = after_flag (built_rules t) waiting word (long_met (built_rules t) a v h).0 (long_met (built_rules t) a v h).1

abbrev met_fault : Shape → Table → Waiting → Text → Held → Option Rule → Option Text → Kinds
met_fault s t waiting word h a v =
    or_else (long_fault (built_rules t) false a v h) (step_fault (shape s t) 1 (met t waiting word h a v).0 (met t waiting word h a v).1)

abbrev met_outcome : Shape → Table → Waiting → Text → List Text → Held → Option Rule → Option Text → Option (List walk.Row)
met_outcome s t waiting word words h a v = when_none (met_fault s t waiting word h a v)
    (outcome (shape s t) (after_step (built_rules t) word (at waiting h) (met t waiting word h a v).0 (met t waiting word h a v).1) words)

long_idle : (s : Shape) (t : Table) (h : Held) (x : ℕ) (xs : Text) (words : List Text)
    → outcome (shape s t) (at idle h) ((45 ∷ 45 ∷ x ∷ xs) ∷ words)
    ≡ met_outcome s t idle (45 ∷ 45 ∷ x ∷ xs) words h (option_map built_rule (row_named t (name_and_value (x ∷ xs)).0)) (name_and_value (x ∷ xs)).1
unfolding walked
long_idle s t h x xs words = one_more (shape s t) (at idle h) (45 ∷ 45 ∷ x ∷ xs) words
    ∙ ap (λ a. met_outcome s t idle (45 ∷ 45 ∷ x ∷ xs) words h a (name_and_value (x ∷ xs)).1) (by_long t (name_and_value (x ∷ xs)).0)

long_waiting : (s : Shape) (t : Table) (id : Text) (h : Held) (x : ℕ) (xs : Text) (words : List Text)
    → outcome (shape s t) (at (option id) h) ((45 ∷ 45 ∷ x ∷ xs) ∷ words)
    ≡ met_outcome s t (option id) (45 ∷ 45 ∷ x ∷ xs) words h (option_map built_rule (row_named t (name_and_value (x ∷ xs)).0)) (name_and_value (x ∷ xs)).1
unfolding walked
long_waiting s t id h x xs words = one_more (shape s t) (at (option id) h) (45 ∷ 45 ∷ x ∷ xs) words
    ∙ ap (λ a. met_outcome s t (option id) (45 ∷ 45 ∷ x ∷ xs) words h a (name_and_value (x ∷ xs)).1) (by_long t (name_and_value (x ∷ xs)).0)

-- an option that waits for its value finds none in a word with a dash
no_value : (s : Shape) (t : Table) (id : Text) (h : Held) (word : Text) (words : List Text) (r : Option Row) (v : Option Text)
    → settle_fault (built_rules t) false h ≡ kind.InvalidValue ∷ [] → met_outcome s t (option id) word words h (option_map built_rule r) v ≡ None
no_value s t id h word words None v e = refl
no_value s t id h word words (Some (name, kinds.Flag)) (Some v) e = refl
no_value s t id h word words (Some (name, kinds.Flag)) None e = rw e refl
no_value s t id h word words (Some (name, kinds.Required)) (Some v) e = rw e refl
no_value s t id h word words (Some (name, kinds.Required)) None e = rw e refl
no_value s t id h word words (Some (name, kinds.Optional)) (Some v) e = rw e refl
no_value s t id h word words (Some (name, kinds.Optional)) None e = rw e refl

-- ---- What a table makes of the options

abbrev pub taken_by : Kind → Row → Option Text → List walk.Row → Option (List walk.Row)
taken_by kinds.Flag row (Some v) rows = None
taken_by kinds.Flag row None rows = guarded (use_fault false (flag_rule row) [] rows) (used (flag_rule row) [] rows)
taken_by kinds.Required row (Some v) rows = guarded (use_fault false (value_rule row) (v ∷ []) rows) (used (value_rule row) (v ∷ []) rows)
taken_by kinds.Required row None rows = None
taken_by kinds.Optional row (Some v) rows = guarded (use_fault false (value_rule row) (v ∷ []) rows) (used (value_rule row) (v ∷ []) rows)
taken_by kinds.Optional row None rows = None

abbrev pub taken : Option Row → Option Text → List walk.Row → Option (List walk.Row)
taken None v rows = None
taken (Some row) v rows = taken_by row.1 row v rows

-- the rows behind these options, where each has a row and stands once
abbrev pub uses : Table → List Given → List walk.Row → Option (List walk.Row)
uses t [] rows = Some rows
uses t (o ∷ os) rows = option_and_then (uses t os) (taken (row_of t o.0) o.1 rows)

abbrev state : Table → Held → Option (List walk.Row)
state t h = guarded (settle_fault (built_rules t) false h) (settled (built_rules t) h).rows

never : {A B : Type 0} (o : Option A) → option_and_then {T = A} {U = B} (λ a. None) o ≡ None
never None = refl
never (Some a) = refl

never_when : (a : Kinds) → when_none a None ≡ None
never_when [] = refl
never_when (k ∷ ks) = refl

both_used : (a b : Kinds) (rows after : List walk.Row) (k f : List walk.Row → Option (List walk.Row)) → f rows ≡ guarded b after
    → when_none (or_else (or_else a b) []) (k after) ≡ option_and_then (λ r. option_and_then k (f r)) (guarded a rows)
both_used [] [] rows after k f e = rw e refl
both_used [] (x ∷ b) rows after k f e = rw e refl
both_used (x ∷ a) b rows after k f e = refl

one_used : (a b : Kinds) (rows after : List walk.Row) (k f : List walk.Row → Option (List walk.Row)) → f rows ≡ guarded b after
    → when_none (or_else a []) (option_and_then k (guarded b after)) ≡ option_and_then (λ r. option_and_then k (f r)) (guarded a rows)
one_used [] b rows after k f e = rw e refl
one_used (x ∷ a) b rows after k f e = refl

-- ---- The words behind an option that waits

-- the option is the table's, and takes a value
abbrev Waits : Table → Row → Type 0
Waits t r = arg_by_id (built_rules t) r.0 ≡ Some (value_rule r)

abbrev waiting_for : Row → List walk.Row → ℕ → Held
waiting_for r rows skip = record { rows = rows; pending = Some (r.0, []); skip = skip }

starved : (t : Table) (r : Row) (rows : List walk.Row) (skip : ℕ) → Waits t r → settle_fault (built_rules t) false (waiting_for r rows skip) ≡ kind.InvalidValue ∷ []
starved t r rows skip w = rw w refl

abbrev Starves : Shape → Table → List Text → Type 0
Starves s t words = (r : Row) (rows : List walk.Row) (skip : ℕ) → Waits t r → outcome (shape s t) (at (option r.0) (waiting_for r rows skip)) words ≡ None

ends : (s : Shape) (t : Table) → Starves s t []
unfolding walk_fault
ends s t r rows skip w = rw w refl

begins_dashed : (s : Shape) (t : Table) (x : ℕ) (xs : Text) (words : List Text) → Starves s t ((45 ∷ 45 ∷ x ∷ xs) ∷ words)
begins_dashed s t x xs words r rows skip w =
    long_waiting s t r.0 (waiting_for r rows skip) x xs words ∙ no_value s t r.0 (waiting_for r rows skip) (45 ∷ 45 ∷ x ∷ xs) words (row_named t (name_and_value (x ∷ xs)).0) (name_and_value (x ∷ xs)).1 (starved t r rows skip w)

abbrev filled : Row → List walk.Row → ℕ → Text → Held
filled r rows skip word = record { rows = rows; pending = Some (r.0, word ∷ []); skip = skip }

same_name : (name : Text) → bytes_eq name name ≡ true
same_name name = (bytes_eq-Decides name name).1 refl

fed : (s : Shape) (t : Table) (r : Row) (rows : List walk.Row) (skip : ℕ) (word : Text) (words : List Text) → Waits t r → is_dashed word ≡ false
    → outcome (shape s t) (at (option r.0) (waiting_for r rows skip)) (word ∷ words) ≡ outcome (shape s t) (at idle (filled r rows skip word)) words
unfolding walked
fed s t r rows skip [] words w e = one_more (shape s t) (at (option r.0) (waiting_for r rows skip)) [] words ∙ rw (w, same_name r.0) refl
fed s t r rows skip (x ∷ xs) words w e = one_more (shape s t) (at (option r.0) (waiting_for r rows skip)) (x ∷ xs) words ∙ rw e (rw e (rw (w, same_name r.0) refl))

-- ---- One option, and what follows it

abbrev Follows : Shape → Table → List Text → List Given → Type 0
Follows s t words os = (h : Held) → outcome (shape s t) (at idle h) words ≡ option_and_then (uses t os) (state t h)

waits : (t : Table) (name : Text) (r : Row) → row_named t name ≡ Some r → built_rule r ≡ value_rule r → Waits t r
waits t name r e v = by_id t r.0 ∙ ap (option_map built_rule) (own_name t name r e) ∙ ap Some v

joined_word : (s : Shape) (t : Table) (h : Held) (word : Text) (words : List Text) (os : List Given) (r : Option Row) (v : Text) → Follows s t words os
    → met_outcome s t idle word words h (option_map built_rule r) (Some v) ≡ option_and_then (λ rows. option_and_then (uses t os) (taken r (Some v) rows)) (state t h)
joined_word s t h word words os None v k = sym (never (state t h))
joined_word s t h word words os (Some (name, kinds.Flag)) v k = sym (never (state t h))
joined_word s t h word words os (Some (name, kinds.Required)) v k =
    ap (when_none _) (k _) ∙ both_used (settle_fault (built_rules t) false h) _ (settled (built_rules t) h).rows _ (uses t os) (taken (Some (name, kinds.Required)) (Some v)) refl
joined_word s t h word words os (Some (name, kinds.Optional)) v k =
    ap (when_none _) (k _) ∙ both_used (settle_fault (built_rules t) false h) _ (settled (built_rules t) h).rows _ (uses t os) (taken (Some (name, kinds.Optional)) (Some v)) refl

lone_word : (s : Shape) (t : Table) (h : Held) (word name : Text) (words : List Text) (os : List Given) (r : Option Row) → row_named t name ≡ r → Starves s t words → Follows s t words os
    → met_outcome s t idle word words h (option_map built_rule r) None ≡ option_and_then (λ rows. option_and_then (uses t os) (taken r None rows)) (state t h)
lone_word s t h word name words os None e n k = sym (never (state t h))
lone_word s t h word name words os (Some (id, kinds.Flag)) e n k =
    ap (when_none _) (k _) ∙ both_used (settle_fault (built_rules t) false h) _ (settled (built_rules t) h).rows _ (uses t os) (taken (Some (id, kinds.Flag)) None) refl
lone_word s t h word name words os (Some (id, kinds.Required)) e n k =
    ap (when_none _) (n (id, kinds.Required) (settled (built_rules t) h).rows h.skip (waits t name (id, kinds.Required) e refl)) ∙ never_when _ ∙ sym (never (state t h))
lone_word s t h word name words os (Some (id, kinds.Optional)) e n k =
    ap (when_none _) (n (id, kinds.Optional) (settled (built_rules t) h).rows h.skip (waits t name (id, kinds.Optional) e refl)) ∙ never_when _ ∙ sym (never (state t h))

-- the state behind an option that was fed
fed_state : (t : Table) (r : Row) (rows : List walk.Row) (skip : ℕ) (v : Text) → Waits t r
    → state t (filled r rows skip v) ≡ guarded (use_fault false (value_rule r) (v ∷ []) rows) (used (value_rule r) (v ∷ []) rows)
fed_state t r rows skip v w = rw w refl

no_stray : (s : Shape) (t : Table) (h : Held) (word : Text) (words : List Text) → is_dashed word ≡ false → outcome (shape s t) (at idle h) (word ∷ words) ≡ None
no_stray s t h word words e =
    let behind = outcome (shape s t) (walked (built_rules t) [] (at idle h) word) words in
    one_more (shape s t) (at idle h) word words ∙ ap (λ a. when_none a behind) (stray s t h word e)

parted_word : (s : Shape) (t : Table) (h : Held) (word name next : Text) (words : List Text) (os : List Given) (r : Option Row) → row_named t name ≡ r → is_dashed next ≡ false → Follows s t words os
    → met_outcome s t idle word (next ∷ words) h (option_map built_rule r) None ≡ option_and_then (λ rows. option_and_then (uses t os) (taken r (Some next) rows)) (state t h)
parted_word s t h word name next words os None e d k = sym (never (state t h))
parted_word s t h word name next words os (Some (id, kinds.Flag)) e d k =
    ap (when_none _) (no_stray s t _ next words d) ∙ never_when _ ∙ sym (never (state t h))
parted_word s t h word name next words os (Some (id, kinds.Required)) e d k =
    let r : Row = (id, kinds.Required) in
    let w = waits t name r e refl in
    ap (when_none _) (fed s t r (settled (built_rules t) h).rows h.skip next words w d ∙ k _ ∙ ap (option_and_then (uses t os)) (fed_state t r (settled (built_rules t) h).rows h.skip next w))
    ∙ one_used (settle_fault (built_rules t) false h) _ (settled (built_rules t) h).rows _ (uses t os) (taken (Some r) (Some next)) refl
parted_word s t h word name next words os (Some (id, kinds.Optional)) e d k =
    let r : Row = (id, kinds.Optional) in
    let w = waits t name r e refl in
    ap (when_none _) (fed s t r (settled (built_rules t) h).rows h.skip next words w d ∙ k _ ∙ ap (option_and_then (uses t os)) (fed_state t r (settled (built_rules t) h).rows h.skip next w))
    ∙ one_used (settle_fault (built_rules t) false h) _ (settled (built_rules t) h).rows _ (uses t os) (taken (Some r) (Some next)) refl

-- ---- Words

by_mark : (x : ℕ) (xs : Text) (b : Bool) → (x == 61) ≡ b → cut 61 xs ≡ name_and_value xs → cond b ([], Some xs) (onto_front x (cut 61 xs)) ≡ name_and_value (x ∷ xs)
by_mark x xs true e h = rw e refl
by_mark x xs false e h =
    let n = position_or_len (λ (y : ℕ). y == 61) xs in
    let one : suc n ≡ 1 + n = omega arith in
    let next : suc (n + 1) ≡ 1 + n + 1 = omega arith in
    ap (onto_front x) h ∙ rw e (ap₂ (λ (k j : ℕ). (take k (x ∷ xs), cond (has_byte 61 xs) (Some (drop j (x ∷ xs))) None)) one next)

cut_is : (xs : Text) → cut 61 xs ≡ name_and_value xs
unfolding cut
cut_is [] = refl
cut_is (x ∷ xs) = by_mark x xs (x == 61) refl (cut_is xs)

long_cut : (x : ℕ) (xs : Text) → cut 61 (45 ∷ 45 ∷ x ∷ xs) ≡ (dashed (name_and_value (x ∷ xs)).0, (name_and_value (x ∷ xs)).1)
unfolding cut
long_cut x xs = ap (λ c. (45 ∷ 45 ∷ c.0, c.1)) (cut_is (x ∷ xs))

abbrev IsLong : Text → Type 0
IsLong word = (x : ℕ) × (xs : Text) × (word ≡ 45 ∷ 45 ∷ x ∷ xs)

fair : (word : Text) → is_fair word ≡ true → (is_dashed word ≡ false) ⊎ IsLong word
fair [] h = inl refl
fair (x ∷ []) h = inl (grind arith)
fair (x ∷ y ∷ []) h = inl (grind arith)
fair (x ∷ y ∷ z ∷ xs) h = by (x == 45) (y == 45) refl refl h
  where
    by : (b c : Bool) → (x == 45) ≡ b → (y == 45) ≡ c → (not b || c) ≡ true → ((x == 45) ≡ false) ⊎ IsLong (x ∷ y ∷ z ∷ xs)
    by false c e d h = inl e
    by true true e d h = inr (z, xs, rw (eqb-true x 45 e, eqb-true y 45 d) refl)
    by true false e d h = absurd (cc h)

-- a word with no dash has a name that no row has
no_row : (t : Table) (name : Text) → is_dashed name ≡ false → row_of t name ≡ None
no_row [] name e = refl
no_row ((id, k) ∷ t) [] e = no_row t [] e
no_row ((id, k) ∷ t) (x ∷ xs) e = rw (turned x e) (no_row t (x ∷ xs) e)
  where
    turned : (x : ℕ) → (x == 45) ≡ false → (45 == x) ≡ false
    turned x e = grind arith

plain_cut : (word : Text) → is_dashed word ≡ false → is_dashed (cut 61 word).0 ≡ false
unfolding cut
plain_cut [] e = refl
plain_cut (x ∷ xs) e = by (x == 61)
  where
    by : (b : Bool) → is_dashed (cond b ([], Some xs) (onto_front x (cut 61 xs))).0 ≡ false
    by true = refl
    by false = e

-- ---- The walk

some_same : {A : Type 0} (o : Option A) → o ≡ option_and_then (λ a. Some a) o
some_same None = refl
some_same (Some a) = refl

abbrev made : Table → Held → Given → List Given → Option (List walk.Row)
made t h c os = option_and_then (uses t (c ∷ os)) (state t h)

no_made : (t : Table) (h : Held) (c : Given) (os : List Given) → row_of t c.0 ≡ None → None ≡ made t h c os
no_made t h c os e = sym (ap (λ r. option_and_then (λ rows. option_and_then (uses t os) (taken r c.1 rows)) (state t h)) e ∙ never (state t h))

no_next : (t : Table) (h : Held) (c : Given) (next : Text) (a b : List Given) → row_of t c.0 ≡ None → None ≡ option_and_then (uses t (with_next c next a b)) (state t h)
no_next t h (name, Some v) next a b e = no_made t h (name, Some v) a e
no_next t h (name, None) next a b e = by (is_dashed next)
  where
    by : (d : Bool) → None ≡ option_and_then (uses t (cond d ((name, None) ∷ a) ((name, Some next) ∷ b))) (state t h)
    by true = no_made t h (name, None) a e
    by false = no_made t h (name, Some next) b e

long_last : (s : Shape) (t : Table) (h : Held) (x : ℕ) (xs : Text) → Follows s t [] []
    → outcome (shape s t) (at idle h) ((45 ∷ 45 ∷ x ∷ xs) ∷ []) ≡ made t h (cut 61 (45 ∷ 45 ∷ x ∷ xs)) []
long_last s t h x xs k =
    long_idle s t h x xs [] ∙ by (name_and_value (x ∷ xs)).0 (name_and_value (x ∷ xs)).1 ∙ ap (λ c. made t h c []) (sym (long_cut x xs))
  where
    by : (name : Text) (v : Option Text) → met_outcome s t idle (45 ∷ 45 ∷ x ∷ xs) [] h (option_map built_rule (row_named t name)) v ≡ made t h (dashed name, v) []
    by name (Some v) = joined_word s t h (45 ∷ 45 ∷ x ∷ xs) [] [] (row_named t name) v k
    by name None = lone_word s t h (45 ∷ 45 ∷ x ∷ xs) name [] [] (row_named t name) refl (ends s t) k

long_more : (s : Shape) (t : Table) (h : Held) (x : ℕ) (xs next : Text) (words : List Text) (a b : List Given) → (is_dashed next ≡ false) ⊎ IsLong next → Follows s t (next ∷ words) a → Follows s t words b
    → outcome (shape s t) (at idle h) ((45 ∷ 45 ∷ x ∷ xs) ∷ next ∷ words) ≡ option_and_then (uses t (with_next (cut 61 (45 ∷ 45 ∷ x ∷ xs)) next a b)) (state t h)
long_more s t h x xs next words a b n k l =
    long_idle s t h x xs (next ∷ words) ∙ by (name_and_value (x ∷ xs)).0 (name_and_value (x ∷ xs)).1 n
    ∙ ap (λ c. option_and_then (uses t (with_next c next a b)) (state t h)) (sym (long_cut x xs))
  where
    word : Text
    word = 45 ∷ 45 ∷ x ∷ xs

    starves : IsLong next → Starves s t (next ∷ words)
    starves g = subst (λ w. Starves s t (w ∷ words)) (sym g.2) (begins_dashed s t g.0 g.1 words)

    dashes : IsLong next → is_dashed next ≡ true
    dashes g = ap is_dashed g.2

    by : (name : Text) (v : Option Text) → (is_dashed next ≡ false) ⊎ IsLong next
        → met_outcome s t idle (45 ∷ 45 ∷ x ∷ xs) (next ∷ words) h (option_map built_rule (row_named t name)) v ≡ option_and_then (uses t (with_next (dashed name, v) next a b)) (state t h)
    by name (Some v) n = joined_word s t h (45 ∷ 45 ∷ x ∷ xs) (next ∷ words) a (row_named t name) v k
    by name None (inl e) = rw e (parted_word s t h (45 ∷ 45 ∷ x ∷ xs) name next words b (row_named t name) refl e l)
    by name None (inr g) = rw (dashes g) (lone_word s t h (45 ∷ 45 ∷ x ∷ xs) name (next ∷ words) a (row_named t name) refl (starves g) k)

last_word : (s : Shape) (t : Table) (h : Held) (word : Text) → (is_dashed word ≡ false) ⊎ IsLong word → Follows s t [] []
    → outcome (shape s t) (at idle h) (word ∷ []) ≡ made t h (cut 61 word) []
last_word s t h word (inl e) k = no_stray s t h word [] e ∙ no_made t h (cut 61 word) [] (no_row t (cut 61 word).0 (plain_cut word e))
last_word s t h word (inr g) k = subst (λ w. outcome (shape s t) (at idle h) (w ∷ []) ≡ made t h (cut 61 w) []) (sym g.2) (long_last s t h g.0 g.1 k)

more_words : (s : Shape) (t : Table) (h : Held) (word next : Text) (words : List Text) (a b : List Given) → (is_dashed word ≡ false) ⊎ IsLong word → (is_dashed next ≡ false) ⊎ IsLong next
    → Follows s t (next ∷ words) a → Follows s t words b
    → outcome (shape s t) (at idle h) (word ∷ next ∷ words) ≡ option_and_then (uses t (with_next (cut 61 word) next a b)) (state t h)
more_words s t h word next words a b (inl e) n k l = no_stray s t h word (next ∷ words) e ∙ no_next t h (cut 61 word) next a b (no_row t (cut 61 word).0 (plain_cut word e))
more_words s t h word next words a b (inr g) n k l =
    subst (λ w. outcome (shape s t) (at idle h) (w ∷ next ∷ words) ≡ option_and_then (uses t (with_next (cut 61 w) next a b)) (state t h)) (sym g.2)
    (long_more s t h g.0 g.1 next words a b n k l)

-- clap's walk takes what the table takes
pub walks : (s : Shape) (t : Table) (words : List Text) → list_all is_fair words ≡ true → Follows s t words (options_in words)
unfolding options_in walk_fault
walks s t [] f h = some_same (state t h)
walks s t (word ∷ []) f h = last_word s t h word (fair word (both (is_fair word) true f).0) (λ h'. some_same (state t h'))
walks s t (word ∷ next ∷ words) f h =
    let f' = both (is_fair word) _ f in
    let f'' = both (is_fair next) _ f'.1 in
    more_words s t h word next words (options_in (next ∷ words)) (options_in words) (fair word f'.0) (fair next f''.0)
    (walks s t (next ∷ words) f'.1) (walks s t words f''.1)
