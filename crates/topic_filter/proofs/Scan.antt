-- Steps of the scan: what a byte of the filter, or the end of a text, says of the fit of what is left.
use Rattle.std.proofs.Common.{◌≡◌, ℕ, suc, ◌+◌, ◌<◌, List, [], ◌∷◌, length, Bool, true, false, not, cond, refl, sym, ◌∙◌, arith}
use Rattle.std.specs.Prelude.{◌==◌, ◌&&◌, ◌||◌, codes}
use Rattle.std.specs.List.{list_all, onto_first}
use Rattle.std.specs.Str.{bytes_eq}
use Rattle.std.proofs.lemmas.Bool.{eqb-true, eq-eqb, ne_eqb}
use Rattle.topic_filter.specs.Levels.{levels_of, plus, hash}
use Rattle.topic_filter.specs.Texts.{are_filter_levels, is_filter_level, is_last_level, is_name_byte}
use Rattle.topic_filter.specs.Fitting.{fits_levels, is_end}
use Rattle.topic_filter.proofs.Parts.{first_len, behind, some_level}

-- the byte is no wildcard
pub record IsPlain (b : ℕ) : Type 0 where
  pub no_plus : (b == 43) ≡ false
  pub no_hash : (b == 35) ≡ false

no_wild : (zero plus hash rest : Bool) → ((not zero && not plus && not hash) && rest) ≡ true → (plus ≡ false) × (hash ≡ false)
no_wild false false false true h = (refl, refl)
no_wild true plus hash rest h = absurd (cc h)
no_wild false true hash rest h = absurd (cc h)
no_wild false false true rest h = absurd (cc h)
no_wild false false false false h = absurd (cc h)

-- A level of a name is no wildcard.
named_not_hash : (level : List ℕ) → list_all is_name_byte level ≡ true → bytes_eq level hash ≡ false
named_not_hash [] named = refl
named_not_hash (b ∷ level) named = rw ((no_wild (b == 0) (b == 43) (b == 35) (list_all is_name_byte level) named).1) refl

named_not_plus : (level : List ℕ) → list_all is_name_byte level ≡ true → bytes_eq level plus ≡ false
named_not_plus [] named = refl
named_not_plus (b ∷ level) named = rw ((no_wild (b == 0) (b == 43) (b == 35) (list_all is_name_byte level) named).0) refl

last_tests : (hash plus named rest : Bool) → ((hash && false) || ((plus && false) || (named && rest))) ≡ true → rest ≡ true
last_tests hash plus named true h = refl
last_tests true true true false h = absurd (cc h)
last_tests true true false false h = absurd (cc h)
last_tests true false true false h = absurd (cc h)
last_tests true false false false h = absurd (cc h)
last_tests false true true false h = absurd (cc h)
last_tests false true false false h = absurd (cc h)
last_tests false false true false h = absurd (cc h)
last_tests false false false false h = absurd (cc h)

-- Behind the first byte of a filter's level stands no wildcard.
named_behind_last : (b : ℕ) (level : List ℕ) → is_last_level (b ∷ level) ≡ true → list_all is_name_byte level ≡ true
named_behind_last b [] h = refl
named_behind_last b (c ∷ level) h = last_tests (b == 35) (b == 43) (is_name_byte b) (list_all is_name_byte (c ∷ level)) h

or_more : (b c : Bool) → b ≡ true → (c || b) ≡ true
or_more b true h = refl
or_more b false h = h

first_of_both : (b c : Bool) → (b && c) ≡ true → b ≡ true
first_of_both true c h = refl
first_of_both false c h = h

second_of_both : (b c : Bool) → (b && c) ≡ true → c ≡ true
second_of_both true c h = h
second_of_both false c h = absurd (cc h)

named_behind : (b : ℕ) (level : List ℕ) (below : List (List ℕ)) → are_filter_levels ((b ∷ level) ∷ below) ≡ true → list_all is_name_byte level ≡ true
named_behind b level [] valid = named_behind_last b level valid
named_behind b level (next ∷ below) valid =
    named_behind_last b level (or_more _ (bytes_eq (b ∷ level) hash) (first_of_both (is_filter_level (b ∷ level)) _ valid))

named_level : (level : List ℕ) → list_all is_name_byte level ≡ true → is_filter_level level ≡ true
named_level level named = or_more _ (bytes_eq level plus) named

-- the filter without its first byte
shorter_by : (slash : Bool) (b : ℕ) (parts : List (List ℕ)) → 0 < length parts → are_filter_levels (cond slash ([] ∷ parts) (onto_first b parts)) ≡ true → are_filter_levels parts ≡ true
shorter_by slash b [] some valid = absurd (omega arith)
shorter_by true b (level ∷ []) some valid = valid
shorter_by true b (level ∷ below ∷ parts) some valid = valid
shorter_by false b (level ∷ []) some valid = or_more _ (bytes_eq level hash) (named_level level (named_behind b level [] valid))
shorter_by false b (level ∷ below ∷ parts) some valid =
    rw (named_level level (named_behind b level (below ∷ parts) valid)) (second_of_both (is_filter_level (b ∷ level)) (are_filter_levels (below ∷ parts)) valid)

pub shorter : (b : ℕ) (filter : List ℕ) → are_filter_levels (levels_of (b ∷ filter)) ≡ true → are_filter_levels (levels_of filter) ≡ true
shorter b filter valid = shorter_by (b == 47) b (levels_of filter) (some_level filter) valid

-- `#` is the last byte, and fits all that is left.
hash_by : (parts : List (List ℕ)) → 0 < length parts → are_filter_levels (onto_first 35 parts) ≡ true → (levels : List (List ℕ)) → fits_levels (onto_first 35 parts) levels ≡ true
hash_by [] some valid levels = absurd (omega arith)
hash_by ([] ∷ []) some valid [] = refl
hash_by ([] ∷ []) some valid (level ∷ levels) = refl
hash_by ((b ∷ level) ∷ []) some valid levels = absurd (cc valid)
hash_by (level ∷ below ∷ parts) some valid levels = absurd (cc valid)

pub at_hash : (filter name : List ℕ) → are_filter_levels (levels_of (35 ∷ filter)) ≡ true → fits_levels (levels_of (35 ∷ filter)) (levels_of name) ≡ true
at_hash filter name valid = hash_by (levels_of filter) (some_level filter) valid (levels_of name)

-- The level that goes on in the name, and the same where it has ended.
record Skips (name : List ℕ) : Type 0 where
  pub level : List ℕ
  pub below : List (List ℕ)
  pub whole : levels_of name ≡ level ∷ below
  pub skipped : levels_of (behind name) ≡ [] ∷ below

skips_by : (slash : Bool) (b : ℕ) (name : List ℕ) → (b == 47) ≡ slash → Skips name → Skips (b ∷ name)
skips_by true b name e rest = record { level = []; below = levels_of name; whole = rw e refl; skipped = rw (e, e) refl }
skips_by false b name e rest =
    let longer : 1 + first_len name ≡ suc (first_len name) = omega arith in
    record { level = b ∷ rest.level; below = rest.below; whole = rw (e, rest.whole) refl; skipped = rw (e, longer) rest.skipped }

skips : (name : List ℕ) → Skips name
skips [] = record { level = []; below = []; whole = refl; skipped = refl }
skips (b ∷ name) = skips_by (b == 47) b name refl (skips name)

plus_by : (parts : List (List ℕ)) → 0 < length parts → are_filter_levels (onto_first 43 parts) ≡ true → (level : List ℕ) (below : List (List ℕ)) → fits_levels (onto_first 43 parts) (level ∷ below) ≡ fits_levels parts ([] ∷ below)
plus_by [] some valid level below = absurd (omega arith)
plus_by ([] ∷ parts) some valid level below = refl
plus_by ((b ∷ wanted) ∷ []) some valid level below = absurd (cc valid)
plus_by ((b ∷ wanted) ∷ next ∷ parts) some valid level below = absurd (cc valid)

-- `+` fits what is left of the name's level.
pub at_plus : (filter name : List ℕ) → are_filter_levels (levels_of (43 ∷ filter)) ≡ true → fits_levels (levels_of (43 ∷ filter)) (levels_of name) ≡ fits_levels (levels_of filter) (levels_of (behind name))
at_plus filter name valid =
    let s = skips name in
    rw (s.whole, s.skipped) (plus_by (levels_of filter) (some_level filter) valid s.level s.below)

same_by : (slash : Bool) (b : ℕ) (parts levels : List (List ℕ)) → IsPlain b → 0 < length parts → 0 < length levels → are_filter_levels (cond slash ([] ∷ parts) (onto_first b parts)) ≡ true
    → fits_levels (cond slash ([] ∷ parts) (onto_first b parts)) (cond slash ([] ∷ levels) (onto_first b levels)) ≡ fits_levels parts levels
same_by slash b [] levels plain some others valid = absurd (omega arith)
same_by slash b (wanted ∷ parts) [] plain some others valid = absurd (omega arith)
same_by true b (wanted ∷ parts) (level ∷ levels) plain some others valid = refl
same_by false b (wanted ∷ parts) (level ∷ levels) plain some others valid =
    let named : list_all is_name_byte wanted ≡ true = named_behind b wanted parts valid in
    rw (plain.no_hash, plain.no_plus, eq-eqb b b refl, named_not_hash wanted named, named_not_plus wanted named) refl

-- Equal bytes are passed in both.
pub at_same : (b : ℕ) (filter name : List ℕ) → IsPlain b → are_filter_levels (levels_of (b ∷ filter)) ≡ true → fits_levels (levels_of (b ∷ filter)) (levels_of (b ∷ name)) ≡ fits_levels (levels_of filter) (levels_of name)
at_same b filter name plain valid = same_by (b == 47) b (levels_of filter) (levels_of name) plain (some_level filter) (some_level name) valid

other_by : (slash feed : Bool) (b c : ℕ) (parts levels : List (List ℕ)) → IsPlain b → (b == c) ≡ false → (b == 47) ≡ slash → (c == 47) ≡ feed → 0 < length parts → 0 < length levels
    → fits_levels (cond slash ([] ∷ parts) (onto_first b parts)) (cond feed ([] ∷ levels) (onto_first c levels)) ≡ false
other_by slash feed b c [] levels plain differ e f some others = absurd (omega arith)
other_by slash feed b c (wanted ∷ parts) [] plain differ e f some others = absurd (omega arith)
other_by true true b c (wanted ∷ parts) (level ∷ levels) plain differ e f some others =
    let same : b ≡ c = eqb-true b 47 e ∙ sym (eqb-true c 47 f) in
    absurd (cc (differ, eq-eqb b c same))
other_by true false b c (wanted ∷ parts) (level ∷ levels) plain differ e f some others = refl
other_by false true b c (wanted ∷ parts) (level ∷ levels) plain differ e f some others = rw (plain.no_hash, plain.no_plus) refl
other_by false false b c (wanted ∷ parts) (level ∷ levels) plain differ e f some others = rw (plain.no_hash, plain.no_plus, differ) refl

-- Bytes that differ end the scan.
pub at_other : (b c : ℕ) (filter name : List ℕ) → IsPlain b → (b == c) ≡ false → fits_levels (levels_of (b ∷ filter)) (levels_of (c ∷ name)) ≡ false
at_other b c filter name plain differ = other_by (b == 47) (c == 47) b c (levels_of filter) (levels_of name) plain differ refl refl (some_level filter) (some_level name)

-- one empty level alone
is_blank : List (List ℕ) → Bool
is_blank [] = false
is_blank (level ∷ below) = bytes_eq level [] && is_end below

blank_by : (slash : Bool) (b : ℕ) (parts : List (List ℕ)) → 0 < length parts → is_blank (cond slash ([] ∷ parts) (onto_first b parts)) ≡ false
unfolding is_blank
blank_by slash b [] some = absurd (omega arith)
blank_by true b (level ∷ parts) some = refl
blank_by false b (level ∷ parts) some = refl

blank : (text : List ℕ) → is_blank (levels_of text) ≡ bytes_eq text []
unfolding is_blank
blank [] = refl
blank (b ∷ text) = blank_by (b == 47) b (levels_of text) (some_level text)

and_again : (a b c : Bool) → ((a && b) && c) ≡ (a && (b && c))
and_again true b c = refl
and_again false b c = refl

hash_alone_by : (slash : Bool) (b : ℕ) (parts : List (List ℕ)) (rest : Bool) → (b == 47) ≡ slash → 0 < length parts → is_blank parts ≡ rest
    → fits_levels (cond slash ([] ∷ parts) (onto_first b parts)) [] ≡ ((b == 35) && rest)
unfolding is_blank
hash_alone_by slash b [] rest e some h = absurd (omega arith)
hash_alone_by true b (level ∷ parts) rest e some h = rw (eqb-true b 47 e) refl
hash_alone_by false b (level ∷ parts) rest e some h = rw (← h) (and_again (b == 35) (bytes_eq level []) (is_end parts))

-- Of what stands behind a `/`, `#` alone fits no level.
hash_alone : (filter : List ℕ) → fits_levels (levels_of filter) [] ≡ bytes_eq filter hash
hash_alone [] = refl
hash_alone (b ∷ filter) = hash_alone_by (b == 47) b (levels_of filter) (bytes_eq filter []) refl (some_level filter) (blank filter)

name_end_by : (slash : Bool) (b : ℕ) (parts : List (List ℕ)) (rest : Bool) → IsPlain b → 0 < length parts → fits_levels parts [] ≡ rest
    → fits_levels (cond slash ([] ∷ parts) (onto_first b parts)) ([] ∷ []) ≡ (slash && rest)
name_end_by slash b [] rest plain some h = absurd (omega arith)
name_end_by true b (level ∷ parts) rest plain some h = h
name_end_by false b (level ∷ parts) rest plain some h = rw (plain.no_hash, plain.no_plus) refl

-- Where the name has ended, `/#` alone still fits.
pub at_name_end : (b : ℕ) (filter : List ℕ) → IsPlain b → fits_levels (levels_of (b ∷ filter)) (levels_of []) ≡ bytes_eq (b ∷ filter) (codes "/#")
at_name_end b filter plain = name_end_by (b == 47) b (levels_of filter) (bytes_eq filter hash) plain (some_level filter) (hash_alone filter)

filter_end_by : (slash : Bool) (b : ℕ) (levels : List (List ℕ)) → 0 < length levels → fits_levels ([] ∷ []) (cond slash ([] ∷ levels) (onto_first b levels)) ≡ false
filter_end_by slash b [] some = absurd (omega arith)
filter_end_by true b (level ∷ levels) some = refl
filter_end_by false b (level ∷ levels) some = refl

-- Where the filter has ended, the name has too.
pub at_filter_end : (name : List ℕ) → fits_levels (levels_of []) (levels_of name) ≡ (length name == 0)
at_filter_end [] = refl
at_filter_end (b ∷ name) = filter_end_by (b == 47) b (levels_of name) (some_level name) ∙ sym (ne_eqb (length (b ∷ name)) 0 (λ e. omega arith))
