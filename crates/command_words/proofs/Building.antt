-- One more row: the command that clap is given, and the options that it found.
use Rattle.std.proofs.Common.{◌≡◌, ◌∙◌, ℕ, suc, ◌+◌, ◌<◌, Bool, true, false, List, [], ◌∷◌, ◌++◌, length, append-nil, take, take-suc, get_or, map, Option, Some, None, option_map, refl, sym, ap, ap₂, arith}
use Rattle.std.specs.List.{list_all}
use Rattle.std.proofs.lemmas.List.{get_or-map, length-map, map-append}
use Rattle.std.proofs.lemmas.List.Folds.{list_all_at}
use Rattle.clap.specs.Walk.{Rule}
use Rattle.clap.specs.Simple.{App, with_rule}
use Rattle.command_words.specs.declared.rows.Row as declared
use Rattle.command_words.specs.Apps.{app_for, rule_for}
use Rattle.clap.specs.declared.parser.matches.ArgMatches.{ArgMatches}
use Rattle.command_words.specs.declared.given.Given as found
use Rattle.command_words.specs.Given.{all_given, given_of, row_seen, rows_seen}
use Rattle.command_words.specs.Matches.{HoldEach, Holds}
use Rattle.command_words.specs.Options.{Given}
use Rattle.command_words.specs.Tables.{Row, Table, in_rows, is_clear, is_sound, option_of, with_some}

pub one_row_more : (name : List ℕ) (rows : List declared.Row) (i : ℕ) (d : declared.Row) (app : App) (rule : Rule) → {new : App} → i < length rows → app ≡ app_for name (rows_seen (take i rows))
    → new ≡ with_rule app rule → rule ≡ rule_for (row_seen (get_or rows i d)) → new ≡ app_for name (rows_seen (take (i + 1) rows))
one_row_more name rows i d app rule {new} lt e f g =
    let next : i + 1 ≡ suc i = omega arith in
    let taken : rows_seen (take (suc i) rows) ≡ rows_seen (take i rows) ++ row_seen (get_or rows i d) ∷ [] = ap rows_seen (take-suc rows i d lt) ∙ map-append row_seen (take i rows) (get_or rows i d ∷ []) in
    let rules : map rule_for (rows_seen (take i rows) ++ row_seen (get_or rows i d) ∷ []) ≡ map rule_for (rows_seen (take i rows)) ++ rule_for (row_seen (get_or rows i d)) ∷ [] =
    map-append rule_for (rows_seen (take i rows)) (row_seen (get_or rows i d) ∷ []) in
    f ∙ ap₂ with_rule e g ∙ ap (λ rs. record (app_for name []) { top = record (app_for name []).top { rules = rs } }) (sym rules)
    ∙ ap (app_for name) (sym taken) ∙ ap (λ k. app_for name (rows_seen (take k rows))) (sym next)

-- ---- The options of one more row

behind : (option : Option Given) (front back : List Given) → with_some option front ++ back ≡ with_some option (front ++ back)
behind None front back = refl
behind (Some option) front back = refl

in_rows_more : (options : List Given) (t : Table) (row : Row) → in_rows options (t ++ row ∷ []) ≡ in_rows options t ++ with_some (option_of options row) []
in_rows_more options [] row = refl
in_rows_more options (first ∷ t) row =
    ap (with_some (option_of options first)) (in_rows_more options t row)
    ∙ sym (behind (option_of options first) (in_rows options t) (with_some (option_of options row) []))

pub one_pushed : (items : List found.Given) (option : found.Given) (o : Option found.Given) {then : List found.Given} → o ≡ Some option → then ≡ items ++ option ∷ []
    → all_given then ≡ all_given items ++ with_some (option_map given_of o) []
one_pushed items option o {then} e f =
    ap all_given f ∙ map-append given_of items (option ∷ []) ∙ ap (λ (p : Option found.Given). all_given items ++ with_some (option_map given_of p) []) (sym e)

pub none_pushed : (items : List found.Given) (o : Option found.Given) {then : List found.Given} → o ≡ None → then ≡ items → all_given then ≡ all_given items ++ with_some (option_map given_of o) []
none_pushed items o {then} e f =
    ap all_given f ∙ sym (append-nil (all_given items)) ∙ ap (λ (p : Option found.Given). all_given items ++ with_some (option_map given_of p) []) (sym e)

clear_at : (t : Table) (rows : List declared.Row) (i : ℕ) (d : declared.Row) → i < length rows → list_all (is_clear t) (rows_seen rows) ≡ true → is_clear t (row_seen (get_or rows i d)) ≡ true
clear_at t rows i d lt h = by (is_clear t (row_seen (get_or rows i d))) refl
  where
    seen : get_or (rows_seen rows) i (row_seen d) ≡ row_seen (get_or rows i d)
    seen = get_or-map row_seen rows i d (row_seen d) lt

    within : i < length (rows_seen rows)
    within = rw (length-map rows row_seen) lt

    by : (b : Bool) → is_clear t (row_seen (get_or rows i d)) ≡ b → b ≡ true
    by true e = refl
    by false e = absurd (cc (sym h ∙ list_all_at (is_clear t) (rows_seen rows) i (row_seen d) within (ap (is_clear t) seen ∙ e)))

pub one_option_more : (options : List Given) (rows : List declared.Row) (i : ℕ) (d : declared.Row) (m : ArgMatches) (items : List found.Given) (option : Option found.Given) (then : List found.Given)
    → i < length rows → is_sound (rows_seen rows) ≡ true → HoldEach options m (rows_seen rows)
    → (Holds options m (row_seen (get_or rows i d)) → option_map given_of option ≡ option_of options (row_seen (get_or rows i d)))
    → all_given items ≡ in_rows options (rows_seen (take i rows)) → all_given then ≡ all_given items ++ with_some (option_map given_of option) []
    → all_given then ≡ in_rows options (rows_seen (take (i + 1) rows))
one_option_more options rows i d m items option then lt sound holds one e f =
    let next : i + 1 ≡ suc i = omega arith in
    let row : Row = row_seen (get_or rows i d) in
    let taken : rows_seen (take (suc i) rows) ≡ rows_seen (take i rows) ++ row ∷ [] = ap rows_seen (take-suc rows i d lt) ∙ map-append row_seen (take i rows) (get_or rows i d ∷ []) in
    let found = one (holds row (clear_at (rows_seen rows) rows i d lt sound)) in
    f ∙ ap₂ (λ front (o : Option Given). front ++ with_some o []) e found
    ∙ sym (in_rows_more options (rows_seen (take i rows)) row)
    ∙ ap (in_rows options) (sym taken) ∙ ap (λ k. in_rows options (rows_seen (take k rows))) (sym next)
