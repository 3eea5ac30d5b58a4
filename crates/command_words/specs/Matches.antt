-- What clap's matches say of a command's options.
use Rattle.std.specs.Prelude.{◌≡◌, ◌⊎◌, ℕ, Bool, true, false, List, Option, Some, None, codes}
use Rattle.std.specs.Option.{option_map}
use Rattle.clap.specs.Words.{first_value, found_of, one_text}
use Rattle.clap.specs.declared.parser.matches.ArgMatches.{ArgMatches}
use Rattle.command_words.specs.declared.rows.Kind.TheVariants as kinds
use Rattle.command_words.specs.Options.{Given}
use Rattle.command_words.specs.Tables.{Row, Table, dashed, is_clear, is_given, option_of}

-- what a flag's text says
abbrev pub Says : Bool → Option (List ℕ) → Type 0
Says true text = text ≡ Some (codes "true")
Says false text = (text ≡ None) ⊎ (text ≡ Some (codes "false"))

-- the matches hold of a row's option what is given, and no more
abbrev pub Holds : List Given → ArgMatches → Row → Type 0
Holds options matches (name, kinds.Flag) = Says (is_given (dashed name) options) (one_text (found_of matches) name)
Holds options matches (name, kinds.Required) = option_map (λ value. (name, Some value)) (first_value (found_of matches) name) ≡ option_of options (name, kinds.Required)
Holds options matches (name, kinds.Optional) = option_map (λ value. (name, Some value)) (first_value (found_of matches) name) ≡ option_of options (name, kinds.Optional)

-- They hold each option of a table whose rows are clear.
abbrev pub HoldEach : List Given → ArgMatches → Table → Type 0
HoldEach options matches table = (row : Row) → is_clear table row ≡ true → Holds options matches row
