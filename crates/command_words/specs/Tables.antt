-- A command's table: a row for each of its options. What words give a command is read off its table alone.
use Rattle.std.specs.Prelude.{ℕ, Bool, true, false, ◌&&◌, ◌||◌, not, List, [], ◌∷◌, Option, Some, None, is_some, nat_lt, length, if◌then◌else◌, find, option_and_then}
use Rattle.std.specs.List.{list_all, list_any}
use Rattle.std.specs.Option.{option_map, option_map_or}
use Rattle.std.specs.Str.{bytes_eq}
use Rattle.command_words.specs.declared.rows.Kind.{Kind}
use Rattle.command_words.specs.declared.rows.Kind.TheVariants as kinds
use Rattle.command_words.specs.Options.{Given, options_in}

-- An option's name, without its dashes, and what it is.
abbrev pub Row : Type 0
Row = List ℕ × Kind

abbrev pub Table : Type 0
Table = List Row

abbrev pub dashed : List ℕ → List ℕ
dashed name = 45 ∷ 45 ∷ name

-- ---- Options by their names

-- the first option of this name
abbrev pub named : List ℕ → List Given → Option Given
named name options = find (λ option. bytes_eq option.0 name) options

abbrev pub is_given : List ℕ → List Given → Bool
is_given name options = is_some (named name options)

-- the value of the option of this name, where it has one
abbrev pub value_of : List ℕ → List Given → Option (List ℕ)
value_of name options = option_and_then (λ option. option.1) (named name options)

-- ---- What a table takes

abbrev pub row_of : Table → List ℕ → Option Row
row_of table name = find (λ row. bytes_eq (dashed row.0) name) table

-- a flag has no value, and every other option has one
abbrev pub fits_kind : Kind → Option (List ℕ) → Bool
fits_kind kinds.Flag value = not (is_some value)
fits_kind kinds.Required value = is_some value
fits_kind kinds.Optional value = is_some value

-- the option has a row, and a value where the row has one
abbrev pub fits : Table → Given → Bool
fits table option = option_map_or (λ row. fits_kind row.1 option.1) (row_of table option.0) false

-- no two have one name
abbrev pub are_distinct : List Given → Bool
are_distinct [] = true
are_distinct (option ∷ options) = not (is_given option.0 options) && are_distinct options

abbrev pub is_required : Kind → Bool
is_required kinds.Required = true
is_required kinds.Optional = false
is_required kinds.Flag = false

abbrev pub has_required : Table → List Given → Bool
has_required table options = list_all (λ row. not (is_required row.1) || is_given (dashed row.0) options) table

-- each option has a row and stands once, and those that have to be given are
abbrev pub is_whole : Table → List Given → Bool
is_whole table options = list_all (fits table) options && (are_distinct options && has_required table options)

-- ---- What words give a command

-- the option of a row, without its dashes, where it is given
abbrev pub option_of : List Given → Row → Option Given
option_of options (name, kinds.Flag) = if is_given (dashed name) options then Some (name, None) else None
option_of options (name, kinds.Required) = option_map (λ value. (name, Some value)) (value_of (dashed name) options)
option_of options (name, kinds.Optional) = option_map (λ value. (name, Some value)) (value_of (dashed name) options)

abbrev pub with_some : Option Given → List Given → List Given
with_some None options = options
with_some (Some option) options = option ∷ options

-- the options that are given, in the order of the rows
abbrev pub in_rows : List Given → Table → List Given
in_rows options [] = []
in_rows options (row ∷ table) = with_some (option_of options row) (in_rows options table)

-- The options that words give a command, where they spell options of its table and nothing else.
unfoldable pub options_of : Table → List (List ℕ) → Option (List Given)
options_of table words = if is_whole table (options_in words) then Some (in_rows (options_in words) table) else None

-- ---- Tables that have a reading

-- each row has a name
abbrev pub has_names : Table → Bool
has_names table = list_all (λ row. nat_lt 0 (length row.0)) table

abbrev pub is_flag : Option Row → Bool
is_flag None = false
is_flag (Some (name, kinds.Flag)) = true
is_flag (Some (name, kinds.Required)) = false
is_flag (Some (name, kinds.Optional)) = false

-- a flag of the table has the name
abbrev pub names_flag : Table → List ℕ → Bool
names_flag table name = list_any (λ row. is_flag (Some row) && bytes_eq row.0 name) table

abbrev pub is_value : Row → Bool
is_value (name, kinds.Flag) = false
is_value (name, kinds.Required) = true
is_value (name, kinds.Optional) = true

-- an option of the table that has a value has the name
abbrev pub names_value : Table → List ℕ → Bool
names_value table name = list_any (λ row. is_value row && bytes_eq row.0 name) table

-- no option that has a value has a flag's name
abbrev pub is_clear : Table → Row → Bool
is_clear table (name, kinds.Flag) = not (names_value table name)
is_clear table (name, kinds.Required) = not (names_flag table name)
is_clear table (name, kinds.Optional) = not (names_flag table name)

abbrev pub is_sound : Table → Bool
is_sound table = list_all (is_clear table) table
