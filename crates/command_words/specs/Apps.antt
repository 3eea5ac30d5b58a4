-- The command that clap is given for a table.
use Rattle.std.specs.Prelude.{ℕ, List, [], map, true, Some}
use Rattle.clap.specs.Walk.{Rule}
use Rattle.clap.specs.Simple.{App, new_rule, new_shape}
use Rattle.clap.specs.declared.builder.action.ArgAction.TheVariants.{Set, SetTrue}
use Rattle.command_words.specs.declared.rows.Kind.{Kind}
use Rattle.command_words.specs.declared.rows.Kind.TheVariants as kinds
use Rattle.command_words.specs.Tables.{Row, Table}

abbrev pub rule_by : List ℕ → Kind → Rule
rule_by name kinds.Flag = record (new_rule name) { long = Some name; action = Some SetTrue }
rule_by name kinds.Required = record (new_rule name) { long = Some name; action = Some Set; value_names = 1; required = true }
rule_by name kinds.Optional = record (new_rule name) { long = Some name; action = Some Set; value_names = 1 }

abbrev pub rule_for : Row → Rule
rule_for row = rule_by row.0 row.1

-- It has an option for each row, and no help, and its words are those behind its name.
abbrev pub app_for : List ℕ → Table → App
app_for name table = record { top = record (new_shape name) { rules = map rule_for table; no_binary_name = true; disable_help_flag = true }; subs = [] }
