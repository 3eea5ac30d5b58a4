use Rattle.std.proofs.Common.{◌≡◌, take}
use Rattle.clap.specs.Words.{app_of}
use Rattle.command_words.specs.Apps.{app_for}
use Rattle.command_words.specs.Given.{rows_seen}
use Rattle.command_words.proofs.apps.command.Given as goal

abbrev pub invariant-loop-row : goal.invariant-loop-row
invariant-loop-row l = app_of l.command ≡ app_for l.name (rows_seen (take l.row-index l.rows))
