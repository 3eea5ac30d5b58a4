use Rattle.std.proofs.Common.{◌≡◌, drop}
use Rattle.command_words.specs.Given.{all_given}
use Rattle.command_words.specs.Tables.{named}
use Rattle.command_words.proofs.given.named.Given as goal

abbrev pub invariant-loop-option : goal.invariant-loop-option
invariant-loop-option l = named l.name (all_given (drop l.option-index l.options)) ≡ named l.name (all_given l.options)
