-- So many arguments are words.
use Rattle.std.proofs.Common.{◌≡◌, map, take}
use Rattle.std.specs.String.{string_bytes}
use Rattle.agent_main.proofs.words_in.Given as goal

abbrev pub invariant-loop-argument : goal.invariant-loop-argument
invariant-loop-argument l = record { so_far : map (λ word. word.now) l.words.items ≡ map string_bytes (take l.argument-index l.arguments) }
