-- Laws of what a replay is given, each the contract of a function that does nothing.
use Rattle.std.specs.Prelude.{◌≡◌, ℕ, List, Ok}
use Rattle.std.specs.List.{AllByRecursion}
use Rattle.agent_script.specs.declared.script.Script.{Script}
use Rattle.agent_script.specs.Scripts.{script_of}
use Rattle.replay_rounds.specs.Asked.{IsValidLine}

-- A script of one task, as a text spells it, can be replayed.
abbrev pub ReadScriptsAreValid : Type 0
ReadScriptsAreValid = (text : List ℕ) (script : Script) (others : List (List ℕ)) → script_of text ≡ Ok (script, others) → script.tasks ≡ 1 → AllByRecursion IsValidLine script.lines
