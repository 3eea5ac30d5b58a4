-- Laws of the definitions, each the contract of a function that does nothing.
use Rattle.std.specs.Prelude.{◌≡◌, ◌↔◌, ℕ, true, List, Ok}
use Rattle.std.specs.List.{AllByRecursion}
use Rattle.agent_script.specs.declared.script.Script.{Script}
use Rattle.agent_script.specs.Scripts.{script_of}
use Rattle.thing_script.specs.Kinds.{IsShadowOf, IsJobsOf, is_shadow_of, is_jobs_of}
use Rattle.thing_script.specs.Plain.{IsShortLine}

-- The payloads of a script, as a text spells it, are short.
abbrev pub ReadScriptsAreShort : Type 0
ReadScriptsAreShort = (text : List ℕ) (script : Script) (others : List (List ℕ)) → script_of text ≡ Ok (script, others) → AllByRecursion IsShortLine script.lines

-- The tests are exact.
abbrev pub ShadowsAreFound : Type 0
ShadowsAreFound = (thing text : List ℕ) → (is_shadow_of thing text ≡ true) ↔ IsShadowOf thing text

abbrev pub JobsAreFound : Type 0
JobsAreFound = (thing text : List ℕ) → (is_jobs_of thing text ≡ true) ↔ IsJobsOf thing text
