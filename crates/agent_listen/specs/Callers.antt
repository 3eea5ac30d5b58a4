-- The callers of a listener.
use Rattle.std.specs.Prelude.{◌≡◌, ℕ, List, [], ◌∷◌, ◌++◌, Option, Result, Ok, Err, IfSome}
use Rattle.std.specs.Option.{option_map}
use Rattle.agent_link.specs.Counts.{raised}
use Rattle.agent_link.specs.declared.fault.Fault.{Fault}

-- There is one connection, on which there were no bytes yet, where the link tells them.
abbrev pub IsFresh : Option (List (List ℕ)) → Type 0
IsFresh wires = IfSome wires (λ ws. ws ≡ [] ∷ [])

-- how many callers are out behind a `next`: one more where it gave one
abbrev pub out_behind : {C : Type 0} → Result C Fault → ℕ → ℕ
out_behind (Ok caller) out = raised out
out_behind (Err fault) out = out

-- the callers that came back, and this one behind them
abbrev pub with_caller : {C : Type 0} → Option (List C) → C → Option (List C)
with_caller callers caller = option_map (λ cs. cs ++ caller ∷ []) callers
