-- What one effect renews, and whether it completes a request.
use Rattle.std.specs.Prelude.{ℕ, Bool, false, ◌&&◌, ◌==◌, List, [], ◌∷◌, Option, Some, None}
use Rattle.agent_journal.specs.declared.effect.Effect.{Effect}
use Rattle.agent_journal.specs.declared.effect.Effect.TheVariants as f
use Rattle.agent_table.specs.Routes.{Renewal, renewal_in, is_done}

abbrev pub renews : Effect → List Renewal
renews (f.Send packet) = renewal_in packet
renews _ = []

abbrev pub ends_done : ℕ → ℕ → Effect → Bool
ends_done t s (f.Done task seq outcome) = task == t && seq == s && is_done outcome
ends_done t s _ = false

abbrev pub as_list : {X : Type 0} → Option X → List X
as_list None = []
as_list (Some x) = x ∷ []
