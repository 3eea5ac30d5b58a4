-- Bytes that a link takes, piece by piece.
use Rattle.std.proofs.Common.{◌≡◌, ℕ, ◌+◌, List, [], ◌∷◌, ◌++◌, take, drop, refl, sym, ap, ◌∙◌, append_assoc}
use Rattle.std.specs.Prelude.{Option, Some, None}
use Rattle.std.proofs.Math.Seq.{take-add}
use Rattle.agent_link.specs.Wires.{onto_last}
use Rattle.agent_line.specs.Told.{more_on}
use Rattle.agent_ties.proofs.Wires.{onto_nothing}

pub onto_more : (ws : List (List ℕ)) (a b : List ℕ) → onto_last (onto_last ws a) b ≡ onto_last ws (a ++ b)
onto_more [] a b = refl
onto_more (w ∷ []) a b = ap (λ v. v ∷ []) (append_assoc w a b)
onto_more (w ∷ v ∷ []) a b = ap (λ vs. w ∷ vs) (onto_more (v ∷ []) a b)
onto_more (w ∷ v ∷ u ∷ ws) a b = ap (λ vs. w ∷ vs) (onto_more (v ∷ u ∷ ws) a b)

pub took_none : (wires : Option (List (List ℕ))) → wires ≡ more_on wires []
took_none None = refl
took_none (Some ws) = ap Some (sym (onto_nothing ws))

pub took_nothing : (wires : Option (List (List ℕ))) (bytes : List ℕ) → wires ≡ more_on wires (take 0 bytes)
took_nothing wires bytes = took_none wires

pub took_on : (wires : Option (List (List ℕ))) (a b : List ℕ) → more_on (more_on wires a) b ≡ more_on wires (a ++ b)
took_on None a b = refl
took_on (Some ws) a b = ap Some (onto_more ws a b)

pub took_more : (wires mid now : Option (List (List ℕ))) (bytes rest : List ℕ) (sent count : ℕ) → mid ≡ more_on wires (take sent bytes) → rest ≡ drop sent bytes → now ≡ more_on mid (take count rest)
    → now ≡ more_on wires (take (sent + count) bytes)
took_more wires mid now bytes rest sent count before is more =
    more ∙ (λ i. more_on (before i) (take count (is i))) ∙ took_on wires (take sent bytes) (take count (drop sent bytes)) ∙ ap (more_on wires) (sym (take-add sent count bytes))
