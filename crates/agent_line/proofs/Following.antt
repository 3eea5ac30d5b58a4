-- Connections of a link, behind those that it had at first.
use Rattle.std.proofs.Common.{◌≡◌, ℕ, List, [], ◌∷◌, ◌++◌, refl, ap, ◌∙◌, append_assoc}
use Rattle.std.specs.Prelude.{Option, Some, None}
use Rattle.std.specs.Option.{option_map}
use Rattle.agent_link.specs.Wires.{onto_last}
use Rattle.agent_line.specs.Told.{more_on, Follows}
use Rattle.agent_ties.proofs.Wires.{onto_nothing}

-- onto the last of some more connections
onto_behind : (before : List (List ℕ)) (w : List ℕ) (own : List (List ℕ)) (bytes : List ℕ) → onto_last (before ++ (w ∷ own)) bytes ≡ before ++ onto_last (w ∷ own) bytes
onto_behind [] w own bytes = refl
onto_behind (b ∷ []) w own bytes = refl
onto_behind (b ∷ c ∷ before) w own bytes = ap (λ vs. b ∷ vs) (onto_behind (c ∷ before) w own bytes)

onto_own : (before own : List (List ℕ)) (bytes : List ℕ) → (own ≡ [] → bytes ≡ []) → more_on (Some (before ++ own)) bytes ≡ Some (before ++ onto_last own bytes)
onto_own before [] bytes none = ap (more_on (Some (before ++ []))) (none refl) ∙ ap Some (onto_nothing (before ++ []))
onto_own before (w ∷ own) bytes none = ap Some (onto_behind before w own bytes)

-- bytes more on the last of them
pub follows_more : (first : Option (List (List ℕ))) (own : List (List ℕ)) (before now : Option (List (List ℕ))) (bytes : List ℕ) → Follows first own before → (own ≡ [] → bytes ≡ []) → now ≡ more_on before bytes
    → Follows first (onto_last own bytes) now
follows_more None own before now bytes h none more = tt
follows_more (Some ws) own before now bytes h none more = more ∙ ap (λ x. more_on x bytes) h ∙ onto_own ws own bytes none

-- a connection more
pub follows_open : (first : Option (List (List ℕ))) (own : List (List ℕ)) (before now : Option (List (List ℕ))) → Follows first own before → now ≡ option_map (λ ws. ws ++ [] ∷ []) before → Follows first (own ++ [] ∷ []) now
follows_open None own before now h more = tt
follows_open (Some ws) own before now h more = more ∙ ap (option_map (λ xs. xs ++ [] ∷ [])) h ∙ ap Some (append_assoc ws own ([] ∷ []))
