-- One completion more of those that an entry has.
use Rattle.std.proofs.Common.{◌≡◌, ℕ, ◌+◌, ◌<◌, List, [], ◌∷◌, ◌++◌, length, take, get_or, refl, ap, sym, ◌∙◌}
use Rattle.std.proofs.lemmas.List.{take_more}
use Rattle.agent_journal.specs.declared.effect.Effect.{Effect}
use Rattle.agent_core.specs.Completions.{Books, ended, all_ended}

ended_behind : (b : Books) (effects : List Effect) (effect : Effect) → all_ended b (effects ++ effect ∷ []) ≡ ended (all_ended b effects) effect
ended_behind b [] effect = refl
ended_behind b (other ∷ effects) effect = ended_behind (ended b other) effects effect

pub ended_more : (start now new : Books) (effects : List Effect) (i : ℕ) (effect : Effect) → i < length effects → effect ≡ get_or effects i effect → now ≡ all_ended start (take i effects)
    → new ≡ ended now effect → new ≡ all_ended start (take (i + 1) effects)
ended_more start now new effects i effect within is so_far e =
    e ∙ ap (λ b. ended b effect) so_far ∙ sym (ended_behind start (take i effects) effect)
    ∙ ap (all_ended start) (sym (take_more effects i effect within ∙ ap (λ x. take i effects ++ x ∷ []) (sym is)))
