-- What the effects of an entry renew, effect by effect.
use Rattle.std.proofs.Common.{◌≡◌, ℕ, ◌+◌, ◌<◌, ◌≤◌, Bool, true, false, List, [], ◌∷◌, ◌++◌, length, take, get_or, refl, ap, sym, ◌∙◌}
use Rattle.std.specs.Prelude.{◌&&◌, ◌||◌, ◌==◌, if◌then◌else◌}
use Rattle.std.specs.List.{list_any, flat_map}
use Rattle.std.proofs.lemmas.List.{take_more, take_all, append_assoc, append-nil}
use Rattle.agent_journal.specs.Wires.{sends}
use Rattle.agent_journal.specs.declared.effect.Effect.{Effect}
use Rattle.agent_journal.specs.declared.effect.Effect.TheVariants as f
use Rattle.agent_journal.specs.declared.outcome.Outcome.{Outcome}
use Rattle.agent_table.specs.Routes.{Renewal, renewal_in, is_done, outcomes_in}
use Rattle.agent_core.specs.Renewing.{renews, ends_done}

renewed_behind : (effects : List Effect) (effect : Effect) → flat_map renewal_in (sends (effects ++ effect ∷ [])) ≡ flat_map renewal_in (sends effects) ++ renews effect
renewed_behind [] (f.Send packet) = append-nil (renewal_in packet)
renewed_behind [] (f.Done task seq outcome) = refl
renewed_behind [] (f.Pass task message) = refl
renewed_behind [] (f.Closed task) = refl
renewed_behind (f.Send packet ∷ effects) effect = ap (λ rs. renewal_in packet ++ rs) (renewed_behind effects effect) ∙ sym (append_assoc (renewal_in packet) (flat_map renewal_in (sends effects)) (renews effect))
renewed_behind (f.Done task seq outcome ∷ effects) effect = renewed_behind effects effect
renewed_behind (f.Pass task message ∷ effects) effect = renewed_behind effects effect
renewed_behind (f.Closed task ∷ effects) effect = renewed_behind effects effect

renewed_step : (effects : List Effect) (i : ℕ) (effect : Effect) → i < length effects → effect ≡ get_or effects i effect → flat_map renewal_in (sends (take (i + 1) effects)) ≡ flat_map renewal_in (sends (take i effects)) ++ renews effect
renewed_step effects i effect within is = ap (λ es. flat_map renewal_in (sends es)) (take_more effects i effect within ∙ ap (λ x. take i effects ++ x ∷ []) (sym is)) ∙ renewed_behind (take i effects) effect

pub renewed_more : (now new : List Renewal) (effects : List Effect) (i : ℕ) (effect : Effect) (renewal : Renewal) → i < length effects → effect ≡ get_or effects i effect
    → now ≡ flat_map renewal_in (sends (take i effects)) → renewal ∷ [] ≡ renews effect → new ≡ now ++ renewal ∷ [] → new ≡ flat_map renewal_in (sends (take (i + 1) effects))
renewed_more now new effects i effect renewal within is so_far here pushed =
    pushed ∙ ap (λ rs. rs ++ renewal ∷ []) so_far ∙ ap (λ rs. flat_map renewal_in (sends (take i effects)) ++ rs) here ∙ sym (renewed_step effects i effect within is)

pub renewed_skips : (now : List Renewal) (effects : List Effect) (i : ℕ) (effect : Effect) → i < length effects → effect ≡ get_or effects i effect
    → now ≡ flat_map renewal_in (sends (take i effects)) → [] ≡ renews effect → now ≡ flat_map renewal_in (sends (take (i + 1) effects))
renewed_skips now effects i effect within is so_far none =
    so_far ∙ sym (append-nil (flat_map renewal_in (sends (take i effects)))) ∙ ap (λ rs. flat_map renewal_in (sends (take i effects)) ++ rs) none ∙ sym (renewed_step effects i effect within is)

pub renewed_all : (now : List Renewal) (effects : List Effect) (i : ℕ) → length effects ≤ i → now ≡ flat_map renewal_in (sends (take i effects)) → now ≡ flat_map renewal_in (sends effects)
renewed_all now effects i end so_far = so_far ∙ ap (λ es. flat_map renewal_in (sends es)) (take_all i effects end)

-- ---- Done at once

pub done_at_once : (task seq : ℕ) (effects : List Effect) (result : Bool) → result ≡ list_any (ends_done task seq) effects → result ≡ list_any is_done (outcomes_in task seq effects)
done_at_once task seq effects result e = e ∙ go effects
  where
    one : (t s : ℕ) (outcome : Outcome) (rest : List Outcome) (b : Bool) → (t == task && s == seq) ≡ b
        → ((t == task && s == seq && is_done outcome) || list_any is_done rest) ≡ list_any is_done ((if t == task && s == seq then outcome ∷ [] else []) ++ rest)
    one t s outcome rest true e = rw e refl
    one t s outcome rest false e = rw e refl

    go : (es : List Effect) → list_any (ends_done task seq) es ≡ list_any is_done (outcomes_in task seq es)
    go [] = refl
    go (f.Send packet ∷ es) = go es
    go (f.Done t s outcome ∷ es) = ap (λ b. (t == task && s == seq && is_done outcome) || b) (go es) ∙ one t s outcome (outcomes_in task seq es) (t == task && s == seq) refl
    go (f.Pass t message ∷ es) = go es
    go (f.Closed t ∷ es) = go es
