-- The filters that UNSUBSCRIBEs name, effect by effect.
use Rattle.std.proofs.Common.{◌≡◌, ◌≤◌, ◌<◌, ℕ, ◌+◌, List, [], ◌∷◌, ◌++◌, length, take, get_or, refl, ap, sym, ◌∙◌}
use Rattle.std.specs.List.{flat_map}
use Rattle.std.proofs.lemmas.Grind.{flat_map-append}
use Rattle.std.proofs.lemmas.List.{take_more, take_all, append_assoc, append-nil}
use Rattle.agent_journal.specs.Readings.{sent_filters, filters_in}
use Rattle.agent_journal.specs.Wires.{sends, packet_in}
use Rattle.agent_journal.specs.declared.effect.Effect.{Effect}
use Rattle.agent_journal.specs.declared.effect.Effect.TheVariants as f
use Rattle.agent_core.specs.Sending.{names}

named_by : (effect : Effect) → flat_map filters_in (packet_in effect) ≡ names effect
named_by (f.Send packet) = append-nil (filters_in packet)
named_by (f.Done task seq outcome) = refl
named_by (f.Pass task message) = refl
named_by (f.Closed task) = refl

named_behind : (effects : List Effect) (effect : Effect) → sent_filters (effects ++ effect ∷ []) ≡ sent_filters effects ++ names effect
named_behind effects effect =
    ap (flat_map filters_in) (flat_map-append packet_in effects (effect ∷ []) ∙ ap (λ ps. sends effects ++ ps) (append-nil (packet_in effect)))
    ∙ flat_map-append filters_in (sends effects) (packet_in effect) ∙ ap (λ fs. sent_filters effects ++ fs) (named_by effect)

pub named_more : (now new : List (List ℕ)) (effects : List Effect) (i : ℕ) (effect : Effect) → i < length effects → effect ≡ get_or effects i effect
    → now ≡ sent_filters (take i effects) → new ≡ now ++ names effect → new ≡ sent_filters (take (i + 1) effects)
named_more now new effects i effect within is so_far pushed =
    pushed ∙ ap (λ fs. fs ++ names effect) so_far ∙ sym (named_behind (take i effects) effect)
    ∙ ap sent_filters (sym (take_more effects i effect within ∙ ap (λ x. take i effects ++ x ∷ []) (sym is)))

pub named_all : (now : List (List ℕ)) (effects : List Effect) (i : ℕ) → length effects ≤ i → now ≡ sent_filters (take i effects) → now ≡ sent_filters effects
named_all now effects i end so_far = so_far ∙ ap sent_filters (take_all i effects end)

pub pushed_more : (old now new filters : List (List ℕ)) (i : ℕ) (filter : List ℕ) → i < length filters → filter ≡ get_or filters i filter
    → now ≡ old ++ take i filters → new ≡ now ++ filter ∷ [] → new ≡ old ++ take (i + 1) filters
pushed_more old now new filters i filter within is so_far pushed =
    pushed ∙ ap (λ fs. fs ++ filter ∷ []) so_far ∙ append_assoc old (take i filters) (filter ∷ [])
    ∙ ap (λ fs. old ++ fs) (sym (take_more filters i filter within ∙ ap (λ x. take i filters ++ x ∷ []) (sym is)))

pub pushed_all : (old now filters : List (List ℕ)) (i : ℕ) → length filters ≤ i → now ≡ old ++ take i filters → now ≡ old ++ filters
pushed_all old now filters i end so_far = so_far ∙ ap (λ fs. old ++ fs) (take_all i filters end)
