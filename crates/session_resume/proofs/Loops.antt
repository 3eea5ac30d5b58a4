-- One more release or command of those that were gone through.
use Rattle.std.proofs.Common.{sym, ◌∙◌, ◌≡◌, ◌≤◌, ◌+◌, ℕ, true, false, not, List, [], ◌∷◌, ◌++◌, length, take, map, Some, None, refl, ap, inl, inr, arith}
use Rattle.std.specs.List.{filter, flat_map, slice_get}
use Rattle.std.proofs.lemmas.List.{take_more, take_all, map-append, append_assoc, append-nil}
use Rattle.std.proofs.lemmas.List.Elements.{filter-append}
use Rattle.std.proofs.lemmas.Grind.{flat_map-append}
use Rattle.std.proofs.lemmas.Option.{slice_get_cases, slice_get_within, get_or_from_slice_get}
use Rattle.agent_journal.specs.declared.effect.Effect.{Effect}
use Rattle.agent_journal.specs.Readings.{Pending}
use Rattle.agent_table.specs.Deliveries.{is_among}
use Rattle.agent_table.specs.Effects.{again_by}
use Rattle.session_resume.specs.Resent.{release, again}

pub taken_more : {X : Type 0} (xs : List X) (k : ℕ) (x : X) → slice_get xs k ≡ Some x → take (k + 1) xs ≡ take k xs ++ x ∷ []
taken_more xs k x at = take_more xs k x (slice_get_within xs k x at) ∙ ap (λ y. take k xs ++ y ∷ []) (get_or_from_slice_get xs k x x at)

some≢none : {X : Type 0} (x : X) → Some x ≡ None → ⊥
some≢none x e = cc

past_end : {X : Type 0} (xs : List X) (k : ℕ) → slice_get xs k ≡ None → length xs ≤ k
past_end xs k none = elim (slice_get_cases xs k).1 [
  | inl h ↦ absurd (some≢none h.0 (sym h.2 ∙ none))
  | inr h ↦ h.0
]

pub taken_none : {X : Type 0} (xs : List X) (k : ℕ) → slice_get xs k ≡ None → take k xs ≡ take (k + 1) xs
taken_none xs k none =
    let past = past_end xs k none in
    take_all k xs past ∙ sym (take_all (k + 1) xs (omega (arith, past)))

-- ---- PUBRELs

pub releases_more : (old now new : List Effect) (ids : List ℕ) (k id : ℕ) → slice_get ids k ≡ Some id → now ≡ old ++ map release (take k ids)
    → new ≡ now ++ release id ∷ [] → new ≡ old ++ map release (take (k + 1) ids)
releases_more old now new ids k id at so_far pushed =
    pushed ∙ ap (λ es. es ++ release id ∷ []) so_far ∙ append_assoc old (map release (take k ids)) (release id ∷ [])
    ∙ ap (λ es. old ++ es) (sym (ap (map release) (taken_more ids k id at) ∙ map-append release (take k ids) (id ∷ [])))

pub releases_none : (old now : List Effect) (ids : List ℕ) (k : ℕ) → slice_get ids k ≡ None → now ≡ old ++ map release (take k ids)
    → now ≡ old ++ map release (take (k + 1) ids)
releases_none old now ids k none so_far = so_far ∙ ap (λ ns. old ++ map release ns) (taken_none ids k none)

pub releases_end : (old now : List Effect) (ids : List ℕ) (k : ℕ) → length ids ≤ k → now ≡ old ++ map release (take k ids) → now ≡ old ++ map release ids
releases_end old now ids k past so_far = so_far ∙ ap (λ ns. old ++ map release ns) (take_all k ids past)

-- ---- PUBLISHes

again_behind : (released : List ℕ) (commands others : List Pending) → again released (commands ++ others) ≡ again released commands ++ again released others
again_behind released commands others =
    ap (flat_map (λ command. again_by command.id command.request)) (filter-append (λ command. not (is_among released command.id)) commands others)
    ∙ flat_map-append (λ command. again_by command.id command.request) (filter (λ command. not (is_among released command.id)) commands) (filter (λ command. not (is_among released command.id)) others)

again_one : (released : List ℕ) (command : Pending) → is_among released command.id ≡ false → again released (command ∷ []) ≡ again_by command.id command.request
again_one released command sent = rw sent (append-nil (again_by command.id command.request))

again_not : (released : List ℕ) (command : Pending) → is_among released command.id ≡ true → again released (command ∷ []) ≡ []
again_not released command is = rw is refl

pub again_more : (old now new : List Effect) (released : List ℕ) (commands : List Pending) (k : ℕ) (command : Pending) → slice_get commands k ≡ Some command
    → is_among released command.id ≡ false → now ≡ old ++ again released (take k commands) → new ≡ now ++ again_by command.id command.request
    → new ≡ old ++ again released (take (k + 1) commands)
again_more old now new released commands k command at sent so_far pushed =
    pushed ∙ ap (λ es. es ++ again_by command.id command.request) so_far ∙ append_assoc old (again released (take k commands)) (again_by command.id command.request)
    ∙ ap (λ es. old ++ es) (sym (ap (again released) (taken_more commands k command at) ∙ again_behind released (take k commands) (command ∷ [])
    ∙ ap (λ es. again released (take k commands) ++ es) (again_one released command sent)))

pub again_skips : (old now : List Effect) (released : List ℕ) (commands : List Pending) (k : ℕ) (command : Pending) → slice_get commands k ≡ Some command
    → is_among released command.id ≡ true → now ≡ old ++ again released (take k commands) → now ≡ old ++ again released (take (k + 1) commands)
again_skips old now released commands k command at is so_far =
    so_far ∙ ap (λ es. old ++ es) (sym (ap (again released) (taken_more commands k command at) ∙ again_behind released (take k commands) (command ∷ [])
    ∙ ap (λ es. again released (take k commands) ++ es) (again_not released command is) ∙ append-nil (again released (take k commands))))

pub again_none : (old now : List Effect) (released : List ℕ) (commands : List Pending) (k : ℕ) → slice_get commands k ≡ None
    → now ≡ old ++ again released (take k commands) → now ≡ old ++ again released (take (k + 1) commands)
again_none old now released commands k none so_far = so_far ∙ ap (λ cs. old ++ again released cs) (taken_none commands k none)

pub again_end : (old now : List Effect) (released : List ℕ) (commands : List Pending) (k : ℕ) → length commands ≤ k
    → now ≡ old ++ again released (take k commands) → now ≡ old ++ again released commands
again_end old now released commands k past so_far = so_far ∙ ap (λ cs. old ++ again released cs) (take_all k commands past)
