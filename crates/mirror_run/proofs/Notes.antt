-- What is published behind all steps.
use Rattle.std.proofs.Common.{◌≡◌, Bool, true, false, List, [], ◌∷◌, ◌++◌, fold, if◌then◌else◌, refl, sym, ap, ◌∙◌, append_assoc, append-nil}
use Rattle.std.specs.List.{list_any}
use Rattle.device_docs.specs.declared.changes.Change.{Change}
use Rattle.mirror_run.specs.declared.steps.MirrorStep.{MirrorStep}
use Rattle.mirror_run.specs.declared.steps.MirrorStep.TheVariants.{Change as Noting, Publish}
use Rattle.mirror_run.specs.Answers.{is_publish, published}
use Rattle.shadow_mirror.specs.Writers.{Writing}
use Rattle.mirror_run.specs.Noted.{Noted, after, none_noted, noted_of}

-- where none publishes
kept : (n : Noted) (steps : List MirrorStep) → list_any is_publish steps ≡ false → (fold after n steps).published ≡ n.published
kept n [] none = refl
kept n (Publish ∷ steps) none = absurd (cc none)
kept n (Noting c ∷ steps) none = kept (after n (Noting c)) steps none

nothing : (steps : List MirrorStep) → list_any is_publish steps ≡ false → published steps ≡ []
nothing [] none = refl
nothing (Publish ∷ steps) none = absurd (cc none)
nothing (Noting c ∷ steps) none = rw none refl

publish_behind : (n : Noted) (steps : List MirrorStep) (b : Bool) → list_any is_publish steps ≡ b
    → (fold after (after n Publish) steps).published ≡ (n.published ++ n.pending) ++ (if b then published steps else []) → (fold after (after n Publish) steps).published ≡ n.published ++ (n.pending ++ published steps)
publish_behind n steps true some is = is ∙ append_assoc n.published n.pending (published steps)
publish_behind n steps false none is = is ∙ append_assoc n.published n.pending [] ∙ ap (λ (l : List Change). n.published ++ (n.pending ++ l)) (sym (nothing steps none))

-- behind all steps, what was published and, where one of them publishes, what waited and each change that a publish comes behind
pub behind_all : (n : Noted) (steps : List MirrorStep) (b : Bool) → list_any is_publish steps ≡ b → (fold after n steps).published ≡ n.published ++ (if b then n.pending ++ published steps else [])
behind_all n steps false none = kept n steps none ∙ sym (append-nil n.published)
behind_all n [] true some = absurd (cc some)
behind_all n (Publish ∷ steps) true some = publish_behind n steps (list_any is_publish steps) refl (behind_all (after n Publish) steps (list_any is_publish steps) refl)
behind_all n (Noting c ∷ steps) true some =
    behind_all (after n (Noting c)) steps true some ∙ ap (λ (l : List Change). n.published ++ l) (append_assoc n.pending (c ∷ []) (published steps)) ∙ rw some refl

published_by : (steps : List MirrorStep) (b : Bool) → list_any is_publish steps ≡ b → (fold after none_noted steps).published ≡ published steps
published_by steps true some = behind_all none_noted steps true some
published_by steps false none = kept none_noted steps none ∙ sym (nothing steps none)

pub published_is : (steps : List MirrorStep) → (fold after none_noted steps).published ≡ published steps
published_is steps = published_by steps (list_any is_publish steps) refl

-- a writer that had nothing has published these behind all steps
pub all_published : (old new : Writing) (steps items : List MirrorStep) → noted_of old ≡ none_noted → items ≡ steps → noted_of new ≡ fold after (noted_of old) items → new.published.changes ≡ published steps
all_published old new steps items fresh same is =
    ap (λ (n : Noted). n.published) is ∙ ap (λ (n : Noted). (fold after n items).published) fresh ∙ ap (λ l. (fold after none_noted l).published) same ∙ published_is steps
