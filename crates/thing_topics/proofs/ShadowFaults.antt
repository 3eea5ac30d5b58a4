-- The fault of a text that is no topic of a shadow.
use Rattle.std.proofs.Common.{◌≡◌, ℕ, List, ◌++◌, inl, inr, false, Option, Some, None, Result, Ok, Err, refl, ap, ◌∙◌, subst}
use Rattle.std.specs.Prelude.{◌↔◌, IfErr, codes}
use Rattle.thing_topics.specs.declared.faults.TopicFault.{TopicFault}
use Rattle.thing_topics.specs.declared.faults.TopicFault.TheVariants as faults
use Rattle.thing_topics.specs.Cuts.{behind, first_level}
use Rattle.thing_topics.specs.Faults.{IsShadowFault, HasNoName, StandsBehind}
use Rattle.thing_topics.specs.Fronts.{front_of}
use Rattle.thing_topics.specs.Readings.{Gives, or_fault, tested}
use Rattle.thing_topics.specs.Shadows.{Parts, IsTopic, has_class, kind_of, place_of, place_in, place_behind, read}
use Rattle.thing_topics.proofs.Cutting.{behind_front, front_behind}
use Rattle.thing_topics.proofs.Fronting.{front_read, front_back}
use Rattle.thing_topics.proofs.Faulting.{Cause, failed, none_failed, test_failed, of_part, of_kind, front_fault, root_fault, thing_fault, own_fault}
use Rattle.thing_topics.proofs.ShadowTopics.{ended, from_place, from_front, exact}

named : (text thing rest inner : List ℕ) (cut : List ℕ × Option (List ℕ)) → StandsBehind (codes "shadow/") text thing rest → rest ≡ codes "name/" ++ inner → first_level inner ≡ cut
    → has_class (place_behind rest cut).0 ≡ false → HasNoName text
named text thing rest inner (name, None) front whole e bad = absurd (cc bad)
named text thing rest inner (name, Some below) front whole e bad = record {
  thing = thing;
  inner = inner;
  name = name;
  below = below;
  front = subst (λ (r : List ℕ). StandsBehind (codes "shadow/") text thing r) whole front;
  level = e;
  no_name = bad;
}

placed : (text thing rest : List ℕ) (o : Option (List ℕ)) → StandsBehind (codes "shadow/") text thing rest → behind (codes "name/") rest ≡ o → has_class (place_in rest o).0 ≡ false → HasNoName text
placed text thing rest None front e bad = absurd (cc bad)
placed text thing rest (Some inner) front e bad = named text thing rest inner (first_level inner) front (front_behind (codes "name/") rest inner e) refl bad

no_name : (text thing rest : List ℕ) → StandsBehind (codes "shadow/") text thing rest → has_class (place_of rest).0 ≡ false → HasNoName text
unfolding place_of
no_name text thing rest front bad = placed text thing rest (behind (codes "name/") rest) front refl bad

place_fault : (text thing : List ℕ) (place : Option (List ℕ) × List ℕ) (e : TopicFault) → from_place thing place ≡ Err e → Cause (HasNoName text) text e
place_fault text thing place e h =
    elim (failed (or_fault faults.Kind (kind_of place.1)) (ended thing place.0) e h) [
      | inl first ↦ of_kind text e (none_failed faults.Kind e (kind_of place.1) first).1
      | inr others ↦ absurd (cc (others.2))
    ]

behind_fault : (text : List ℕ) (front : List ℕ × List ℕ) (e : TopicFault) → StandsBehind (codes "shadow/") text front.0 front.1 → from_front front ≡ Err e → Cause (HasNoName text) text e
behind_fault text front e stands h =
    elim (failed (tested faults.Part (has_class (place_of front.1).0) (place_of front.1)) (from_place front.0) e h) [
      | inl first ↦
          let f = test_failed faults.Part e (has_class (place_of front.1).0) (place_of front.1) first in
          of_part text e f.1 (no_name text front.0 front.1 stands f.0)
      | inr others ↦ place_fault text front.0 others.0 e others.2
    ]

cause : (text : List ℕ) (e : TopicFault) → read text ≡ Err e → Cause (HasNoName text) text e
unfolding read
cause text e h =
    elim (failed (front_of (codes "shadow/") text) from_front e h) [
      | inl first ↦ front_fault (codes "shadow/") text e first
      | inr others ↦ behind_fault text others.0 e (front_back (codes "shadow/") text others.0.0 others.0.1 others.1) others.2
    ]

part_fault : (text : List ℕ) → HasNoName text → read text ≡ Err faults.Part
unfolding read place_of
part_fault text none =
    let front : front_of (codes "shadow/") text ≡ Ok (none.thing, codes "name/" ++ none.inner) =
    ap (front_of (codes "shadow/")) none.front.written ∙ front_read (codes "shadow/") none.thing (codes "name/" ++ none.inner) none.front.class in
    rw (front, behind_front (codes "name/") none.inner, none.level, none.no_name) refl

pub exact_faults : (text : List ℕ) (fault : TopicFault) → (read text ≡ Err fault) ↔ IsShadowFault text fault
unfolding read
exact_faults text fault =
    own_fault (IsTopic text) text (HasNoName text) (read text)
    (λ h. (cause text faults.Root h).no_root refl, λ none. rw (root_fault (codes "shadow/") text none) refl)
    (λ h. (cause text faults.Thing h).no_thing refl, λ none. rw (thing_fault (codes "shadow/") text none) refl)
    (λ h. (cause text faults.Part h).no_part refl, part_fault text)
    (exact text) fault

pub faulted : {M : Type 0} (view : M → Parts) (text : List ℕ) (answer : Result M TopicFault) → Gives view answer (read text) → IfErr answer (λ fault. IsShadowFault text fault)
faulted view text (Ok found) h = tt
faulted view text (Err fault) h = (exact_faults text fault).0 h
