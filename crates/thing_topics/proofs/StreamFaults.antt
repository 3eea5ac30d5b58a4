-- The fault of a text that is no topic of a stream.
use Rattle.std.proofs.Common.{◌≡◌, ℕ, List, inl, inr, Option, Result, Ok, Err, refl, ap, ◌∙◌}
use Rattle.std.specs.Prelude.{◌↔◌, IfErr, codes}
use Rattle.std.specs.Option.{option_and_then}
use Rattle.thing_topics.specs.declared.faults.TopicFault.{TopicFault}
use Rattle.thing_topics.specs.declared.faults.TopicFault.TheVariants as faults
use Rattle.thing_topics.specs.Classes.{is_stream}
use Rattle.thing_topics.specs.Cuts.{first_level}
use Rattle.thing_topics.specs.Faults.{IsStreamFault, HasNoStream, StandsBehind}
use Rattle.thing_topics.specs.Fronts.{front_of}
use Rattle.thing_topics.specs.Readings.{Gives, or_fault, tested}
use Rattle.thing_topics.specs.Streams.{Parts, IsTopic, kind_of, read}
use Rattle.thing_topics.proofs.Fronting.{front_read, front_back}
use Rattle.thing_topics.proofs.Faulting.{Cause, failed, none_failed, test_failed, of_part, of_kind, front_fault, root_fault, thing_fault, own_fault}
use Rattle.thing_topics.proofs.StreamTopics.{ended, from_level, from_front, exact}

level_fault : (text thing : List ℕ) (level : List ℕ × Option (List ℕ)) (e : TopicFault) → from_level thing level ≡ Err e → Cause (HasNoStream text) text e
level_fault text thing level e h =
    elim (failed (or_fault faults.Kind (option_and_then kind_of level.1)) (ended thing level.0) e h) [
      | inl first ↦ of_kind text e (none_failed faults.Kind e (option_and_then kind_of level.1) first).1
      | inr others ↦ absurd (cc (others.2))
    ]

behind_fault : (text : List ℕ) (front : List ℕ × List ℕ) (e : TopicFault) → StandsBehind (codes "streams/") text front.0 front.1 → from_front front ≡ Err e → Cause (HasNoStream text) text e
behind_fault text front e stands h =
    elim (failed (tested faults.Part (is_stream (first_level front.1).0) (first_level front.1)) (from_level front.0) e h) [
      | inl first ↦
          let f = test_failed faults.Part e (is_stream (first_level front.1).0) (first_level front.1) first in
          of_part text e f.1 (record { thing = front.0; rest = front.1; front = stands; no_stream = f.0 })
      | inr others ↦ level_fault text front.0 others.0 e others.2
    ]

cause : (text : List ℕ) (e : TopicFault) → read text ≡ Err e → Cause (HasNoStream text) text e
unfolding read
cause text e h =
    elim (failed (front_of (codes "streams/") text) from_front e h) [
      | inl first ↦ front_fault (codes "streams/") text e first
      | inr others ↦ behind_fault text others.0 e (front_back (codes "streams/") text others.0.0 others.0.1 others.1) others.2
    ]

part_fault : (text : List ℕ) → HasNoStream text → read text ≡ Err faults.Part
unfolding read
part_fault text none =
    let front : front_of (codes "streams/") text ≡ Ok (none.thing, none.rest) =
    ap (front_of (codes "streams/")) none.front.written ∙ front_read (codes "streams/") none.thing none.rest none.front.class in
    rw (front, none.no_stream) refl

pub exact_faults : (text : List ℕ) (fault : TopicFault) → (read text ≡ Err fault) ↔ IsStreamFault text fault
unfolding read
exact_faults text fault =
    own_fault (IsTopic text) text (HasNoStream text) (read text)
    (λ h. (cause text faults.Root h).no_root refl, λ none. rw (root_fault (codes "streams/") text none) refl)
    (λ h. (cause text faults.Thing h).no_thing refl, λ none. rw (thing_fault (codes "streams/") text none) refl)
    (λ h. (cause text faults.Part h).no_part refl, part_fault text)
    (exact text) fault

pub faulted : {M : Type 0} (view : M → Parts) (text : List ℕ) (answer : Result M TopicFault) → Gives view answer (read text) → IfErr answer (λ fault. IsStreamFault text fault)
faulted view text (Ok found) h = tt
faulted view text (Err fault) h = (exact_faults text fault).0 h
