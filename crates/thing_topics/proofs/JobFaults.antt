-- The fault of a text that is no topic of jobs.
use Rattle.std.proofs.Common.{◌≡◌, ℕ, List, inl, inr, true, Option, Some, None, Result, Ok, Err, refl, sym, ap, ◌∙◌, subst}
use Rattle.std.specs.Prelude.{◌↔◌, IfErr, codes}
use Rattle.std.specs.Option.{option_map}
use Rattle.thing_topics.specs.declared.faults.TopicFault.{TopicFault}
use Rattle.thing_topics.specs.declared.faults.TopicFault.TheVariants as faults
use Rattle.thing_topics.specs.declared.jobs.JobsKind.{JobsKind}
use Rattle.thing_topics.specs.Cuts.{first_level}
use Rattle.thing_topics.specs.Faults.{IsJobsFault, HasNoJob, StandsBehind}
use Rattle.thing_topics.specs.Fronts.{front_of}
use Rattle.thing_topics.specs.Readings.{Gives}
use Rattle.thing_topics.specs.Jobs.{Parts, IsTopic, word, job_kinds, takes_job, has_class, job_kind_of, plain_kind_of, with_kind, job_in, plain, found_or, found_in, read}
use Rattle.thing_topics.proofs.Binding.{written_so}
use Rattle.thing_topics.proofs.Fronting.{front_read, front_back}
use Rattle.thing_topics.proofs.Faulting.{Cause, failed, test_failed, of_part, of_kind, front_fault, root_fault, thing_fault, own_fault}
use Rattle.thing_topics.proofs.JobTopics.{job_word_found, ended, from_front, exact}

-- a job in its place, and the kind behind it
record IsPlaced (cut : List ℕ × Option (List ℕ)) (job : List ℕ) (kind : JobsKind) : Type 0 where
  pub level : ◌≡◌ {A = List ℕ × Option (List ℕ)} cut (job, Some (word kind))
  pub takes : takes_job kind ≡ true

kind_placed : (level below : List ℕ) (o : Option JobsKind) (job : List ℕ) (kind : JobsKind) → job_kind_of below ≡ o → option_map {U = List ℕ × JobsKind} (λ k. (level, k)) o ≡ Some (job, kind) → IsPlaced (level, Some below) job kind
unfolding job_kind_of
kind_placed level below None job kind e h = absurd (cc h)
kind_placed level below (Some k) job kind e h =
    let known = written_so word takes_job job_kinds below k refl e in
    let same : ◌≡◌ {A = List ℕ × JobsKind} (level, k) (job, kind) = cc h in
    subst (λ (f : List ℕ × JobsKind). IsPlaced (level, Some below) f.0 f.1) same
    (record { level = ap (λ (t : List ℕ). (level, Some t)) (sym known.0); takes = known.1 })

placed : (cut : List ℕ × Option (List ℕ)) (job : List ℕ) (kind : JobsKind) → with_kind cut ≡ Some (job, kind) → IsPlaced cut job kind
placed (level, None) job kind h = absurd (cc h)
placed (level, Some below) job kind h = kind_placed level below (job_kind_of below) job kind refl h

plain_fault : (text : List ℕ) (o : Option JobsKind) (e : TopicFault) → plain o ≡ Err e → Cause (HasNoJob text) text e
plain_fault text None e h = of_kind text e (cc h)
plain_fault text (Some kind) e h = absurd (cc h)

found_fault : (text thing rest : List ℕ) (o : Option (List ℕ × JobsKind)) (e : TopicFault) → StandsBehind (codes "jobs/") text thing rest → with_kind (first_level rest) ≡ o → found_or rest o ≡ Err e → Cause (HasNoJob text) text e
found_fault text thing rest None e stands is h = plain_fault text (plain_kind_of rest) e h
found_fault text thing rest (Some (job, kind)) e stands is h =
    let f = test_failed faults.Part e (has_class kind (Some job)) (Some job, kind) h in
    let place = placed (first_level rest) job kind is in
    of_part text e f.1 (record { thing = thing; rest = rest; job = job; kind = kind; front = stands; level = place.level; takes = place.takes; no_job = f.0 })

rest_fault : (text thing rest : List ℕ) (e : TopicFault) → StandsBehind (codes "jobs/") text thing rest → found_in rest ≡ Err e → Cause (HasNoJob text) text e
unfolding found_in job_in
rest_fault text thing rest e stands h = found_fault text thing rest (with_kind (first_level rest)) e stands refl h

behind_fault : (text : List ℕ) (front : List ℕ × List ℕ) (e : TopicFault) → StandsBehind (codes "jobs/") text front.0 front.1 → from_front front ≡ Err e → Cause (HasNoJob text) text e
behind_fault text front e stands h =
    elim (failed (found_in front.1) (ended front.0) e h) [
      | inl first ↦ rest_fault text front.0 front.1 e stands first
      | inr others ↦ absurd (cc (others.2))
    ]

cause : (text : List ℕ) (e : TopicFault) → read text ≡ Err e → Cause (HasNoJob text) text e
unfolding read
cause text e h =
    elim (failed (front_of (codes "jobs/") text) from_front e h) [
      | inl first ↦ front_fault (codes "jobs/") text e first
      | inr others ↦ behind_fault text others.0 e (front_back (codes "jobs/") text others.0.0 others.0.1 others.1) others.2
    ]

part_fault : (text : List ℕ) → HasNoJob text → read text ≡ Err faults.Part
unfolding read found_in job_in
part_fault text none =
    let front : front_of (codes "jobs/") text ≡ Ok (none.thing, none.rest) =
    ap (front_of (codes "jobs/")) none.front.written ∙ front_read (codes "jobs/") none.thing none.rest none.front.class in
    rw (front, none.level, job_word_found none.kind none.takes, none.no_job) refl

pub exact_faults : (text : List ℕ) (fault : TopicFault) → (read text ≡ Err fault) ↔ IsJobsFault text fault
unfolding read
exact_faults text fault =
    own_fault (IsTopic text) text (HasNoJob text) (read text)
    (λ h. (cause text faults.Root h).no_root refl, λ none. rw (root_fault (codes "jobs/") text none) refl)
    (λ h. (cause text faults.Thing h).no_thing refl, λ none. rw (thing_fault (codes "jobs/") text none) refl)
    (λ h. (cause text faults.Part h).no_part refl, part_fault text)
    (exact text) fault

pub faulted : {M : Type 0} (view : M → Parts) (text : List ℕ) (answer : Result M TopicFault) → Gives view answer (read text) → IfErr answer (λ fault. IsJobsFault text fault)
faulted view text (Ok found) h = tt
faulted view text (Err fault) h = (exact_faults text fault).0 h
