-- The tests of topics are exact.
use Rattle.std.proofs.Common.{◌≡◌, ℕ, true, List, Result, Ok, Err, refl, ap, ◌∙◌}
use Rattle.std.specs.Prelude.{◌↔◌}
use Rattle.std.specs.Str.{bytes_eq}
use Rattle.std.proofs.lemmas.Slice.Eq.{bytes_eq-Decides}
use Rattle.thing_topics.specs.declared.faults.TopicFault.{TopicFault}
use Rattle.thing_topics.specs.Shadows as shadows
use Rattle.thing_topics.specs.Jobs as jobs
use Rattle.thing_topics.proofs.ShadowTopics as shadow_topics
use Rattle.thing_topics.proofs.JobTopics as job_topics
use Rattle.thing_script.specs.Kinds.{IsJobsOf, IsShadowOf, has_thing, is_jobs_of, is_shadow_of}

same : (thing other : List ℕ) → other ≡ thing → bytes_eq other thing ≡ true
same thing other e = (bytes_eq-Decides other thing).1 e

shadow_by : (thing text : List ℕ) (read : Result shadows.Parts TopicFault) → shadows.read text ≡ read → has_thing (λ parts. parts.thing) thing read ≡ true → IsShadowOf thing text
shadow_by thing text (Ok parts) e own = record { parts = parts; topic = (shadow_topics.exact text parts).0 e; own = (bytes_eq-Decides parts.thing thing).0 own }
shadow_by thing text (Err fault) e own = absurd (cc own)

shadow_back : (thing text : List ℕ) → IsShadowOf thing text → is_shadow_of thing text ≡ true
unfolding is_shadow_of
shadow_back thing text h = ap (has_thing (λ parts. parts.thing) thing) ((shadow_topics.exact text h.parts).1 h.topic) ∙ same thing h.parts.thing h.own

pub shadow_exact : (thing text : List ℕ) → (is_shadow_of thing text ≡ true) ↔ IsShadowOf thing text
unfolding is_shadow_of
shadow_exact thing text = (shadow_by thing text (shadows.read text) refl, shadow_back thing text)

jobs_by : (thing text : List ℕ) (read : Result jobs.Parts TopicFault) → jobs.read text ≡ read → has_thing (λ parts. parts.thing) thing read ≡ true → IsJobsOf thing text
jobs_by thing text (Ok parts) e own = record { parts = parts; topic = (job_topics.exact text parts).0 e; own = (bytes_eq-Decides parts.thing thing).0 own }
jobs_by thing text (Err fault) e own = absurd (cc own)

jobs_back : (thing text : List ℕ) → IsJobsOf thing text → is_jobs_of thing text ≡ true
unfolding is_jobs_of
jobs_back thing text h = ap (has_thing (λ parts. parts.thing) thing) ((job_topics.exact text h.parts).1 h.topic) ∙ same thing h.parts.thing h.own

pub jobs_exact : (thing text : List ℕ) → (is_jobs_of thing text ≡ true) ↔ IsJobsOf thing text
unfolding is_jobs_of
jobs_exact thing text = (jobs_by thing text (jobs.read text) refl, jobs_back thing text)
