-- Why a text is no topic, by the parts of the text. At most one of these causes applies.
use Rattle.std.specs.Prelude.{◌≡◌, ℕ, List, ◌++◌, ◌∷◌, Some, true, false, codes}
use Rattle.thing_topics.specs.declared.faults.TopicFault.{TopicFault}
use Rattle.thing_topics.specs.declared.faults.TopicFault.TheVariants as faults
use Rattle.thing_topics.specs.declared.jobs.JobsKind.{JobsKind}
use Rattle.thing_topics.specs.Classes.{is_thing, is_shadow_name, is_stream}
use Rattle.thing_topics.specs.Cuts.{first_level}
use Rattle.thing_topics.specs.Fronts.{root, front_text}
use Rattle.thing_topics.specs.Shadows as shadows
use Rattle.thing_topics.specs.Jobs as jobs
use Rattle.thing_topics.specs.Streams as streams

-- the text doesn't begin with the root
abbrev pub HasNoRoot : List ℕ → Type 0
HasNoRoot text = (rest : List ℕ) → text ≡ root ++ rest → ⊥

-- the level behind the root is no thing
pub record HasNoThing (text : List ℕ) : Type 0 where
  pub rest : List ℕ
  pub rooted : text ≡ root ++ rest
  pub no_thing : is_thing (first_level rest).0 ≡ false

-- this stands behind a thing and the service's word, which is written with a `/` at its end
pub record StandsBehind (service text thing rest : List ℕ) : Type 0 where
  pub class : is_thing thing ≡ true
  pub written : text ≡ front_text thing (47 ∷ service) ++ rest

-- the level behind `shadow/name/`, where a further level follows, is no name
pub record HasNoName (text : List ℕ) : Type 0 where
  pub thing : List ℕ
  pub inner : List ℕ
  pub name : List ℕ
  pub below : List ℕ
  pub front : StandsBehind (codes "shadow/") text thing (codes "name/" ++ inner)
  pub level : first_level inner ≡ (name, Some below)
  pub no_name : is_shadow_name name ≡ false

-- the level behind `jobs/`, where the word of a kind that has a job follows, is no job for it
pub record HasNoJob (text : List ℕ) : Type 0 where
  pub thing : List ℕ
  pub rest : List ℕ
  pub job : List ℕ
  pub kind : JobsKind
  pub front : StandsBehind (codes "jobs/") text thing rest
  pub level : first_level rest ≡ (job, Some (jobs.word kind))
  pub takes : jobs.takes_job kind ≡ true
  pub no_job : jobs.has_class kind (Some job) ≡ false

-- the level behind `streams/` is no stream
pub record HasNoStream (text : List ℕ) : Type 0 where
  pub thing : List ℕ
  pub rest : List ℕ
  pub front : StandsBehind (codes "streams/") text thing rest
  pub no_stream : is_stream (first_level rest).0 ≡ false

-- The fault of a text: Kind stands for every other text without a reading.
abbrev pub IsFault : Type 0 → Type 0 → List ℕ → TopicFault → Type 0
IsFault Part Reading text faults.Root = HasNoRoot text
IsFault Part Reading text faults.Thing = HasNoThing text
IsFault Part Reading text faults.Part = Part
IsFault Part Reading text faults.Kind = (HasNoRoot text → ⊥) × (HasNoThing text → ⊥) × (Part → ⊥) × (Reading → ⊥)

abbrev pub IsShadowFault : List ℕ → TopicFault → Type 0
IsShadowFault text fault = IsFault (HasNoName text) ((parts : shadows.Parts) × shadows.IsTopic text parts) text fault

abbrev pub IsJobsFault : List ℕ → TopicFault → Type 0
IsJobsFault text fault = IsFault (HasNoJob text) ((parts : jobs.Parts) × jobs.IsTopic text parts) text fault

abbrev pub IsStreamFault : List ℕ → TopicFault → Type 0
IsStreamFault text fault = IsFault (HasNoStream text) ((parts : streams.Parts) × streams.IsTopic text parts) text fault
