-- Messages on the topics of a thing's shadows and jobs.
use Rattle.std.specs.Prelude.{◌≡◌, ℕ, Bool, false, ◌&&◌, ◌==◌, List, Result, Ok, Err, count_by}
use Rattle.std.specs.List.{flat_map}
use Rattle.std.specs.Str.{bytes_eq}
use Rattle.agent_journal.specs.declared.effect.Effect.{Effect}
use Rattle.agent_journal.specs.declared.effect.Effect.TheVariants as effects
use Rattle.agent_journal.specs.declared.entry.Entry.{Entry}
use Rattle.thing_topics.specs.Shadows as shadows
use Rattle.thing_topics.specs.Jobs as jobs

-- The text is the topic of a shadow of this thing.
pub record IsShadowOf (thing text : List ℕ) : Type 0 where
  pub parts : shadows.Parts
  pub topic : shadows.IsTopic text parts
  pub own : parts.thing ≡ thing

-- The text is a topic of this thing's jobs.
pub record IsJobsOf (thing text : List ℕ) : Type 0 where
  pub parts : jobs.Parts
  pub topic : jobs.IsTopic text parts
  pub own : parts.thing ≡ thing

-- the same as tests, by what the text reads as
abbrev pub has_thing : {A E : Type 0} → (A → List ℕ) → List ℕ → Result A E → Bool
has_thing thing_in thing (Ok parts) = bytes_eq (thing_in parts) thing
has_thing thing_in thing (Err fault) = false

unfoldable pub is_shadow_of : List ℕ → List ℕ → Bool
is_shadow_of thing text = has_thing (λ parts. parts.thing) thing (shadows.read text)

unfoldable pub is_jobs_of : List ℕ → List ℕ → Bool
is_jobs_of thing text = has_thing (λ parts. parts.thing) thing (jobs.read text)

-- a message was passed to task t, and its topic passes the test
abbrev pub passes : ℕ → (List ℕ → Bool) → Effect → Bool
passes t test (effects.Pass task message) = t == task && test message.topic
passes t test _ = false

-- how many such messages a journal has
abbrev pub count_passed : ℕ → (List ℕ → Bool) → List Entry → ℕ
count_passed t test journal = count_by (passes t test) (flat_map (λ entry. entry.effects) journal)
