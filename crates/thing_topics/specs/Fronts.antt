-- The front that all topics of things share: `$aws/things/`, the thing, and the word of the service.
use Rattle.std.specs.Prelude.{ℕ, List, ◌++◌, Option, Some, None, Result, Ok, codes}
use Rattle.thing_topics.specs.declared.faults.TopicFault.{TopicFault}
use Rattle.thing_topics.specs.declared.faults.TopicFault.TheVariants as faults
use Rattle.thing_topics.specs.Classes.{is_thing}
use Rattle.thing_topics.specs.Cuts.{behind, first_level}
use Rattle.thing_topics.specs.Readings.{◌>>=◌, or_fault, tested}

abbrev pub root : List ℕ
root = codes "$aws/things/"

-- service is its word between two `/`
abbrev pub front_text : List ℕ → List ℕ → List ℕ
front_text thing service = root ++ thing ++ service

abbrev pub behind_some : List ℕ → Option (List ℕ) → Option (List ℕ)
behind_some service None = None
behind_some service (Some text) = behind service text

-- the thing, and what stands behind the service's word and its `/`
unfoldable pub front_of : List ℕ → List ℕ → Result (List ℕ × List ℕ) TopicFault
front_of service text = do
  rest ← or_fault faults.Root (behind root text)
  level ← tested faults.Thing (is_thing (first_level rest).0) (first_level rest)
  below ← or_fault faults.Kind (behind_some service level.1)
  Ok (level.0, below)
