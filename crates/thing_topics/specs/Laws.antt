-- Laws of the definitions, each the contract of a function that does nothing.
use Rattle.std.specs.Prelude.{◌≡◌, ℕ, ◌↔◌, List, Ok, Err}
use Rattle.thing_topics.specs.declared.faults.TopicFault.{TopicFault}
use Rattle.thing_topics.specs.Faults.{IsShadowFault, IsJobsFault, IsStreamFault}
use Rattle.thing_topics.specs.Shadows as shadows
use Rattle.thing_topics.specs.Jobs as jobs
use Rattle.thing_topics.specs.Streams as streams

-- A text reads as these parts exactly where it is their topic.
abbrev pub ShadowReadingsAreTopics : Type 0
ShadowReadingsAreTopics = (text : List ℕ) (parts : shadows.Parts) → (shadows.read text ≡ Ok parts) ↔ shadows.IsTopic text parts

abbrev pub JobsReadingsAreTopics : Type 0
JobsReadingsAreTopics = (text : List ℕ) (parts : jobs.Parts) → (jobs.read text ≡ Ok parts) ↔ jobs.IsTopic text parts

abbrev pub StreamReadingsAreTopics : Type 0
StreamReadingsAreTopics = (text : List ℕ) (parts : streams.Parts) → (streams.read text ≡ Ok parts) ↔ streams.IsTopic text parts

-- A text is refused with a fault exactly where the fault is its own.
abbrev pub ShadowFaultsAreTheirOwn : Type 0
ShadowFaultsAreTheirOwn = (text : List ℕ) (fault : TopicFault) → (shadows.read text ≡ Err fault) ↔ IsShadowFault text fault

abbrev pub JobsFaultsAreTheirOwn : Type 0
JobsFaultsAreTheirOwn = (text : List ℕ) (fault : TopicFault) → (jobs.read text ≡ Err fault) ↔ IsJobsFault text fault

abbrev pub StreamFaultsAreTheirOwn : Type 0
StreamFaultsAreTheirOwn = (text : List ℕ) (fault : TopicFault) → (streams.read text ≡ Err fault) ↔ IsStreamFault text fault
