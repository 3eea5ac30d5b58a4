-- Topics of shadows, with a name and without one.
use Rattle.std.specs.Prelude.{◌≡◌, ℕ, Bool, List, [], ◌∷◌, ◌++◌, Option, Some, None, Result, Ok, if◌then◌else◌, not, true, codes}
use Rattle.std.specs.List.{find}
use Rattle.std.specs.Option.{option_copied}
use Rattle.std.specs.Str.{bytes_eq}
use Rattle.thing_topics.specs.declared.faults.TopicFault.{TopicFault}
use Rattle.thing_topics.specs.declared.faults.TopicFault.TheVariants as faults
use Rattle.thing_topics.specs.declared.faults.NameFault.{NameFault}
use Rattle.thing_topics.specs.declared.faults.NameFault.TheVariants as names
use Rattle.thing_topics.specs.declared.shadows.ShadowKind.{ShadowKind}
use Rattle.thing_topics.specs.declared.shadows.ShadowKind.TheVariants as kinds
use Rattle.thing_topics.specs.declared.shadows.ShadowMatch.{ShadowMatch}
use Rattle.thing_topics.specs.Classes.{is_thing, is_shadow_name}
use Rattle.thing_topics.specs.Cuts.{behind, first_level}
use Rattle.thing_topics.specs.Fronts.{front_of, front_text}
use Rattle.thing_topics.specs.Readings.{◌>>=◌, or_fault, tested}

-- the last levels of a topic of this kind
abbrev pub word : ShadowKind → List ℕ
word kinds.Get = codes "get"
word kinds.GetAccepted = codes "get/accepted"
word kinds.GetRejected = codes "get/rejected"
word kinds.Update = codes "update"
word kinds.UpdateAccepted = codes "update/accepted"
word kinds.UpdateRejected = codes "update/rejected"
word kinds.UpdateDelta = codes "update/delta"
word kinds.UpdateDocuments = codes "update/documents"
word kinds.Delete = codes "delete"
word kinds.DeleteAccepted = codes "delete/accepted"
word kinds.DeleteRejected = codes "delete/rejected"

abbrev pub all_kinds : List ShadowKind
all_kinds =
    kinds.Get ∷ kinds.GetAccepted ∷ kinds.GetRejected
    ∷ kinds.Update ∷ kinds.UpdateAccepted ∷ kinds.UpdateRejected ∷ kinds.UpdateDelta ∷ kinds.UpdateDocuments
    ∷ kinds.Delete ∷ kinds.DeleteAccepted ∷ kinds.DeleteRejected ∷ []

-- what a topic of a shadow says
pub record Parts : Type 0 where
  pub thing : List ℕ
  pub name : Option (List ℕ)
  pub kind : ShadowKind

abbrev pub parts_of : List ℕ → Option (List ℕ) → ShadowKind → Parts
parts_of thing name kind = record { thing = thing; name = name; kind = kind }

-- what a reader found
abbrev pub found_parts : ShadowMatch → Parts
found_parts found = parts_of found.thing.now (option_copied found.name) found.kind

-- a name is the level behind `name/`, and a shadow may lack one
abbrev pub with_name : List ℕ → Option (List ℕ) → List ℕ
with_name front None = front
with_name front (Some name) = front ++ codes "name/" ++ name ++ codes "/"

-- how the parts are written
unfoldable pub topic_text : Parts → List ℕ
topic_text parts = with_name (front_text parts.thing (codes "/shadow/")) parts.name ++ word parts.kind

abbrev pub has_class : Option (List ℕ) → Bool
has_class None = true
has_class (Some name) = is_shadow_name name

-- the first part that isn't of its class
unfoldable pub fault_of : List ℕ → Option (List ℕ) → Option NameFault
fault_of thing name = if not (is_thing thing) then Some names.Thing else if not (has_class name) then Some names.Name else None

-- The text is the topic of these parts: each is of its class, and this is how they are written.
pub record IsTopic (text : List ℕ) (parts : Parts) : Type 0 where
  pub classes : fault_of parts.thing parts.name ≡ None
  pub written : text ≡ topic_text parts

-- the kind that is written so
unfoldable pub kind_of : List ℕ → Option ShadowKind
kind_of text = find (λ kind. bytes_eq (word kind) text) all_kinds

abbrev pub place_behind : List ℕ → List ℕ × Option (List ℕ) → Option (List ℕ) × List ℕ
place_behind rest (level, None) = (None, rest)
place_behind rest (level, Some below) = (Some level, below)

abbrev pub place_in : List ℕ → Option (List ℕ) → Option (List ℕ) × List ℕ
place_in rest None = (None, rest)
place_in rest (Some text) = place_behind rest (first_level text)

-- By its form the rest has a name in its place: the level behind `name/`, where a further level follows.
unfoldable pub place_of : List ℕ → Option (List ℕ) × List ℕ
place_of rest = place_in rest (behind (codes "name/") rest)

-- what a text reads as, with the first fault where it is no topic of a shadow
unfoldable pub read : List ℕ → Result Parts TopicFault
read text = do
  front ← front_of (codes "shadow/") text
  place ← tested faults.Part (has_class (place_of front.1).0) (place_of front.1)
  kind ← or_fault faults.Kind (kind_of place.1)
  Ok (record { thing = front.0; name = place.0; kind = kind })
