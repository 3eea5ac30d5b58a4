-- What a link tells, and how it follows what it told at first.
use Rattle.std.specs.Prelude.{◌≡◌, ℕ, ◌<◌, List, ◌++◌, length, Option, Some, None}
use Rattle.std.specs.Option.{option_map}
use Rattle.mqtt_packet.specs.Splitting.{Kept as Stream}
use Rattle.agent_link.specs.Counts.{LinkCounts}
use Rattle.agent_link.specs.Wires.{onto_last}
use Rattle.agent_ties.specs.Counting.{HasCounted}
use Rattle.agent_ties.specs.Seen.{Seen}
use Rattle.agent_ties.specs.Ties.{Ties}
use Rattle.agent_line.specs.Recorded.{Recorded}

-- the bytes that each connection took and gave, where the link tells them, and its counts
pub record Told : Type 0 where
  pub taken : Option (List (List ℕ))
  pub given : Option (List (List ℕ))
  pub counts : LinkCounts

-- bytes more on the present connection
abbrev pub more_on : Option (List (List ℕ)) → List ℕ → Option (List (List ℕ))
more_on wires bytes = option_map (λ ws. onto_last ws bytes) wires

-- Bytes came on the present connection.
abbrev pub GaveMore : Option (List (List ℕ)) → Option (List (List ℕ)) → Type 0
GaveMore before now = (heard : List ℕ) × (0 < length heard) × (now ≡ more_on before heard)

-- Since then there are these connections, where the link tells its bytes.
abbrev pub Follows : Option (List (List ℕ)) → List (List ℕ) → Option (List (List ℕ)) → Type 0
Follows None own now = Unit {0}
Follows (Some before) own now = now ≡ Some (before ++ own)

abbrev pub seen_in : Recorded → Stream → List (List ℕ) → List (List ℕ) → Seen
seen_in r stream taken given = record { setup = r.setup; sizes = r.sizes; past = r.past; taken = taken; given = given; stream = stream }

-- What the link did since it told `first`: the connections since then took and gave what has this property, and its counts
-- rose by what the journal says, at least, and by the receives that heard nothing on the present connection.
pub record Since (P : Seen → Type 0) (first : Told) (r : Recorded) (stream : Stream) (idle : ℕ) (now : Told) : Type 0 where
  pub taken : List (List ℕ)
  pub given : List (List ℕ)
  pub took : Follows first.taken taken now.taken
  pub gave : Follows first.given given now.given
  pub ties : P (seen_in r stream taken given)
  pub counts : HasCounted r.setup r.sizes r.past idle first.counts now.counts

-- What was tied to the link since any moment still is.
abbrev pub KeepsTies : Recorded → Stream → ℕ → Told → Recorded → Stream → ℕ → Told → Type 0
KeepsTies old stream idle before new behind less now = (first : Told) → Since Ties first old stream idle before → Since Ties first new behind less now
