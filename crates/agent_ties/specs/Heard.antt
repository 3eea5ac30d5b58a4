-- What each connection gave, between two receives and while packets are handed in.
use Rattle.std.specs.Prelude.{◌≡◌, ℕ, false, List, [], None}
use Rattle.mqtt_packet.specs.declared.splitter.Next.TheVariants as answers
use Rattle.mqtt_packet.specs.Splitting.{Kept as Stream, StandsFor, Tells}
use Rattle.agent_journal.specs.declared.entry.Cause.{Cause}
use Rattle.agent_journal.specs.declared.setup.Phase.{Phase}
use Rattle.agent_journal.specs.declared.setup.Phase.TheVariants.{Down, Opening, Up, Spilled, Off}
use Rattle.agent_journal.specs.Wires.{arrives}
use Rattle.agent_table.specs.Ties.{Moment, stages, arrived, has_verdict, is_verdict, Heard}
use Rattle.agent_ties.specs.Seen.{Seen, phase_seen}
use Rattle.agent_ties.specs.Wired.{TiedBut}

-- While the agent listens, the stream stands for what came and what was handed in, and goes on.
pub record IsGoing (stream : Stream) (ms : List Moment) (bs : List ℕ) : Type 0 where
  pub stands : StandsFor stream bs (arrived ms)
  pub unended : stream.verdict ≡ None
  pub quiet : has_verdict ms ≡ false

-- all whole packets were handed in
pub record IsHandedIn (stream : Stream) (ms : List Moment) (bs : List ℕ) : Type 0 where
  pub going : IsGoing stream ms bs
  pub tells : Tells bs (arrived ms) answers.More

abbrev pub LastHeard : (Stream → List Moment → List ℕ → Type 0) → Phase → Stream → List Moment → List ℕ → Type 0
LastHeard Listening Down stream = Heard
LastHeard Listening Opening stream = Listening stream
LastHeard Listening Up stream = Listening stream
LastHeard Listening Spilled stream = Heard
LastHeard Listening Off stream = Heard

abbrev pub AreTold : (Stream → List Moment → List ℕ → Type 0) → Seen → Type 0
AreTold Listening v = TiedBut Heard (LastHeard Listening (phase_seen v) v.stream) (stages v.setup v.sizes v.past) v.given

-- between two receives, and while packets are handed in
abbrev pub AreHeard : Seen → Type 0
AreHeard v = AreTold IsHandedIn v

abbrev pub AreHanding : Seen → Type 0
AreHanding v = AreTold IsGoing v

-- a cause that is no packet, and no verdict on bytes
abbrev pub IsPlain : Cause → Type 0
IsPlain cause = (arrives cause ≡ []) × (is_verdict cause ≡ false)
