-- Commands that read a source: what they answer where it is too long, has a bad line or fails.
use Rattle.std.specs.Prelude.{◌≡◌, ◌⊎◌, ℕ, List, ◌∷◌, [], length, Option, IfSome, if◌then◌else◌, nat_lt, codes, decimal}
use Rattle.agent_link.specs.Counts.{raised}
use Rattle.journal_text.specs.Texts.{joined, line_end}
use Rattle.command_answers.specs.Answers.{Answer, answer, SinkNow, Ends}

-- How many bytes a source may have.
abbrev pub source_limit : ℕ
source_limit = 1048576

abbrev pub too_long : Answer
too_long = answer 2 (codes "fault script long\n")

-- the line with this number, counted from 1, isn't in the grammar
abbrev pub bad_line : ℕ → Answer
bad_line number = answer 2 (joined (codes "fault script " ∷ decimal number ∷ line_end ∷ []))

abbrev pub source_failed : Answer
source_failed = answer 9 (codes "fault source\n")

-- The length is judged before the lines.
unfoldable pub within_limit : (List ℕ → Answer) → List ℕ → Answer
within_limit to text = if nat_lt source_limit (length text) then too_long else to text

-- A source at one moment: what is left of it, where it tells that, and its count of faults.
pub record SourceNow : Type 0 where
  pub left : Option (List ℕ)
  pub faults : ℕ

abbrev pub source_now : Option (List ℕ) → ℕ → SourceNow
source_now left faults = record { left = left; faults = faults }

-- No call of the source failed, and the command ended with the answer to a text, which is all that the source had where it tells
-- that.
pub record EndsByText (status : ℕ) (source source_then : SourceNow) (before now : SinkNow) (to : List ℕ → Answer) : Type 0 where
  pub text : List ℕ
  pub is_all : IfSome source.left (λ all. all ≡ text)
  pub faults : source_then.faults ≡ source.faults
  pub ends : Ends status before now (to text)

-- A call of the source failed, which was counted, and the command ended with saying so.
pub record EndsByFault (status : ℕ) (source source_then : SourceNow) (before now : SinkNow) : Type 0 where
  pub faults : source_then.faults ≡ raised source.faults
  pub ends : Ends status before now source_failed

-- How a command ended that answers so to its source's text.
abbrev pub EndsBySource : ℕ → SourceNow → SourceNow → SinkNow → SinkNow → (List ℕ → Answer) → Type 0
EndsBySource status source source_then before now to =
    EndsByText status source source_then before now to ⊎ EndsByFault status source source_then before now
