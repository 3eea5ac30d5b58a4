use Rattle.agent_journal.proofs.Notes.{notes_are_projections}
use Rattle.agent_journal.proofs.laws.notes_are_projections.Goals as goal

pub returns : goal.returns
returns c = notes_are_projections
