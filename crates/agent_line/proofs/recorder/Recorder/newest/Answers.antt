use Rattle.std.proofs.Common.{reverse, sym, subst, ap, ◌∙◌}
use Rattle.std.specs.List.{AllByRecursion}
use Rattle.agent_journal.specs.Sound.{IsSoundEffect}
use Rattle.agent_line.specs.Recorded.{newest_effects}
use Rattle.agent_line.proofs.Making.{newest_sound}
use Rattle.agent_line.proofs.recorder.Recorder.newest.Goals as goal

pub returns-clause-sound : goal.returns-clause-sound
returns-clause-sound g c =
    subst (AllByRecursion IsSoundEffect) (sym (c.last_effects.ensures ∙ ap (λ xs. newest_effects (reverse xs)) c.as_slice.ensures.value))
    (newest_sound c.self.inside.core (reverse c.self.inside.entries.items) c.self.invariant.0 c.self.invariant.1)
