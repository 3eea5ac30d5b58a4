-- What a writer has behind each step.
use Rattle.std.specs.Prelude.{List, [], ◌∷◌, ◌++◌}
use Rattle.device_docs.specs.declared.changes.Change.{Change}
use Rattle.shadow_mirror.specs.Writers.{Writing}
use Rattle.mirror_run.specs.declared.steps.MirrorStep.{MirrorStep}
use Rattle.mirror_run.specs.declared.steps.MirrorStep.TheVariants as s

pub record Noted : Type 0 where
  pub published : List Change
  pub pending : List Change

abbrev pub none_noted : Noted
none_noted = record { published = []; pending = [] }

abbrev pub noted_of : Writing → Noted
noted_of w = record { published = w.published.changes; pending = w.pending }

abbrev pub after : Noted → MirrorStep → Noted
after n (s.Change c) = record { published = n.published; pending = n.pending ++ c ∷ [] }
after n s.Publish = record { published = n.published ++ n.pending; pending = [] }
