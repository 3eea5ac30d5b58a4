-- What a writer has.
use Rattle.std.specs.Prelude.{List, Option, Some, None}
use Rattle.device_docs.specs.declared.changes.Change.{Change}
use Rattle.shadow_mirror.specs.Pasts.{Past}

pub record Writing : Type 0 where
  pub published : Past
  pub pending : List Change

abbrev pub or_else : {X Y : Type 0} → Y → Option X → (X → Y) → Y
or_else y None f = y
or_else y (Some x) f = f x
