-- What a reader knows.
use Rattle.std.specs.Prelude.{List}
use Rattle.logbook.specs.Pages.{Book}
use Rattle.device_docs.specs.declared.changes.Change.{Change}

pub record Reading : Type 0 where
  pub book : Book
  -- the changes behind its last read
  pub seen : List Change
  -- and those that it was told of
  pub told : List Change
