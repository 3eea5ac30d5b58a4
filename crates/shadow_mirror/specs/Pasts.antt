-- A beginning of a history, with the history's name.
use Rattle.std.specs.Prelude.{List}
use Rattle.logbook.specs.Pages.{Book}
use Rattle.device_docs.specs.declared.changes.Change.{Change}

pub record Past : Type 0 where
  pub book : Book
  pub changes : List Change
