-- Counts of a journal are no more than its entries can bring.
use Rattle.std.specs.Prelude.{◌*◌, ◌^◌, ◌≤◌}
use Rattle.session_world.specs.declared.notes.Notes.{Notes}

pub record AreFew (n : Notes) : Type 0 where
  pub takes : n.takes ≤ n.entries
  pub published : n.published ≤ n.entries
  -- an entry has fewer than 2 ^ 64 effects
  pub done : n.done ≤ n.entries * 2 ^ 64
  pub told : n.told ≤ n.entries * 2 ^ 64
