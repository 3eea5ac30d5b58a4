-- What the rest of the steps makes of the writer is what all of them make of it.
use Rattle.std.proofs.Common.{◌≡◌, fold}
use Rattle.std.specs.Vec.Iter.{into_iter_items}
use Rattle.mirror_run.specs.Noted.{after, noted_of}
use Rattle.mirror_run.proofs.running.write_each.Given as goal

abbrev pub invariant-loop-step : goal.invariant-loop-step
invariant-loop-step g l = record {
  book : l.writer.published.book ≡ l.fn.writer.published.book;
  so_far : fold after (noted_of l.writer) (into_iter_items l.step-iterator) ≡ fold after (noted_of l.fn.writer) l.fn.steps.items;
}
