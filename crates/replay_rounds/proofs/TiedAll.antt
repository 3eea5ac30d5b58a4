-- A replay's journal is tied to its link and its clock.
use Rattle.std.proofs.Common.{◌≡◌, ℕ, List, refl, subst, arith}
use Rattle.agent_link.specs.Counts.{uncounted}
use Rattle.broker_tape.specs.declared.tape.Item.{Item}
use Rattle.agent_script.specs.declared.script.Line.{Line}
use Rattle.agent_journal.specs.declared.setup.Setup.{Setup}
use Rattle.agent_journal.specs.Wires.{AreReadings}
use Rattle.agent_table.specs.Sizes.{Sizes}
use Rattle.agent_table.specs.Ties.{IsCounted, IsTied}
use Rattle.agent_ties.proofs.Whole.{ties_are_whole}
use Rattle.replay_rounds.specs.World.{World}
use Rattle.broker_tape.specs.Given.{GivesBytes}
use Rattle.replay_rounds.specs.Rounds.{after, begun}
use Rattle.replay_rounds.proofs.Counted.{counted_after}
use Rattle.replay_rounds.proofs.Ends.{begun_steady}
use Rattle.replay_rounds.proofs.Seen.{seen}
use Rattle.replay_rounds.proofs.Stays.{after_of}
use Rattle.agent_ties.specs.Ties.{Ties}
use Rattle.replay_rounds.proofs.TiedRounds.{ties_after}
use Rattle.replay_rounds.proofs.Times.{HasReadings, read_after, has_readings}

tied_of : (w : World) (readings : List ℕ) → Ties (seen w) → AreReadings readings w.past → IsCounted w.past uncounted w.counts
    → IsTied w.setup w.sizes w.past w.taken w.given readings uncounted w.counts
tied_of w readings h times counts =
    let whole = ties_are_whole (seen w) h in
    record { wired = whole.0; heard = whole.1; times = times; counts = counts }

-- A replay behind so many rounds, with the readings of its clock.
pub record IsTiedWorld (setup : Setup) (sizes : Sizes) (w : World) : Type 0 where
  pub read : HasReadings w
  pub tied : IsTied setup sizes w.past w.taken w.given read.readings uncounted w.counts

pub tied_after : (n : ℕ) (setup : Setup) (sizes : Sizes) (tick : ℕ) (lines : List Line) (items : List Item) → setup.tasks ≡ 1 → GivesBytes items → IsTiedWorld setup sizes (after n (begun setup sizes tick lines items))
tied_after n setup sizes tick lines items one gives =
    let start = begun setup sizes tick lines items in
    let w = after n start in
    let steady = begun_steady setup sizes tick lines items one in
    let same = after_of n setup sizes start (refl, refl) in
    let counted = counted_after n start (record { faults = omega arith; ends = omega arith; nothings = omega arith }) in
    let read = has_readings w (read_after n start steady (λ few. tt)) in
    let readings = read.readings in
    let tied = tied_of w readings (ties_after n start steady (record { wired = tt; heard = tt }) gives) read.times counted in
    record {
      read = read;
      tied = subst (λ s. IsTied s sizes w.past w.taken w.given readings uncounted w.counts) same.0 (subst (λ l. IsTied w.setup l w.past w.taken w.given readings uncounted w.counts) same.1 tied);
    }
