-- How the entries so far have ended, and the phase behind them.
use Rattle.std.proofs.Common.{◌≡◌, take, reverse}
use Rattle.journal_text.specs.Statuses.{ending_told, phase_told}
use Rattle.journal_text.proofs.status.ending_told.Given as goal

abbrev pub invariant-loop-entry : goal.invariant-loop-entry
invariant-loop-entry l = record {
  ended : l.ending ≡ ending_told (reverse (take l.entry-index l.entries));
  phase : l.phase ≡ phase_told (reverse (take l.entry-index l.entries));
}
