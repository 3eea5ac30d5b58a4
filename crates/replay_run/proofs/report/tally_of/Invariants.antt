-- Both counts over the entries so far.
use Rattle.std.proofs.Common.{◌≡◌, ◌≤◌, ◌*◌, ◌^◌, take, reverse}
use Rattle.agent_journal.specs.Projections.{commands_of, completed_of}
use Rattle.replay_run.proofs.report.tally_of.Given as goal

abbrev pub invariant-loop-entry : goal.invariant-loop-entry
invariant-loop-entry l = record {
  sent_so_far : l.sent ≡ commands_of 0 (reverse (take l.entry-index l.journal));
  got_so_far : l.got ≡ completed_of 0 (reverse (take l.entry-index l.journal));
  sent_small : l.sent ≤ l.entry-index * 2 ^ 64;
  got_small : l.got ≤ l.entry-index * 2 ^ 64;
}
