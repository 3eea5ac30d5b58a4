-- Both counts over the entries so far.
use Rattle.std.proofs.Common.{◌≡◌, ◌≤◌, ◌*◌, ◌^◌, take}
use Rattle.thing_script.specs.Kinds.{count_passed, is_shadow_of, is_jobs_of}
use Rattle.thing_script.proofs.kinds.kinds_of.Given as goal

abbrev pub invariant-loop-entry : goal.invariant-loop-entry
invariant-loop-entry l = record {
  shadow_so_far : l.shadow ≡ count_passed l.task (is_shadow_of l.thing) (take l.entry-index l.journal);
  jobs_so_far : l.jobs ≡ count_passed l.task (is_jobs_of l.thing) (take l.entry-index l.journal);
  shadow_small : l.shadow ≤ l.entry-index * 2 ^ 64;
  jobs_small : l.jobs ≤ l.entry-index * 2 ^ 64;
}
