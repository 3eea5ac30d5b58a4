-- Both counts over the effects so far.
use Rattle.std.proofs.Common.{◌≡◌, ◌≤◌, take, count_by}
use Rattle.thing_script.specs.Kinds.{passes, is_shadow_of, is_jobs_of}
use Rattle.thing_script.proofs.kinds.kinds_in.Given as goal

abbrev pub invariant-loop-effect : goal.invariant-loop-effect
invariant-loop-effect l = record {
  shadow_so_far : l.shadow ≡ count_by (passes l.task (is_shadow_of l.thing)) (take l.effect-index l.effects);
  jobs_so_far : l.jobs ≡ count_by (passes l.task (is_jobs_of l.thing)) (take l.effect-index l.effects);
  shadow_small : l.shadow ≤ l.effect-index;
  jobs_small : l.jobs ≤ l.effect-index;
}
