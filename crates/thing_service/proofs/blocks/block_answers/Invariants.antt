-- The answers so far are those of the first blocks.
use Rattle.std.proofs.Common.{◌≡◌, map, take}
use Rattle.thing_service.specs.Answers.{data_topic}
use Rattle.thing_service.specs.Blocks.{message}
use Rattle.thing_service.proofs.blocks.block_answers.Given as goal

abbrev pub invariant-loop-index : goal.invariant-loop-index
invariant-loop-index l = l.answers ≡ map (λ i. (data_topic l.thing l.stream, message l.offer l.request.size i)) (take l.index-index l.index-items)
