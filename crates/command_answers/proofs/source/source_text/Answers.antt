use Rattle.std.proofs.Common.{rules, arith}
use Rattle.command_answers.proofs.Sourced.{long, failed}
use Rattle.command_answers.proofs.source.source_text.Goals as goal

pub returns-in-Ok-2-clause-ends : goal.returns-in-Ok-2-clause-ends
returns-in-Ok-2-clause-ends g c =
    λ to. long to c.finish.result _ _ c.in-Ok.text.items _ _ _ _ c.in-Ok.ensures.bytes (omega (arith, c.if-len-le-SOURCE_LIMIT.false, c.len.ensures)) c.in-Ok.ensures.cause c.finish.ensures.ends

pub returns-in-Err-Failed-clause-ends : goal.returns-in-Err-Failed-clause-ends
returns-in-Err-Failed-clause-ends g c = λ to. failed to c.finish-in-Err-Failed.result _ _ _ _ _ _ (search rules) c.finish-in-Err-Failed.ensures.ends
