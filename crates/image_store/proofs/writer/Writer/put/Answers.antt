use Rattle.std.proofs.Common.{ℕ, subst}
use Rattle.image_store.specs.Standing.{StandsFor, put_behind}
use Rattle.image_store.proofs.writer.Writer.put.Goals as goal

pub returns-clause-stands : goal.returns-clause-stands
returns-clause-stands g c bs is bytes told =
    subst (λ (i : ℕ). StandsFor (put_behind bs c.put_checked.result i c.args.payload.now) c.put_checked.new.self bytes) c.in_ok-index.ensures.index.0 (c.put_checked.ensures.stands bs is bytes told)
