use Rattle.std.proofs.Common.{rules}
use Rattle.image_store.proofs.Histories.{again_is, new_is, fault_is}
use Rattle.image_store.proofs.writer.Writer.put_checked.Goals as goal

pub returns-then-not-is_missing-clause-stands : goal.returns-then-not-is_missing-clause-stands
returns-then-not-is_missing-clause-stands g c bs is =
    again_is bs c.args.self.now (g.B.Bank.contents c.args.bank.now) (g.B.Bank.contents c.args.bank.now) c.args.payload.now c.args.index is (search rules) (search rules)

pub returns-clause-stands : goal.returns-clause-stands
returns-clause-stands g c bs is =
    new_is bs c.args.self.now (g.B.Bank.contents c.args.bank.now) (g.B.Bank.contents c.write_at.new.self) c.args.payload.now c.args.index is _ (search rules) (search rules) (search rules) (search rules) (search rules) (search rules)

pub returns-in_err-write_at-clause-stands : goal.returns-in_err-write_at-clause-stands
returns-in_err-write_at-clause-stands g c bs is =
    fault_is bs c.args.self.now (g.B.Bank.contents c.args.bank.now) (g.B.Bank.contents c.write_at.new.self) c.args.payload.now c.args.index is (search rules) (search rules) (search rules) (search rules) (search rules) c.from_residual.result (search rules)
