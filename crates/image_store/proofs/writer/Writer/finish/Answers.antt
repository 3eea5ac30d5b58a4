use Rattle.std.proofs.Common.{rules, []}
use Rattle.image_store.proofs.Histories.{whole_is}
use Rattle.image_store.proofs.writer.Writer.finish.Goals as goal

pub returns-then-ne-clause-whole : goal.returns-then-ne-clause-whole
returns-then-ne-clause-whole g c none bs bytes is told =
    whole_is bs c.args.self.now (g.B.Bank.contents c.args.bank.now) (g.B.Bank.contents c.digest_of.new.bank) [] 0 is (search rules) (search rules) (search rules) bytes told

pub returns-clause-whole : goal.returns-clause-whole
returns-clause-whole g c none bs bytes is told =
    whole_is bs c.args.self.now (g.B.Bank.contents c.args.bank.now) (g.B.Bank.contents c.activate.new.self) [] 0 is (search rules) (search rules) (search rules) bytes told
