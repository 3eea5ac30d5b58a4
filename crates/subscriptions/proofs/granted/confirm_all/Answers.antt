use Rattle.std.proofs.Common.{rules, ◌∙◌}
use Rattle.subscriptions.specs.Parts.{left_of}
use Rattle.subscriptions.proofs.Subacks.{left_of_all}
use Rattle.subscriptions.proofs.granted.confirm_all.Goals as goal

pub returns : goal.returns
returns g c = c.update.ensures (left_of c.args.asks.now c.args.codes.now) (λ route answer k. search rules) ∙ left_of_all c.args.asks.now c.args.codes.now c.args.granted.now
