use Rattle.std.proofs.Common.{◌∙◌, ◌∷◌, sym, ap, reverse, length, arith}
use Rattle.std.specs.Option.{unwrap_or}
use Rattle.subscriptions.proofs.Additions.{added_is, not_added, one_longer, coded_is, not_coded}
use Rattle.subscriptions.proofs.added.add.Goals as goal
use Rattle.subscriptions.proofs.added.add.Goals.{else-code-lt128-via-then-code-lt128+else-not-has, else-code-lt128-via-else-code-lt128}

pub push-requires : goal.push-requires
push-requires g c =
    let one = one_longer c.args.task (c.args.ask ∷ reverse c.args.later.now) c.args.granted.now c.args.ask.filter (sym c.has.ensures ∙ c.if-not-has.true) in
    let coded = ap length (coded_is c.args.task (c.args.ask ∷ reverse c.args.later.now) c.args.code c.args.granted.now c.args.ask.filter c.if-code-lt128.true) in
    let room = c.requires in
    omega (arith, one, coded, room)

pub returns-then-not-has : goal.returns-then-not-has
returns-then-not-has g c =
    c.push.ensures
    ∙ added_is c.args.task c.args.ask c.args.later.now c.args.granted.now c.unwrap_or-qos.result (sym c.has.ensures ∙ c.if-not-has.true) (c.unwrap_or-qos.ensures ∙ ap (λ later. unwrap_or later c.args.ask.qos) c.first_asked.ensures)
    ∙ coded_is c.args.task (c.args.ask ∷ reverse c.args.later.now) c.args.code c.args.granted.now c.args.ask.filter c.if-code-lt128.true

pub returns-else-code-lt128 : goal.returns-else-code-lt128
returns-else-code-lt128 g c = elim c.else-code-lt128.branch [
  | else-code-lt128-via-then-code-lt128+else-not-has w ↦
      not_added c.args.task c.args.ask c.args.later.now c.args.granted.now (sym w.has.ensures ∙ w.if-not-has.false)
      ∙ coded_is c.args.task (c.args.ask ∷ reverse c.args.later.now) c.args.code c.args.granted.now c.args.ask.filter w.if-code-lt128.true
  | else-code-lt128-via-else-code-lt128 w ↦ not_coded c.args.task (c.args.ask ∷ reverse c.args.later.now) c.args.code c.args.granted.now c.args.ask.filter w.if-code-lt128.false
]
