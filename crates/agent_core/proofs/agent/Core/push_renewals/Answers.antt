use Rattle.std.proofs.Common.{◌≡◌, ◌++◌, [], length, take, drop, ap, ◌∙◌, subst, arith, true, false}
use Rattle.agent_table.specs.Effects.{subscribes}
use Rattle.agent_table.specs.Identifiers.{fresh}
use Rattle.subscriptions.specs.Routing.{renewable}
use Rattle.agent_core.specs.Kept.{Kept, used_in}
use Rattle.agent_core.proofs.Subscribing.{subscribed_more, more_left}
use Rattle.agent_core.proofs.agent.Core.push_renewals.Goals as goal

pub loop-drawn-preserved : goal.loop-drawn-preserved
loop-drawn-preserved g c =
    let part : c.in_ok-asks.asks ≡ take 8 (drop c.loop-drawn.from (renewable c.args.all c.args.self.now.routing)) =
    subst (λ (k : Kept). c.in_ok-asks.asks ≡ take 8 (drop c.loop-drawn.from (renewable c.args.all k.routing))) c.self.view_is c.in_ok-asks.ensures.part in
    let some : c.in_ok-asks.asks ≡ [] → ⊥ = (λ none. let e : false ≡ true = c.if-is_empty.ensures.1 none in cc e) in
    let more = more_left c.loop-drawn.from (renewable c.args.all c.args.self.now.routing) c.in_ok-asks.asks part some in (
      omega (arith, more),
      subscribed_more c.loop-drawn.effects c.push.new.self (c.args.effects.now ++ subscribes (length (renewable c.args.all c.args.self.now.routing)) c.args.self.now.last_drawn (used_in c.args.self.now) (renewable c.args.all c.args.self.now.routing))
          c.loop-drawn.from c.loop-drawn.last c.fresh-last.result c.loop-drawn.drawn.items c.insert.new.self.items (used_in c.args.self.now) (renewable c.args.all c.args.self.now.routing) c.in_ok-asks.asks part some
          (c.fresh-last.ensures ∙ ap (λ ids. fresh c.loop-drawn.last (ids ++ used_in c.args.self.now)) c.as_slice.ensures.value) c.in_ok-insert.ensures.items c.loop-drawn.invariant.1 c.in_ok-push.ensures.ok,
    )
