use Rattle.std.proofs.Common.{◌≡◌, ◌∙◌, ap, refl, false, List}
use Rattle.mqtt_packet.specs.declared.will.Ask.{Ask}
use Rattle.subscriptions.specs.Routing.{Routing, Asked, has_room}
use Rattle.subscriptions.specs.Rooms.{are_filters}
use Rattle.subscriptions.proofs.Keeping.{kept_one_more}
use Rattle.subscriptions.proofs.routing.Subscriptions.ask.Goals as goal

pub invariant_of-self-2 : goal.invariant_of-self-2
invariant_of-self-2 g c =
    let new : Asked = record { task = c.args.task; id = c.args.id; asks = c.into_vec-asks.result.items; left = false } in
    let copied : c.into_vec-asks.result.items ≡ c.args.asks.now = c.into_vec-asks.ensures ∙ c.in_ok-copy.ensures in
    let room = ap (λ (k : Routing). has_room g.row.ROUTES k c.args.task c.into_vec-asks.result.items) c.self.view_is ∙ ap (λ (l : List Ask). has_room g.row.ROUTES c.args.self.now c.args.task l) copied ∙ c.requires.room in
    rw c.in_ok-push.ensures.items (kept_one_more g.row.ROUTES c.self.inside.granted c.self.inside.asked.items new c.self.invariant refl room (ap (λ (l : List Ask). are_filters l) copied ∙ c.requires.filters))
