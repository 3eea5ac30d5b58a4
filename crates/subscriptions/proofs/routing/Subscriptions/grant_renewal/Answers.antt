use Rattle.std.proofs.Common.{◌≡◌, ◌∙◌, ap, length, Some}
use Rattle.std.specs.List.{find}
use Rattle.agent_table.specs.Routes.{Renewal}
use Rattle.subscriptions.specs.Routing.{Routing, is_renewal, renewal_len}
use Rattle.subscriptions.proofs.Keeping.{kept_confirmed}
use Rattle.subscriptions.proofs.Renewals.{confirmed_as, is_there}
use Rattle.subscriptions.proofs.routing.Subscriptions.grant_renewal.Goals as goal
use Rattle.subscriptions.proofs.routing.Subscriptions.grant_renewal.Goals.{in-Some, in_default}

pub invariant_of-self : goal.invariant_of-self
invariant_of-self g c = elim c.match-find.branch [
  | in-Some w ↦
      rw w.self-inside-is
      (rw w.confirm_all.ensures (kept_confirmed w.as_slice-asks.result.now w.as_slice.result.now g.row.ROUTES c.self.inside.granted c.self.inside.asked.items c.self.invariant))
  | in_default w ↦ rw w.self-inside-is c.self.invariant
]

pub returns : goal.returns
returns g c = elim c.match-find.branch [
  | in-Some w ↦
      let found : Some w.in-Some.renewal.now ≡ find (is_renewal c.args.id) c.self.inside.renewals.items = rw c.deref.ensures.value at w.in-Some.ensures in
      let asks = w.as_slice-asks.ensures ∙ ap (λ (r : Renewal). r.asks) w.renewal.view_is in
      let k : Routing = record { granted = c.self.inside.granted; asked = c.self.inside.asked.items; renewals = c.self.inside.renewals.items } in
      rw (← c.self.view_is, c.drop_id.ensures, w.self-inside-is, w.confirm_all.ensures, asks, w.as_slice.ensures) (confirmed_as c.args.id c.args.codes.now k w.in-Some.renewal.now found)
  | in_default w ↦
      let k : Routing = record { granted = c.self.inside.granted; asked = c.self.inside.asked.items; renewals = c.self.inside.renewals.items } in
      absurd (is_there c.args.id (length c.args.codes.now) k (rw c.deref.ensures.value at w.in_default.ensures) (ap (λ (r : Routing). renewal_len c.args.id r) c.self.view_is ∙ c.requires.renewal))
]
