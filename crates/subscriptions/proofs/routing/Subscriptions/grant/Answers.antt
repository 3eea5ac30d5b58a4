use Rattle.std.proofs.Common.{◌≡◌, ◌∙◌, sym, ap, Some, arith}
use Rattle.std.specs.List.{position}
use Rattle.agent_table.specs.Routes.{coded, granted_in}
use Rattle.subscriptions.specs.Routing.{Routing, Asked, has_id, granted_by, settled_before}
use Rattle.subscriptions.proofs.Grants.{kept_granted, granted_room, settled_place, found_there, none_there, granted_as_found, granted_as_none}
use Rattle.subscriptions.proofs.routing.Subscriptions.grant.Goals as goal

pub returns-in_default : goal.returns-in_default
returns-in_default g c =
    let k : Routing = record { granted = c.self.inside.granted; asked = c.self.inside.asked.items; renewals = c.self.inside.renewals.items } in
    rw (← c.self.view_is) (granted_as_none c.args.id c.args.codes.now k (none_there c.args.id c.self.inside.asked.items (rw c.deref.ensures.value at c.in_default.ensures)))

pub grant_to-requires : goal.grant_to-requires
grant_to-requires g c =
    let place : position (has_id c.args.id) c.self.inside.asked.items ≡ Some c.in-Some.place = sym (rw c.deref.ensures.value at c.in-Some.ensures) in
    let kept = kept_granted g.row.ROUTES c.self.inside.granted c.self.inside.asked.items c.args.id c.remove-open.result c.as_slice-codes.result.now c.in-Some.place c.self.invariant place c.remove-open.ensures.value in
    let few = granted_room g.row.ROUTES (granted_by c.remove-open.result (granted_in (coded c.remove-open.result.asks c.as_slice-codes.result.now)) c.self.inside.granted)
    (settled_before c.args.id (granted_in (coded c.remove-open.result.asks c.as_slice-codes.result.now)) c.remove-open.result.asks c.self.inside.asked.items) kept
    in
    (omega arith, few)

pub invariant_of-self : goal.invariant_of-self
invariant_of-self g c =
    let place : position (has_id c.args.id) c.self.inside.asked.items ≡ Some c.in-Some.place = sym (rw c.deref.ensures.value at c.in-Some.ensures) in
    let kept = kept_granted g.row.ROUTES c.self.inside.granted c.self.inside.asked.items c.args.id c.remove-open.result c.args.codes.now c.in-Some.place c.self.invariant place c.remove-open.ensures.value in
    let asks = c.deref-2.ensures.value ∙ ap (λ (a : Asked). a.asks) c.open.view_is in
    let asked =
    settled_place c.args.id c.self.inside.asked.items c.in-Some.place c.remove-open.result c.deref-2.result.now c.as_slice-codes.result.now c.args.codes.now c.remove-open.new.self.items c.settle_before.new.asked.items place asks c.as_slice-codes.ensures c.remove-open.ensures.items c.settle_before.ensures
    in
    rw (c.grant_to.ensures, c.as_slice-codes.ensures, asked) kept

pub returns : goal.returns
returns g c =
    let place : position (has_id c.args.id) c.self.inside.asked.items ≡ Some c.in-Some.place = sym (rw c.deref.ensures.value at c.in-Some.ensures) in
    let k : Routing = record { granted = c.self.inside.granted; asked = c.self.inside.asked.items; renewals = c.self.inside.renewals.items } in
    let asks = c.deref-2.ensures.value ∙ ap (λ (a : Asked). a.asks) c.open.view_is in
    let asked =
    settled_place c.args.id c.self.inside.asked.items c.in-Some.place c.remove-open.result c.deref-2.result.now c.as_slice-codes.result.now c.args.codes.now c.remove-open.new.self.items c.settle_before.new.asked.items place asks c.as_slice-codes.ensures c.remove-open.ensures.items c.settle_before.ensures
    in
    rw (← c.self.view_is, c.grant_to.ensures, c.as_slice-codes.ensures, asked)
    (granted_as_found c.args.id c.args.codes.now k c.remove-open.result (found_there c.args.id c.self.inside.asked.items c.in-Some.place c.remove-open.result place c.remove-open.ensures.value))
