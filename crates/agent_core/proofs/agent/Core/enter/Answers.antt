use Rattle.std.proofs.Common.{◌≡◌, ◌≤◌, ℕ, ◌++◌, length, refl, ap, sym, ◌∙◌, subst, arith, rules}
use Rattle.agent_table.specs.Rows.{Row}
use Rattle.agent_core.specs.Kept.{Kept}
use Rattle.agent_table.specs.Deliveries.{released_behind}
use Rattle.agent_core.specs.After.{routing_asked}
use Rattle.agent_core.specs.Completions.{books}
use Rattle.agent_core.specs.Renewing.{as_list}
use Rattle.agent_core.proofs.Ready.{IsKept, IsReady, ready, takes_length, left_length, still_few}
use Rattle.agent_core.proofs.agent.Core.enter.Goals as goal

pub ask-requires : goal.ask-requires
ask-requires g c =
    let kept : IsKept c.args.self.now = subst (λ (k : Kept). IsKept k) c.self.view_is (record {
      takes = c.self.invariant.0;
      left = c.self.invariant.1;
      drawn = search rules;
      acks = c.self.invariant.5.acks_few;
      routes = c.self.invariant.5.routes_few;
      pending = (let count = c.len.ensures.count in let most = c.len.ensures.most in omega (arith, count, most));
      renewals = c.self.invariant.5.renewals_few;
      renewable = c.renewals_len.ensures.few;
    }) in
    let all : IsReady c.args.self.now c.args.cause.now c.as_slice-effects.result.now c.in_ok-opened.opened =
    ready c.args.self.now c.args.at c.args.cause.now c.in_ok-row.row c.as_slice-effects.result.now c.in_ok-opened.opened kept c.in_ok-row.ensures (c.as_slice-effects.ensures ∙ ap (λ (row : Row). row.effects) c.row-2.view_is) c.in_ok-opened.ensures in
    let its = subst (λ (k : Kept). IsReady k c.args.cause.now c.as_slice-effects.result.now c.in_ok-opened.opened) (sym c.self.view_is) all in
    (omega arith, its.asks)

pub note_books-requires : goal.note_books-requires
note_books-requires g c =
    let kept : IsKept c.args.self.now = subst (λ (k : Kept). IsKept k) c.self.view_is (record {
      takes = c.self.invariant.0;
      left = c.self.invariant.1;
      drawn = search rules;
      acks = c.self.invariant.5.acks_few;
      routes = c.self.invariant.5.routes_few;
      pending = (let count = c.len.ensures.count in let most = c.len.ensures.most in omega (arith, count, most));
      renewals = c.self.invariant.5.renewals_few;
      renewable = c.renewals_len.ensures.few;
    }) in
    let all : IsReady c.args.self.now c.args.cause.now c.as_slice-effects.result.now c.in_ok-opened.opened =
    ready c.args.self.now c.args.at c.args.cause.now c.in_ok-row.row c.as_slice-effects.result.now c.in_ok-opened.opened kept c.in_ok-row.ensures (c.as_slice-effects.ensures ∙ ap (λ (row : Row). row.effects) c.row-2.view_is) c.in_ok-opened.ensures in
    let its = subst (λ (k : Kept). IsReady k c.args.cause.now c.as_slice-effects.result.now c.in_ok-opened.opened) (sym c.self.view_is) all in
    (omega arith, (omega arith, (omega arith, (c.self.invariant.4, (its.holds, its.opens)))))

pub note_task-requires : goal.note_task-requires
note_task-requires g c =
    let kept : IsKept c.args.self.now = subst (λ (k : Kept). IsKept k) c.self.view_is (record {
      takes = c.self.invariant.0;
      left = c.self.invariant.1;
      drawn = search rules;
      acks = c.self.invariant.5.acks_few;
      routes = c.self.invariant.5.routes_few;
      pending = (let count = c.len.ensures.count in let most = c.len.ensures.most in omega (arith, count, most));
      renewals = c.self.invariant.5.renewals_few;
      renewable = c.renewals_len.ensures.few;
    }) in
    let all : IsReady c.args.self.now c.args.cause.now c.as_slice-effects.result.now c.in_ok-opened.opened =
    ready c.args.self.now c.args.at c.args.cause.now c.in_ok-row.row c.as_slice-effects.result.now c.in_ok-opened.opened kept c.in_ok-row.ensures (c.as_slice-effects.ensures ∙ ap (λ (row : Row). row.effects) c.row-2.view_is) c.in_ok-opened.ensures in
    let its = subst (λ (k : Kept). IsReady k c.args.cause.now c.as_slice-effects.result.now c.in_ok-opened.opened) (sym c.self.view_is) all in
    its.range

pub invariant_of-self-2 : goal.invariant_of-self-2
invariant_of-self-2 g c =
    let kept : IsKept c.args.self.now = subst (λ (k : Kept). IsKept k) c.self.view_is (record {
      takes = c.self.invariant.0;
      left = c.self.invariant.1;
      drawn = search rules;
      acks = c.self.invariant.5.acks_few;
      routes = c.self.invariant.5.routes_few;
      pending = (let count = c.len.ensures.count in let most = c.len.ensures.most in omega (arith, count, most));
      renewals = c.self.invariant.5.renewals_few;
      renewable = c.renewals_len.ensures.few;
    }) in
    let all : IsReady c.args.self.now c.args.cause.now c.as_slice-effects.result.now c.in_ok-opened.opened =
    ready c.args.self.now c.args.at c.args.cause.now c.in_ok-row.row c.as_slice-effects.result.now c.in_ok-opened.opened kept c.in_ok-row.ensures (c.as_slice-effects.ensures ∙ ap (λ (row : Row). row.effects) c.row-2.view_is) c.in_ok-opened.ensures in
    let its = subst (λ (k : Kept). IsReady k c.args.cause.now c.as_slice-effects.result.now c.in_ok-opened.opened) (sym c.self.view_is) all in (
      takes_length c.args.cause.now c.self.inside.takes.items c.note_task.new.takes.items c.self.inside.setup.tasks c.self.invariant.0 c.note_task.ensures.takes,
      left_length c.args.cause.now c.self.inside.left.items c.note_task.new.left.items c.self.inside.setup.tasks c.self.invariant.1 c.note_task.ensures.left,
      c.breaks_behind-self-inside.ensures.most,
      subst (λ (n : ℕ). c.accepted_behind-self-inside.result ≤ n) (c.most_accepted.ensures c.self.inside.setup refl) c.accepted_behind-self-inside.ensures.most,
      c.note_books.ensures.tied,
      record {
        acks_few = c.self.invariant.5.acks_few;
        routes_few = c.self.invariant.5.routes_few;
        renewals_few = subst (λ (n : ℕ). length c.note_books.new.subscriptions.renewals ≤ n) (ap (λ (k : Kept). k.sizes.routes) (sym c.self.view_is))
            (still_few c.args.self.now c.args.cause.now c.as_slice-effects.result.now c.in_ok-opened.opened c.ask.new.subscriptions (c.self.inside.pending ++ as_list c.in_ok-opened.opened) (released_behind c.self.inside.pending c.self.inside.qos.released c.args.cause.now)
            c.loses_session-lost.result (books c.note_books.new.pending c.note_books.new.qos.released c.note_books.new.subscriptions) all
            (subst (λ (k : Kept). c.ask.new.subscriptions ≡ routing_asked c.args.cause.now c.as_slice-effects.result.now (as_list c.in_ok-opened.opened) k.routing) c.self.view_is c.in_ok-ask.ensures.asked) c.note_books.ensures.books);
      },
    )
