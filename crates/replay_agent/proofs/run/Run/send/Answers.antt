use Rattle.std.proofs.Common.{◌≡◌, ◌<◌, ◌≤◌, length, ap, ◌∙◌, arith}
use Rattle.std.proofs.lemmas.Result.{on_ok_weaker}
use Rattle.agent_journal.specs.declared.entry.Cause.TheVariants as causes
use Rattle.agent_journal.specs.declared.entry.Why.TheVariants as why
use Rattle.replay_rounds.specs.Entering.{noted, sends}
use Rattle.replay_rounds.specs.World.{settled}
use Rattle.replay_agent.specs.Runs.{world}
use Rattle.replay_agent.proofs.Entered.{sent_short, sent_whole, some_bytes}
use Rattle.replay_agent.proofs.run.Run.send.Goals as goal

pub returns-then-sent-len-clause-sent : goal.returns-then-sent-len-clause-sent
returns-then-sent-len-clause-sent g c =
    let same : length c.as_slice.result.now ≡ length c.args.self.now.buffer.items = ap length c.as_slice.ensures.value in
    let count = c.len.ensures in
    let less = c.if-sent-len.true in
    let short : c.in_ok-sent.sent < length c.as_slice.result.now = omega (arith, same, count, less) in
    on_ok_weaker c.note.result
    (λ f lines. f lines
    ∙ (λ i. noted
    (record (world c.args.core.now c.args.self.now lines) {
      idle = 0;
      taken = c.in_ok-sent.ensures.taken i;
      room = c.in_ok-sent.ensures.room i;
      given = c.in_ok-sent.ensures.given i;
      items = c.in_ok-sent.ensures.left i;
      counts = c.in_ok-sent.ensures.counted short i;
    })
    c.args.now (causes.Broke why.Fault))
    ∙ sent_short (world c.args.core.now c.args.self.now lines) c.args.now c.in_ok-sent.sent c.as_slice.result.now c.in_ok-sent.ensures.fits short
    ∙ ap (sends (world c.args.core.now c.args.self.now lines) c.args.now) c.as_slice.ensures.value) c.note.ensures.noted

pub returns-clause-sent : goal.returns-clause-sent
returns-clause-sent g c =
    let same : length c.as_slice.result.now ≡ length c.args.self.now.buffer.items = ap length c.as_slice.ensures.value in
    let count = c.len.ensures in
    let less = c.if-sent-len.false in
    let whole : length c.as_slice.result.now ≤ c.in_ok-sent.sent = omega (arith, same, count, less) in
    λ lines. c.settle-2.ensures.settled lines
    ∙ (λ i. settled
    (record (world c.args.core.now c.args.self.now lines) {
      idle = 0;
      taken = c.in_ok-sent.ensures.taken i;
      room = c.in_ok-sent.ensures.room i;
      given = c.in_ok-sent.ensures.given i;
      items = c.in_ok-sent.ensures.left i;
      counts = c.in_ok-sent.ensures.uncounted whole i;
    }))
    ∙ sent_whole (world c.args.core.now c.args.self.now lines) c.args.now c.in_ok-sent.sent c.as_slice.result.now c.in_ok-sent.ensures.fits whole (some_bytes c.as_slice.result.now _ c.as_slice.ensures.len c.if-is_empty.ensures)
    ∙ ap (sends (world c.args.core.now c.args.self.now lines) c.args.now) c.as_slice.ensures.value
