use Rattle.std.proofs.Common.{length, refl, sym, ap, ◌∙◌, subst, arith}
use Rattle.mqtt_packet.specs.Splitting.{Kept as Stream}
use Rattle.agent_journal.specs.declared.entry.Cause.TheVariants as causes
use Rattle.agent_journal.specs.declared.entry.Why.TheVariants as why
use Rattle.agent_table.specs.Ties.{listens}
use Rattle.agent_ties.specs.Ties.{Handing}
use Rattle.agent_line.specs.Told.{Told, Since}
use Rattle.agent_line.proofs.Breaking.{bad_on, long_on}
use Rattle.agent_line.proofs.Growing.{grows_on, grows_broke, grows_maybe, grows_arrived, given_arrived}
use Rattle.agent_line.proofs.Receiving.{left_on, arrives_on, smaller}
use Rattle.agent_line.proofs.Turns.{on_both}
use Rattle.agent_line.proofs.Since.{of_same}
use Rattle.agent_line.proofs.line.Line.hand_in.Goals as goal

pub returns-in-More-clause-tied : goal.returns-in-More-clause-tied
returns-in-More-clause-tied g c =
    λ first since.
    left_on first c.loop-turn.recorder c.args.now _ c.loop-turn.self.splitter c.loop-turn.self.idle c.next.new.self (ap listens (sym c.phase.ensures) ∙ sym c.is_listening.ensures ∙ c.if-not-is_listening.false)
    (ap (λ n. (n, c.next.new.self)) (sym c.in-More.is) ∙ c.in_ok-packet.ensures.exact) (c.loop-turn.invariant.handing first since).0

pub returns-in-Bad-clause-tied : goal.returns-in-Bad-clause-tied
returns-in-Bad-clause-tied g c =
    on_both c.break_off.result
    (λ is still. λ first since.
    bad_on first c.loop-turn.recorder c.break_off.new.recorder c.args.now _ _ c.loop-turn.self.splitter c.next.new.self c.loop-turn.self.idle
    (ap listens (sym c.phase.ensures) ∙ sym c.is_listening.ensures ∙ c.if-not-is_listening.false) (of_same still) c.in-Bad.at (ap (λ n. (n, c.next.new.self)) (sym c.in-Bad.is) ∙ c.in_ok-packet.ensures.exact) is
    (c.loop-turn.invariant.handing first since).0) c.break_off.ensures.noted c.break_off.ensures.same

pub returns-in-TooLong-clause-tied : goal.returns-in-TooLong-clause-tied
returns-in-TooLong-clause-tied g c =
    on_both c.break_off-in-TooLong.result
    (λ is still. λ first since.
    long_on first c.loop-turn.recorder c.break_off-in-TooLong.new.recorder c.args.now _ _ c.loop-turn.self.splitter c.next.new.self c.loop-turn.self.idle
    (ap listens (sym c.phase.ensures) ∙ sym c.is_listening.ensures ∙ c.if-not-is_listening.false) (of_same still) c.in-TooLong.at c.in-TooLong.len
    (ap (λ n. (n, c.next.new.self)) (sym c.in-TooLong.is) ∙ c.in_ok-packet.ensures.exact) is (c.loop-turn.invariant.handing first since).0) c.break_off-in-TooLong.ensures.noted c.break_off-in-TooLong.ensures.same

pub returns-in-Bad-clause-grown : goal.returns-in-Bad-clause-grown
returns-in-Bad-clause-grown g c =
    grows_on c.args.now c.args.recorder.now c.loop-turn.recorder c.break_off.new.recorder c.loop-turn.invariant.grown
    (grows_broke c.break_off.result c.loop-turn.recorder c.break_off.new.recorder c.args.now (why.Bad c.in-Bad.at) c.break_off.ensures.noted c.break_off.ensures.err)

pub returns-in-TooLong-clause-grown : goal.returns-in-TooLong-clause-grown
returns-in-TooLong-clause-grown g c =
    grows_on c.args.now c.args.recorder.now c.loop-turn.recorder c.break_off-in-TooLong.new.recorder c.loop-turn.invariant.grown
    (grows_broke c.break_off-in-TooLong.result c.loop-turn.recorder c.break_off-in-TooLong.new.recorder c.args.now (why.TooLong c.in-TooLong.len) c.break_off-in-TooLong.ensures.noted c.break_off-in-TooLong.ensures.err)

pub returns-in_err-arrive-in-Packet-clause-grown : goal.returns-in_err-arrive-in-Packet-clause-grown
returns-in_err-arrive-in-Packet-clause-grown g c =
    grows_on c.args.now c.args.recorder.now c.loop-turn.recorder c.arrive.new.recorder c.loop-turn.invariant.grown
    (grows_maybe c.args.now (causes.Arrived c.in-Packet.packet) c.loop-turn.recorder c.arrive.new.recorder refl c.in_err-arrive-in-Packet.ensures.err)

pub loop-turn-preserved : goal.loop-turn-preserved
loop-turn-preserved g c =
    let on = ap listens (sym c.phase.ensures) ∙ sym c.is_listening.ensures ∙ c.if-not-is_listening.false in
    let e = ap (λ n. (n, c.next.new.self)) (sym c.in-Packet.is) ∙ c.in_ok-packet.ensures.exact in
    let stream = c.loop-turn.self.splitter in
    let idle = c.loop-turn.self.idle in
    let came = c.in_ok-arrive-in-Packet.ensures in
    let now : Told =
    record {
      taken = g.L.Link.taken c.arrive.new.link;
      given = g.L.Link.given c.arrive.new.link;
      counts = record { faults = g.L.Link.faults c.arrive.new.link; ends = g.L.Link.ends c.arrive.new.link; nothings = g.L.Link.nothings c.arrive.new.link };
    }
    in
    record {
      handing =
          λ first since.
          let h = c.loop-turn.invariant.handing first since in
          let one = arrives_on first c.loop-turn.recorder c.arrive.new.recorder c.args.now c.in-Packet.packet _ now stream c.next.new.self idle c.arrive.new.self.idle on came.idle e came.arrived h.0 in
          let fewer = smaller c.in-Packet.packet c.next.new.self on e h.0 in
          let same = ap (λ (s : Stream). length s.rest) came.stream in
          let room = h.1 in
          (subst (λ (s : Stream). Since (Handing c.args.now s) first c.arrive.new.recorder s c.arrive.new.self.idle now) (sym came.stream) one, omega (arith, fewer, same, room));
      idle = let less = came.idle in let before = c.loop-turn.invariant.idle in omega (arith, less, before);
      grown = grows_on c.args.now c.args.recorder.now c.loop-turn.recorder c.arrive.new.recorder c.loop-turn.invariant.grown (grows_arrived c.loop-turn.recorder c.arrive.new.recorder c.args.now c.in-Packet.packet _ now came.arrived);
      given = given_arrived c.loop-turn.recorder c.arrive.new.recorder c.args.now c.in-Packet.packet _ now came.arrived ∙ c.loop-turn.invariant.given;
    }
