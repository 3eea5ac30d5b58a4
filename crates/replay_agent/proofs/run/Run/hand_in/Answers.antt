use Rattle.std.proofs.Common.{◌+◌, ◌-◌, sym, ap, ◌∙◌}
use Rattle.std.proofs.lemmas.Result.{on_ok_weaker}
use Rattle.mqtt_packet.specs.declared.splitter.Next.TheVariants as answers
use Rattle.replay_rounds.specs.World.{World}
use Rattle.agent_table.specs.Ties.{listens}
use Rattle.replay_rounds.specs.Receiving.{hands, hands_all}
use Rattle.replay_agent.specs.Runs.{world}
use Rattle.replay_agent.proofs.Hands.{hands_over, at_turn}
use Rattle.replay_agent.proofs.run.Run.hand_in.Goals as goal

pub returns-then-not-is_listening-clause-acted : goal.returns-then-not-is_listening-clause-acted
returns-then-not-is_listening-clause-acted g c =
    λ lines. hands_over (c.held.result + 1) c.loop-turn.turn (world c.loop-turn.core c.loop-turn.self lines) (hands_all (world c.args.core.now c.args.self.now lines) c.args.now) c.args.now
    (ap listens (sym (c.phase.ensures.past _ c.loop-turn.invariant.sound.stands)) ∙ sym c.is_listening.ensures ∙ c.if-not-is_listening.true) (c.loop-turn.invariant.left lines)

pub returns-in-More-clause-acted : goal.returns-in-More-clause-acted
returns-in-More-clause-acted g c =
    λ lines. at_turn (c.held.result + 1) c.loop-turn.turn (world c.loop-turn.core c.loop-turn.self lines) (hands_all (world c.args.core.now c.args.self.now lines) c.args.now) c.args.now
    (answers.More, c.next.new.self) c.loop-turn-test.true
    (ap listens (sym (c.phase.ensures.past _ c.loop-turn.invariant.sound.stands)) ∙ sym c.is_listening.ensures ∙ c.if-not-is_listening.false)
    (ap (λ n. (n, c.next.new.self)) (sym c.in-More.is) ∙ c.in_ok-packet.ensures.exact) (c.loop-turn.invariant.left lines)

pub returns-in-Bad-clause-acted : goal.returns-in-Bad-clause-acted
returns-in-Bad-clause-acted g c =
    on_ok_weaker c.note.result
    (λ f lines. f lines
    ∙ at_turn (c.held.result + 1) c.loop-turn.turn (world c.loop-turn.core c.loop-turn.self lines) (hands_all (world c.args.core.now c.args.self.now lines) c.args.now) c.args.now
    (answers.Bad c.in-Bad.at, c.next.new.self) c.loop-turn-test.true
    (ap listens (sym (c.phase.ensures.past _ c.loop-turn.invariant.sound.stands)) ∙ sym c.is_listening.ensures ∙ c.if-not-is_listening.false)
    (ap (λ n. (n, c.next.new.self)) (sym c.in-Bad.is) ∙ c.in_ok-packet.ensures.exact) (c.loop-turn.invariant.left lines)) c.note.ensures.noted

pub returns-in-TooLong-clause-acted : goal.returns-in-TooLong-clause-acted
returns-in-TooLong-clause-acted g c =
    on_ok_weaker c.note-in-TooLong.result
    (λ f lines. f lines
    ∙ at_turn (c.held.result + 1) c.loop-turn.turn (world c.loop-turn.core c.loop-turn.self lines) (hands_all (world c.args.core.now c.args.self.now lines) c.args.now) c.args.now
    (answers.TooLong c.in-TooLong.at c.in-TooLong.len, c.next.new.self) c.loop-turn-test.true
    (ap listens (sym (c.phase.ensures.past _ c.loop-turn.invariant.sound.stands)) ∙ sym c.is_listening.ensures ∙ c.if-not-is_listening.false)
    (ap (λ n. (n, c.next.new.self)) (sym c.in-TooLong.is) ∙ c.in_ok-packet.ensures.exact) (c.loop-turn.invariant.left lines)) c.note-in-TooLong.ensures.noted

pub loop-turn-preserved : goal.loop-turn-preserved
loop-turn-preserved g c = record {
  sound = c.in_ok-enter-in-Packet.ensures.sound;
  left =
      λ lines. ap (λ (v : World). hands (c.held.result + 1 - (c.loop-turn.turn + 1)) v c.args.now) (c.in_ok-enter-in-Packet.ensures.entered lines)
      ∙ at_turn (c.held.result + 1) c.loop-turn.turn (world c.loop-turn.core c.loop-turn.self lines) (hands_all (world c.args.core.now c.args.self.now lines) c.args.now) c.args.now
      (answers.Packet c.in-Packet.packet, c.next.new.self) c.loop-turn-test.true
      (ap listens (sym (c.phase.ensures.past _ c.loop-turn.invariant.sound.stands)) ∙ sym c.is_listening.ensures ∙ c.if-not-is_listening.false)
      (ap (λ n. (n, c.next.new.self)) (sym c.in-Packet.is) ∙ c.in_ok-packet.ensures.exact) (c.loop-turn.invariant.left lines);
}
