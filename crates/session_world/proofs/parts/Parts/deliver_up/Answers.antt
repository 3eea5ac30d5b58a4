use Rattle.std.proofs.Common.{◌++◌, ◌∙◌}
use Rattle.agent_journal.specs.Wires.{sends}
use Rattle.session_world.specs.Queued.{items_in}
use Rattle.session_world.specs.Viewed.{kept_in}
use Rattle.session_world.proofs.Events.{first_sound, up_played}
use Rattle.session_world.proofs.parts.Parts.deliver_up.Goals as goal

pub step-requires-clause-sound : goal.step-requires-clause-sound
step-requires-clause-sound c = first_sound (kept_in c.args.self.now) c.in-Some.packet (sends (items_in c.next_sent.new.up)) c.in-Some.ensures.packets c.requires.stood

pub returns-in-Ok-clause-plays : goal.returns-in-Ok-clause-plays
returns-in-Ok-clause-plays c =
    up_played (kept_in c.args.self.now) c.step.new.self c.in-Some.packet (sends (items_in c.next_sent.new.up)) (items_in c.push.new.self) c.in-Ok.replies.packets c.in-Ok.replies.close (c.is_open.ensures.0 c.if-not-is_open.false) c.in-Some.ensures.packets
    c.in-Ok.ensures.past c.in-Ok.ensures.stands (c.push.ensures ∙ (λ i. c.in_default.ensures.items i ++ c.into_vec.ensures i))
