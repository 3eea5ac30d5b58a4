use Rattle.std.proofs.Common.{◌++◌, ap, ◌∙◌}
use Rattle.topic_filter.specs.Texts.{is_name}
use Rattle.session_world.specs.Queued.{items_in}
use Rattle.session_world.specs.Viewed.{kept_in}
use Rattle.session_world.proofs.Events.{own_is_name, told_own}
use Rattle.session_world.proofs.parts.Parts.publish_own.Goals as goal

pub publish_local-requires-clause-name : goal.publish_local-requires-clause-name
publish_local-requires-clause-name c = ap is_name c.in_ok-topic.ensures ∙ own_is_name

pub returns-clause-told : goal.returns-clause-told
returns-clause-told c = λ w origin h.
    told_own (kept_in c.args.self.now) c.publish_local.new.self (items_in c.push.new.self) c.in_ok-replies.replies.packets c.in_ok-replies.replies.close c.args.qos c.in_ok-topic.topic c.in_ok-payload.payload origin w
    c.in_ok-topic.ensures c.in_ok-payload.ensures c.in_ok-replies.ensures.past c.in_ok-replies.ensures.stands (c.push.ensures ∙ (λ i. c.in_ok-reserve.ensures.items i ++ c.into_vec.ensures i)) h.ties
