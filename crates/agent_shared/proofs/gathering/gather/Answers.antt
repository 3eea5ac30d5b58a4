use Rattle.std.proofs.Common.{rules, ◌≡◌, ◌<◌, reverse, sym, subst}
use Rattle.agent_table.specs.Histories.{IsLegalPast, IsWholePast}
use Rattle.agent_table.proofs.Received.{good_are_earned}
use Rattle.task_queues.specs.Submissions.{task_of, of_task, MayFollow}
use Rattle.agent_shared.specs.Gathered.{AreDrained, joined_with}
use Rattle.agent_shared.proofs.Together.{never_more, gathered_by}
use Rattle.agent_shared.proofs.gathering.gather.Goals as goal

pub unreachable-requires : goal.unreachable-requires
unreachable-requires g c =
    let a = c.args.agent in
    let one = c.in_default.field-0 in
    let served = c.into_parts-intake.ensures.serving.served c.requires.memory in
    let taken : c.end_all-tasks.new.receiver.taken ≡ a.taking.receiver.taken = search rules in
    let senders : c.end_all-tasks.new.receiver.senders ≡ a.taking.receiver.senders = search rules in
    never_more a.taking.recorded a.taking.receiver.taken a.taking.receiver.senders one served.takes served.tasks c.requires.ended.left (subst (λ n. task_of one < n) senders c.in_default.ensures.sender)
    (subst (λ ts. MayFollow (of_task (task_of one) ts) one) taken c.in_default.ensures.turn)

pub invariant_of-result : goal.invariant_of-result
invariant_of-result g c =
    let a = c.args.agent in
    let past : reverse c.into_entries.result.items ≡ a.taking.recorded.past = search rules in
    let taken : c.recv.new.pass.taken ≡ a.taking.receiver.taken = search rules in
    let r_is : c.end_all-tasks.new.receiver ≡ record a.taking.receiver { joined = joined_with c.args.ends.items a.taking.receiver.joined } = search rules in
    let legal : IsLegalPast a.taking.recorded.setup a.taking.recorded.sizes a.taking.recorded.past = search rules in
    let drained : AreDrained a.mail.putters c.args.ends.items c.end_all-tasks.result.items = search rules in
    (gathered_by a c.into_parts-intake.ensures.serving legal c.requires.memory c.requires.ended c.args.ends.items c.end_all-tasks.result.items c.requires.ends drained c.end_all-tasks.new.receiver r_is c.in-None.ensures.all
    (reverse c.into_entries.result.items) c.recv.new.pass.taken past taken).gathered

pub returns-clause-gathered : goal.returns-clause-gathered
returns-clause-gathered g c =
    let a = c.args.agent in
    let past : reverse c.into_entries.result.items ≡ a.taking.recorded.past = search rules in
    let taken : c.recv.new.pass.taken ≡ a.taking.receiver.taken = search rules in
    let r_is : c.end_all-tasks.new.receiver ≡ record a.taking.receiver { joined = joined_with c.args.ends.items a.taking.receiver.joined } = search rules in
    let legal : IsLegalPast a.taking.recorded.setup a.taking.recorded.sizes a.taking.recorded.past = search rules in
    let drained : AreDrained a.mail.putters c.args.ends.items c.end_all-tasks.result.items = search rules in
    (gathered_by a c.into_parts-intake.ensures.serving legal c.requires.memory c.requires.ended c.args.ends.items c.end_all-tasks.result.items c.requires.ends drained c.end_all-tasks.new.receiver r_is c.in-None.ensures.all
    (reverse c.into_entries.result.items) c.recv.new.pass.taken past taken).gathered

pub returns-clause-became : goal.returns-clause-became
returns-clause-became g c =
    let a = c.args.agent in
    let past : reverse c.into_entries.result.items ≡ a.taking.recorded.past = search rules in
    let taken : c.recv.new.pass.taken ≡ a.taking.receiver.taken = search rules in
    let r_is : c.end_all-tasks.new.receiver ≡ record a.taking.receiver { joined = joined_with c.args.ends.items a.taking.receiver.joined } = search rules in
    let legal : IsLegalPast a.taking.recorded.setup a.taking.recorded.sizes a.taking.recorded.past = search rules in
    let drained : AreDrained a.mail.putters c.args.ends.items c.end_all-tasks.result.items = search rules in
    (gathered_by a c.into_parts-intake.ensures.serving legal c.requires.memory c.requires.ended c.args.ends.items c.end_all-tasks.result.items c.requires.ends drained c.end_all-tasks.new.receiver r_is c.in-None.ensures.all
    (reverse c.into_entries.result.items) c.recv.new.pass.taken past taken).became

pub returns-clause-behind : goal.returns-clause-behind
returns-clause-behind g c =
    let a = c.args.agent in
    let past : reverse c.into_entries.result.items ≡ a.taking.recorded.past = search rules in
    let taken : c.recv.new.pass.taken ≡ a.taking.receiver.taken = search rules in
    let r_is : c.end_all-tasks.new.receiver ≡ record a.taking.receiver { joined = joined_with c.args.ends.items a.taking.receiver.joined } = search rules in
    let legal : IsLegalPast a.taking.recorded.setup a.taking.recorded.sizes a.taking.recorded.past = search rules in
    let drained : AreDrained a.mail.putters c.args.ends.items c.end_all-tasks.result.items = search rules in
    (gathered_by a c.into_parts-intake.ensures.serving legal c.requires.memory c.requires.ended c.args.ends.items c.end_all-tasks.result.items c.requires.ends drained c.end_all-tasks.new.receiver r_is c.in-None.ensures.all
    (reverse c.into_entries.result.items) c.recv.new.pass.taken past taken).behind

pub returns-clause-whole : goal.returns-clause-whole
returns-clause-whole g c =
    let a = c.args.agent in
    let past : reverse c.into_entries.result.items ≡ a.taking.recorded.past = search rules in
    let left = c.requires.ended.left in
    subst (IsWholePast a.taking.recorded.setup a.taking.recorded.sizes) (sym past) (record { ended = left.off; left = left.left })

pub returns-clause-earned : goal.returns-clause-earned
returns-clause-earned g c =
    let a = c.args.agent in
    let legal : IsLegalPast a.taking.recorded.setup a.taking.recorded.sizes (reverse c.into_entries.result.items) = search rules in
    λ has. good_are_earned a.taking.recorded.setup a.taking.recorded.sizes (reverse c.into_entries.result.items) has legal
