use Rattle.std.proofs.Common.{ap, refl, sym, arith}
use Rattle.agent_listen.specs.Waiting.{Listening}
use Rattle.agent_listen.proofs.Queue.{fresh_first, gives}
use Rattle.agent_listen.proofs.memory.MemListenListen.next.Goals as goal

pub returns-clause-taken : goal.returns-clause-taken
returns-clause-taken c = (fresh_first c.self.inside.waiting c.self.inside.callers.items c.in_ok-caller.caller (omega (arith, c.if-self-eq0.false)) c.self.invariant.0 c.self.invariant.2 c.in_ok-caller.ensures.given).taken

pub returns-clause-given : goal.returns-clause-given
returns-clause-given c = (fresh_first c.self.inside.waiting c.self.inside.callers.items c.in_ok-caller.caller (omega (arith, c.if-self-eq0.false)) c.self.invariant.0 c.self.invariant.2 c.in_ok-caller.ensures.given).given

pub returns-clause-faults : goal.returns-clause-faults
returns-clause-faults c = (fresh_first c.self.inside.waiting c.self.inside.callers.items c.in_ok-caller.caller (omega (arith, c.if-self-eq0.false)) c.self.invariant.0 c.self.invariant.2 c.in_ok-caller.ensures.given).faults

pub returns-clause-ends : goal.returns-clause-ends
returns-clause-ends c = (fresh_first c.self.inside.waiting c.self.inside.callers.items c.in_ok-caller.caller (omega (arith, c.if-self-eq0.false)) c.self.invariant.0 c.self.invariant.2 c.in_ok-caller.ensures.given).ends

pub returns-clause-nothings : goal.returns-clause-nothings
returns-clause-nothings c = (fresh_first c.self.inside.waiting c.self.inside.callers.items c.in_ok-caller.caller (omega (arith, c.if-self-eq0.false)) c.self.invariant.0 c.self.invariant.2 c.in_ok-caller.ensures.given).nothings

pub returns-clause-gives : goal.returns-clause-gives
returns-clause-gives c =
    gives c.self.inside.waiting c.self.inside.callers.items c.take_first.new.callers.items c.in_ok-caller.caller _ _ (sym (ap (λ (l : Listening). l.waiting) c.self.view_is)) refl (omega (arith, c.if-self-eq0.false)) c.self.invariant.0 c.in_ok-caller.ensures.given c.in_ok-caller.ensures.rest
