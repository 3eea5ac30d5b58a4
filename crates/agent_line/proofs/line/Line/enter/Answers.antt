use Rattle.std.proofs.Common.{◌≡◌, ℕ, List, [], ◌∷◌, length, refl, sym, ap, ◌∙◌, arith, rules}
use Rattle.agent_journal.specs.Wires.{sent_in}
use Rattle.agent_line.specs.Told.{more_on}
use Rattle.agent_ties.proofs.Counting.{same_later}
use Rattle.agent_line.proofs.Sending.{took_none}
use Rattle.agent_line.proofs.Entered.{fault_there, entered_whole}
use Rattle.agent_line.proofs.line.Line.enter.Goals as goal

pub make-requires-then-sent-len : goal.make-requires-then-sent-len
make-requires-then-sent-len g c =
    let spelled = c.in_ok-spell.ensures ∙ ap sent_in c.newest.ensures.effects in
    let same = ap length c.as_slice.ensures.value in
    let short = c.if-sent-len.true in
    let count = c.len.ensures in
    (omega arith, fault_there c.args.recorder.now c.make.new.self c.args.now c.args.cause c.in_ok-make.ensures.made c.spell.new.buffer.items spelled (omega (arith, short, count, same)))

none_of : (bytes : List ℕ) → length bytes ≡ 0 → bytes ≡ []
none_of [] e = refl
none_of (b ∷ bytes) e = absurd (omega (arith, e))

pub returns-then-is_empty-clause-entered : goal.returns-then-is_empty-clause-entered
returns-then-is_empty-clause-entered g c =
    let spelled = c.in_ok-spell.ensures ∙ ap sent_in c.newest.ensures.effects in
    let none : c.spell.new.buffer.items ≡ [] = none_of c.spell.new.buffer.items (search rules) in
    entered_whole c.args.recorder.now c.make.new.self c.args.now c.args.cause c.in_ok-make.ensures.made c.spell.new.buffer.items spelled _ _
    (took_none (g.L.Link.taken c.args.link.now) ∙ ap (more_on (g.L.Link.taken c.args.link.now)) (sym none)) refl (same_later _)
