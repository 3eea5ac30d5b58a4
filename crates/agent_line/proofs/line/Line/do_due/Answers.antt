use Rattle.std.proofs.Common.{sym, ◌∙◌, is_some}
use Rattle.agent_table.specs.Histories.{readings}
use Rattle.agent_ties.proofs.Counting.{due_uncounted}
use Rattle.agent_ties.proofs.Dues.{due_is, due_plain}
use Rattle.agent_line.specs.Recorded.{row_in}
use Rattle.agent_line.proofs.Growing.{enters_one}
use Rattle.agent_line.proofs.Turns.{entry_tied}
use Rattle.agent_line.proofs.Since.{of_same}
use Rattle.agent_line.proofs.line.Line.do_due.Goals as goal

pub returns-in_ok-enter-in-Some-clause-tied : goal.returns-in_ok-enter-in-Some-clause-tied
returns-in_ok-enter-in-Some-clause-tied g c =
    λ first since.
    let r = c.args.recorder.now in
    let due = due_is r.setup r.sizes (readings r.setup r.sizes r.past) c.args.now c.in-Some.cause (sym c.due.ensures ∙ c.in-Some.is) in
    entry_tied (due_uncounted (λ x. is_some (row_in r c.args.now x)) c.in-Some.cause due) (due_plain (λ x. is_some (row_in r c.args.now x)) c.in-Some.cause due).1 c.in_ok-enter-in-Some.ensures.idle c.in_ok-enter-in-Some.ensures.stream c.in_ok-enter-in-Some.ensures.entered (of_same c.settle.ensures.same) since

pub returns-in_ok-enter-in-Some-clause-due : goal.returns-in_ok-enter-in-Some-clause-due
returns-in_ok-enter-in-Some-clause-due g c = λ e. (c.in-Some.cause, sym c.due.ensures ∙ c.in-Some.is, enters_one _ _ _ _ _ _ c.in_ok-enter-in-Some.ensures.entered)
