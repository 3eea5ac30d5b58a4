use Rattle.std.proofs.Common.{ap, ◌∙◌, arith, [], is_some}
use Rattle.agent_journal.specs.declared.entry.Cause.TheVariants as causes
use Rattle.agent_journal.specs.declared.entry.Why.TheVariants as why
use Rattle.std.specs.Prelude.{Err}
use Rattle.agent_link.specs.Counts.{counted}
use Rattle.agent_ties.specs.Seen.{fresh}
use Rattle.agent_ties.proofs.Present.{opened_there}
use Rattle.agent_line.specs.Told.{seen_in}
use Rattle.agent_line.proofs.Going.{fault_stays}
use Rattle.agent_line.proofs.Growing.{enters_one, noted_made}
use Rattle.agent_line.proofs.Turns.{opening_tied, fault_tied, same_counts}
use Rattle.agent_line.proofs.Since.{of_same}
use Rattle.agent_line.proofs.line.Line.open.Goals as goal

pub enter-requires : goal.enter-requires
enter-requires g c =
    let found = opened_there c.args.now (seen_in c.args.recorder.now fresh [] []) c.requires.time c.requires.down (c.stays.ensures.few c.requires.time c.requires.none_due c.requires.down) in
    (omega arith, ap is_some found.1)

pub returns-in_ok-enter-in-Ok-clause-tied : goal.returns-in_ok-enter-in-Ok-clause-tied
returns-in_ok-enter-in-Ok-clause-tied g c =
    λ first since.
    opening_tied c.in-Ok.ensures.taken c.in-Ok.ensures.given (same_counts _ _ c.in-Ok.ensures.cause c.in-Ok.ensures.ends c.in-Ok.ensures.nothings) c.in_ok-enter-in-Ok.ensures.idle
    (c.in_ok-enter-in-Ok.ensures.stream ∙ c.new.ensures.kept) c.in_ok-enter-in-Ok.ensures.entered (of_same c.settle.ensures.same) since

pub returns-in_ok-enter-in-Ok-clause-opened : goal.returns-in_ok-enter-in-Ok-clause-opened
returns-in_ok-enter-in-Ok-clause-opened g c = λ e. enters_one _ _ _ _ _ _ c.in_ok-enter-in-Ok.ensures.entered

pub returns-in_ok-break_off-in-Err-Failed-clause-tied : goal.returns-in_ok-break_off-in-Err-Failed-clause-tied
returns-in_ok-break_off-in-Err-Failed-clause-tied g c =
    λ first since.
    fault_tied c.args.now c.in-Err-Failed.ensures.taken c.in-Err-Failed.ensures.given (of_same c.in_ok-break_off-in-Err-Failed.ensures.same)
    (c.in-Err-Failed.ensures.cause ∙ ap (λ f. counted {T = Unit {0}} (Err f) (g.L.Link.faults c.args.link.now)) c.in-Err-Failed.field-0-is) c.in-Err-Failed.ensures.ends c.in-Err-Failed.ensures.nothings
    c.in_ok-break_off-in-Err-Failed.ensures.noted since

pub returns-in_ok-break_off-in-Err-Failed-clause-failed : goal.returns-in_ok-break_off-in-Err-Failed-clause-failed
returns-in_ok-break_off-in-Err-Failed-clause-failed g c =
    λ e.
    noted_made c.args.recorder.now c.break_off.new.recorder c.args.now (causes.Broke why.Fault)
    (fault_stays c.args.recorder.now c.args.now c.requires.time c.requires.down (c.stays.ensures.few c.requires.time c.requires.none_due c.requires.down)) c.in_ok-break_off-in-Err-Failed.ensures.noted
