use Rattle.std.proofs.Common.{ap, ◌∙◌}
use Rattle.std.specs.Prelude.{Ok, Err}
use Rattle.agent_link.specs.Counts.{counted}
use Rattle.agent_link.specs.Wires.{after_recv, ended, silent}
use Rattle.agent_link.specs.declared.link.Heard.{Heard}
use Rattle.agent_journal.specs.declared.entry.Cause.TheVariants as causes
use Rattle.agent_journal.specs.declared.entry.Why.TheVariants as why
use Rattle.agent_line.specs.Entered.{one_more}
use Rattle.agent_line.specs.Told.{Told}
use Rattle.agent_line.proofs.Going.{end_goes, fault_goes}
use Rattle.agent_line.proofs.Growing.{grows_noted, grows_idled, noted_made}
use Rattle.agent_line.proofs.Receiving.{bytes_on}
use Rattle.agent_line.proofs.Turns.{same_counts, fault_tied, end_tied, nothing_tied}
use Rattle.agent_line.proofs.Since.{of_same}
use Rattle.agent_line.proofs.line.Line.receive.Goals as goal

pub returns-in_ok-hand_in-in-Ok-Bytes-clause-tied : goal.returns-in_ok-hand_in-in-Ok-Bytes-clause-tied
returns-in_ok-hand_in-in-Ok-Bytes-clause-tied g c =
    λ first since.
    let is = c.in-Ok-Bytes.field-0-is in
    c.in_ok-hand_in-in-Ok-Bytes.ensures.tied first
    (bytes_on first c.args.recorder.now c.args.now _ _ c.args.self.now.splitter c.feed.new.self c.args.self.now.idle _ c.in_ok-feed-in-Ok-Bytes.ensures.stands c.in_ok-feed-in-Ok-Bytes.ensures.exact c.requires.listens c.requires.time
    c.in-Ok-Bytes.ensures.taken (c.in-Ok-Bytes.ensures.given ∙ ap (λ (h : Heard). after_recv (g.L.Link.given c.args.link.now) (Ok h) c.recv.new.buf) is)
    (same_counts _ _ c.in-Ok-Bytes.ensures.cause (c.in-Ok-Bytes.ensures.ends ∙ ap (λ (h : Heard). ended (Ok h) (g.L.Link.ends c.args.link.now)) is)
    (c.in-Ok-Bytes.ensures.nothings ∙ ap (λ (h : Heard). silent (Ok h) (g.L.Link.nothings c.args.link.now)) is)) since)

pub returns-in_ok-idle_on-in-Ok-Nothing-clause-tied : goal.returns-in_ok-idle_on-in-Ok-Nothing-clause-tied
returns-in_ok-idle_on-in-Ok-Nothing-clause-tied g c =
    λ first since.
    let is = c.in-Ok-Nothing.field-0-is in
    nothing_tied c.args.now c.in-Ok-Nothing.ensures.taken (c.in-Ok-Nothing.ensures.given ∙ ap (λ (h : Heard). after_recv (g.L.Link.given c.args.link.now) (Ok h) c.recv.new.buf) is) (of_same c.in_ok-idle_on-in-Ok-Nothing.ensures.same)
    c.in-Ok-Nothing.ensures.cause (c.in-Ok-Nothing.ensures.ends ∙ ap (λ (h : Heard). ended (Ok h) (g.L.Link.ends c.args.link.now)) is)
    (c.in-Ok-Nothing.ensures.nothings ∙ ap (λ (h : Heard). silent (Ok h) (g.L.Link.nothings c.args.link.now)) is) c.in_ok-idle_on-in-Ok-Nothing.ensures.stream c.in_ok-idle_on-in-Ok-Nothing.ensures.idle
    c.in_ok-idle_on-in-Ok-Nothing.ensures.idled since

pub returns-in_ok-break_off-in-Ok-End-clause-tied : goal.returns-in_ok-break_off-in-Ok-End-clause-tied
returns-in_ok-break_off-in-Ok-End-clause-tied g c =
    λ first since.
    let is = c.in-Ok-End.field-0-is in
    end_tied c.args.now c.in-Ok-End.ensures.taken (c.in-Ok-End.ensures.given ∙ ap (λ (h : Heard). after_recv (g.L.Link.given c.args.link.now) (Ok h) c.recv.new.buf) is) (of_same c.in_ok-break_off-in-Ok-End.ensures.same)
    c.in-Ok-End.ensures.cause (c.in-Ok-End.ensures.ends ∙ ap (λ (h : Heard). ended (Ok h) (g.L.Link.ends c.args.link.now)) is)
    (c.in-Ok-End.ensures.nothings ∙ ap (λ (h : Heard). silent (Ok h) (g.L.Link.nothings c.args.link.now)) is) c.in_ok-break_off-in-Ok-End.ensures.noted since

pub returns-in_ok-break_off-in-Err-Failed-clause-tied : goal.returns-in_ok-break_off-in-Err-Failed-clause-tied
returns-in_ok-break_off-in-Err-Failed-clause-tied g c =
    λ first since.
    fault_tied c.args.now c.in-Err-Failed.ensures.taken c.in-Err-Failed.ensures.given (of_same c.in_ok-break_off-in-Err-Failed.ensures.same)
    (c.in-Err-Failed.ensures.cause ∙ ap (λ f. counted {T = Heard} (Err f) (g.L.Link.faults c.args.link.now)) c.in-Err-Failed.field-0-is) c.in-Err-Failed.ensures.ends c.in-Err-Failed.ensures.nothings
    c.in_ok-break_off-in-Err-Failed.ensures.noted since

pub returns-in_ok-idle_on-in-Ok-Nothing-clause-grown : goal.returns-in_ok-idle_on-in-Ok-Nothing-clause-grown
returns-in_ok-idle_on-in-Ok-Nothing-clause-grown g c = grows_idled c.args.recorder.now c.idle_on.new.recorder (one_more c.args.self.now.idle) c.args.now c.in_ok-idle_on-in-Ok-Nothing.ensures.idled

pub returns-in_ok-break_off-in-Ok-End-clause-grown : goal.returns-in_ok-break_off-in-Ok-End-clause-grown
returns-in_ok-break_off-in-Ok-End-clause-grown g c = grows_noted c.args.recorder.now c.break_off.new.recorder c.args.now why.End c.in_ok-break_off-in-Ok-End.ensures.noted

pub returns-in_ok-break_off-in-Err-Failed-clause-grown : goal.returns-in_ok-break_off-in-Err-Failed-clause-grown
returns-in_ok-break_off-in-Err-Failed-clause-grown g c = grows_noted c.args.recorder.now c.break_off-in-Err-Failed.new.recorder c.args.now why.Fault c.in_ok-break_off-in-Err-Failed.ensures.noted

pub returns-in_ok-break_off-in-Ok-End-clause-gone : goal.returns-in_ok-break_off-in-Ok-End-clause-gone
returns-in_ok-break_off-in-Ok-End-clause-gone g c =
    λ e. (why.End, noted_made c.args.recorder.now c.break_off.new.recorder c.args.now (causes.Broke why.End) (end_goes c.args.recorder.now c.args.now c.requires.time c.requires.listens) c.in_ok-break_off-in-Ok-End.ensures.noted)

pub returns-in_ok-break_off-in-Err-Failed-clause-gone : goal.returns-in_ok-break_off-in-Err-Failed-clause-gone
returns-in_ok-break_off-in-Err-Failed-clause-gone g c =
    λ e. (why.Fault, noted_made c.args.recorder.now c.break_off-in-Err-Failed.new.recorder c.args.now (causes.Broke why.Fault) (fault_goes c.args.recorder.now c.args.now c.requires.time c.requires.listens) c.in_ok-break_off-in-Err-Failed.ensures.noted)

pub returns-in_ok-idle_on-in-Ok-Nothing-clause-nothing : goal.returns-in_ok-idle_on-in-Ok-Nothing-clause-nothing
returns-in_ok-idle_on-in-Ok-Nothing-clause-nothing g c =
    λ e. (
      ap (λ (t : Told). t.counts.nothings) c.in_ok-idle_on-in-Ok-Nothing.ensures.same ∙ c.in-Ok-Nothing.ensures.nothings
          ∙ ap (λ (h : Heard). silent (Ok h) (g.L.Link.nothings c.args.link.now)) c.in-Ok-Nothing.field-0-is,
      c.in_ok-idle_on-in-Ok-Nothing.ensures.idled,
    )
