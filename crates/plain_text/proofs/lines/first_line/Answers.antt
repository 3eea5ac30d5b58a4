use Rattle.std.proofs.Common.{ap}
use Rattle.std.specs.Option.{option_map}
use Rattle.plain_text.proofs.FirstLines.{leads_on, leads_last}
use Rattle.plain_text.proofs.lines.first_line.Goals as goal

pub returns-in-Some-clause-line : goal.returns-in-Some-clause-line
returns-in-Some-clause-line c = (leads_on _ _ _ _ c.cut.ensures (ap (option_map (λ rest. rest.now)) c.in-Some.is)).lines

pub returns-in-Some-clause-within : goal.returns-in-Some-clause-within
returns-in-Some-clause-within c = (leads_on _ _ _ _ c.cut.ensures (ap (option_map (λ rest. rest.now)) c.in-Some.is)).within

pub returns-in-None-clause-line : goal.returns-in-None-clause-line
returns-in-None-clause-line c = (leads_last _ _ _ c.requires c.cut.ensures (ap (option_map (λ rest. rest.now)) c.in-None.is)).lines

pub returns-in-None-clause-onward : goal.returns-in-None-clause-onward
returns-in-None-clause-onward c = (leads_last _ _ _ c.requires c.cut.ensures (ap (option_map (λ rest. rest.now)) c.in-None.is)).onward

pub returns-in-None-clause-within : goal.returns-in-None-clause-within
returns-in-None-clause-within c = (leads_last _ _ _ c.requires c.cut.ensures (ap (option_map (λ rest. rest.now)) c.in-None.is)).within
