use Rattle.std.proofs.Common.{arith}
use Rattle.session_text.proofs.Sessions.{is_found, is_read}
use Rattle.session_text.proofs.reading.read.Goals as goal

pub returns-clause-found : goal.returns-clause-found
returns-clause-found c = is_found c.args.bytes.now c.whole_session.result (λ i. omega (arith, c.type_inv.bytes i)) c.whole_session.ensures

pub returns-clause-only : goal.returns-clause-only
returns-clause-only c = is_read c.args.bytes.now c.whole_session.result c.whole_session.ensures
