use Rattle.std.proofs.Common.{ℕ, List, subst}
use Rattle.session_text.specs.Spelling.{Puts, packet_of}
use Rattle.session_text.proofs.Putting.{parts_is}
use Rattle.session_text.proofs.command.put_packet.Goals as goal

pub returns : goal.returns
returns c = subst (λ (t : List ℕ). Puts t c.args.at c.args.out.now c.put_parts.new.out c.put_parts.result) (parts_is (packet_of c.args.id c.args.request.now c.args.named.now)) c.put_parts.ensures
