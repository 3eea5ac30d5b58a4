use Rattle.plain_text.proofs.Unescaped.{word_end}
use Rattle.plain_text.proofs.escapes.bytes_of.Goals as goal

pub returns : goal.returns
returns c = word_end c.bytes.bytes.items c.bytes.rest.now _ c.bytes-test.ensures c.bytes.invariant
