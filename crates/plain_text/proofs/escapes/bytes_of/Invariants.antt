-- The bytes so far, and behind them what the rest stands for, are what the word stands for.
use Rattle.std.proofs.Common.{◌≡◌, length}
use Rattle.plain_text.specs.Escapes.{bytes_of}
use Rattle.plain_text.proofs.Unescaped.{behind}
use Rattle.plain_text.proofs.escapes.bytes_of.Given as goal

abbrev pub invariant-bytes : goal.invariant-bytes
invariant-bytes l = behind l.bytes.items (bytes_of l.rest) ≡ bytes_of l.word

abbrev pub decreases-bytes : goal.decreases-bytes
decreases-bytes l = length l.rest
