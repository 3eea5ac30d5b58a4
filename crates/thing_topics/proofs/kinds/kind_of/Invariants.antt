-- No kind so far is written so.
use Rattle.std.proofs.Common.{◌≡◌, drop}
use Rattle.std.specs.List.{find}
use Rattle.std.specs.Str.{bytes_eq}
use Rattle.thing_topics.proofs.kinds.kind_of.Given as goal

abbrev pub invariant-loop-kind : goal.invariant-loop-kind
invariant-loop-kind g l = find (λ kind. bytes_eq (g.K.Kind.written kind) l.text) (drop l.kind-index l.kinds) ≡ find (λ kind. bytes_eq (g.K.Kind.written kind) l.text) l.kinds
