use Rattle.std.proofs.Common.{ap, ◌∙◌}
use Rattle.std.specs.List.{find}
use Rattle.std.specs.Str.{bytes_eq}
use Rattle.thing_topics.specs.Shadows.{kind_of, word}
use Rattle.thing_topics.proofs.shadows.shadow_kind.Goals as goal

pub returns : goal.returns
unfolding kind_of
returns c = c.kind_of.ensures ∙ ap (find (λ kind. bytes_eq (word kind) c.args.word.now)) c.as_slice.ensures
