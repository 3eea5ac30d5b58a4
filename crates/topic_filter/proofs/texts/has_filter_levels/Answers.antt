use Rattle.std.proofs.Common.{sym, ap, ◌∙◌}
use Rattle.std.specs.Prelude.{◌&&◌}
use Rattle.topic_filter.specs.Levels.{levels_of}
use Rattle.topic_filter.specs.Texts.{are_filter_levels}
use Rattle.topic_filter.proofs.Valid.{tested_last, tested_more}
use Rattle.topic_filter.proofs.texts.has_filter_levels.Goals as goal

pub returns-in-None : goal.returns-in-None
returns-in-None c =
    let last = tested_last c.levels.rest.now _ _ _ c.level_len.ensures.place c.split_at.ensures.front c.split_at.ensures.back c.in-None.ensures.cases in
    c.is_last_level.ensures ∙ sym last ∙ c.levels.invariant

pub levels-preserved : goal.levels-preserved
levels-preserved c =
    let below = are_filter_levels (levels_of c.in-Some.below.now) in
    let more = tested_more c.levels.rest.now _ _ _ _ _ c.level_len.ensures.place c.split_at.ensures.front c.split_at.ensures.back c.in-Some.ensures.cases.0 in
    ap (λ tested. tested && below) c.if-is_filter_level.ensures ∙ sym more ∙ c.levels.invariant

pub returns-in-Some-2 : goal.returns-in-Some-2
returns-in-Some-2 c =
    let below = are_filter_levels (levels_of c.in-Some-2.field-0.1.now) in
    let more = tested_more c.levels.rest.now _ _ _ _ _ c.level_len.ensures.place c.split_at.ensures.front c.split_at.ensures.back c.in-Some-2.ensures.cases.0 in
    ap (λ tested. tested && below) c.if-is_filter_level.ensures ∙ sym more ∙ c.levels.invariant
