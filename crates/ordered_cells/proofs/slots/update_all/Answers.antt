use Rattle.std.proofs.Common.{◌<◌, ◌≤◌, ◌++◌, length, map, drop, None, List, Option, ap, ◌∙◌, arith}
use Rattle.std.specs.Prelude.{is_some}
use Rattle.std.specs.Option.{option_and_then}
use Rattle.std.proofs.lemmas.List.{length-set, take_all, drop_all, append-nil, get_or_default, with_items_is}
use Rattle.ordered_cells.proofs.Updates.{used_set, one_more, still_there}
use Rattle.ordered_cells.proofs.slots.update_all.Goals as goal

pub loop-cell-preserved : goal.loop-cell-preserved
loop-cell-preserved g c =
    let old = c.args.cells.now.items in
    let now = c.loop-cell.cell-items in
    let i = c.loop-cell.cell-index in
    let o = c.answer.new.cell in
    let inside : i < length now = omega arith in
    let inside_old : i < length old = omega (arith, inside, c.loop-cell.invariant.len) in
    record {
      len = length-set now i o ∙ c.loop-cell.invariant.len;
      fewer = used_set now old i o inside (λ used. c.loop-cell.invariant.fewer i (ap is_some (get_or_default now i None c.cell-item.result inside) ∙ c.answer.ensures.fewer used)) c.loop-cell.invariant.fewer;
      answers = λ p answers. one_more (option_and_then p) old now i o inside_old (c.loop-cell.invariant.answers p answers)
          (c.answer.ensures.answers p answers ∙ ap (option_and_then p) (get_or_default now i c.cell-item.result None inside ∙ still_there (option_and_then p) old now i inside_old (c.loop-cell.invariant.answers p answers)));
    }

pub returns-clause-answers : goal.returns-clause-answers
returns-clause-answers g c = λ p answers.
    let old = c.args.cells.now.items in
    let i = c.loop-cell.cell-index in
    let past : length old ≤ i = omega (arith, c.loop-cell-test.false, ap length c.deref_mut-cell-items.ensures.value) in
    with_items_is c.args.cells.now c.loop-cell.cell-items (omega (arith, c.loop-cell.invariant.len)) ∙ c.loop-cell.invariant.answers p answers
    ∙ ap (λ (os : List (Option g.row.T.Denot)). map (option_and_then p) os ++ drop i old) (take_all i old past)
    ∙ ap (λ (os : List (Option g.row.T.Denot)). map (option_and_then p) old ++ os) (drop_all i old past)
    ∙ append-nil (map (option_and_then p) old)
