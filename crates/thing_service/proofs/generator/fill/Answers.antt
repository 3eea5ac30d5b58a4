use Rattle.std.proofs.Common.{◌≡◌, ◌/◌, sym, ap, ◌∙◌, arith, refl, length}
use Rattle.std.proofs.lemmas.List.{length-set, take_all}
use Rattle.thing_service.specs.Generator.{next, state, bytes}
use Rattle.thing_service.proofs.Bytes.{front_more, state_more, front_none}
use Rattle.thing_service.proofs.generator.fill.Goals as goal

pub loop-i-init : goal.loop-i-init
loop-i-init c = record {
  len = refl;
  within = omega arith;
  front = front_none c.args.seed c.args.at c.args.out.now;
  state = c.ahead-state.ensures ∙ ap (state c.args.seed) (omega arith);
}

pub loop-i-preserved : goal.loop-i-preserved
loop-i-preserved c =
    let new = c.next-state.ensures ∙ ap next c.loop-i.invariant.state in
    record {
      len = length-set c.loop-i.out c.loop-i.i _ ∙ c.loop-i.invariant.len;
      within = omega (arith, c.loop-i-test.true, length-set c.loop-i.out c.loop-i.i (c.next-state.result / 72057594037927936));
      front = front_more c.args.seed c.args.at c.loop-i.i c.next-state.result c.loop-i.out c.loop-i-test.true c.loop-i.invariant.front new;
      state = state_more c.args.seed c.args.at c.loop-i.i c.next-state.result new;
    }

pub returns : goal.returns
returns c =
    let all : c.loop-i.i ≡ length c.loop-i.out = omega (arith, c.loop-i-test.false, c.loop-i.invariant.within) in
    sym (take_all c.loop-i.i c.loop-i.out c.loop-i-test.false) ∙ c.loop-i.invariant.front ∙ ap (bytes c.args.seed c.args.at) (all ∙ c.loop-i.invariant.len)
