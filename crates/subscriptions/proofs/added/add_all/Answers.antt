use Rattle.std.proofs.Common.{◌≡◌, ◌+◌, ◌∙◌, [], ◌∷◌, sym, ap, refl, length, reverse, drop, get_or, arith}
use Rattle.std.proofs.lemmas.List.{drop_all}
use Rattle.subscriptions.specs.Parts.{with_coded}
use Rattle.subscriptions.proofs.Additions.{added, added_start, added_step, added_on, added_none, added_end, added_longer}
use Rattle.subscriptions.proofs.added.add_all.Goals as goal
use Rattle.subscriptions.proofs.added.add_all.Goals.{in-Some, in_default}

pub loop-code-init : goal.loop-code-init
loop-code-init g c = added_start c.args.task c.args.asks.items c.reverse.new.self.items c.args.codes.now c.args.granted.now c.reverse.ensures.items

pub add-requires : goal.add-requires
add-requires g c =
    let step = added_step c.args.task c.loop-code.asks.items c.pop.new.self.items c.in-Some.ask c.args.codes.now c.loop-code.code-index c.loop-code.granted c.in-Some.ensures.items c.loop-code-test.true in
    let now = with_coded c.args.task (c.in-Some.ask ∷ reverse c.pop.new.self.items) (get_or c.args.codes.now c.loop-code.code-index 0) c.loop-code.granted c.in-Some.ask.filter in
    let more = added_longer c.args.task (reverse c.pop.new.self.items) (drop (c.loop-code.code-index + 1) c.args.codes.now) now in
    let whole = ap length (sym step ∙ c.loop-code.invariant) in
    let most = c.requires in
    rw c.deref.ensures.value (omega (arith, more, whole, most))

pub loop-code-preserved : goal.loop-code-preserved
loop-code-preserved g c = elim c.match-pop.branch [
  | in-Some w ↦
      let now = rw w.deref.ensures.value at w.add.ensures in
      rw w.granted-is (added_on c.args.task c.loop-code.asks.items c.pop.new.self.items w.in-Some.ask c.args.codes.now c.loop-code.code-index c.loop-code.granted w.add.new.granted _ w.in-Some.ensures.items c.loop-code-test.true now c.loop-code.invariant)
  | in_default w ↦
      let old = c.loop-code.asks.ok.0 in
      let new = c.pop.new.self.ok.0 in
      let none = w.in_default.ensures.cases in
      let end = added_end c.args.task c.loop-code.asks.items c.pop.new.self.items (drop c.loop-code.code-index c.args.codes.now) (drop (c.loop-code.code-index + 1) c.args.codes.now) c.loop-code.granted (omega (arith, old, none)) (omega (arith, new, none)) in
      rw w.granted-is (sym end ∙ c.loop-code.invariant)
]

pub returns : goal.returns
returns g c =
    let none : drop c.loop-code.code-index c.args.codes.now ≡ [] = drop_all c.loop-code.code-index c.args.codes.now c.loop-code-test.false in
    sym (ap (λ codes. added c.args.task (reverse c.loop-code.asks.items) codes c.loop-code.granted) none ∙ added_none c.args.task (reverse c.loop-code.asks.items) c.loop-code.granted) ∙ c.loop-code.invariant
