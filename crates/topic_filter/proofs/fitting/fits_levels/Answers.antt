use Rattle.std.proofs.Common.{◌+◌, ◌∙◌, length, drop, sym, ap, arith}
use Rattle.std.proofs.lemmas.List.{length-drop}
use Rattle.topic_filter.specs.Levels.{levels_of}
use Rattle.topic_filter.specs.Fitting.{fits_levels}
use Rattle.topic_filter.proofs.Cursors.{rest_of, on_plus, on_same, on_name_end, on_filter_end}
use Rattle.topic_filter.proofs.fitting.fits_levels.Goals as goal
use Rattle.topic_filter.proofs.fitting.fits_levels.Goals.{in-43, in_default+else-read-name+else-name-read}

pub loop-at-preserved : goal.loop-at-preserved
loop-at-preserved c =
    let filter = c.args.filter.now in
    let name = c.args.name.now in
    let left = drop (c.loop-at.at + 1) filter in
    elim c.match-byte.branch [
      | in-43 w ↦
          let step = on_plus filter name c.loop-at.at c.loop-at.read w.level_len-read.result c.loop-at-test.true w.in-43.is c.loop-at.invariant.filter w.level_len-read.ensures.place in
          record {
            within = omega (arith, w.level_len-read.ensures.within, ap length (rest_of name c.loop-at.read), length-drop c.loop-at.read name);
            filter = step.valid;
            left = ap (λ read. fits_levels (levels_of left) (levels_of (drop read name))) w.read-is ∙ step.same ∙ c.loop-at.invariant.left;
          }
      | in_default+else-read-name+else-name-read w ↦
          let step = on_same filter name c.loop-at.at c.loop-at.read c.loop-at-test.true (omega arith) (λ e. omega arith) (λ e. omega arith) w.if-name-read.false c.loop-at.invariant.filter in
          record {
            within = omega arith;
            filter = step.valid;
            left = ap (λ read. fits_levels (levels_of left) (levels_of (drop read name))) w.read-is ∙ step.same ∙ c.loop-at.invariant.left;
          }
    ]

pub returns-then-read-name : goal.returns-then-read-name
returns-then-read-name c =
    let step = on_name_end c.args.filter.now c.args.name.now c.loop-at.at c.loop-at.read c.loop-at-test.true c.if-read-name.true (λ e. omega arith) (λ e. omega arith) in
    rw c.as_slice.ensures at c.eq.ensures ∙ sym step ∙ c.loop-at.invariant.left

pub returns : goal.returns
returns c = sym (on_filter_end c.args.filter.now c.args.name.now c.loop-at.at c.loop-at.read (omega arith) c.loop-at.invariant.within) ∙ c.loop-at.invariant.left
