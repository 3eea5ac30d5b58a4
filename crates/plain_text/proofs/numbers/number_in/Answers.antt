use Rattle.std.proofs.Common.{◌≡◌, ℕ, sym, ◌∙◌, arith}
use Rattle.plain_text.proofs.Digits.{all_digits, too_few}
use Rattle.plain_text.proofs.numbers.number_in.Goals as goal

pub returns-then-value-least-clause-number : goal.returns-then-value-least-clause-number
returns-then-value-least-clause-number c =
    sym
    (too_few c.args.word.now c.loop-digit.digit-index c.loop-digit.value c.args.least c.args.most (omega (arith, c.loop-digit-test.false)) c.loop-digit.invariant.so_far c.if-value-least.true)

pub returns-clause-number : goal.returns-clause-number
returns-clause-number c =
    sym
    (all_digits c.args.word.now c.loop-digit.digit-index c.loop-digit.value c.args.least c.args.most (sym c.is_number.ensures ∙ c.if-not-is_number.false) (omega (arith, c.loop-digit-test.false))
    c.loop-digit.invariant.so_far c.loop-digit.invariant.small (omega (arith, c.if-value-least.false)))
