-- What the rule says of each number.
use Rattle.std.proofs.Common.{ℕ, ap, slice_index, ⊎_elim, inl, inr, arith}
use Rattle.std.specs.Int.{bit_at}
use Rattle.std.proofs.lemmas.Bool.{cases_eq}
use Rattle.std.proofs.lemmas.Nat.Bits.{bit_at-lt, bit_at-zero}
use Rattle.command_pool.specs.Rule.{Moment, EachOnce}
use Rattle.command_pool.specs.Laws.{IsLawful, EachMomentIsLawful}
use Rattle.command_pool.proofs.Held.{one_holder, two_holders, holder_of}
use Rattle.command_pool.proofs.Words.{once-below, once-above, once-le}

lawful : (pool : ℕ) (s : Moment) → EachOnce pool s → IsLawful pool s
lawful pool s rule = record {
  free_or_held = λ x low. ⊎_elim inl (λ taken. inr (holder_of x s.views (omega (arith, rule.1 x, once-below pool x low, bit_at-lt word x)))) (cases_eq (bit_at word x) 1);
  all_held_at_zero = λ zero x low. holder_of x s.views (omega (arith, rule.1 x, once-below pool x low, ap (λ n. bit_at n x) zero, bit_at-zero x));
  not_both = λ x free held. omega (arith, one_holder x s.views held.0 held.1 held.2, held.3, rule.1 x, once-le pool x);
  by_one_pass = λ x p q v w is at here there.
      ⊎_elim (λ e. e) (λ apart. absurd (omega (arith, two_holders x s.views p q v w is at apart, rule.1 x, once-le pool x))) (cases_eq p q);
  once = λ x p v is. omega (arith, one_holder x s.views p v is, rule.1 x, once-le pool x);
  no_other_free = λ x high free. omega (arith, rule.1 x, once-above pool x high);
  no_other_held = λ x high held. omega (arith, one_holder x s.views held.0 held.1 held.2, held.3, rule.1 x, once-above pool x high);
}
  where
    word : ℕ
    word = slice_index s.words 0

pub each_moment_is_lawful : EachMomentIsLawful
each_moment_is_lawful = lawful
