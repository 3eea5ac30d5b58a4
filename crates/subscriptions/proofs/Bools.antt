-- What tests say of each other.
use Rattle.std.proofs.Common.{sym, ◌≡◌, Bool, true, false, not, ◌&&◌, ◌||◌, refl, ◌<◌, ◌≤◌, ℕ, nat_lt, nat_le, arith}
use Rattle.std.proofs.lemmas.Bool.Decides.{nat_tests}

pub left_true : (a b : Bool) → (a && b) ≡ true → a ≡ true
left_true true b e = refl
left_true false b e = absurd (cc e)

pub right_true : (a b : Bool) → (a && b) ≡ true → b ≡ true
right_true true b e = e
right_true false b e = absurd (cc e)

pub both_true : (a b : Bool) → a ≡ true → b ≡ true → (a && b) ≡ true
both_true true b e f = f
both_true false b e f = absurd (cc e)

pub either : {P : Type 0} (a b : Bool) → (a || b) ≡ true → (a ≡ true → P) → (b ≡ true → P) → P
either true b e left right = left refl
either false b e left right = right e

pub or_left : (a b : Bool) → a ≡ true → (a || b) ≡ true
or_left true b e = refl
or_left false b e = absurd (cc e)

pub or_right : (a b : Bool) → b ≡ true → (a || b) ≡ true
or_right true b e = refl
or_right false b e = e

pub not_true : (a : Bool) → not a ≡ true → a ≡ false
not_true true e = absurd (cc e)
not_true false e = refl

-- two tests that imply each other are the same
pub same_tests : (a b : Bool) → (a ≡ true → b ≡ true) → (b ≡ true → a ≡ true) → a ≡ b
same_tests true true to from = refl
same_tests true false to from = sym (to refl)
same_tests false true to from = from refl
same_tests false false to from = refl

pub or_false : (a b : Bool) → (a || (b || false)) ≡ (a || b)
or_false true b = refl
or_false false true = refl
or_false false false = refl

pub or_assoc : (a b c : Bool) → ((a || b) || c) ≡ (a || (b || c))
or_assoc true b c = refl
or_assoc false b c = refl

pub not_false : (a : Bool) → a ≡ false → not a ≡ true
not_false a e = rw e refl

pub or_first : (a b : Bool) → a ≡ true → a ≡ (a || b)
or_first true b e = refl
or_first false b e = absurd (cc e)

pub or_second : (a b : Bool) → a ≡ false → b ≡ (a || b)
or_second true b e = absurd (cc e)
or_second false b e = refl

-- ---- Orders of numbers

pub le_of : (a b : ℕ) → nat_le a b ≡ true → a ≤ b
le_of a b e = grind (arith, nat_tests)

pub not_le : (a b : ℕ) → nat_le a b ≡ false → b < a
not_le a b e = grind (arith, nat_tests)

pub lt_of : (a b : ℕ) → nat_lt a b ≡ true → a < b
lt_of a b e = grind (arith, nat_tests)

pub not_lt : (a b : ℕ) → nat_lt a b ≡ false → b ≤ a
not_lt a b e = grind (arith, nat_tests)

pub le_true : (a b : ℕ) → a ≤ b → nat_le a b ≡ true
le_true a b low = grind (arith, nat_tests)
