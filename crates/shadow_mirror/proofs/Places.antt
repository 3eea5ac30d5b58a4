-- Where the first element stands that passes a test.
use Rattle.std.proofs.Common.{◌≡◌, ◌≤◌, ℕ, not, Bool, true, false, List, length, Option, Some, None, nat_lt, cond, position, refl, arith}
use Rattle.std.specs.List.{position_or_len}
use Rattle.std.proofs.lemmas.List.Sums.{prefix_len-le-length}
use Rattle.std.proofs.lemmas.Bool.Decides.{nat_tests}

pub place_within : {A : Type 0} (p : A → Bool) (xs : List A) → position_or_len p xs ≤ length xs
place_within p xs = prefix_len-le-length (λ x. not (p x)) xs

by_test : (b : Bool) (n m : ℕ) (x : ℕ) → n ≤ m → nat_lt n m ≡ b → Some x ≡ cond b (Some n) None → x ≡ n
by_test true n m x le is e = cc e
by_test false n m x le is e = absurd (cc e)

none_by_test : (b : Bool) (n m : ℕ) → n ≤ m → nat_lt n m ≡ b → (at : Option ℕ) → at ≡ None → at ≡ cond b (Some n) None → m ≡ n
none_by_test true n m le is at empty e = absurd (cc (empty, e))
none_by_test false n m le is at empty e = grind (arith, nat_tests)

pub place_found : {A : Type 0} (p : A → Bool) (xs : List A) (x : ℕ) → Some x ≡ position p xs → x ≡ position_or_len p xs
place_found p xs x e = by_test (nat_lt (position_or_len p xs) (length xs)) _ _ x (place_within p xs) refl e

pub place_at_end : {A : Type 0} (p : A → Bool) (xs : List A) (at : Option ℕ) → at ≡ None → at ≡ position p xs → length xs ≡ position_or_len p xs
place_at_end p xs at empty e = none_by_test (nat_lt (position_or_len p xs) (length xs)) _ _ (place_within p xs) refl at empty e
