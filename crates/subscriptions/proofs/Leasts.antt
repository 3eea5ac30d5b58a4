-- The least number of which something holds, found by going through all.
use Rattle.std.proofs.Common.{sym, ◌∙◌, ◌≡◌, ◌<◌, ◌≤◌, ℕ, Bool, true, false, ◌&&◌, ◌||◌, ◌==◌, nat_lt, nat_le, min, List, take, length, get_or, ◌+◌, Option, Some, None, refl, ap, subst, arith}
use Rattle.std.specs.List.{list_any}
use Rattle.std.proofs.lemmas.List.{take_all}
use Rattle.std.proofs.lemmas.List.Folds.{list_any_more}
use Rattle.std.proofs.lemmas.Bool.Decides.{Decides-eqb}
use Rattle.subscriptions.specs.Nearest.{IsLeast, nearest, lesser}
use Rattle.subscriptions.proofs.Bools.{either, or_left, or_right, le_of, not_le, lt_of, not_lt}

eq_of : (a b : ℕ) → (a == b) ≡ true → a ≡ b
eq_of a b e = (Decides-eqb a b).0 e

itself : (a : ℕ) → (a == a) ≡ true
itself a = (Decides-eqb a a).1 refl

and_true : (a : Bool) → (a && true) ≡ a
and_true true = refl
and_true false = refl

and_false : (a : Bool) → (a && false) ≡ false
and_false true = refl
and_false false = refl

-- one more number of which something may hold
pub least_step : (before after : ℕ → Bool) (from n : ℕ) (hit : Bool) (least : Option ℕ) → ((m : ℕ) → after m ≡ (before m || (n == m && hit))) → IsLeast before from least → IsLeast after from (nearest hit n from least)
least_step before after from n false least each s = missed least s
  where
    back : (m : ℕ) → after m ≡ true → before m ≡ true
    back m e = either (before m) (n == m && false) (sym (each m) ∙ e) (λ t. t) (λ f. absurd (cc (f, and_false (n == m))))

    missed : (found : Option ℕ) → IsLeast before from found → IsLeast after from found
    missed None t = record { holding = tt; least = λ m low e. t.least m low (back m e) }
    missed (Some l) t = record { holding = (t.holding.0, each l ∙ or_left (before l) (n == l && false) t.holding.1); least = λ m low e. t.least m low (back m e) }
least_step before after from n true None each s = go (nat_le from n) refl
  where
    go : (b : Bool) → nat_le from n ≡ b → IsLeast after from (nearest true n from None)
    go true e = rw e (record {
      holding = (le_of from n e, each n ∙ or_right (before n) (n == n && true) (and_true (n == n) ∙ itself n));
      least = λ m low h. either (before m) (n == m && true) (sym (each m) ∙ h) (λ old. absurd (s.least m low old)) (λ new. let same : n ≡ m = eq_of n m (sym (and_true (n == m)) ∙ new) in omega (arith, same));
    })
    go false e = rw e (record {
      holding = tt;
      least = λ m low h. either (before m) (n == m && true) (sym (each m) ∙ h) (λ old. s.least m low old) (λ new. let same : n ≡ m = eq_of n m (sym (and_true (n == m)) ∙ new) in let below : n < from = not_le from n e in absurd (omega (arith, same, below)));
    })
least_step before after from n true (Some l) each s = go (nat_le from n) refl (nat_lt n l) refl
  where
    kept : (from ≤ n → l ≤ n) → IsLeast after from (Some l)
    kept above = record {
      holding = (s.holding.0, each l ∙ or_left (before l) (n == l && true) s.holding.1);
      least = λ m low h. either (before m) (n == m && true) (sym (each m) ∙ h) (λ old. s.least m low old) (λ new. let same : n ≡ m = eq_of n m (sym (and_true (n == m)) ∙ new) in let low' : from ≤ n = omega (arith, same, low) in let more = above low' in omega (arith, same, more));
    }

    go : (b : Bool) → nat_le from n ≡ b → (t : Bool) → nat_lt n l ≡ t → IsLeast after from (nearest true n from (Some l))
    go true e true f = rw (e, f) (record {
      holding = (le_of from n e, each n ∙ or_right (before n) (n == n && true) (and_true (n == n) ∙ itself n));
      least = λ m low h. either (before m) (n == m && true) (sym (each m) ∙ h) (λ old. let more : l ≤ m = s.least m low old in let less : n < l = lt_of n l f in omega (arith, more, less)) (λ new. let same : n ≡ m = eq_of n m (sym (and_true (n == m)) ∙ new) in omega (arith, same));
    })
    go true e false f = rw (e, f) (kept (λ low. not_lt n l f))
    go false e t f = rw e (kept (λ low. let below : n < from = not_le from n e in absurd (omega (arith, low, below))))

-- the least of two lots
pub least_of_both : (one other all : ℕ → Bool) (from : ℕ) (a b : Option ℕ) → ((m : ℕ) → all m ≡ (one m || other m)) → IsLeast one from a → IsLeast other from b → IsLeast all from (lesser a b)
least_of_both one other all from None None each s t = record { holding = tt; least = λ m low h. either (one m) (other m) (sym (each m) ∙ h) (λ e. s.least m low e) (λ e. t.least m low e) }
least_of_both one other all from None (Some l) each s t = record {
  holding = (t.holding.0, each l ∙ or_right (one l) (other l) t.holding.1);
  least = λ m low h. either (one m) (other m) (sym (each m) ∙ h) (λ e. absurd (s.least m low e)) (λ e. t.least m low e);
}
least_of_both one other all from (Some n) None each s t = record {
  holding = (s.holding.0, each n ∙ or_left (one n) (other n) s.holding.1);
  least = λ m low h. either (one m) (other m) (sym (each m) ∙ h) (λ e. s.least m low e) (λ e. absurd (t.least m low e));
}
least_of_both one other all from (Some n) (Some l) each s t = record {
  holding = (let p = s.holding.0 in let q = t.holding.0 in omega (arith, p, q), holds);
  least = λ m low h. either (one m) (other m) (sym (each m) ∙ h) (λ e. let p : n ≤ m = s.least m low e in omega (arith, p)) (λ e. let p : l ≤ m = t.least m low e in omega (arith, p));
}
  where
    at : (m : ℕ) → min n l ≡ m → all m ≡ true → all (min n l) ≡ true
    at m e h = rw e h

    holds : all (min n l) ≡ true
    holds = go (nat_le n l) refl
      where
        go : (b : Bool) → nat_le n l ≡ b → all (min n l) ≡ true
        go true e = at n (let p = le_of n l e in omega (arith, p)) (each n ∙ or_left (one n) (other n) s.holding.1)
        go false e = at l (let p = not_le n l e in omega (arith, p)) (each l ∙ or_right (one l) (other l) t.holding.1)

-- the next element of a list, and its end
pub least_more : {X : Type 0} (of : X → ℕ) (hits : X → Bool) (xs : List X) (i : ℕ) (x : X) (from : ℕ) (least found : Option ℕ) → i < length xs → x ≡ get_or xs i x → IsLeast (λ n. list_any (λ y. of y == n && hits y) (take i xs)) from least
    → found ≡ nearest (hits x) (of x) from least → IsLeast (λ n. list_any (λ y. of y == n && hits y) (take (i + 1) xs)) from found
least_more of hits xs i x from least found inside at' s is =
    rw is (least_step (λ n. list_any (λ y. of y == n && hits y) (take i xs)) (λ n. list_any (λ y. of y == n && hits y) (take (i + 1) xs)) from (of x) (hits x) least
    (λ n. list_any_more (λ y. of y == n && hits y) xs i x inside ∙ ap (λ y. list_any (λ z. of z == n && hits z) (take i xs) || (of y == n && hits y)) (sym at')) s)

pub least_all : {X : Type 0} (of : X → ℕ) (hits : X → Bool) (xs : List X) (i : ℕ) (from : ℕ) (least : Option ℕ) → length xs ≤ i → IsLeast (λ n. list_any (λ x. of x == n && hits x) (take i xs)) from least → IsLeast (λ n. list_any (λ x. of x == n && hits x) xs) from least
least_all {X = X} of hits xs i from least end s = subst (λ (ys : List X). IsLeast (λ n. list_any (λ x. of x == n && hits x) ys) from least) (take_all i xs end) s
