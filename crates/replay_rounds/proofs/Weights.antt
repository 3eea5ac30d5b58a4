-- What a tape still has to give only falls, and at each receive it falls or the connection is at its end.
use Rattle.std.proofs.Common.{◌≡◌, ◌⊎◌, ℕ, zero, suc, ◌+◌, ◌*◌, ◌<◌, ◌≤◌, min, Bool, true, false, cond, List, [], ◌∷◌, length, Option, Some, refl, ap, ◌∙◌, arith, inl, inr, length-drop}
use Rattle.std.specs.Prelude.{nat_eq}
use Rattle.std.proofs.Math.Nat.{mul-le-mul_left, mul-add, mul-one}
use Rattle.agent_link.specs.declared.link.Heard.{Heard}
use Rattle.agent_link.specs.declared.link.Heard.TheVariants as heard
use Rattle.broker_tape.specs.declared.tape.Item.{Item}
use Rattle.broker_tape.specs.declared.tape.Item.TheVariants as items
use Rattle.broker_tape.specs.Playing.{is_opening, begins, closed, opens, opens_by, opens_at, is_used, is_empty, next, hears, hears_at, hears_of}
use Rattle.replay_rounds.specs.Bound.{weight, weights}

by_cond : (b : Bool) (x y : List Item) (n : ℕ) → weights x ≤ n → weights y ≤ n → weights (cond b x y) ≤ n
by_cond true x y n h g = h
by_cond false x y n h g = g

pub closed_less : (xs : List Item) → weights (closed xs) ≤ weights xs
closed_less [] = omega arith
closed_less (item ∷ xs) = let less = closed_less xs in by_cond (is_opening item) (item ∷ xs) (closed xs) (weights (item ∷ xs)) (omega arith) (omega (arith, less))

some_weight : (item : Item) → 1 ≤ weight item
some_weight items.Open = omega arith
some_weight items.Refuse = omega arith
some_weight (items.Room count) = omega arith
some_weight (items.Hear bytes) = omega arith
some_weight (items.Quiet count) = omega arith
some_weight items.End = omega arith
some_weight items.Fail = omega arith

opens_by_less : (b : Bool) (xs : List Item) → weights (opens_by b xs).1 ≤ weights xs
opens_by_less true xs = omega arith
opens_by_less false xs = closed_less xs

opens_at_less : (xs : List Item) → weights (opens_at xs).1 ≤ weights xs
opens_at_less [] = omega arith
opens_at_less (item ∷ xs) = let less = opens_by_less (begins item) xs in omega (arith, less)

pub opens_less : (xs : List Item) → weights (opens xs).1 ≤ weights xs
opens_less xs = let a = closed_less xs in let b = opens_at_less (closed xs) in omega (arith, a, b)

begun_at_less : (xs : List Item) → (opens_at xs).0 ≡ true → weights (opens_at xs).1 < weights xs
begun_at_less [] e = absurd (cc e)
begun_at_less (item ∷ xs) e = let some = some_weight item in let less = opens_by_less (begins item) xs in omega (arith, some, less)

-- an opening that begins a connection uses its item
pub begun_less : (xs : List Item) → (opens xs).0 ≡ true → weights (opens xs).1 < weights xs
begun_less xs e = let a = closed_less xs in let b = begun_at_less (closed xs) e in omega (arith, a, b)

-- ---- Receives

-- a list of items that a receive meets
abbrev IsMet : List Item → Type 0
IsMet [] = Unit {0}
IsMet (item ∷ xs) = is_used item ≡ false

met_by : (b : Bool) (item : Item) (xs ys : List Item) → is_used item ≡ b → IsMet ys → IsMet (cond b ys (item ∷ xs))
met_by true item xs ys e h = h
met_by false item xs ys e h = e

met : (xs : List Item) → IsMet (next xs)
met [] = tt
met (item ∷ xs) = met_by (is_used item) item xs (next xs) refl (met xs)

next_less : (xs : List Item) → weights (next xs) ≤ weights xs
next_less [] = omega arith
next_less (item ∷ xs) = let less = next_less xs in by_cond (is_used item) (next xs) (item ∷ xs) (weights (item ∷ xs)) (omega (arith, less)) (omega arith)

-- the answer of a receive, and what is left of items of this weight
abbrev pub Lowers : ℕ → Option Heard × List Item → Type 0
Lowers n answer = (weights answer.1 < n) ⊎ ((answer.0 ≡ Some heard.End) × (weights answer.1 ≤ n))

some_bytes : (bytes : List ℕ) → is_empty bytes ≡ false → 1 ≤ length bytes
some_bytes [] e = absurd (cc e)
some_bytes (b ∷ bytes) e = omega arith

some_count : (count : ℕ) → nat_eq count 0 ≡ false → 1 ≤ count
some_count zero e = absurd (cc e)
some_count (suc count) e = omega arith

lowers_at : (item : Item) (xs : List Item) → is_used item ≡ false → Lowers (weights (item ∷ xs)) (hears_of 4096 item xs)
lowers_at items.Open xs e = inr (refl, omega arith)
lowers_at items.Refuse xs e = inr (refl, omega arith)
lowers_at (items.Room count) xs e = absurd (cc e)
lowers_at (items.Hear bytes) xs e =
    let some = some_bytes bytes e in let dropped = length-drop (min (length bytes) 4096) bytes in inl (omega (arith, some, dropped))
lowers_at (items.Quiet count) xs e = let some = some_count count e in inl (omega (arith, some))
lowers_at items.End xs e = inl (omega arith)
lowers_at items.Fail xs e = inl (omega arith)

lowers_met : (xs : List Item) → IsMet xs → Lowers (weights xs) (hears_at 4096 xs)
lowers_met [] h = inr (refl, omega arith)
lowers_met (item ∷ xs) h = lowers_at item xs h

lowers_more : (n m : ℕ) (answer : Option Heard × List Item) → m ≤ n → Lowers m answer → Lowers n answer
lowers_more n m answer less (inl fewer) = inl (omega (arith, less, fewer))
lowers_more n m answer less (inr ended) = let same = ended.1 in inr (ended.0, omega (arith, less, same))

pub hears_less : (xs : List Item) → Lowers (weights xs) (hears 4096 xs)
hears_less xs = lowers_more (weights xs) (weights (next xs)) (hears 4096 xs) (next_less xs) (lowers_met (next xs) (met xs))

-- ---- The sum

-- one item less pays for all that may be more
pub consumed : (reopen t u p q l m a b : ℕ) → u < t → q ≤ 5 + reopen → m ≤ l → b ≤ a → (6 + reopen) * u + q + m + b < (6 + reopen) * t + p + l + a
consumed reopen t u p q l m a b less most lines left =
    let paid : (6 + reopen) * (u + 1) ≤ (6 + reopen) * t = mul-le-mul_left (6 + reopen) (omega (arith, less)) in
    let split : (6 + reopen) * (u + 1) ≡ (6 + reopen) * u + (6 + reopen) = one (6 + reopen) u in
    omega (arith, paid, split, most, lines, left)
  where
    one : (k u : ℕ) → k * (u + 1) ≡ k * u + k
    one k u = mul-add k u 1 ∙ ap (λ m. k * u + m) (mul-one k)

pub lowered : (reopen t u p q l m a b : ℕ) → u ≤ t → q + m + b < p + l + a → (6 + reopen) * u + q + m + b < (6 + reopen) * t + p + l + a
lowered reopen t u p q l m a b less lower =
    let paid : (6 + reopen) * u ≤ (6 + reopen) * t = mul-le-mul_left (6 + reopen) less in omega (arith, paid, lower)
