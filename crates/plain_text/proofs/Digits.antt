-- Digits, one by one.
use Rattle.std.proofs.Common.{◌≡◌, ℕ, ◌+◌, ◌-◌, ◌*◌, ◌<◌, ◌≤◌, Bool, true, false, cond, List, [], ◌∷◌, ◌++◌, length, take, drop, get_or, Option, Some, None, refl, sym, ap, ◌∙◌, subst, arith}
use Rattle.std.specs.Prelude.{◌&&◌, nat_le, if◌then◌else◌}
use Rattle.std.proofs.lemmas.Bool.{le-leb, lt-leb}
use Rattle.std.proofs.lemmas.List.{take_more, take_all, take-append-drop}
use Rattle.plain_text.specs.Numbers.{value_in, is_number, number_in}

value_more : (n : ℕ) (word : List ℕ) (b : ℕ) → value_in n (word ++ b ∷ []) ≡ 10 * value_in n word + (b - 48)
value_more n [] b = refl
value_more n (c ∷ word) b = value_more (10 * n + (c - 48)) word b

-- a digit more
pub digit_more : (word : List ℕ) (i value : ℕ) → i < length word → value ≡ value_in 0 (take i word) → 10 * value + (get_or word i 0 - 48) ≡ value_in 0 (take (i + 1) word)
digit_more word i value within h =
    ap (λ n. 10 * n + (get_or word i 0 - 48)) h ∙ sym (value_more 0 (take i word) (get_or word i 0)) ∙ ap (value_in 0) (sym (take_more word i 0 within))

grows : (n : ℕ) (word : List ℕ) → n ≤ value_in n word
grows n [] = omega arith
grows n (b ∷ word) = let more = grows (10 * n + (b - 48)) word in omega (arith, more)

value_split : (n : ℕ) (word more : List ℕ) → value_in n (word ++ more) ≡ value_in (value_in n word) more
value_split n [] more = refl
value_split n (b ∷ word) more = value_split (10 * n + (b - 48)) word more

-- a front is no more than the whole
front_less : (word : List ℕ) (i : ℕ) → value_in 0 (take i word) ≤ value_in 0 word
front_less word i =
    let more = grows (value_in 0 (take i word)) (drop i word) in
    let whole = sym (value_split 0 (take i word) (drop i word)) ∙ ap (value_in 0) (take-append-drop i word) in
    omega (arith, more, whole)

by_most : (number large small : Bool) (v : ℕ) → small ≡ false → cond (number && large && small) (Some v) None ≡ None
by_most true true small v e = rw e refl
by_most true false small v e = refl
by_most false large small v e = refl

-- what is above the limit stays above it
pub too_many : (word : List ℕ) (i value least most : ℕ) → i < length word → value ≡ value_in 0 (take i word) → most < 10 * value + (get_or word i 0 - 48) → number_in least most word ≡ None
unfolding number_in
too_many word i value least most within h more =
    let front = front_less word (i + 1) in
    let next = digit_more word i value within h in
    by_most (is_number word) (nat_le least (value_in 0 word)) (nat_le (value_in 0 word) most) (value_in 0 word) (lt-leb (value_in 0 word) most (omega (arith, next, more, front)))

pub all_digits : (word : List ℕ) (i value least most : ℕ) → is_number word ≡ true → length word ≤ i → value ≡ value_in 0 (take i word) → value ≤ most → least ≤ value → number_in least most word ≡ Some value
unfolding number_in
all_digits word i value least most number end h small large =
    let whole : value_in 0 word ≡ value = ap (value_in 0) (sym (take_all i word end)) ∙ sym h in
    rw (number, le-leb least (value_in 0 word) (omega (arith, whole, large)), le-leb (value_in 0 word) most (omega (arith, whole, small))) (ap Some whole)

by_least : (number large small : Bool) (v : ℕ) → large ≡ false → cond (number && large && small) (Some v) None ≡ None
by_least true large small v e = rw e refl
by_least false large small v e = refl

pub too_few : (word : List ℕ) (i value least most : ℕ) → length word ≤ i → value ≡ value_in 0 (take i word) → value < least → number_in least most word ≡ None
unfolding number_in
too_few word i value least most end h few =
    let whole : value_in 0 word ≡ value = ap (value_in 0) (sym (take_all i word end)) ∙ sym h in
    by_least (is_number word) (nat_le least (value_in 0 word)) (nat_le (value_in 0 word) most) (value_in 0 word) (lt-leb least (value_in 0 word) (omega (arith, whole, few)))

pub not_a_number : (word : List ℕ) (least most : ℕ) → is_number word ≡ false → number_in least most word ≡ None
unfolding number_in
not_a_number word least most e = rw e refl
