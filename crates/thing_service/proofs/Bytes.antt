-- Parts of an image.
use Rattle.std.proofs.Common.{◌≡◌, ℕ, zero, suc, ◌+◌, ◌-◌, ◌/◌, ◌^◌, ◌<◌, min, List, [], ◌∷◌, ◌++◌, map, get_or, length, take, drop, set, Result, Ok, Err, IfOk, refl, sym, ap, ◌∙◌, arith}
use Rattle.std.proofs.lemmas.List.{take_at}
use Rattle.thing_service.specs.Generator.{next, state, byte, bytes, image}

pub bytes_len : (seed at n : ℕ) → length (bytes seed at n) ≡ n
unfolding bytes
bytes_len seed at zero = refl
bytes_len seed at (suc n) = ap suc (bytes_len seed (suc at) n)

-- the same bytes, where place and number are the same
pub bytes_at : (seed i j m n : ℕ) → i ≡ j → m ≡ n → bytes seed i m ≡ bytes seed j n
bytes_at seed i j m n e f = ap (λ (k : ℕ). bytes seed k m) e ∙ ap (bytes seed j) f

none_at : (seed at n : ℕ) → n ≡ 0 → [] ≡ bytes seed at n
unfolding bytes
none_at seed at n e = ap (bytes seed at) (sym e)

pub bytes_more : (seed at m n : ℕ) → bytes seed at m ++ bytes seed (at + m) n ≡ bytes seed at (m + n)
unfolding bytes
bytes_more seed at zero n = bytes_at seed (at + 0) at n (0 + n) (omega arith) (omega arith)
bytes_more seed at (suc m) n =
    ap (λ (t : List ℕ). byte seed at ∷ t) (ap (λ (t : List ℕ). bytes seed (suc at) m ++ t) (bytes_at seed (at + suc m) (suc at + m) n n (omega arith) refl) ∙ bytes_more seed (suc at) m n)
    ∙ bytes_at seed at at (suc (m + n)) (suc m + n) refl (omega arith)

bytes_dropped : (seed at n k : ℕ) → drop k (bytes seed at n) ≡ bytes seed (at + k) (n - k)
unfolding bytes
bytes_dropped seed at n zero = bytes_at seed at (at + 0) n (n - 0) (omega arith) (omega arith)
bytes_dropped seed at zero (suc k) = none_at seed (at + suc k) (0 - suc k) (omega arith)
bytes_dropped seed at (suc n) (suc k) = bytes_dropped seed (suc at) n k ∙ bytes_at seed (suc at + k) (at + suc k) (n - k) (suc n - suc k) (omega arith) (omega arith)

bytes_taken : (seed at n k : ℕ) → take k (bytes seed at n) ≡ bytes seed at (min k n)
unfolding bytes
bytes_taken seed at n zero = none_at seed at (min 0 n) (omega arith)
bytes_taken seed at zero (suc k) = none_at seed at (min (suc k) 0) (omega arith)
bytes_taken seed at (suc n) (suc k) = ap (λ (t : List ℕ). byte seed at ∷ t) (bytes_taken seed (suc at) n k) ∙ bytes_at seed at at (suc (min k n)) (min (suc k) (suc n)) refl (omega arith)

-- a block of the image
pub block_is : (seed size len at : ℕ) → take len (drop at (image seed size)) ≡ bytes seed at (min (size - at) len)
block_is seed size len at = ap (take len) (bytes_dropped seed 0 size at ∙ bytes_at seed (0 + at) at (size - at) (size - at) (omega arith) refl) ∙ bytes_taken seed at (size - at) len ∙ ap (bytes seed at) (omega arith)

-- one byte more in a buffer
set_front : (xs : List ℕ) (i y : ℕ) → i < length xs → take (i + 1) (set xs i y) ≡ take i xs ++ y ∷ []
set_front [] i y lt = absurd (omega (arith, lt))
set_front (x ∷ xs) zero y lt = refl
set_front (x ∷ xs) (suc i) y lt = let e : suc i + 1 ≡ suc (i + 1) = omega arith in rw e (ap (λ (t : List ℕ). x ∷ t) (set_front xs i y (omega (arith, lt))))

pub front_more : (seed at i x : ℕ) (out : List ℕ) → i < length out → take i out ≡ bytes seed at i → x ≡ next (state seed (at + i)) → take (i + 1) (set out i (x / 2 ^ 56)) ≡ bytes seed at (i + 1)
unfolding bytes byte state
front_more seed at i x out lt so_far is =
    set_front out i (x / 2 ^ 56) lt ∙ ap (λ (t : List ℕ). t ++ (x / 2 ^ 56) ∷ []) so_far ∙ ap (λ (n : ℕ). bytes seed at i ++ (n / 2 ^ 56) ∷ []) is ∙ bytes_more seed at i 1

pub state_more : (seed at i x : ℕ) → x ≡ next (state seed (at + i)) → x ≡ state seed (at + (i + 1))
unfolding state
state_more seed at i x is = let e : at + (i + 1) ≡ suc (at + i) = omega arith in is ∙ ap (state seed) (sym e)

pub front_none : (seed at : ℕ) (out : List ℕ) → take 0 out ≡ bytes seed at 0
unfolding bytes
front_none seed at out = refl

-- one piece more of the image
pub piece_more : (seed at count n : ℕ) (piece buf : List ℕ) → n ≡ count → buf ≡ bytes seed at n → bytes seed 0 at ++ take count (buf ++ drop count piece) ≡ bytes seed 0 (at + count)
piece_more seed at count n piece buf e is =
    let len : length buf ≡ count = ap (λ (t : List ℕ). length t) is ∙ bytes_len seed at n ∙ e in
    ap (λ (t : List ℕ). bytes seed 0 at ++ t) (take_at buf (drop count piece) count len ∙ is ∙ bytes_at seed at (0 + at) n count (omega arith) e) ∙ bytes_more seed 0 at count

pub no_bytes : (seed : ℕ) → [] ≡ bytes seed 0 0
unfolding bytes
no_bytes seed = refl

pub ok_same : {X E : Type 0} (r : Result X E) (a b : X) → a ≡ b → IfOk r (λ x. x ≡ a) → IfOk r (λ x. x ≡ b)
ok_same (Ok x) a b e h = h ∙ e
ok_same (Err fault) a b e h = tt

-- one more element of a list that is mapped from the front
pub mapped_more : {X Y : Type 0} (f : X → Y) (xs : List X) (i : ℕ) (d x : X) (ys : List Y) → i < length xs → x ≡ get_or xs i d → ys ≡ map f (take i xs) → ys ++ f x ∷ [] ≡ map f (take (i + 1) xs)
mapped_more f [] i d x ys lt is e = absurd (omega (arith, lt))
mapped_more f (y ∷ xs) zero d x ys lt is e = rw (e, is) refl
mapped_more f (y ∷ xs) (suc i) d x ys lt is e =
    let s : suc i + 1 ≡ suc (i + 1) = omega arith in
    rw (e, s) (ap (λ t. f y ∷ t) (mapped_more f xs i d x (map f (take i xs)) (omega (arith, lt)) is refl))
