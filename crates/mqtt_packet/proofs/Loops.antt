-- Loops verdict a list: what one more element adds to its bytes, and what a test of each says.
use Rattle.std.proofs.Common.{◌≡◌, ℕ, ◌+◌, ◌<◌, ◌≤◌, Bool, true, false, List, [], ◌∷◌, ◌++◌, length, take, get_or, ap, sym, ◌∙◌, length-append, append_assoc}
use Rattle.std.specs.Prelude.{◌&&◌}
use Rattle.std.specs.List.{flat_map, list_all}
use Rattle.std.proofs.lemmas.List.{take_more, take_all, append-nil}
use Rattle.std.proofs.lemmas.List.Folds.{list_all_more, list_all_at, length-flat_map-take}
use Rattle.std.proofs.lemmas.List.Concat.{flat_map-append}
use Rattle.std.proofs.lemmas.Bool.{and_from, and_right, true_from_ne_false, both_ways}

one_more : {X : Type 0} (f : X → List ℕ) (xs : List X) (i : ℕ) (x : X) → i < length xs → x ≡ get_or xs i x → flat_map f (take (i + 1) xs) ≡ flat_map f (take i xs) ++ f x
one_more f xs i x lt at =
    ap (flat_map f) (take_more xs i x lt) ∙ flat_map-append f (take i xs) (get_or xs i x ∷ []) ∙ rw (← at) (ap (λ (t : List ℕ). flat_map f (take i xs) ++ t) (append-nil (f x)))

-- the bytes of the elements so far, with those of one more
pub bytes_more : {X : Type 0} (f : X → List ℕ) (xs : List X) (i : ℕ) (x : X) (front : List ℕ) → i < length xs → x ≡ get_or xs i x → (front ++ flat_map f (take i xs)) ++ f x ≡ front ++ flat_map f (take (i + 1) xs)
bytes_more f xs i x front lt at = append_assoc front (flat_map f (take i xs)) (f x) ∙ ap (λ (t : List ℕ). front ++ t) (sym (one_more f xs i x lt at))

pub length_more : {X : Type 0} (f : X → List ℕ) (xs : List X) (i : ℕ) (x : X) → i < length xs → x ≡ get_or xs i x → length (flat_map f (take (i + 1) xs)) ≡ length (flat_map f (take i xs)) + length (f x)
length_more f xs i x lt at = ap length (one_more f xs i x lt at) ∙ length-append (flat_map f (take i xs)) (f x)

-- the element at a place has room among the bytes of all
pub length_within : {X : Type 0} (f : X → List ℕ) (xs : List X) (i : ℕ) (x : X) → i < length xs → x ≡ get_or xs i x → length (flat_map f (take i xs)) + length (f x) ≤ length (flat_map f xs)
length_within f xs i x lt at = rw (ap f at) (length-flat_map-take f xs i x lt)

pub passes_at : {X : Type 0} (test : X → Bool) (xs : List X) (i : ℕ) (x : X) → i < length xs → x ≡ get_or xs i x → list_all test xs ≡ true → test x ≡ true
passes_at test xs i x lt at all = true_from_ne_false (test x) (λ e. both_ways (list_all test xs) (list_all_at test xs i x lt (ap test (sym at) ∙ e)) all)

pub passes_more : {X : Type 0} (test : X → Bool) (xs : List X) (i : ℕ) (x : X) → i < length xs → x ≡ get_or xs i x → list_all test (take i xs) ≡ true → test x ≡ true → list_all test (take (i + 1) xs) ≡ true
passes_more test xs i x lt at so_far here = list_all_more test xs i x lt ∙ and_from (list_all test (take i xs)) (test (get_or xs i x)) so_far (ap test (sym at) ∙ here)

pub passes_all : {X : Type 0} (test : X → Bool) (xs : List X) (i : ℕ) → length xs ≤ i → list_all test (take i xs) ≡ true → list_all test xs ≡ true
passes_all test xs i le so_far = ap (list_all test) (sym (take_all i xs le)) ∙ so_far

pub fails_at : {X : Type 0} (test : X → Bool) (xs : List X) (i : ℕ) (x : X) (some : Bool) → i < length xs → x ≡ get_or xs i x → test x ≡ false → false ≡ (some && list_all test xs)
fails_at test xs i x some lt at fails = sym (and_right some (list_all test xs) (list_all_at test xs i x lt (ap test (sym at) ∙ fails)))
