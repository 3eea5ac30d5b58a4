-- Which identifiers stay where one is taken out, and how many.
use Rattle.std.proofs.Common.{◌≡◌, ◌≤◌, ◌+◌, ℕ, Bool, true, false, ◌==◌, List, [], ◌∷◌, ◌++◌, length, refl, sym, ◌∙◌, arith}
use Rattle.std.specs.Prelude.{◌||◌}
use Rattle.std.proofs.lemmas.Bool.{eqb-true, eqb-false, ne_eqb, or_right, or_parts, or_from}
use Rattle.qos_state.specs.Deliveries.{is_among, without}
use Rattle.qos_state.specs.Apart.{AreApart}

pub no_more : (n : ℕ) (ns : List ℕ) → length (without n ns) ≤ length ns
no_more n [] = omega arith
no_more n (m ∷ ns) = go (m == n) refl (no_more n ns)
  where
    go : (t : Bool) → (m == n) ≡ t → length (without n ns) ≤ length ns → length (without n (m ∷ ns)) ≤ length (m ∷ ns)
    go true e rest = rw e (omega (arith, rest))
    go false e rest = rw e (omega (arith, rest))

pub fewer : (n : ℕ) (ns : List ℕ) → is_among ns n ≡ true → length (without n ns) + 1 ≤ length ns
fewer n [] among = cc
fewer n (m ∷ ns) among = go (m == n) refl (λ rest. fewer n ns rest)
  where
    go : (t : Bool) → (m == n) ≡ t → (is_among ns n ≡ true → length (without n ns) + 1 ≤ length ns) → length (without n (m ∷ ns)) + 1 ≤ length (m ∷ ns)
    go true e rest = rw e (let most = no_more n ns in omega (arith, most))
    go false e rest = rw e (let most = rest (rw e at among) in omega (arith, most))

-- ---- Who is still there

still : (n m : ℕ) (ns : List ℕ) → is_among (without n ns) m ≡ true → (is_among ns m ≡ true) × ((n == m) ≡ false)
still n m [] there = absurd cc
still n m (k ∷ ns) there = go (k == n) refl (k == m) refl there (λ h. still n m ns h)
  where
    go : (b : Bool) → (k == n) ≡ b → (t : Bool) → (k == m) ≡ t → is_among (without n (k ∷ ns)) m ≡ true → (is_among (without n ns) m ≡ true → (is_among ns m ≡ true) × ((n == m) ≡ false))
        → ((t || is_among ns m) ≡ true) × ((n == m) ≡ false)
    go true e t f there rest =
        let h = rest (rw e at there) in
        (or_right t (is_among ns m) h.0, h.1)
    go false e true f there rest = (refl, ne_eqb n m (λ same. eqb-false k n e (eqb-true k m f ∙ sym same)))
    go false e false f there rest = rest (rw (e, f) at there)

gone : (n m : ℕ) (ns : List ℕ) → is_among ns m ≡ false → is_among (without n ns) m ≡ false
gone n m ns outside = go (is_among (without n ns) m) refl
  where
    go : (b : Bool) → is_among (without n ns) m ≡ b → is_among (without n ns) m ≡ false
    go true e = absurd (let there = (still n m ns e).0 in cc)
    go false e = e

pub apart_without : (n : ℕ) (exactly_once released : List ℕ) → AreApart exactly_once released → AreApart (without n exactly_once) (without n released)
apart_without n exactly_once released apart m there = gone n m released (apart m (still n m exactly_once there).0)

among_last : (n m : ℕ) (ns : List ℕ) → is_among ns m ≡ false → (n == m) ≡ false → is_among (ns ++ n ∷ []) m ≡ false
among_last n m [] outside apart = or_from (n == m) false apart refl
among_last n m (k ∷ ns) outside apart =
    let parts = or_parts (k == m) (is_among ns m) outside in
    or_from (k == m) (is_among (ns ++ n ∷ []) m) parts.0 (among_last n m ns parts.1 apart)

pub apart_released : (n : ℕ) (exactly_once released : List ℕ) → AreApart exactly_once released → AreApart (without n exactly_once) (released ++ n ∷ [])
apart_released n exactly_once released apart m there =
    let h = still n m exactly_once there in
    among_last n m released (apart m h.0) h.1
