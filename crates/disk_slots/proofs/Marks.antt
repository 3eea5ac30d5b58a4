-- What a write and a sync do to the images of a disk over memory.
use Rattle.std.proofs.Common.{◌≡◌, ℕ, zero, suc, ◌+◌, ◌-◌, ◌≤◌, Bool, true, false, cond, List, [], ◌∷◌, ◌++◌, length, take, drop, get_or, replicate, refl, sym, ◌∙◌, ap, subst, arith}
use Rattle.std.proofs.lemmas.List.{take-take, drop-drop, take_at, drop_at, take-append-le, take-append-drop, take-replicate, drop-replicate, length-take-le, length-replicate, length-append, length-drop, append_assoc, replicate-append-replicate}
use Rattle.std.proofs.lemmas.Slice.{between_is}
use Rattle.std.specs.List.{between}
use Rattle.disk_slots.specs.Disks.{Torn, Widens, Only, overwritten}
use Rattle.disk_slots.specs.Fitting.{image_len}
use Rattle.disk_slots.specs.Memory.{masked, Agrees, marked, filled, crashed}

-- the same by recursion
abbrev pub mark : ℕ → ℕ → List Bool → List Bool
mark at n [] = []
mark zero zero (m ∷ ms) = m ∷ ms
mark zero (suc n) (m ∷ ms) = true ∷ mark zero n ms
mark (suc at) n (m ∷ ms) = m ∷ mark at n ms

abbrev cut : {X : Type 0} (k j : ℕ) (x : X) (xs : List X) → k ≡ suc j → drop k (x ∷ xs) ≡ drop j xs
cut k j x xs e = ap (λ (i : ℕ). drop i (x ∷ xs)) e

two : {X : Type 0} {x y : X} {xs ys : List X} → x ≡ y → xs ≡ ys → x ∷ xs ≡ y ∷ ys
two {X} {x} {y} {xs} {ys} e es = ap (λ (z : X). z ∷ xs) e ∙ ap (λ (zs : List X). y ∷ zs) es

tail : {x y : ℕ} {xs ys : List ℕ} → x ∷ xs ≡ y ∷ ys → xs ≡ ys
tail e = ap (λ (zs : List ℕ). drop 1 zs) e

head : {x y : ℕ} {xs ys : List ℕ} → x ∷ xs ≡ y ∷ ys → x ≡ y
head e = ap (λ (zs : List ℕ). get_or zs 0 0) e

pub mark_is : (at n : ℕ) (ms : List Bool) → at + n ≤ length ms → marked at n ms ≡ mark at n ms
mark_is zero zero [] le = refl
mark_is zero (suc n) [] le = absurd (omega (arith, le))
mark_is (suc at) n [] le = absurd (omega (arith, le))
mark_is zero zero (m ∷ ms) le = refl
mark_is zero (suc n) (m ∷ ms) le = two refl (ap (λ (l : List Bool). replicate n true ++ l) (cut (0 + suc n) (0 + n) m ms (omega arith)) ∙ mark_is zero n ms (omega (arith, le)))
mark_is (suc at) n (m ∷ ms) le = two refl (ap (λ (l : List Bool). take at ms ++ replicate n true ++ l) (cut (suc at + n) (at + n) m ms (omega arith)) ∙ mark_is at n ms (omega (arith, le)))

same_torn : (at n : ℕ) (c : List ℕ) → Torn at n c c
same_torn at n c = record { len = refl; before = refl; after = refl }

-- each image behind a write is one before it with other bytes in the range
pub back : (at n : ℕ) (ms : List Bool) (s c : List ℕ) → at + n ≤ length ms → length s ≡ length ms → masked (mark at n ms) c ≡ masked (mark at n ms) s → (d : List ℕ) × (masked ms d ≡ masked ms s) × Torn at n d c
back at n [] s c le long e = (c, e, same_torn at n c)
back zero zero (m ∷ ms) s c le long e = (c, e, same_torn 0 0 c)
back zero (suc n) (m ∷ ms) [] c le long e = absurd (omega (arith, long))
back zero (suc n) (m ∷ ms) (x ∷ s) [] le long e = absurd (omega (arith, ap length e))
back zero (suc n) (m ∷ ms) (x ∷ s) (y ∷ c) le long e =
    let rest = back zero n ms s c (omega (arith, le)) (omega (arith, long)) (tail e) in
    let torn = rest.2 in
    (x ∷ rest.0, two refl rest.1, record { len = ap suc torn.len; before = refl; after = cut (0 + suc n) (0 + n) y c (omega arith) ∙ torn.after ∙ sym (cut (0 + suc n) (0 + n) x rest.0 (omega arith)) })
back (suc at) n (m ∷ ms) [] c le long e = absurd (omega (arith, long))
back (suc at) n (m ∷ ms) (x ∷ s) [] le long e = absurd (omega (arith, ap length e))
back (suc at) n (m ∷ ms) (x ∷ s) (y ∷ c) le long e =
    let rest = back at n ms s c (omega (arith, le)) (omega (arith, long)) (tail e) in
    let torn = rest.2 in
    (y ∷ rest.0, two (head e) rest.1, record { len = ap suc torn.len; before = two refl torn.before; after = cut (suc at + n) (at + n) y c (omega arith) ∙ torn.after ∙ sym (cut (suc at + n) (at + n) y rest.0 (omega arith)) })

pub forth : (at n : ℕ) (ms : List Bool) (s d c : List ℕ) → at + n ≤ length ms → length s ≡ length ms → length d ≡ length s → masked ms d ≡ masked ms s → Torn at n d c → masked (mark at n ms) c ≡ masked (mark at n ms) s
forth zero zero [] s d c le long alike e torn = torn.after ∙ e
forth zero (suc n) [] s d c le long alike e torn = absurd (omega (arith, le))
forth (suc at) n [] s d c le long alike e torn = absurd (omega (arith, le))
forth zero zero (m ∷ ms) s d c le long alike e torn = ap (masked (m ∷ ms)) torn.after ∙ e
forth zero (suc n) (m ∷ ms) [] d c le long alike e torn = absurd (omega (arith, long))
forth zero (suc n) (m ∷ ms) (x ∷ s) [] c le long alike e torn = absurd (omega (arith, alike))
forth zero (suc n) (m ∷ ms) (x ∷ s) (z ∷ d) [] le long alike e torn = absurd (omega (arith, torn.len))
forth zero (suc n) (m ∷ ms) (x ∷ s) (z ∷ d) (y ∷ c) le long alike e torn =
    two refl (forth zero n ms s d c (omega (arith, le)) (omega (arith, long)) (omega (arith, alike)) (tail e) (record {
      len = omega (arith, torn.len);
      before = refl;
      after = sym (cut (0 + suc n) (0 + n) y c (omega arith)) ∙ torn.after ∙ cut (0 + suc n) (0 + n) z d (omega arith);
    }))
forth (suc at) n (m ∷ ms) [] d c le long alike e torn = absurd (omega (arith, long))
forth (suc at) n (m ∷ ms) (x ∷ s) [] c le long alike e torn = absurd (omega (arith, alike))
forth (suc at) n (m ∷ ms) (x ∷ s) (z ∷ d) [] le long alike e torn = absurd (omega (arith, torn.len))
forth (suc at) n (m ∷ ms) (x ∷ s) (z ∷ d) (y ∷ c) le long alike e torn =
    two (ap (λ b. cond m 0 b) (head torn.before) ∙ head e) (forth at n ms s d c (omega (arith, le)) (omega (arith, long)) (omega (arith, alike)) (tail e) (record {
      len = omega (arith, torn.len);
      before = tail torn.before;
      after = sym (cut (suc at + n) (at + n) y c (omega arith)) ∙ torn.after ∙ cut (suc at + n) (at + n) z d (omega arith);
    }))

-- a disk all of whose bytes are settled
pub masked_none : (n : ℕ) (xs : List ℕ) → masked (replicate n false) xs ≡ xs
masked_none zero xs = refl
masked_none (suc n) [] = refl
masked_none (suc n) (x ∷ xs) = two refl (masked_none n xs)

-- where nothing is marked in front of a place, or from a place on, the bytes there are the settled ones
pub front_alike : (at : ℕ) (ms : List Bool) (s c : List ℕ) → take at ms ≡ replicate at false → masked ms c ≡ masked ms s → length c ≡ length s → take at c ≡ take at s
front_alike zero ms s c none e long = refl
front_alike (suc at) [] s c none e long = ap (λ (l : List ℕ). take (suc at) l) e
front_alike (suc at) (m ∷ ms) [] [] none e long = refl
front_alike (suc at) (m ∷ ms) [] (y ∷ c) none e long = absurd (omega (arith, long))
front_alike (suc at) (m ∷ ms) (x ∷ s) [] none e long = absurd (omega (arith, long))
front_alike (suc at) (m ∷ ms) (x ∷ s) (y ∷ c) none e long =
    let is : m ≡ false = ap (λ (l : List Bool). get_or l 0 true) none in
    two (subst (λ (b : Bool). cond b 0 y ≡ cond b 0 x) is (head e)) (front_alike at ms s c (ap (λ (l : List Bool). drop 1 l) none) (tail e) (omega (arith, long)))

pub back_alike : (to : ℕ) (ms : List Bool) (s c : List ℕ) → drop to ms ≡ replicate (length (drop to ms)) false → masked ms c ≡ masked ms s → length c ≡ length s → drop to c ≡ drop to s
back_alike zero ms s c none e long = sym (masked_none (length ms) c) ∙ ap (λ (l : List Bool). masked l c) (sym none) ∙ e ∙ ap (λ (l : List Bool). masked l s) none ∙ masked_none (length ms) s
back_alike (suc to) [] s c none e long = ap (λ (l : List ℕ). drop (suc to) l) e
back_alike (suc to) (m ∷ ms) [] [] none e long = refl
back_alike (suc to) (m ∷ ms) [] (y ∷ c) none e long = absurd (omega (arith, long))
back_alike (suc to) (m ∷ ms) (x ∷ s) [] none e long = absurd (omega (arith, long))
back_alike (suc to) (m ∷ ms) (x ∷ s) (y ∷ c) none e long = back_alike to ms s c none (tail e) (omega (arith, long))

-- ---- The range that holds all marks

module _ {X : Type 0} (at n : ℕ) (x : X) (ms : List X) (within : at + n ≤ length ms) where
  front_len : length (take at ms ++ replicate n x) ≡ at + n
  front_len = omega (arith, within, length-append (take at ms) (replicate n x), length-take-le at ms (omega (arith, within)), length-replicate n x)

  pub filled_len : length (filled at n x ms) ≡ length ms
  filled_len = omega (arith, within, front_len, length-append (take at ms ++ replicate n x) (drop (at + n) ms), length-drop (at + n) ms)

  pub filled_front : (j : ℕ) → j ≤ at → take j (filled at n x ms) ≡ take j ms
  filled_front j le =
      take-append-le j (take at ms ++ replicate n x) (drop (at + n) ms) (omega (arith, le, front_len))
      ∙ take-append-le j (take at ms) (replicate n x) (omega (arith, le, within, length-take-le at ms (omega (arith, within))))
      ∙ take-take j at ms le

  pub filled_back : (k : ℕ) → at + n ≤ k → drop k (filled at n x ms) ≡ drop k ms
  filled_back k le = sym (further (filled at n x ms)) ∙ ap (λ (l : List X). drop (k - (at + n)) l) (drop_at (take at ms ++ replicate n x) (drop (at + n) ms) (at + n) front_len) ∙ further ms
    where
      further : (l : List X) → drop (k - (at + n)) (drop (at + n) l) ≡ drop k l
      further l = drop-drop (k - (at + n)) (at + n) l ∙ ap (λ (j : ℕ). drop j l) (omega (arith, le))

all_false : (m : ℕ) (ms : List Bool) → ms ≡ replicate m false → ms ≡ replicate (length ms) false
all_false m ms e = e ∙ ap (λ (k : ℕ). replicate k false) (sym (length-replicate m false) ∙ ap length (sym e))

pub front_clear : (from at n j : ℕ) (ms : List Bool) → j ≤ from → j ≤ at → at + n ≤ length ms → take from ms ≡ replicate from false → take j (marked at n ms) ≡ replicate j false
front_clear from at n j ms lf la within none =
    filled_front at n true ms within j la ∙ sym (take-take j from ms lf) ∙ ap (λ (l : List Bool). take j l) none ∙ take-replicate j from false lf

pub back_clear : (to at n k : ℕ) (ms : List Bool) → to ≤ k → at + n ≤ k → at + n ≤ length ms → drop to ms ≡ replicate (length (drop to ms)) false → drop k (marked at n ms) ≡ replicate (length (drop k (marked at n ms))) false
back_clear to at n k ms lt la within none =
    all_false (length (drop to ms) - (k - to)) (drop k (marked at n ms)) (filled_back at n true ms within k la ∙ sym further ∙ ap (λ (l : List Bool). drop (k - to) l) none ∙ drop-replicate (k - to) (length (drop to ms)) false)
  where
    further : drop (k - to) (drop to ms) ≡ drop k ms
    further = drop-drop (k - to) to ms ∙ ap (λ (j : ℕ). drop j ms) (omega (arith, lt))

-- ---- What a write and a sync leave

pub widens : (at n : ℕ) (ms now : List Bool) (s : List ℕ) → at + n ≤ length ms → length s ≡ length ms → now ≡ marked at n ms → Widens (Torn at n) (Agrees ms s) (Agrees now s)
widens at n ms now s within long is c = (
  λ e. back at n ms s c within long (subst (λ (l : List Bool). masked l c ≡ masked l s) (is ∙ mark_is at n ms within) e),
  λ d. subst (λ (l : List Bool). masked l c ≡ masked l s) (sym (is ∙ mark_is at n ms within)) (forth at n ms s d.0 c within long (image_len ms s d.0 d.1) d.1 d.2),
)

pub overwritten_torn : (at : ℕ) (bytes old : List ℕ) → at + length bytes ≤ length old → Torn at (length bytes) old (overwritten at bytes old)
overwritten_torn at bytes old within =
    let long = length-take-le at old (omega (arith, within)) in
    let front : length (take at old ++ bytes) ≡ at + length bytes = omega (arith, long, length-append (take at old) bytes) in
    record {
      len = omega (arith, within, front, length-append (take at old ++ bytes) (drop (at + length bytes) old), length-drop (at + length bytes) old);
      before = ap (λ (l : List ℕ). take at l) (append_assoc (take at old) bytes (drop (at + length bytes) old)) ∙ take_at (take at old) (bytes ++ drop (at + length bytes) old) at long;
      after = drop_at (take at old ++ bytes) (drop (at + length bytes) old) (at + length bytes) front;
    }

pub written_agrees : (at : ℕ) (bytes old new s : List ℕ) (ms now : List Bool) → at + length bytes ≤ length ms → length s ≡ length ms → Agrees ms s old → now ≡ marked at (length bytes) ms → new ≡ overwritten at bytes old → Agrees now s new
written_agrees at bytes old new s ms now within long was is is_new =
    (widens at (length bytes) ms now s within long is new).1
    (old, was, subst (Torn at (length bytes) old) (sym is_new) (overwritten_torn at bytes old (omega (arith, within, long, image_len ms s old was))))

pub refused_agrees : (at n : ℕ) (old s : List ℕ) (ms now : List Bool) → at + n ≤ length ms → length s ≡ length ms → Agrees ms s old → now ≡ marked at n ms → Agrees now s old
refused_agrees at n old s ms now within long was is = (widens at n ms now s within long is old).1 (old, was, same_torn at n old)

pub settled_is : (from to : ℕ) (s c : List ℕ) → from ≤ to → to ≤ length c → length s ≡ length c → take from c ≡ take from s → drop to c ≡ drop to s → overwritten from (between from to c) s ≡ c
settled_is from to s c le within long front behind =
    let middle : between from to c ≡ drop from (take to c) = between_is c from to in
    let len : length (between from to c) ≡ to - from = omega (arith, ap length middle, length-drop from (take to c), length-take-le to c within) in
    ap (λ (k : ℕ). take from s ++ between from to c ++ drop k s) (omega (arith, len, le))
    ∙ ap (λ (l : List ℕ). l ++ between from to c ++ drop to s) (sym front)
    ∙ ap (λ (l : List ℕ). take from c ++ between from to c ++ l) (sym behind)
    ∙ ap (λ (l : List ℕ). l ++ drop to c) (ap (λ (l : List ℕ). take from c ++ l) middle ∙ ap (λ (l : List ℕ). l ++ drop from (take to c)) (sym (take-take from to c le)) ∙ take-append-drop from (take to c))
    ∙ take-append-drop to c

pub cleared : (from to : ℕ) (ms : List Bool) → from ≤ to → to ≤ length ms → take from ms ≡ replicate from false → drop to ms ≡ replicate (length (drop to ms)) false → filled from (to - from) false ms ≡ replicate (length ms) false
cleared from to ms le within front behind =
    ap (λ (l : List Bool). l ++ replicate (to - from) false ++ drop (from + (to - from)) ms) front
    ∙ ap (λ (l : List Bool). l ++ drop (from + (to - from)) ms) (replicate-append-replicate from (to - from) false)
    ∙ ap (λ (k : ℕ). replicate k false ++ drop k ms) (omega (arith, le))
    ∙ ap (λ (l : List Bool). replicate to false ++ l) behind
    ∙ replicate-append-replicate to (length (drop to ms)) false
    ∙ ap (λ (k : ℕ). replicate k false) (omega (arith, within, length-drop to ms))

pub only_settled : (n : ℕ) (ms : List Bool) (s file : List ℕ) → ms ≡ replicate n false → s ≡ file → Only file (Agrees ms s)
only_settled n ms s file clear is c = (
  λ e. sym (masked_none n c) ∙ subst (λ (l : List Bool). masked l c ≡ masked l s) clear e ∙ masked_none n s ∙ is,
  λ e. ap (masked ms) (e ∙ sym is),
)

pub clear_outside : (from to at n from' to' : ℕ) (ms now : List Bool) → from' ≤ from → from' ≤ at → to ≤ to' → at + n ≤ to' → at + n ≤ length ms → take from ms ≡ replicate from false → drop to ms ≡ replicate (length (drop to ms)) false → now ≡ marked at n ms
    → (take from' now ≡ replicate from' false) × (drop to' now ≡ replicate (length (drop to' now)) false)
clear_outside from to at n from' to' ms now lf la lt ln within front behind is =
    subst (λ (l : List Bool). (take from' l ≡ replicate from' false) × (drop to' l ≡ replicate (length (drop to' l)) false)) (sym is)
    (front_clear from at n from' ms lf la within front, back_clear to at n to' ms lt ln within behind)

pub overwritten_len : (at : ℕ) (bytes old : List ℕ) → at + length bytes ≤ length old → length (overwritten at bytes old) ≡ length old
overwritten_len at bytes old within = (overwritten_torn at bytes old within).len

-- ---- What a crash leaves

pub crash_agrees : (pick i : ℕ) (ms : List Bool) (s : List ℕ) → masked ms (crashed pick i ms s) ≡ masked ms s
crash_agrees pick i [] s = refl
crash_agrees pick i (m ∷ ms) [] = refl
crash_agrees pick i (true ∷ ms) (x ∷ s) = two refl (crash_agrees pick (suc i) ms s)
crash_agrees pick i (false ∷ ms) (x ∷ s) = two refl (crash_agrees pick (suc i) ms s)

pub crash_len : (pick : ℕ) (ms : List Bool) (s : List ℕ) → length (crashed pick 0 ms s) ≡ length s
crash_len pick ms s = image_len ms s (crashed pick 0 ms s) (crash_agrees pick 0 ms s)
