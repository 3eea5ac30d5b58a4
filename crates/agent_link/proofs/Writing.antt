-- Steps of writers: a text that is written piece by piece.
use Rattle.std.proofs.Common.{◌≡◌, ℕ, ◌+◌, ◌<◌, ◌≤◌, List, [], ◌++◌, length, take, drop, get_or, Option, Result, Ok, Err, sym, ap, ◌∙◌, subst, arith, length-append}
use Rattle.std.specs.List.{flat_map}
use Rattle.std.specs.Io.KnownBytes.{Appends}
use Rattle.std.proofs.KnownBytes.{Appends-nil, Appends-trans}
use Rattle.std.proofs.lemmas.List.{take_more, take-append-le, take-append-drop, take_all, flat_map_more}
use Rattle.std.proofs.lemmas.Grind.{flat_map-append}
use Rattle.std.proofs.Math.Seq.{take-append-add, take-length}
use Rattle.std.specs.Result.{IsErrAnd}
use Rattle.agent_link.specs.declared.fault.Fault.{Fault}
use Rattle.agent_link.specs.Writes.{AppendsFront, Writes}

-- a front, behind what was written before it
pub front_behind : (a b c : Option (List ℕ)) (xs ys : List ℕ) → Appends a b xs → AppendsFront b c ys → AppendsFront a c (xs ++ ys)
front_behind a b c xs ys before (k, within, front) = (
  length xs + k,
  omega (arith, length-append xs ys),
  subst (Appends a c) (sym (take-append-add xs ys k)) (Appends-trans a b c xs (take k ys) before front),
)

-- a front of a text is a front of a longer one
pub front_longer : (a b : Option (List ℕ)) (xs ys : List ℕ) → AppendsFront a b xs → AppendsFront a b (xs ++ ys)
front_longer a b xs ys (k, within, front) =
    (k, omega (arith, length-append xs ys), subst (Appends a b) (sym (take-append-le k xs ys within)) front)

-- nothing was written yet
pub front_none : (a : Option (List ℕ)) (xs : List ℕ) → AppendsFront a a xs
front_none a xs = (0, omega arith, Appends-nil a)

-- all was written
pub front_all : (a b : Option (List ℕ)) (xs : List ℕ) → Appends a b xs → AppendsFront a b xs
front_all a b xs h = (length xs, omega arith, subst (Appends a b) (sym (take-length xs)) h)

-- a writer behind what was written
pub writes_behind : (a b c : Option (List ℕ)) (r : Result (Unit {0}) Fault) (xs ys : List ℕ) → Appends a b xs → Writes b c r ys → Writes a c r (xs ++ ys)
writes_behind a b c (Ok u) xs ys before h = Appends-trans a b c xs ys before h
writes_behind a b c (Err e) xs ys before h = front_behind a b c xs ys before h

-- what every writer's answer leaves is a front
pub writes_front : (a b : Option (List ℕ)) (r : Result (Unit {0}) Fault) (xs : List ℕ) → Writes a b r xs → AppendsFront a b xs
writes_front a b (Ok u) xs h = front_all a b xs h
writes_front a b (Err e) xs h = h

-- the exit of a `?` that hands on a fault
pub stopped : (Q : Fault → Type 0) (a c : Option (List ℕ)) (r : Result (Unit {0}) Fault) (text : List ℕ) → IsErrAnd r Q → AppendsFront a c text → Writes a c r text
stopped Q a c (Ok u) text is h = absurd is
stopped Q a c (Err e) text is h = h

module _ {X : Type 0} (text : X → List ℕ) where
  -- the texts of the first items were written, and then that of the next
  pub each_written : (a b c : Option (List ℕ)) (xs : List X) (i : ℕ) (d x : X) → i < length xs → x ≡ get_or xs i d → Appends a b (flat_map text (take i xs)) → Appends b c (text x)
      → Appends a c (flat_map text (take (i + 1) xs))
  each_written a b c xs i d x within is before h =
      let joined : flat_map text (take (i + 1) xs) ≡ flat_map text (take i xs) ++ text x = rw (take_more xs i d within, ← is) (sym (flat_map_more text [] (take i xs) x)) in
      subst (Appends a c) (sym joined) (Appends-trans a b c (flat_map text (take i xs)) (text x) before h)

  -- the text of an item was broken off: a front of the text of all was written
  pub stopped_within : (a b c : Option (List ℕ)) (xs : List X) (i : ℕ) (d x : X) → i < length xs → x ≡ get_or xs i d → Appends a b (flat_map text (take i xs)) → AppendsFront b c (text x)
      → AppendsFront a c (flat_map text xs)
  stopped_within a b c xs i d x within is before h =
      let joined : flat_map text (take (i + 1) xs) ≡ flat_map text (take i xs) ++ text x = rw (take_more xs i d within, ← is) (sym (flat_map_more text [] (take i xs) x)) in
      let whole : flat_map text xs ≡ flat_map text (take (i + 1) xs) ++ flat_map text (drop (i + 1) xs) = ap (flat_map text) (sym (take-append-drop (i + 1) xs)) ∙ flat_map-append text (take (i + 1) xs) (drop (i + 1) xs) in
      subst (AppendsFront a c) (sym whole)
      (front_longer a c (flat_map text (take (i + 1) xs)) (flat_map text (drop (i + 1) xs))
      (subst (AppendsFront a c) (sym joined) (front_behind a b c (flat_map text (take i xs)) (text x) before h)))

  -- the texts of all items were written
  pub all_written : (a b : Option (List ℕ)) (xs : List X) (i : ℕ) → length xs ≤ i → Appends a b (flat_map text (take i xs)) → Appends a b (flat_map text xs)
  all_written a b xs i end h = subst (Appends a b) (ap (flat_map text) (take_all i xs end)) h
