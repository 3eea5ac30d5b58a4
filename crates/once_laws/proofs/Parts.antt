-- Counts in a part of a list and in the rest, and the commands that a row leaves open.
use Rattle.std.proofs.Common.{◌≡◌, ◌⊎◌, ℕ, ◌+◌, ◌≤◌, Bool, true, false, cond, List, [], ◌∷◌, map, filter, count_by, refl, sym, ap, ◌∙◌, arith}
use Rattle.std.specs.Prelude.{◌==◌, ◌&&◌, not}
use Rattle.std.specs.List.{AllByRecursion}
use Rattle.std.proofs.lemmas.Bool.{eq-eqb, eqb-true}
use mathlib.Core.Logic.{inl, inr}
use Rattle.agent_journal.specs.declared.outcome.Outcome.{Outcome}
use Rattle.agent_journal.specs.Readings.{Pending, stays_open}
use Rattle.agent_table.specs.Effects.{done}
use Rattle.agent_table.proofs.Counts.{count_more, is_command, opened, all_dones, stays_is}

abbrev pub digit : Bool → ℕ
digit b = cond b 1 0

pub digit_most : (b : Bool) → digit b ≤ 1
digit_most true = omega arith
digit_most false = omega arith

pub counted : {X : Type 0} (f : X → Bool) (x : X) (xs : List X) → count_by f (x ∷ xs) ≡ digit (f x) + count_by f xs
counted f x xs = count_more f x xs

-- ---- More and fewer

pub fewer : {X : Type 0} (f g : X → Bool) (xs : List X) → count_by f (filter g xs) ≤ count_by f xs
fewer f g [] = omega arith
fewer f g (x ∷ xs) = go (g x) (fewer f g xs)
  where
    go : (t : Bool) → count_by f (filter g xs) ≤ count_by f xs → count_by f (cond t (x ∷ filter g xs) (filter g xs)) ≤ count_by f (x ∷ xs)
    go true rest = omega (arith, rest, counted f x xs, counted f x (filter g xs))
    go false rest = omega (arith, rest, counted f x xs)

implies : (a b : Bool) → (a ≡ true → b ≡ true) → digit a ≤ digit b
implies true true h = omega arith
implies true false h = absurd (cc (h refl))
implies false b h = omega arith

pub weaker : {X : Type 0} (f h : X → Bool) (xs : List X) → ((x : X) → f x ≡ true → h x ≡ true) → count_by f xs ≤ count_by h xs
weaker f h [] so = omega arith
weaker f h (x ∷ xs) so = omega (arith, weaker f h xs so, counted f x xs, counted h x xs, implies (f x) (h x) (so x))

-- what a test takes and what it leaves
pub parts : {X : Type 0} (f g : X → Bool) (xs : List X) → count_by f xs ≡ count_by f (filter g xs) + count_by f (filter (λ x. not (g x)) xs)
parts f g [] = refl
parts f g (x ∷ xs) = go (g x) (parts f g xs)
  where
    go : (t : Bool) → count_by f xs ≡ count_by f (filter g xs) + count_by f (filter (λ y. not (g y)) xs)
        → count_by f (x ∷ xs) ≡ count_by f (cond t (x ∷ filter g xs) (filter g xs)) + count_by f (cond (not t) (x ∷ filter (λ y. not (g y)) xs) (filter (λ y. not (g y)) xs))
    go true rest = omega (arith, rest, counted f x xs, counted f x (filter g xs))
    go false rest = omega (arith, rest, counted f x xs, counted f x (filter (λ y. not (g y)) xs))

-- none of them, where the tests differ
pub none : {X : Type 0} (f g : X → Bool) (xs : List X) → ((x : X) → g x ≡ true → f x ≡ false) → count_by f (filter g xs) ≡ 0
none f g [] differ = refl
none f g (x ∷ xs) differ = go (g x) refl (none f g xs differ)
  where
    go : (t : Bool) → g x ≡ t → count_by f (filter g xs) ≡ 0 → count_by f (cond t (x ∷ filter g xs) (filter g xs)) ≡ 0
    go true e rest = omega (arith, rest, counted f x (filter g xs), ap digit (differ x e))
    go false e rest = rest

pub kept_all : {X : Type 0} (f g : X → Bool) (xs : List X) → ((x : X) → g x ≡ true → f x ≡ false) → count_by f (filter (λ x. not (g x)) xs) ≡ count_by f xs
kept_all f g xs differ = omega (arith, parts f g xs, none f g xs differ)

-- ---- Members

abbrev pub IsIn : {X : Type 0} → X → List X → Type 0
IsIn x [] = ⊥
IsIn x (y ∷ ys) = (x ≡ y) ⊎ IsIn x ys

pub all_in : {X : Type 0} (P : X → Type 0) (xs : List X) → ((x : X) → IsIn x xs → P x) → AllByRecursion P xs
all_in P [] h = tt
all_in P (x ∷ xs) h = (h x (inl refl), all_in P xs (λ y here. h y (inr here)))

pub filter_same : {X : Type 0} (f g : X → Bool) (xs : List X) → AllByRecursion (λ x. f x ≡ g x) xs → filter f xs ≡ filter g xs
filter_same f g [] h = refl
filter_same f g (x ∷ xs) h = go (f x) (g x) h.0 (filter_same f g xs h.1)
  where
    go : (a b : Bool) → a ≡ b → filter f xs ≡ filter g xs → cond a (x ∷ filter f xs) (filter f xs) ≡ cond b (x ∷ filter g xs) (filter g xs)
    go true true e rest = ap (λ ys. x ∷ ys) rest
    go true false e rest = absurd (cc e)
    go false true e rest = absurd (cc e)
    go false false e rest = rest

pub some : {X : Type 0} (f : X → Bool) (x : X) (xs : List X) → IsIn x xs → f x ≡ true → 1 ≤ count_by f xs
some f x [] here is = absurd here
some f x (y ∷ ys) (inl e) is = omega (arith, counted f y ys, ap digit (sym (ap f e) ∙ is))
some f x (y ∷ ys) (inr here) is = omega (arith, counted f y ys, some f x ys here is)

stays_in : {X : Type 0} (g : X → Bool) (x : X) (xs : List X) → IsIn x xs → g x ≡ true → IsIn x (filter g xs)
stays_in g x [] here is = absurd here
stays_in g x (y ∷ ys) (inl e) is = rw (sym (ap g e) ∙ is) (inl e)
stays_in g x (y ∷ ys) (inr here) is = go (g y) (stays_in g x ys here is)
  where
    go : (t : Bool) → IsIn x (filter g ys) → IsIn x (cond t (y ∷ filter g ys) (filter g ys))
    go true rest = inr rest
    go false rest = rest

pub all_pass : {X : Type 0} (xs : List X) → filter (λ x. true) xs ≡ xs
all_pass [] = refl
all_pass (x ∷ xs) = ap (λ ys. x ∷ ys) (all_pass xs)

pub fused : {X : Type 0} (f g : X → Bool) (xs : List X) → filter f (filter g xs) ≡ filter (λ x. g x && f x) xs
fused f g [] = refl
fused f g (x ∷ xs) = go (g x) (f x) refl (fused f g xs)
  where
    go : (a b : Bool) → f x ≡ b → filter f (filter g xs) ≡ filter (λ y. g y && f y) xs → filter f (cond a (x ∷ filter g xs) (filter g xs)) ≡ cond (a && b) (x ∷ filter (λ y. g y && f y) xs) (filter (λ y. g y && f y) xs)
    go true true e rest = rw e (ap (λ ys. x ∷ ys) rest)
    go true false e rest = rw e rest
    go false b e rest = rest

-- ---- Commands that stay open

pub own : (command : Pending) → is_command command.task command.seq command ≡ true
own command = rw (eq-eqb command.task command.task refl, eq-eqb command.seq command.seq refl) refl

pub above_is : (n : ℕ) → 1 ≤ n → (n == 0) ≡ false
above_is n h = go (n == 0) refl
  where
    go : (t : Bool) → (n == 0) ≡ t → (n == 0) ≡ false
    go true e = let z : n ≡ 0 = eqb-true n 0 e in absurd (omega (arith, z, h))
    go false e = e

-- The commands that a row completes are open no more, and all others are.
pub ended_are_out : (outcome : Outcome) (test : Pending → Bool) (commands : List Pending) → ((t q : ℕ) → opened t q commands ≤ 1)
    → filter (stays_open (map (done outcome) (filter test commands))) commands ≡ filter (λ command. not (test command)) commands
ended_are_out outcome test commands once = filter_same _ _ commands (all_in _ commands each)
  where
    each : (command : Pending) → IsIn command commands → stays_open (map (done outcome) (filter test commands)) command ≡ not (test command)
    each command here = go (test command) refl
      where
        t : ℕ
        t = command.task

        q : ℕ
        q = command.seq

        is : stays_open (map (done outcome) (filter test commands)) command ≡ (opened t q (filter test commands) == 0)
        is = stays_is t q (map (done outcome) (filter test commands)) command (own command) ∙ ap (λ n. n == 0) (all_dones t q outcome (filter test commands))

        go : (b : Bool) → test command ≡ b → stays_open (map (done outcome) (filter test commands)) command ≡ not b
        go true e = is ∙ above_is (opened t q (filter test commands)) (some (is_command t q) command (filter test commands) (stays_in test command commands here e) (own command))
        go false e =
            let rest = some (is_command t q) command (filter (λ x. not (test x)) commands) (stays_in (λ x. not (test x)) command commands here (ap not e)) (own command) in
            is ∙ eq-eqb (opened t q (filter test commands)) 0 (omega (arith, once t q, parts (is_command t q) test commands, rest))
