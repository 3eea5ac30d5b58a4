-- Completions in effects, and open commands, counted.
use Rattle.std.proofs.Common.{◌≡◌, ℕ, ◌+◌, ◌≤◌, Bool, true, false, cond, List, [], ◌∷◌, ◌++◌, map, filter, count_by, refl, sym, ap, ◌∙◌, arith}
use Rattle.std.specs.Prelude.{◌&&◌, ◌||◌, ◌==◌, not}
use Rattle.std.specs.List.{list_any}
use Rattle.std.proofs.lemmas.Bool.{cases_Bool, eqb-true}
use Rattle.std.proofs.lemmas.List.Sums.{sum_by-append}
use mathlib.Core.Logic.{inl, inr}
use Rattle.agent_journal.specs.declared.outcome.Outcome.{Outcome}
use Rattle.agent_journal.specs.declared.effect.Effect.{Effect}
use Rattle.agent_journal.specs.Readings.{Pending, completes, stays_open}
use Rattle.std.proofs.lemmas.Bool.{and_parts}
use Rattle.agent_table.specs.Effects.{done}

-- command q of task t
abbrev pub is_command : ℕ → ℕ → Pending → Bool
is_command t q command = command.task == t && command.seq == q

abbrev pub opened : ℕ → ℕ → List Pending → ℕ
opened t q commands = count_by (is_command t q) commands

abbrev pub dones : ℕ → ℕ → List Effect → ℕ
dones t q effects = count_by (completes t q) effects

pub count_more : {X : Type 0} (p : X → Bool) (x : X) (xs : List X) → count_by p (x ∷ xs) ≡ cond (p x) 1 0 + count_by p xs
count_more p x xs = sum_by-append (λ y. cond (p y) 1 0) (x ∷ []) xs ∙ omega arith

pub count_append : {X : Type 0} (p : X → Bool) (xs ys : List X) → count_by p (xs ++ ys) ≡ count_by p xs + count_by p ys
count_append p xs ys = sum_by-append (λ y. cond (p y) 1 0) xs ys

-- each of these commands is done
pub all_dones : (t q : ℕ) (outcome : Outcome) (commands : List Pending) → dones t q (map (done outcome) commands) ≡ opened t q commands
all_dones t q outcome [] = refl
all_dones t q outcome (c ∷ commands) =
    count_more (completes t q) (done outcome c) (map (done outcome) commands) ∙ ap (λ n. cond (is_command t q c) 1 0 + n) (all_dones t q outcome commands) ∙ sym (count_more (is_command t q) c commands)

fewer_by : (keeps : Bool) (n m k : ℕ) → n ≤ m → cond keeps (k + n) n ≤ k + m
fewer_by true n m k h = omega (arith, h)
fewer_by false n m k h = omega (arith, h)

kept_count : (p : Pending → Bool) (keeps : Bool) (c : Pending) (rest : List Pending) → count_by p (cond keeps (c ∷ rest) rest) ≡ cond keeps (cond (p c) 1 0 + count_by p rest) (count_by p rest)
kept_count p true c rest = count_more p c rest
kept_count p false c rest = refl

-- a part of the commands has no more
pub fewer : (t q : ℕ) (keeps : Pending → Bool) (commands : List Pending) → opened t q (filter keeps commands) ≤ opened t q commands
fewer t q keeps [] = omega arith
fewer t q keeps (c ∷ commands) =
    let k = cond (is_command t q c) 1 0 in
    let here = kept_count (is_command t q) (keeps c) c (filter keeps commands) in
    let more = count_more (is_command t q) c commands in
    let rest = fewer_by (keeps c) (opened t q (filter keeps commands)) (opened t q commands) k (fewer t q keeps commands) in
    omega (arith, here, more, rest)

no_zero : (n : ℕ) → (1 + n == 0) ≡ false
no_zero n = elim (cases_Bool (1 + n == 0)) [ inl e ↦ let z : 1 + n ≡ 0 = eqb-true (1 + n) 0 e in let none : ⊥ = omega (arith, z) in absurd none | inr e ↦ e ]

any_by : (b : Bool) (n : ℕ) → (b || not (n == 0)) ≡ not (cond b 1 0 + n == 0)
any_by true n = sym (ap not (no_zero n))
any_by false n = ap (λ m. not (m == 0)) (omega arith)

-- some effect completes it exactly where the count isn't 0
pub any_count : {X : Type 0} (p : X → Bool) (effects : List X) → list_any p effects ≡ not (count_by p effects == 0)
any_count p [] = refl
any_count p (x ∷ effects) = ap (λ b. p x || b) (any_count p effects) ∙ any_by (p x) (count_by p effects) ∙ ap (λ n. not (n == 0)) (sym (count_more p x effects))

not_not : (b : Bool) → not (not b) ≡ b
not_not true = refl
not_not false = refl

-- a command of these two numbers stays open where no effect completes it
pub stays_is : (t q : ℕ) (effects : List Effect) (c : Pending) → is_command t q c ≡ true → stays_open effects c ≡ (dones t q effects == 0)
stays_is t q effects c e =
    let parts = and_parts (c.task == t) (c.seq == q) e in
    let task_is : c.task ≡ t = eqb-true c.task t parts.0 in
    let seq_is : c.seq ≡ q = eqb-true c.seq q parts.1 in
    ap not (any_count (completes c.task c.seq) effects) ∙ not_not (count_by (completes c.task c.seq) effects == 0) ∙ (λ i. count_by (completes (task_is i) (seq_is i)) effects == 0)

-- What is left open: all, where nothing completes it, or else none.
abbrev pub left : ℕ → ℕ → ℕ
left done_count n = cond (done_count == 0) n 0

zero_more : (d n : ℕ) → left d n ≡ left d (0 + n)
zero_more d n = ap (left d) (omega arith)

by_left : (none : Bool) (t q : ℕ) (c : Pending) (rest : List Pending) (n : ℕ) → is_command t q c ≡ true → opened t q rest ≡ cond none n 0 → opened t q (cond none (c ∷ rest) rest) ≡ cond none (1 + n) 0
by_left true t q c rest n is h = count_more (is_command t q) c rest ∙ (rw is (ap (λ m. 1 + m) h))
by_left false t q c rest n is h = h

left_by : (is_it : Bool) (t q d : ℕ) (stay : Bool) (c : Pending) (rest : List Pending) (n : ℕ) → is_command t q c ≡ is_it → (is_it ≡ true → stay ≡ (d == 0)) → opened t q rest ≡ left d n
    → opened t q (cond stay (c ∷ rest) rest) ≡ left d (cond is_it 1 0 + n)
left_by true t q d stay c rest n is stays h =
    ap (λ b. opened t q (cond b (c ∷ rest) rest)) (stays refl) ∙ by_left (d == 0) t q c rest n is h
left_by false t q d true c rest n is stays h = count_more (is_command t q) c rest ∙ (rw is (omega arith)) ∙ h ∙ (zero_more d n)
left_by false t q d false c rest n is stays h = h ∙ zero_more d n

none_left : (none : Bool) (n : ℕ) → cond none n n ≡ n
none_left true n = refl
none_left false n = refl

pub stays : (t q : ℕ) (effects : List Effect) (commands : List Pending) → opened t q (filter (stays_open effects) commands) ≡ left (dones t q effects) (opened t q commands)
stays t q effects [] = sym (none_left (dones t q effects == 0) 0)
stays t q effects (c ∷ commands) =
    left_by (is_command t q c) t q (dones t q effects) (stays_open effects c) c (filter (stays_open effects) commands) (opened t q commands) refl (stays_is t q effects c) (stays t q effects commands)
    ∙ ap (left (dones t q effects)) (sym (count_more (is_command t q) c commands))
