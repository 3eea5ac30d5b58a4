-- Flags and commands that are kept by task.
use Rattle.std.proofs.Common.{◌≡◌, ℕ, ◌+◌, ◌<◌, Bool, true, false, cond, List, [], ◌∷◌, length, Some, None, sym, ap, ◌∙◌, arith}
use Rattle.std.specs.Prelude.{◌==◌, ◌&&◌, not, get_or, count_by}
use Rattle.std.specs.List.{position, position_or_len, swap_remove}
use Rattle.std.proofs.lemmas.Bool.{eqb-true, and_parts, lt-ltb}
use Rattle.std.proofs.lemmas.List.Sums.{sum_by-swap_remove}
use Rattle.std.proofs.lemmas.List.Quantifiers.{position-Some}
use Rattle.agent_table.proofs.Counts.{count_more}
use Rattle.agent_requests.specs.declared.answers.Popped.{Popped}
use Rattle.agent_end.specs.Owed.{is_owed, owed_in}

abbrev for_one : Bool → ℕ
for_one b = cond b 1 0

-- ---- A command is found, and leaves the list

first_is_there : {X : Type 0} (p : X → Bool) (xs : List X) → 0 < count_by p xs → position_or_len p xs < length xs
first_is_there p [] some = absurd (omega (arith, some))
first_is_there p (x ∷ xs) some = by (p x) (count_more p x xs) (first_is_there p xs)
  where
    by : (b : Bool) → count_by p (x ∷ xs) ≡ cond b 1 0 + count_by p xs → (0 < count_by p xs → position_or_len p xs < length xs) → cond (not b) (1 + position_or_len p xs) 0 < length (x ∷ xs)
    by true e rest = omega arith
    by false e rest = let less = rest (omega (arith, some, e)) in omega (arith, less)

-- what stands in a list is found
pub is_found : {X : Type 0} (p : X → Bool) (xs : List X) → 0 < count_by p xs → position p xs ≡ None → ⊥
is_found p xs some none =
    let found : position p xs ≡ Some (position_or_len p xs) = ap (λ b. cond b (Some (position_or_len p xs)) None) (lt-ltb (position_or_len p xs) (length xs) (first_is_there p xs some)) in
    absurd (cc (sym found ∙ none))

same_command : (t q task seq : ℕ) (command : Popped) → is_owed task seq command ≡ true → is_owed t q command ≡ ((task == t) && (seq == q))
same_command t q task seq command is =
    let parts = and_parts (command.task == task) (command.seq == seq) is in
    ap (λ n. (n == t) && (command.seq == q)) (eqb-true command.task task parts.0) ∙ ap (λ n. (task == t) && (n == q)) (eqb-true command.seq seq parts.1)

pub settled : (task seq i : ℕ) (commands : List Popped) (out : Popped) → position (is_owed task seq) commands ≡ Some i → out ≡ get_or commands i out
    → (t q : ℕ) → owed_in t q (swap_remove commands i out) + cond ((task == t) && (seq == q)) 1 0 ≡ owed_in t q commands
settled task seq i commands out found is t q =
    let place = position-Some (is_owed task seq) commands i out found in
    let all = sum_by-swap_remove (λ c. cond (is_owed t q c) 1 0) commands i out place.0 in
    let own : is_owed task seq (get_or commands i out) ≡ true = place.1 in
    let one : for_one (is_owed t q (get_or commands i out)) ≡ for_one ((task == t) && (seq == q)) = ap for_one (same_command t q task seq (get_or commands i out) own) in
    omega (arith, all, one)
