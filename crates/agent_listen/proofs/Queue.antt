-- A list of which the first are still to come, and the others came back.
use Rattle.std.proofs.Common.{◌≡◌, ℕ, zero, suc, ◌-◌, ◌<◌, ◌≤◌, List, [], ◌∷◌, ◌++◌, length, take, drop, sym, ap, ◌∙◌, arith, subst}
use Rattle.std.specs.Prelude.{slice_index_or}
use Rattle.std.specs.List.{AllByRecursion}
use Rattle.std.proofs.lemmas.List.{take_all, drop_all, take-append-le, drop-append-le}
use Rattle.broker_tape.specs.declared.tape.Item.TheVariants as items
use Rattle.broker_tape.specs.Playing.{Playing, unplayed}
use Rattle.agent_listen.specs.Waiting.{Gives, IsCaller, Listening, opened}

module _ {X : Type 0} where
  pub all_taken : (xs : List X) (n : ℕ) → n ≡ length xs → take n xs ≡ xs
  all_taken xs n e = take_all n xs (omega (arith, e))

  pub none_left : (xs : List X) (n : ℕ) → n ≡ length xs → drop n xs ≡ []
  none_left xs n e = drop_all n xs (omega (arith, e))

-- the first of those that are to come
pub first_is : (n : ℕ) (xs : List Playing) (d : Playing) → 0 < n → n ≤ length xs → AllByRecursion IsCaller (take n xs) → IsCaller (slice_index_or xs 0 d)
first_is zero xs d some within all = absurd (omega (arith, some))
first_is (suc n) [] d some within all = absurd (omega (arith, within))
first_is (suc n) (x ∷ xs) d some within all = all.0

-- the others, when it was taken out
pub others_are : (n : ℕ) (xs : List Playing) → 0 < n → AllByRecursion IsCaller (take n xs) → AllByRecursion IsCaller (take (n - 1) (drop 1 xs))
others_are zero xs some all = absurd (omega (arith, some))
others_are (suc n) [] some all = subst (AllByRecursion IsCaller) (sym (take_all (suc n - 1) [] (omega arith))) tt
others_are (suc n) (x ∷ xs) some all = subst (λ m. AllByRecursion IsCaller (take m xs)) (less n) all.1
  where
    less : (n : ℕ) → n ≡ suc n - 1
    less n = omega arith

module _ {X : Type 0} where
  pub first_of : (n : ℕ) (xs : List X) (d : X) → 0 < n → n ≤ length xs → take n xs ≡ slice_index_or xs 0 d ∷ take (n - 1) (drop 1 xs)
  first_of zero xs d some within = absurd (omega (arith, some))
  first_of (suc n) [] d some within = absurd (omega (arith, within))
  first_of (suc n) (x ∷ xs) d some within = ap (λ m. x ∷ take m xs) (less n)
    where
      less : (n : ℕ) → n ≡ suc n - 1
      less n = omega arith

  pub still_back : (n : ℕ) (xs : List X) → 0 < n → drop (n - 1) (drop 1 xs) ≡ drop n xs
  still_back zero xs some = absurd (omega (arith, some))
  still_back (suc n) [] some = drop_all (suc n - 1) [] (omega arith)
  still_back (suc n) (x ∷ xs) some = ap (λ m. drop m xs) (less n)
    where
      less : (n : ℕ) → suc n - 1 ≡ n
      less n = omega arith

  pub one_back : (n : ℕ) (xs : List X) (x : X) → n ≤ length xs → drop n (xs ++ x ∷ []) ≡ drop n xs ++ x ∷ []
  one_back n xs x within = drop-append-le n xs (x ∷ []) within

  pub still_waiting : (n : ℕ) (xs : List X) (x : X) → n ≤ length xs → take n (xs ++ x ∷ []) ≡ take n xs
  still_waiting n xs x within = take-append-le n xs (x ∷ []) within

pub still_callers : (n : ℕ) (xs : List Playing) (x : Playing) → n ≤ length xs → AllByRecursion IsCaller (take n xs) → AllByRecursion IsCaller (take n (xs ++ x ∷ []))
still_callers n xs x within all = subst (AllByRecursion IsCaller) (sym (still_waiting n xs x within)) all

pub all_callers : (n : ℕ) (xs : List Playing) → n ≡ length xs → AllByRecursion IsCaller xs → AllByRecursion IsCaller (take n xs)
all_callers n xs e all = subst (AllByRecursion IsCaller) (sym (all_taken xs n e)) all

-- What a caller tells whose connection is open.
pub record IsJustOpen (p : Playing) : Type 0 where
  pub taken : p.taken ≡ [] ∷ []
  pub given : p.given ≡ [] ∷ []
  pub faults : p.faults ≡ 0
  pub ends : p.ends ≡ 0
  pub nothings : p.nothings ≡ 0

just_open : (caller given : Playing) → IsCaller caller → given ≡ opened caller → IsJustOpen given
just_open caller given h e =
    let whole : given ≡ opened (unplayed (items.Open ∷ h.rest)) = e ∙ ap opened h.is in
    record {
      taken = ap (λ (p : Playing). p.taken) whole;
      given = ap (λ (p : Playing). p.given) whole;
      faults = ap (λ (p : Playing). p.faults) whole;
      ends = ap (λ (p : Playing). p.ends) whole;
      nothings = ap (λ (p : Playing). p.nothings) whole;
    }

pub fresh_first : (n : ℕ) (xs : List Playing) (given : Playing) → 0 < n → n ≤ length xs → AllByRecursion IsCaller (take n xs) → ((d : Playing) → given ≡ opened (slice_index_or xs 0 d)) → IsJustOpen given
fresh_first n xs given some within all e = just_open (slice_index_or xs 0 given) given (first_is n xs given some within all) (e given)

-- the first was taken out
pub gives : (n : ℕ) (xs rest : List Playing) (given : Playing) (old new : Listening) → old.waiting ≡ take n xs → new.waiting ≡ take (n - 1) rest → 0 < n → n ≤ length xs → ((d : Playing) → given ≡ opened (slice_index_or xs 0 d))
    → rest ≡ drop 1 xs → Gives old given new
gives n xs rest given old new before behind some within e is = record {
  first = slice_index_or xs 0 given;
  waiting = before ∙ first_of n xs given some within ∙ ap (λ l. slice_index_or xs 0 given ∷ take (n - 1) l) (sym is) ∙ ap (λ l. slice_index_or xs 0 given ∷ l) (sym behind);
  is = e given;
}
