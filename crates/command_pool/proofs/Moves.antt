-- Each kind of step keeps the rule.
use Rattle.std.proofs.Common.{◌≡◌, ◌≢◌, ℕ, ◌+◌, ◌-◌, ◌/◌, ◌^◌, ◌<◌, ◌≤◌, List, [], ◌∷◌, slice_index, slice_set, refl, sym, ap, subst, ◌∙◌, ⊎_elim, bit_and, bit_or, arith}
use mathlib.Core.Option.{some, none}
use lib.ListN.{get_elem?}
use Rattle.std.specs.Int.{bit_at}
use Rattle.std.proofs.lemmas.Bool.{cases_eq}
use Rattle.std.proofs.lemmas.List.{length-set, get_or-set_same}
use Rattle.std.proofs.lemmas.Nat.Bits.{bit_at-lt}
use Rattle.atomic_table.specs.Table.{Act, Valid, step, keeps, stepped, carried_after, opening, Allows, Splits, Joins}
use Rattle.command_pool.specs.declared.hand.Hand.{Hand}
use Rattle.command_pool.specs.declared.hand.PoolStep.TheVariants as steps
use Rattle.command_pool.specs.Hands.{times, without, nothing, noted, taken, given}
use Rattle.command_pool.specs.Rule.{Moment, holders, EachOnce}
use Rattle.command_pool.specs.Kinds.{Passing, only, all_but, Loads, Clears, Sets}
use Rattle.command_pool.proofs.Held.{times_same, times_other, times-without_same, times-without_other, holders-set, holders-append, one_holder}
use Rattle.command_pool.proofs.Words.{cleared_same, cleared_other, set_same, set_other, only-injective, all_but-injective, once-above, once-le, all_free}

-- a step keeps the rule that leaves each number's bit and the pass's count of it together as they were
kept : (pool : ℕ) (s : Moment) (n at : ℕ) (v w : Hand) (carried : List (ℕ × Unit {0})) → EachOnce pool s → get_elem? s.views at ≡ some v
    → ((x : ℕ) → bit_at n x + times x w.held ≡ bit_at (slice_index s.words 0) x + times x v.held)
    → EachOnce pool (stepped s 0 n at carried w keeps)
kept pool s n at v w carried rule is same =
    let one = rule.0 in
    let word : slice_index (slice_set s.words 0 n) 0 ≡ n = get_or-set_same s.words 0 n 0 (omega arith) in
    let moved : (x : ℕ) → bit_at n x + holders x (slice_set s.views at w) ≡ bit_at (slice_index s.words 0) x + holders x s.views
    = λ x. omega (arith, same x, holders-set x s.views at v w is) in
    (length-set s.words 0 n ∙ one, λ x. ap (λ k. bit_at k x + holders x (slice_set s.views at w)) word ∙ moved x ∙ rule.1 x)

pub loads : (pool slots at : ℕ) (me : Passing) → Allows (EachOnce pool) slots at me 0 (λ n. n) (Loads pool (step slots 0 0 0 none) me)
loads pool slots at me s rule homes is fits =
    let found : ℕ = slice_index s.words 0 in (
      noted (steps.Loaded found) me.0,
      keeps,
      tt,
      kept pool s found at me.0 (noted (steps.Loaded found) me.0) me.1 rule is (λ x. refl),
      (refl, λ x high. omega (arith, rule.1 x, once-above pool x high)),
    )

-- equal at i and at every other number
each : (i : ℕ) (F G : ℕ → ℕ) → F i ≡ G i → ((x : ℕ) → x ≢ i → F x ≡ G x) → (x : ℕ) → F x ≡ G x
each i F G here there x = ⊎_elim (λ e. subst (λ y. F y ≡ G y) (sym e) here) (λ apart. there x apart) (cases_eq x i)

module _ (pool slots at i : ℕ) (me : Passing) (small : i < 64) where
  clears : Allows (EachOnce pool) slots at me 0 (λ n. bit_and n (all_but i)) (Clears (step slots 0 (all_but i) 0 none) me)
  clears s rule homes is fits = ⊎_elim hit miss (cases_eq (bit_at word i) 1)
    where
      word : ℕ
      word = slice_index s.words 0

      before : ℕ → ℕ
      before x = bit_at word x + times x me.0.held

      after : Hand → ℕ → ℕ
      after w x = bit_at (bit_and word (all_but i)) x + times x w.held

      TellsAt : Hand → ℕ → Type 0
      TellsAt w x = (bit_at word x ≡ 1 → (◌≡◌ {A = Passing} (w, me.1) (taken x me.0, me.1)) × (times x me.0.held ≡ 0))
          × (bit_at word x ≡ 0 → ◌≡◌ {A = Passing} (w, me.1) (noted (steps.Missed x) me.0, me.1))

      Goes : Type 0
      Goes = (w : Hand) × (a : Act (Unit {0})) × Valid s.homes me.1 a × EachOnce pool (stepped s 0 (bit_and word (all_but i)) at me.1 w a) × Clears (step slots 0 (all_but i) 0 none) me word (w, carried_after me.1 a)

      to : (w : Hand) → after w i ≡ before i → ((x : ℕ) → x ≢ i → times x w.held ≡ times x me.0.held) → TellsAt w i → Goes
      to w here others told = (
        w,
        keeps,
        tt,
        kept pool s (bit_and word (all_but i)) at me.0 w me.1 rule is
            (each i (after w) before here (λ x apart. omega (arith, cleared_other word i x fits small apart, others x apart))),
        λ x low same. subst (TellsAt w) (sym (all_but-injective i x small low same)) told,
      )

      hit : bit_at word i ≡ 1 → Goes
      hit set = to (taken i me.0)
          (omega (arith, cleared_same word i small, times_same i me.0.held))
          (λ x apart. times_other x i me.0.held apart)
          (λ _. (refl, omega (arith, rule.1 i, one_holder i s.views at me.0 is, once-le pool i)), λ clear. absurd (omega arith))

      miss : bit_at word i ≢ 1 → Goes
      miss apart = to (noted (steps.Missed i) me.0)
          (omega (arith, cleared_same word i small, bit_at-lt word i))
          (λ x _. refl)
          (λ set. absurd (apart set), λ _. refl)

  sets : 0 < times i me.0.held → Allows (EachOnce pool) slots at me 0 (λ n. bit_or n (only i)) (Sets (step slots 0 (only i) 0 none) me)
  sets holds s rule homes is fits = (given i me.0, keeps, tt, kept pool s _ at me.0 (given i me.0) me.1 rule is even, told)
    where
      word : ℕ
      word = slice_index s.words 0

      even : (x : ℕ) → bit_at (bit_or word (only i)) x + times x (without i me.0.held) ≡ bit_at word x + times x me.0.held
      even = each i (λ x. bit_at (bit_or word (only i)) x + times x (without i me.0.held)) (λ x. bit_at word x + times x me.0.held)
          (omega (arith, set_same word i, times-without_same i me.0.held holds, rule.1 i, one_holder i s.views at me.0 is, once-le pool i))
          (λ x apart. omega (arith, set_other word i x apart, times-without_other i x me.0.held apart))

      told : (x : ℕ) → x < 64 → only i ≡ only x → (◌≡◌ {A = Passing} (given i me.0, me.1) (given x me.0, me.1)) × (times x me.0.held ≡ 1)
      told x low same = subst (λ y. (◌≡◌ {A = Passing} (given i me.0, me.1) (given y me.0, me.1)) × (times y me.0.held ≡ 1)) (sym (only-injective i x same))
          (refl, omega (arith, rule.1 i, one_holder i s.views at me.0 is, once-le pool i))

  -- the same at an operand that equals the mask
  pub clears_by : (k : ℕ) → k ≡ all_but i → Allows (EachOnce pool) slots at me 0 (λ n. bit_and n k) (Clears (step slots 0 k 0 none) me)
  clears_by k is = subst (λ m. Allows (EachOnce pool) slots at me 0 (λ n. bit_and n m) (Clears (step slots 0 m 0 none) me)) (sym is) clears

  pub sets_by : (k : ℕ) → k ≡ only i → 0 < times i me.0.held → Allows (EachOnce pool) slots at me 0 (λ n. bit_or n k) (Sets (step slots 0 k 0 none) me)
  sets_by k is holds = subst (λ m. Allows (EachOnce pool) slots at me 0 (λ n. bit_or n m) (Sets (step slots 0 m 0 none) me)) (sym is) (sets holds)

pub splits : (pool at : ℕ) (v : Hand) → Splits (EachOnce pool) at v (noted steps.Split v) nothing
splits pool at v s rule is = (rule.0, λ x. omega (arith, holders-append x (slice_set s.views at (noted steps.Split v)) nothing, holders-set x s.views at v (noted steps.Split v) is) ∙ rule.1 x)

pub joins : (pool at other : ℕ) (v w : Hand) → w.held ≡ [] → Joins (EachOnce pool) at v other w (noted steps.Joined v) nothing
joins pool at other v w empty s rule is apart there =
    let held : (x : ℕ) → times x w.held ≡ 0 = λ x. ap (times x) empty in
    (rule.0, λ x. omega (arith, held x, holders-set x s.views at v (noted steps.Joined v) is, holders-set x (slice_set s.views at (noted steps.Joined v)) other w nothing there) ∙ rule.1 x)

pub opens : (pool : ℕ) → pool ≤ 64 → EachOnce pool (opening ((2 ^ 64 - 1) / 2 ^ (64 - pool) ∷ []) [] nothing)
opens pool small = (refl, λ x. omega arith ∙ all_free pool x small)
