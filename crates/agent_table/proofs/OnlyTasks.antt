-- Only tasks that there are take anything.
use Rattle.std.proofs.Common.{◌≡◌, ℕ, ◌+◌, ◌<◌, ◌≤◌, Bool, true, false, cond, List, [], ◌∷◌, Option, Some, None, is_some, refl, sym, ap, ◌∙◌, subst, arith}
use Rattle.std.specs.Prelude.{◌&&◌, ◌||◌, ◌==◌, not, nat_lt}
use Rattle.std.proofs.lemmas.Bool.{ltb-true, eqb-true}
use Rattle.agent_journal.specs.declared.request.Request.{Request}
use Rattle.agent_journal.specs.declared.entry.Cause.{Cause}
use Rattle.agent_journal.specs.declared.entry.Cause.TheVariants as c
use Rattle.agent_journal.specs.declared.entry.Entry.{Entry}
use Rattle.agent_journal.specs.declared.setup.Setup.{Setup}
use Rattle.agent_journal.specs.Readings.{takes_of, has_left, takes_by, leaves_by, is_leave}
use Rattle.agent_journal.specs.Requests.{is_valid}
use Rattle.agent_table.specs.Histories.{IsLegalPast, readings, row}
use Rattle.agent_table.specs.Offs.{OnlyTasksTake}
use Rattle.agent_table.specs.Readings.{Readings}
use Rattle.agent_table.specs.Rows.{Row, when}
use Rattle.agent_table.specs.Sizes.{Sizes}
use Rattle.agent_table.specs.Table.{row_of}
use Rattle.agent_table.specs.Takes.{take_row, may_take}
use Rattle.agent_table.proofs.Once.{has_row}

some_when : (b : Bool) (row : Option Row) → is_some (when b row) ≡ true → (b ≡ true) × (is_some row ≡ true)
some_when true row some = (refl, some)
some_when false row some = absurd (cc some)

first_part : (a b : Bool) → (a && b) ≡ true → a ≡ true
first_part true b e = refl
first_part false b e = absurd (cc e)

taken_below : (s : Setup) (l : Sizes) (r : Readings) (at task seq : ℕ) (request : Request) → is_some (row_of s l r at (c.Take task seq request)) ≡ true → task < s.tasks
unfolding row_of take_row may_take
taken_below s l r at task seq request some =
    let may = (some_when (nat_lt task s.tasks && not (r.left task) && (seq == r.takes task) && is_valid request) _ (some_when _ _ some).1).0 in
    let two = first_part (nat_lt task s.tasks && not (r.left task) && (seq == r.takes task)) (is_valid request) may in
    let one = first_part (nat_lt task s.tasks && not (r.left task)) (seq == r.takes task) two in
    ltb-true task s.tasks (first_part (nat_lt task s.tasks) (not (r.left task)) one)

-- a cause that has a row is no Take of another task
none_beyond : (s : Setup) (l : Sizes) (past : List Entry) (at : ℕ) (cause : Cause) (t : ℕ) → is_some (row s l past at cause) ≡ true → s.tasks ≤ t → takes_by t cause ≡ false
none_beyond s l past at c.Opened t some beyond = refl
none_beyond s l past at (c.Take task seq request) t some beyond = go (t == task) refl
  where
    go : (b : Bool) → (t == task) ≡ b → b ≡ false
    go true e =
        let same = eqb-true t task e in let below = taken_below s l (readings s l past) at task seq request some in
        let none : ⊥ = omega (arith, same, below, beyond) in absurd none
    go false e = refl
none_beyond s l past at (c.Arrived packet) t some beyond = refl
none_beyond s l past at (c.Broke why) t some beyond = refl
none_beyond s l past at c.Tick t some beyond = refl
none_beyond s l past at c.GaveUp t some beyond = refl
none_beyond s l past at c.Finish t some beyond = refl

no_leave : (t : ℕ) (cause : Cause) → takes_by t cause ≡ false → leaves_by t cause ≡ false
no_leave t c.Opened nay = refl
no_leave t (c.Take task seq request) nay = ap (λ b. b && is_leave request) nay
no_leave t (c.Arrived packet) nay = refl
no_leave t (c.Broke why) nay = refl
no_leave t c.Tick nay = refl
no_leave t c.GaveUp nay = refl
no_leave t c.Finish nay = refl

pub only_tasks_take : OnlyTasksTake
only_tasks_take s l [] t legal beyond = record { takes = refl; left = refl }
only_tasks_take s l (e ∷ past) t legal beyond =
    let before = only_tasks_take s l past t legal.1 beyond in
    let nay = none_beyond s l past e.at e.cause t (has_row (row s l past e.at e.cause) e.effects legal.0) beyond in
    record {
      takes = ap (λ b. cond b (takes_of t past + 1) (takes_of t past)) nay ∙ before.takes;
      left = ap (λ b. b || has_left t past) (no_leave t e.cause nay) ∙ before.left;
    }
