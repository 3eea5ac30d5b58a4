-- At each moment each command that was taken is open or completed, once.
use Rattle.std.proofs.Common.{◌≡◌, ℕ, ◌+◌, ◌<◌, ◌≤◌, Bool, true, false, cond, List, [], ◌∷◌, ◌++◌, Option, Some, None, is_some, refl, ap, ◌∙◌, subst, arith}
use Rattle.std.specs.Prelude.{◌&&◌, ◌==◌, not, nat_lt, nat_le}
use Rattle.std.proofs.lemmas.Bool.{cases_Bool, cases_lt, eqb-true, eqb-false, le-ltb}
use mathlib.Core.Logic.{inl, inr}
use Rattle.agent_journal.specs.declared.request.Request.{Request}
use Rattle.agent_journal.specs.declared.entry.Cause.{Cause}
use Rattle.agent_journal.specs.declared.entry.Cause.TheVariants as c
use Rattle.agent_journal.specs.declared.entry.Entry.{Entry}
use Rattle.agent_journal.specs.declared.effect.Effect.{Effect}
use Rattle.agent_journal.specs.declared.setup.Setup.{Setup}
use Rattle.agent_journal.specs.Readings.{pending_of, opens}
use Rattle.agent_journal.specs.Projections.{commands_by, commands_of, completions_of}
use Rattle.agent_table.proofs.Commands.{below, answered_in, answered_by, more_taken, none_more, all_commands}
use Rattle.std.proofs.lemmas.Bool.{and_parts}
use Rattle.agent_table.specs.Histories.{readings, row, effects_of}
use Rattle.agent_table.specs.Laws.{EachIsOpenOrDone, NoneIsEarly, open_of}
use Rattle.agent_table.specs.Readings.{Readings}
use Rattle.agent_journal.specs.Requests.{is_valid}
use Rattle.agent_table.specs.Rows.{Row, when}
use Rattle.agent_table.specs.Sizes.{Sizes}
use Rattle.agent_table.specs.Table.{row_of}
use Rattle.agent_table.specs.Takes.{take_row, take_in, may_take}
use Rattle.agent_table.proofs.Counts.{opened, dones, count_append, stays, left}
use Rattle.agent_table.proofs.Completions.{Within, within_row}
use Rattle.agent_table.proofs.Openings.{RowOpens, take_opens, opens_when}

some_when : (b : Bool) (row : Option Row) → is_some (when b row) ≡ true → (b ≡ true) × (is_some row ≡ true)
some_when true row some = (refl, some)
some_when false row some = absurd (cc some)

pub has_row : (row : Option Row) (effects : List Effect) → effects_of row ≡ Some effects → is_some row ≡ true
has_row None effects e = absurd (cc e)
has_row (Some row) effects e = refl

stays_off : (b : Bool) → not b ≡ true → b ≡ false
stays_off true e = absurd (cc e)
stays_off false e = refl

-- A Take's number is the count of its task's Takes, and the task hasn't left.
pub taken_next : (s : Setup) (l : Sizes) (r : Readings) (at task seq : ℕ) (request : Request) → is_some (row_of s l r at (c.Take task seq request)) ≡ true → (seq ≡ r.takes task) × (r.left task ≡ false)
unfolding row_of take_row may_take
taken_next s l r at task seq request some =
    let may = (some_when (nat_lt task s.tasks && not (r.left task) && (seq == r.takes task) && is_valid request) _ (some_when _ _ some).1).0 in
    let two = (and_parts (nat_lt task s.tasks && not (r.left task) && (seq == r.takes task)) (is_valid request) may).0 in
    let parts = and_parts (nat_lt task s.tasks && not (r.left task)) (seq == r.takes task) two in
    (eqb-true seq (r.takes task) parts.1, stays_off (r.left task) (and_parts (nat_lt task s.tasks) (not (r.left task)) parts.0).1)

more_by : (s : Setup) (l : Sizes) (past : List Entry) (t q at : ℕ) (cause : Cause) → is_some (row s l past at cause) ≡ true → below q (commands_of t past) + answered_by t q cause ≡ below q (commands_of t past + commands_by t cause)
more_by s l past t q at c.Opened some = none_more q (commands_of t past)
more_by s l past t q at (c.Take task seq request) some =
    let next = taken_next s l (readings s l past) at task seq request some in
    more_taken t task q (commands_of t past) seq request (λ e. next.0 ∙ all_commands task past next.1 ∙ ap (λ u. commands_of u past) e)
more_by s l past t q at (c.Arrived packet) some = none_more q (commands_of t past)
more_by s l past t q at (c.Broke why) some = none_more q (commands_of t past)
more_by s l past t q at c.Tick some = none_more q (commands_of t past)
more_by s l past t q at c.GaveUp some = none_more q (commands_of t past)
more_by s l past t q at c.Finish some = none_more q (commands_of t past)

pub few : (q n : ℕ) → below q n ≤ 1
few q n = elim (cases_Bool (nat_lt q n)) [ inl e ↦ rw e (omega arith) | inr e ↦ rw e (omega arith) ]

-- the effects of a row complete no more than this
within : (t q n : ℕ) (row : Option Row) (effects : List Effect) → effects_of row ≡ Some effects → Within t q n row → dones t q effects ≤ n
within t q n None effects e h = absurd (cc e)
within t q n (Some row) effects e h = let is : row.effects ≡ effects = cc in subst (λ es. dones t q es ≤ n) is h

row_opens : (t q task seq : ℕ) (request : Request) (row : Option Row) (effects : List Effect) → effects_of row ≡ Some effects → RowOpens t q task seq request row
    → dones t q effects ≡ 0 → opened t q (opens (c.Take task seq request) effects) ≡ answered_in t q task seq request
row_opens t q task seq request None effects e h = absurd (cc e)
row_opens t q task seq request (Some row) effects e h =
    let is : row.effects ≡ effects = cc in subst (λ es. dones t q es ≡ 0 → opened t q (opens (c.Take task seq request) es) ≡ answered_in t q task seq request) is h

take_opened : (s : Setup) (l : Sizes) (r : Readings) (t q at task seq : ℕ) (request : Request) → RowOpens t q task seq request (row_of s l r at (c.Take task seq request))
unfolding row_of take_row
take_opened s l r t q at task seq request =
    let inner = take_in s l r task seq request r.phase in
    opens_when t q task seq request (nat_le r.last_time at) (when (may_take s r task seq request) inner) (opens_when t q task seq request (may_take s r task seq request) inner (take_opens t q s l r task seq request r.phase))

-- what an entry opens, where it doesn't complete it
pub opens_by : (s : Setup) (l : Sizes) (r : Readings) (t q at : ℕ) (cause : Cause) (effects : List Effect) → effects_of (row_of s l r at cause) ≡ Some effects → dones t q effects ≡ 0 → opened t q (opens cause effects) ≡ answered_by t q cause
opens_by s l r t q at c.Opened effects e none = refl
opens_by s l r t q at (c.Take task seq request) effects e none = row_opens t q task seq request (row_of s l r at (c.Take task seq request)) effects e (take_opened s l r t q at task seq request) none
opens_by s l r t q at (c.Arrived packet) effects e none = refl
opens_by s l r t q at (c.Broke why) effects e none = refl
opens_by s l r t q at c.Tick effects e none = refl
opens_by s l r t q at c.GaveUp effects e none = refl
opens_by s l r t q at c.Finish effects e none = refl

positive : (d : ℕ) → (d == 0) ≡ false → 0 < d
positive d is = elim (cases_lt 0 d) [ inl some ↦ some | inr none ↦ absurd (eqb-false d 0 is (omega (arith, none))) ]

-- the counts behind an entry: c completions, p open, d more completions, o more open, k taken, b before
counted : (c p d k b b2 o : ℕ) (none : Bool) → (d == 0) ≡ none → c + p ≡ b → d ≤ p + k → b + k ≡ b2 → b2 ≤ 1 → (none ≡ true → o ≡ k) → (c + d) + cond none (p + o) 0 ≡ b2
counted c p d k b b2 o true is before most more one opens = let zero_is : d ≡ 0 = eqb-true d 0 is in let own = opens refl in omega (arith, zero_is, own, before, more)
counted c p d k b b2 o false is before most more one opens = let some : 0 < d = positive d is in omega (arith, some, before, most, more, one)

pub each_is_open_or_done : EachIsOpenOrDone
each_is_open_or_done s l [] legal t q = rw (le-ltb q 0 (omega arith)) refl
each_is_open_or_done s l (e ∷ past) legal t q =
    let r = readings s l past in
    let d = dones t q e.effects in
    let p = opened t q (pending_of past) in
    let o = opened t q (opens e.cause e.effects) in
    let more = more_by s l past t q e.at e.cause (has_row (row s l past e.at e.cause) e.effects legal.0) in
    let most = within t q (p + answered_by t q e.cause) (row s l past e.at e.cause) e.effects legal.0 (within_row t q s l r e.at e.cause) in
    let whole = counted (completions_of t q past) p d (answered_by t q e.cause) (below q (commands_of t past)) (below q (commands_of t (e ∷ past))) o (d == 0) refl (each_is_open_or_done s l past legal.1 t q) most more
    (few q (commands_of t (e ∷ past))) (λ none. opens_by s l r t q e.at e.cause e.effects legal.0 (eqb-true d 0 none)) in
    let open_now : open_of t q (e ∷ past) ≡ left d (p + o) = stays t q e.effects (pending_of past ++ opens e.cause e.effects) ∙ ap (left d) (count_append _ (pending_of past) (opens e.cause e.effects)) in
    ap (λ n. (completions_of t q past + d) + n) open_now ∙ whole

pub none_is_early : NoneIsEarly
none_is_early s l [] legal = tt
none_is_early s l (e ∷ past) legal = (λ t seq late. let sum = each_is_open_or_done s l (e ∷ past) legal t seq in let none : below seq (commands_of t (e ∷ past)) ≡ 0 = rw (le-ltb seq (commands_of t (e ∷ past)) late) refl in omega (arith, sum, none), none_is_early s l past legal.1)
