-- A replay ends, and further rounds than it takes change nothing.
use Rattle.std.proofs.Common.{◌≡◌, ℕ, zero, suc, ◌+◌, ◌-◌, ◌*◌, ◌^◌, ◌<◌, ◌≤◌, min, Bool, true, false, cond, List, Option, Some, None, is_some, refl, sym, ap, ◌∙◌, subst, arith, inl}
use Rattle.std.specs.Prelude.{◌&&◌}
use Rattle.std.proofs.Math.Nat.{mul-le-mul_right}
use Rattle.agent_link.specs.Clocks.{Stepping, step_reading, after_reading}
use Rattle.broker_tape.specs.declared.tape.Item.{Item}
use Rattle.agent_journal.specs.declared.entry.Cause.{Cause}
use Rattle.agent_script.specs.declared.script.Line.{Line}
use Rattle.agent_journal.specs.declared.setup.Setup.{Setup}
use Rattle.agent_journal.specs.declared.setup.Phase.{Phase}
use Rattle.agent_journal.specs.declared.setup.Phase.TheVariants.{Down, Opening, Up, Spilled, Off}
use Rattle.agent_journal.specs.Endings.{is_off}
use Rattle.agent_journal.specs.Readings.{has_left}
use Rattle.agent_table.specs.Histories.{readings, due_by}
use Rattle.agent_table.specs.Sizes.{Sizes}
use Rattle.replay_rounds.specs.World.{World, phase_in}
use Rattle.replay_rounds.specs.Rounds.{acts, acts_by, acts_in, round, has_ended, after, begun}
use Rattle.replay_rounds.specs.Laws.{ReplaysEnd}
use Rattle.replay_rounds.specs.Plays.{LeadsTo}
use Rattle.replay_rounds.specs.Bound.{bound, finished}
use Rattle.replay_rounds.proofs.Dues.{NoneDue, none_due, dues_fewer}
use Rattle.replay_rounds.proofs.Kept.{acts_on}
use Rattle.replay_rounds.proofs.Moments.{IsTimely, timely_kept}
use Rattle.replay_rounds.proofs.Openings.{opening_fewer}
use Rattle.replay_rounds.proofs.Receives.{receives_fewer}
use Rattle.agent_ties.proofs.Rows.{in_full_there}
use Rattle.replay_rounds.proofs.Takes.{takes_fewer, ends_fewer}
use Rattle.replay_rounds.proofs.Tamed.{Fewer}

module _ (now : ℕ) (w : World) (h : IsTimely now w) (going : has_ended w ≡ false) where
  not_gone : phase_in w ≡ Off → has_left 0 w.past ≡ false
  not_gone off = ap (λ phase. is_off phase && has_left 0 w.past) (sym off) ∙ going

  in_fewer : (phase : Phase) → phase_in w ≡ phase → NoneDue now w → Fewer w (acts_in w now phase)
  in_fewer Down e due = opening_fewer now w h due e
  in_fewer Opening e due = receives_fewer now w h (inl e)
  in_fewer Up e due = takes_fewer now w h due e
  in_fewer Spilled e due = absurd (cc (sym due.in_full ∙ ap is_some (in_full_there w.setup w.sizes (readings w.setup w.sizes w.past) now h.time e)))
  in_fewer Off e due = ends_fewer now w h e (not_gone e)

  by_due : (due : Option Cause) → due_by w.setup w.sizes (readings w.setup w.sizes w.past) now ≡ due → Fewer w (acts_by w now due)
  by_due None e = in_fewer (phase_in w) refl (none_due now w e)
  by_due (Some cause) e = dues_fewer now w cause e

  acts_fewer : Fewer w (acts w now)
  acts_fewer = by_due (due_by w.setup w.sizes (readings w.setup w.sizes w.past) now) refl

-- ---- Between rounds

abbrev pub next_time : World → ℕ
next_time w = step_reading w.clock.step w.clock.calls

pub record IsSteady (w : World) : Type 0 where
  pub timely : IsTimely (next_time w) w
  pub calls : w.clock.calls ≤ 2 ^ 128 - 1

reads_more : (step k n : ℕ) → k ≤ n → step_reading step k ≤ step_reading step n
reads_more step k n less = let more : k * step ≤ n * step = mul-le-mul_right step less in omega (arith, more)

later : (clock : Stepping) → clock.calls ≤ 2 ^ 128 - 1 → step_reading clock.step clock.calls ≤ step_reading (after_reading clock).step (after_reading clock).calls
later clock small = reads_more clock.step clock.calls (min (clock.calls + 1) (2 ^ 128 - 1)) (omega (arith, small))

timely_later : (now next : ℕ) (w : World) → now ≤ next → IsTimely now w → IsTimely next w
timely_later now next w less h = record { time = omega (arith, less, h.time); one = h.one; fits = h.fits }

pub round_fewer : (w : World) → IsSteady w → has_ended w ≡ false → Fewer (record w { clock = after_reading w.clock }) (round w)
round_fewer w h going = let u = record w { clock = after_reading w.clock } in acts_fewer (next_time w) u ((timely_kept (next_time w)).others w u refl refl refl h.timely) going

pub round_less : (w : World) → IsSteady w → has_ended w ≡ false → bound (round w) < bound w
round_less w h going = (round_fewer w h going).less

pub round_steady : (w : World) → IsSteady w → has_ended w ≡ false → IsSteady (round w)
round_steady w h going =
    let now = next_time w in
    let u = record w { clock = after_reading w.clock } in
    let v = round w in
    let clock : v.clock ≡ after_reading w.clock = (round_fewer w h going).clock in
    let timely : IsTimely now v = acts_on now (IsTimely now) (timely_kept now) u ((timely_kept now).others w u refl refl refl h.timely) in
    let less : now ≤ next_time v = subst (λ c. now ≤ step_reading c.step c.calls) (sym clock) (later w.clock h.calls) in
    record { timely = timely_later now (next_time v) v less timely; calls = subst (λ c. c.calls ≤ 2 ^ 128 - 1) (sym clock) (omega arith) }

-- ---- Enough rounds

after_by : (b : Bool) (n : ℕ) (w : World) → has_ended w ≡ b → after (suc n) w ≡ cond b w (after n (round w))
after_by b n w e = ap (λ x. cond x w (after n (round w))) e

ends_by_rounds : (n : ℕ) (w : World) → IsSteady w → bound w ≤ n → has_ended (after n w) ≡ true
ends_by_rounds zero w h less = by (has_ended w) refl
  where
    by : (b : Bool) → has_ended w ≡ b → has_ended w ≡ true
    by true e = e
    by false e = let lower = round_less w h e in absurd (omega (arith, less, lower))
ends_by_rounds (suc n) w h less =
    by n w (has_ended w) refl h less (λ going. ends_by_rounds n (round w) (round_steady w h going) (let lower = round_less w h going in omega (arith, less, lower)))
  where
    by : (n : ℕ) (w : World) (b : Bool) → has_ended w ≡ b → IsSteady w → bound w ≤ suc n → (has_ended w ≡ false → has_ended (after n (round w)) ≡ true) → has_ended (after (suc n) w) ≡ true
    by n w true e h less next = ap has_ended (after_by true n w e) ∙ e
    by n w false e h less next = ap has_ended (after_by false n w e) ∙ next e

stays : (n : ℕ) (w : World) → has_ended w ≡ true → after n w ≡ w
stays zero w e = refl
stays (suc n) w e = after_by true n w e

-- further rounds change nothing
enough : (n : ℕ) (w : World) → IsSteady w → bound w ≤ n → (m : ℕ) → bound w ≤ m → after n w ≡ after m w
enough zero w h less m more = by (has_ended w) refl
  where
    by : (b : Bool) → has_ended w ≡ b → w ≡ after m w
    by true e = sym (stays m w e)
    by false e = let lower = round_less w h e in absurd (omega (arith, less, lower))
enough (suc n) w h less zero more = by (has_ended w) refl
  where
    by : (b : Bool) → has_ended w ≡ b → after (suc n) w ≡ w
    by true e = stays (suc n) w e
    by false e = let lower = round_less w h e in absurd (omega (arith, more, lower))
enough (suc n) w h less (suc m) more =
    by n m w (has_ended w) refl
    (λ going. let lower = round_less w h going in enough n (round w) (round_steady w h going) (omega (arith, less, lower)) m (omega (arith, more, lower)))
  where
    by : (n m : ℕ) (w : World) (b : Bool) → has_ended w ≡ b → (has_ended w ≡ false → after n (round w) ≡ after m (round w)) → after (suc n) w ≡ after (suc m) w
    by n m w true e next = stays (suc n) w e ∙ sym (stays (suc m) w e)
    by n m w false e next = after_by false n w e ∙ next e ∙ sym (after_by false m w e)

pub finished_ended : (w : World) → has_ended w ≡ true → finished w ≡ w
finished_ended w e = stays (bound w) w e

-- what is left to do behind a round is what was left before it
pub finished_round : (w : World) → IsSteady w → has_ended w ≡ false → finished (round w) ≡ finished w
finished_round w h going = by (bound w) refl
  where
    by : (n : ℕ) → bound w ≡ n → finished (round w) ≡ finished w
    by zero e = let lower = round_less w h going in absurd (omega (arith, e, lower))
    by (suc n) e =
        let lower = round_less w h going in
        enough (bound (round w)) (round w) (round_steady w h going) (omega arith) n (omega (arith, e, lower)) ∙ sym (ap (λ k. after k w) e ∙ after_by false n w going)

pub begun_steady : (setup : Setup) (sizes : Sizes) (tick : ℕ) (lines : List Line) (items : List Item) → setup.tasks ≡ 1 → IsSteady (begun setup sizes tick lines items)
begun_steady setup sizes tick lines items one = record { timely = record { time = omega arith; one = one; fits = omega arith }; calls = omega arith }

pub replays_end : (setup : Setup) (sizes : Sizes) (tick : ℕ) (lines : List Line) (items : List Item) → setup.tasks ≡ 1 → LeadsTo (begun setup sizes tick lines items) (finished (begun setup sizes tick lines items))
replays_end setup sizes tick lines items one =
    let w = begun setup sizes tick lines items in
    record { rounds = bound w; is = refl; ended = ends_by_rounds (bound w) w (begun_steady setup sizes tick lines items one) (omega arith) }

pub replays_lead_on : ReplaysEnd
replays_lead_on setup sizes tick lines items one = (finished (begun setup sizes tick lines items), replays_end setup sizes tick lines items one)
