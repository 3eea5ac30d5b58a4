-- Each entry's time is a reading of the clock.
use Rattle.std.proofs.Common.{◌≡◌, ℕ, zero, suc, ◌+◌, ◌-◌, ◌^◌, ◌<◌, min, Bool, true, false, cond, List, [], ◌∷◌, map, refl, sym, ap, ◌∙◌, subst, arith}
use Rattle.std.specs.Prelude.{Contains, IfSome, nat_lt}
use Rattle.std.proofs.lemmas.Bool.{ltb-true}
use Rattle.std.proofs.lemmas.List.Elements.{Contains-append_left, Contains-append_right}
use Rattle.agent_link.specs.Clocks.{Stepping, step_reading, step_readings, after_reading, told_readings}
use Rattle.agent_journal.specs.declared.entry.Entry.{Entry}
use Rattle.agent_journal.specs.Wires.{AreReadings}
use Rattle.replay_rounds.specs.World.{World}
use Rattle.replay_rounds.specs.Rounds.{round, has_ended, after}
use Rattle.replay_rounds.proofs.Ends.{IsSteady, next_time, round_fewer, round_steady}
use Rattle.replay_rounds.proofs.Kept.{IsKept, acts_on}

-- a reading more
later_readings : (tick n : ℕ) (past : List Entry) → AreReadings (step_readings tick n) past → AreReadings (step_readings tick (suc n)) past
later_readings tick n [] h = tt
later_readings tick n (e ∷ past) h = (Contains-append_left (step_readings tick n) (step_reading tick n ∷ []) e.at h.0, later_readings tick n past h.1)

last_reading : (tick n : ℕ) → Contains (step_readings tick (suc n)) (step_reading tick n)
last_reading tick n = Contains-append_right (step_readings tick n) (step_reading tick n ∷ []) (step_reading tick n) (0, omega arith, refl)

-- each time is one of the readings so far, while the clock tells them
abbrev pub IsRead : World → Type 0
IsRead w = w.clock.calls < 2 ^ 128 - 1 → AreReadings (step_readings w.clock.step w.clock.calls) w.past

kept : (readings : List ℕ) (now : ℕ) → Contains readings now → IsKept now (λ w. AreReadings readings w.past)
kept readings now there = record { entry_on = λ w cause found e h. (there, h); others = λ w v setup sizes past h. subst (AreReadings readings) past h }

-- the clock told one reading more
read_on : (old new : Stepping) → new ≡ after_reading old → new.calls < 2 ^ 128 - 1 → (old.calls < 2 ^ 128 - 1) × (step_readings new.step new.calls ≡ step_readings old.step (suc old.calls))
read_on old new e few =
    let calls : new.calls ≡ min (old.calls + 1) (2 ^ 128 - 1) = ap (λ c. c.calls) e in
    let more : new.calls ≡ suc old.calls = omega (arith, calls, few) in
    (omega (arith, more, few), ap (λ step. step_readings step new.calls) (ap (λ c. c.step) e) ∙ ap (step_readings old.step) more)

round_read : (w : World) → IsSteady w → has_ended w ≡ false → IsRead w → IsRead (round w)
round_read w steady going h few =
    let v = round w in
    let both = read_on w.clock v.clock (round_fewer w steady going).clock few in
    let readings = step_readings w.clock.step (suc w.clock.calls) in
    let u = record w { clock = after_reading w.clock } in
    let there : Contains readings (next_time w) = last_reading w.clock.step w.clock.calls in
    let before : AreReadings readings v.past =
    acts_on (next_time w) (λ x. AreReadings readings x.past) (kept readings (next_time w) there) u (later_readings w.clock.step w.clock.calls w.past (h both.0)) in
    subst (λ told. AreReadings told v.past) (sym both.1) before

pub read_after : (n : ℕ) (w : World) → IsSteady w → IsRead w → IsRead (after n w)
read_after zero w steady h = h
read_after (suc n) w steady h = by (has_ended w) refl (λ going. read_after n (round w) (round_steady w steady going) (round_read w steady going h))
  where
    by : (b : Bool) → has_ended w ≡ b → (has_ended w ≡ false → IsRead (after n (round w))) → IsRead (cond b w (after n (round w)))
    by true ended next = h
    by false going next = next going

-- ---- Some readings, which are the clock's where it tells them

with_more : (x : ℕ) (readings : List ℕ) (past : List Entry) → AreReadings readings past → AreReadings (x ∷ readings) past
with_more x readings [] h = tt
with_more x readings (e ∷ past) h = (Contains-append_right (x ∷ []) readings e.at h.0, with_more x readings past h.1)

own_times : (past : List Entry) → AreReadings (map (λ e. e.at) past) past
own_times [] = tt
own_times (e ∷ past) = ((0, omega arith, refl), with_more e.at (map (λ e. e.at) past) past (own_times past))

pub record HasReadings (w : World) : Type 0 where
  pub readings : List ℕ
  pub are_read : IfSome (told_readings w.clock) (λ told. told ≡ readings)
  pub times : AreReadings readings w.past

readings_by : (b : Bool) (w : World) → nat_lt w.clock.calls (2 ^ 128 - 1) ≡ b → IsRead w → HasReadings w
readings_by true w e h = record {
  readings = step_readings w.clock.step w.clock.calls;
  are_read = rw e refl;
  times = h (ltb-true w.clock.calls (2 ^ 128 - 1) e);
}
readings_by false w e h = record { readings = map (λ e. e.at) w.past; are_read = rw e tt; times = own_times w.past }

pub has_readings : (w : World) → IsRead w → HasReadings w
has_readings w h = readings_by (nat_lt w.clock.calls (2 ^ 128 - 1)) w refl h
