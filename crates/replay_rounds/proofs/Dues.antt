-- What is due leaves fewer rounds, and where nothing is due, nothing of it has a row.
use Rattle.std.proofs.Common.{◌≡◌, ℕ, ◌+◌, ◌<◌, ◌≤◌, true, false, List, [], ◌∷◌, Option, Some, None, is_some, refl, sym, ap, ◌∙◌, subst, arith, inl, inr}
use Rattle.mqtt_packet.specs.declared.packet.Packet.TheVariants as p
use Rattle.agent_journal.specs.declared.entry.Cause.{Cause}
use Rattle.agent_journal.specs.declared.entry.Cause.TheVariants as c
use Rattle.agent_journal.specs.declared.entry.Why.TheVariants.{KeepAlive, InFull}
use Rattle.agent_journal.specs.declared.entry.Entry.{Entry}
use Rattle.agent_journal.specs.declared.effect.Effect.TheVariants as f
use Rattle.agent_journal.specs.declared.setup.Phase.{Phase}
use Rattle.agent_journal.specs.declared.setup.Phase.TheVariants.{Down, Up, Off}
use Rattle.agent_journal.specs.Readings.{breaks_of}
use Rattle.agent_table.specs.Breaks.{is_absent}
use Rattle.agent_table.specs.Histories.{readings, due_by}
use Rattle.agent_table.specs.Rows.{Row}
use Rattle.agent_table.specs.Sessions.{ping_of, while_connected}
use Rattle.agent_ties.proofs.Seen.{found_by}
use Rattle.agent_ties.proofs.Dues.{none_of, IsDue, one_of}
use Rattle.replay_rounds.specs.World.{World, phase_in, row_in}
use Rattle.agent_ties.specs.Seen.{entry}
use Rattle.replay_rounds.specs.Entering.{entered}
use Rattle.replay_rounds.specs.Bound.{ping_weight, phase_weight}
use Rattle.replay_rounds.proofs.Kept.{Any, entered_on}
use Rattle.replay_rounds.proofs.Moments.{Lands, entered_lands}
use Rattle.agent_ties.proofs.Rows.{in_time, fault_phase, finish_leads, keep_alive_leads, tick_leads, gave_up_leads, in_full_leads}
use Rattle.replay_rounds.proofs.Tamed.{Tamed, tamed, itself, Fewer, by_phase, rounds_in, down_weighs, off_weighs, spilled_weighs, up_weighs}

-- ---- None is due

pub record NoneDue (now : ℕ) (w : World) : Type 0 where
  pub finish : is_some (row_in w now c.Finish) ≡ false
  pub gave_up : is_some (row_in w now c.GaveUp) ≡ false
  pub in_full : is_some (row_in w now (c.Broke InFull)) ≡ false

pub none_due : (now : ℕ) (w : World) → due_by w.setup w.sizes (readings w.setup w.sizes w.past) now ≡ None → NoneDue now w
none_due now w e =
    let all =
    none_of (is_some (row_in w now c.Finish)) (is_some (row_in w now (c.Broke KeepAlive))) (is_some (row_in w now c.Tick)) (is_some (row_in w now c.GaveUp)) (is_some (row_in w now (c.Broke InFull))) e
    in
    record { finish = all.0; gave_up = all.1; in_full = all.2 }

-- ---- One is due

-- where an entry leads for sure
pub leads_down : (past : List Entry) (phase : Phase) (v : World) → phase ≡ Down → Lands past phase v → phase_in v ≡ Down
leads_down past phase v e (inl here) = here.1 ∙ e
leads_down past phase v e (inr fault) = fault ∙ ap fault_phase e

pub leads_off : (past : List Entry) (phase : Phase) (v : World) → phase ≡ Off → Lands past phase v → phase_in v ≡ Off
leads_off past phase v e (inl here) = here.1 ∙ e
leads_off past phase v e (inr fault) = fault ∙ ap fault_phase e

module _ (now : ℕ) (w : World) where
  follows : (cause : Cause) → Tamed w (entered w now cause)
  follows cause = entered_on now Any (Tamed w) (tamed now w) w cause tt (itself w)

  lower : (cause : Cause) → rounds_in (entered w now cause) < rounds_in w → Fewer w (entered w now cause)
  lower cause less = by_phase w w (entered w now cause) refl refl refl refl (omega arith) (follows cause) less

  to_off : (cause : Cause) (found : Row) → row_in w now cause ≡ Some found → found.phase ≡ Off → 0 < rounds_in w → Fewer w (entered w now cause)
  to_off cause found e off some =
      let v = entered w now cause in
      let none = off_weighs v (leads_off (entry now cause found ∷ w.past) found.phase v off (entered_lands now w cause found e)) in
      lower cause (omega (arith, none, some))

  to_down : (cause : Cause) (found : Row) → row_in w now cause ≡ Some found → found.phase ≡ Down → 4 + w.setup.reopen ≤ rounds_in w → Fewer w (entered w now cause)
  to_down cause found e down heavy =
      let v = entered w now cause in
      let light = down_weighs v (leads_down (entry now cause found ∷ w.past) found.phase v down (entered_lands now w cause found e)) in
      let reopen : v.setup.reopen ≡ w.setup.reopen = ap (λ setup. setup.reopen) (follows cause).setup in
      lower cause (omega (arith, light, heavy, reopen))

  finish_fewer : (found : Row) → row_in w now c.Finish ≡ Some found → Fewer w (entered w now c.Finish)
  finish_fewer found e =
      let leads = finish_leads w.setup w.sizes (readings w.setup w.sizes w.past) now found (phase_in w) (in_time w.setup w.sizes (readings w.setup w.sizes w.past) now c.Finish found e) in
      let heavy = up_weighs w leads.0 in
      to_off c.Finish found e leads.1 (omega (arith, heavy))

  keep_alive_fewer : (found : Row) → row_in w now (c.Broke KeepAlive) ≡ Some found → Fewer w (entered w now (c.Broke KeepAlive))
  keep_alive_fewer found e =
      let leads = keep_alive_leads w.setup w.sizes (readings w.setup w.sizes w.past) now found (phase_in w) (in_time w.setup w.sizes (readings w.setup w.sizes w.past) now (c.Broke KeepAlive) found e) in
      let heavy = up_weighs w leads.0 in
      to_down (c.Broke KeepAlive) found e leads.1 (omega (arith, heavy))

  in_full_fewer : (found : Row) → row_in w now (c.Broke InFull) ≡ Some found → Fewer w (entered w now (c.Broke InFull))
  in_full_fewer found e =
      let leads = in_full_leads w.setup w.sizes (readings w.setup w.sizes w.past) now found (phase_in w) (in_time w.setup w.sizes (readings w.setup w.sizes w.past) now (c.Broke InFull) found e) in
      let heavy = spilled_weighs w leads.0 in
      to_down (c.Broke InFull) found e leads.1 (omega (arith, heavy))

  some_down : phase_in w ≡ Down → 0 < rounds_in w
  some_down e = subst (λ phase. 0 < phase_weight w.setup.reopen (breaks_of w.past) (ping_of w.past) phase) (sym e) (omega arith)

  gave_up_fewer : (found : Row) → row_in w now c.GaveUp ≡ Some found → Fewer w (entered w now c.GaveUp)
  gave_up_fewer found e =
      let leads = gave_up_leads w.setup w.sizes (readings w.setup w.sizes w.past) now found (phase_in w) (in_time w.setup w.sizes (readings w.setup w.sizes w.past) now c.GaveUp found e) in
      to_off c.GaveUp found e leads.1 (some_down leads.0)

  absent : (ping : Option ℕ) → is_absent ping ≡ true → ping_weight ping ≡ 1
  absent None e = refl
  absent (Some time) e = absurd (cc e)

  tick_lands : (found : Row) → found ≡ record { effects = f.Send p.PingReq ∷ []; phase = Up } → phase_in w ≡ Up → is_absent (while_connected (phase_in w) (ping_of w.past)) ≡ true
      → Tamed w (entered w now c.Tick) → Lands (entry now c.Tick found ∷ w.past) found.phase (entered w now c.Tick) → rounds_in (entered w now c.Tick) < rounds_in w
  tick_lands found is up none h (inl here) =
      let v = entered w now c.Tick in
      let one = absent (ping_of w.past) (subst (λ phase. is_absent (while_connected phase (ping_of w.past)) ≡ true) up none) in
      let sent : ping_weight (ping_of v.past) ≡ 0 = ap (λ past. ping_weight (ping_of past)) here.0 ∙ ap (λ row. ping_weight (ping_of (entry now c.Tick row ∷ w.past))) is in
      let heavy = up_weighs w up in
      let light = up_weighs v (here.1 ∙ ap (λ row. row.phase) is) in
      let reopen : v.setup.reopen ≡ w.setup.reopen = ap (λ setup. setup.reopen) h.setup in
      omega (arith, one, sent, heavy, light, reopen)
  tick_lands found is up none h (inr fault) =
      let v = entered w now c.Tick in
      let heavy = up_weighs w up in
      let light = down_weighs v (fault ∙ ap (λ row. fault_phase row.phase) is) in
      let reopen : v.setup.reopen ≡ w.setup.reopen = ap (λ setup. setup.reopen) h.setup in
      omega (arith, heavy, light, reopen)

  tick_fewer : (found : Row) → row_in w now c.Tick ≡ Some found → Fewer w (entered w now c.Tick)
  tick_fewer found e =
      let leads = tick_leads w.setup w.sizes (readings w.setup w.sizes w.past) now found (phase_in w) (in_time w.setup w.sizes (readings w.setup w.sizes w.past) now c.Tick found e) in
      lower c.Tick (tick_lands found leads.1.1 leads.0 leads.1.0 (follows c.Tick) (entered_lands now w c.Tick found e))

  due_fewer : (cause : Cause) → IsDue (λ x. is_some (row_in w now x)) cause → Fewer w (entered w now cause)
  due_fewer cause (inl h) = let there = found_by (row_in w now c.Finish) h.1 in subst (λ x. Fewer w (entered w now x)) (sym h.0) (finish_fewer there.0 there.1)
  due_fewer cause (inr (inl h)) =
      let there = found_by (row_in w now (c.Broke KeepAlive)) h.1 in subst (λ x. Fewer w (entered w now x)) (sym h.0) (keep_alive_fewer there.0 there.1)
  due_fewer cause (inr (inr (inl h))) = let there = found_by (row_in w now c.Tick) h.1 in subst (λ x. Fewer w (entered w now x)) (sym h.0) (tick_fewer there.0 there.1)
  due_fewer cause (inr (inr (inr (inl h)))) = let there = found_by (row_in w now c.GaveUp) h.1 in subst (λ x. Fewer w (entered w now x)) (sym h.0) (gave_up_fewer there.0 there.1)
  due_fewer cause (inr (inr (inr (inr h)))) =
      let there = found_by (row_in w now (c.Broke InFull)) h.1 in subst (λ x. Fewer w (entered w now x)) (sym h.0) (in_full_fewer there.0 there.1)

  pub dues_fewer : (cause : Cause) → due_by w.setup w.sizes (readings w.setup w.sizes w.past) now ≡ Some cause → Fewer w (entered w now cause)
  dues_fewer cause e =
      due_fewer cause
      (one_of (λ x. is_some (row_in w now x)) (is_some (row_in w now c.Finish)) (is_some (row_in w now (c.Broke KeepAlive))) (is_some (row_in w now c.Tick)) (is_some (row_in w now c.GaveUp))
      (is_some (row_in w now (c.Broke InFull))) cause refl refl refl refl refl e)
