-- Rows of the connection: where there is one, it is that one.
use Rattle.std.proofs.Common.{◌≡◌, ℕ, ◌+◌, ◌*◌, Bool, true, false, [], ◌∷◌, Option, Some, is_some, refl, ◌∙◌}
use Rattle.std.specs.Prelude.{◌&&◌, ◌==◌, not, nat_lt, nat_le}
use Rattle.mqtt_packet.specs.declared.packet.Packet.TheVariants as p
use Rattle.agent_table.specs.Breaks.{connect, all_left, is_none}
use Rattle.agent_journal.specs.declared.effect.Effect.TheVariants as f
use Rattle.agent_journal.specs.declared.setup.Setup.{Setup}
use Rattle.agent_journal.specs.declared.setup.Phase.{Phase}
use Rattle.agent_journal.specs.declared.setup.Phase.TheVariants.{Down, Opening, Up, Spilled, Off}
use Rattle.agent_table.specs.Breaks.{opened_row, end_row, idle_row, bytes_row, keep_alive_row, in_full_row, gave_up_row, tick_row, finish_row, down, is_past, is_absent}
use Rattle.agent_table.specs.Readings.{Readings}
use Rattle.agent_table.specs.Rows.{Row, to, when, ends}

-- a condition that holds, and the row under it
pub is_when : (b : Bool) (row : Option Row) → is_some (when b row) ≡ true → when b row ≡ row
is_when true row some = refl
is_when false row some = absurd (cc some)

pub some_when : (b : Bool) (row : Option Row) → is_some (when b row) ≡ true → (b ≡ true) × (is_some row ≡ true)
some_when true row some = (refl, some)
some_when false row some = absurd (cc some)

module _ (s : Setup) (r : Readings) (row : Row) where
  pub opened_is : (phase : Phase) → is_some (opened_row s r phase) ≡ true → to Opening (f.Send (connect s r.wiping) ∷ []) ≡ Some row → opened_row s r phase ≡ Some row
  unfolding opened_row
  opened_is Down some e = is_when (nat_le r.breaks s.reopen) _ some ∙ e
  opened_is Opening some e = absurd (cc some)
  opened_is Up some e = absurd (cc some)
  opened_is Spilled some e = absurd (cc some)
  opened_is Off some e = absurd (cc some)

  pub fault_down : is_some (when (nat_le r.breaks s.reopen) (to Down [])) ≡ true → to Down [] ≡ Some row → when (nat_le r.breaks s.reopen) (to Down []) ≡ Some row
  fault_down some e = is_when (nat_le r.breaks s.reopen) _ some ∙ e

  pub fault_off : is_some (when r.just_sent (to Off [])) ≡ true → to Off [] ≡ Some row → when r.just_sent (to Off []) ≡ Some row
  fault_off some e = is_when r.just_sent _ some ∙ e

  pub end_is : (phase : Phase) → is_some (end_row r phase) ≡ true → down r ≡ Some row → end_row r phase ≡ Some row
  unfolding end_row
  end_is Down some e = absurd (cc some)
  end_is Opening some e = e
  end_is Up some e = e
  end_is Spilled some e = absurd (cc some)
  end_is Off some e = absurd (cc some)

  pub idle_is : (phase : Phase) → is_some (idle_row r phase) ≡ true → down r ≡ Some row → idle_row r phase ≡ Some row
  unfolding idle_row
  idle_is Down some e = absurd (cc some)
  idle_is Opening some e = e
  idle_is Up some e = is_when (not (is_none r.pending)) _ some ∙ e
  idle_is Spilled some e = absurd (cc some)
  idle_is Off some e = absurd (cc some)

  pub bytes_is : (phase : Phase) → is_some (bytes_row s r phase) ≡ true → ends s r ≡ Some row → bytes_row s r phase ≡ Some row
  unfolding bytes_row
  bytes_is Down some e = absurd (cc some)
  bytes_is Opening some e = e
  bytes_is Up some e = e
  bytes_is Spilled some e = absurd (cc some)
  bytes_is Off some e = absurd (cc some)

  pub keep_alive_is : (at : ℕ) (phase : Phase) → is_some (keep_alive_row r at phase) ≡ true → down r ≡ Some row → keep_alive_row r at phase ≡ Some row
  unfolding keep_alive_row
  keep_alive_is at Down some e = absurd (cc some)
  keep_alive_is at Opening some e = absurd (cc some)
  keep_alive_is at Up some e = is_when (is_past r.ping 5000 at) _ some ∙ e
  keep_alive_is at Spilled some e = absurd (cc some)
  keep_alive_is at Off some e = absurd (cc some)

  pub in_full_is : (phase : Phase) → is_some (in_full_row r phase) ≡ true → down r ≡ Some row → in_full_row r phase ≡ Some row
  unfolding in_full_row
  in_full_is Down some e = absurd (cc some)
  in_full_is Opening some e = absurd (cc some)
  in_full_is Up some e = absurd (cc some)
  in_full_is Spilled some e = e
  in_full_is Off some e = absurd (cc some)

  pub gave_up_is : (phase : Phase) → is_some (gave_up_row s r phase) ≡ true → ends s r ≡ Some row → gave_up_row s r phase ≡ Some row
  unfolding gave_up_row
  gave_up_is Down some e = is_when (r.breaks == s.reopen + 1) _ some ∙ e
  gave_up_is Opening some e = absurd (cc some)
  gave_up_is Up some e = absurd (cc some)
  gave_up_is Spilled some e = absurd (cc some)
  gave_up_is Off some e = absurd (cc some)

  pub tick_is : (at : ℕ) (phase : Phase) → is_some (tick_row s r at phase) ≡ true → to Up (f.Send p.PingReq ∷ []) ≡ Some row → tick_row s r at phase ≡ Some row
  unfolding tick_row
  tick_is at Down some e = absurd (cc some)
  tick_is at Opening some e = absurd (cc some)
  tick_is at Up some e = is_when (nat_lt 0 s.keep_alive && is_absent r.ping && is_past r.last_sent (500 * s.keep_alive) at) _ some ∙ e
  tick_is at Spilled some e = absurd (cc some)
  tick_is at Off some e = absurd (cc some)

  pub finish_is : (phase : Phase) → is_some (finish_row s r phase) ≡ true → to Off (f.Send p.Disconnect ∷ []) ≡ Some row → finish_row s r phase ≡ Some row
  unfolding finish_row
  finish_is Down some e = absurd (cc some)
  finish_is Opening some e = absurd (cc some)
  finish_is Up some e = is_when (all_left s.tasks r.left && is_none r.pending) _ some ∙ e
  finish_is Spilled some e = absurd (cc some)
  finish_is Off some e = absurd (cc some)
