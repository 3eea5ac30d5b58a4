-- From a phase without a connection only Opened leads to one with it.
use Rattle.std.proofs.Common.{◌≡◌, ◌⊎◌, ℕ, Bool, true, false, List, [], Option, Some, None, refl, sym, ◌∙◌, subst}
use Rattle.std.specs.Prelude.{nat_le}
use mathlib.Core.Logic.{inl, inr}
use Rattle.mqtt_packet.specs.Spelling.{is_sound}
use Rattle.mqtt_packet.specs.declared.packet.Packet.{Packet}
use Rattle.agent_journal.specs.declared.request.Request.{Request}
use Rattle.agent_journal.specs.declared.request.Request.TheVariants as requests
use Rattle.agent_journal.specs.declared.entry.Cause.{Cause}
use Rattle.agent_journal.specs.declared.entry.Cause.TheVariants as c
use Rattle.agent_journal.specs.declared.entry.Entry.{Entry}
use Rattle.agent_journal.specs.declared.entry.Why.{Why}
use Rattle.agent_journal.specs.declared.entry.Why.TheVariants as w
use Rattle.agent_journal.specs.declared.setup.Setup.{Setup}
use Rattle.agent_journal.specs.declared.setup.Phase.{Phase}
use Rattle.agent_journal.specs.declared.setup.Phase.TheVariants.{Down, Opening, Up, Spilled, Off}
use Rattle.agent_table.specs.Arrivals.{arrived_row, arrived_in}
use Rattle.agent_table.specs.Breaks.{broke_row, fault_row, end_row, idle_row, bytes_row, keep_alive_row, in_full_row, gave_up_row, tick_row, finish_row, down}
use Rattle.agent_table.specs.Histories.{readings, row}
use Rattle.agent_table.specs.Offs.{is_connected, OnlyOpenedConnects}
use Rattle.agent_table.specs.Readings.{Readings}
use Rattle.agent_table.specs.Rows.{Row, to, when, ends}
use Rattle.agent_table.specs.Sizes.{Sizes}
use Rattle.agent_table.specs.Table.{row_of, cause_row}
use Rattle.agent_table.specs.Takes as takes

-- there is no connection then
abbrev Rests : Option Row → Type 0
Rests None = Unit {0}
Rests (Some row) = is_connected row.phase ≡ false

rests_when : (b : Bool) (row : Option Row) → Rests row → Rests (when b row)
rests_when true row h = h
rests_when false row h = tt

module _ (s : Setup) (l : Sizes) (r : Readings) where
  rests_off : (task seq : ℕ) (request : Request) → Rests (takes.off_row r task seq request)
  rests_off task seq (requests.Publish qos topic payload) = refl
  rests_off task seq (requests.Subscribe asks) = refl
  rests_off task seq (requests.Unsubscribe filters) = refl
  rests_off task seq requests.Ping = refl
  rests_off task seq requests.Disconnect = refl
  rests_off task seq requests.Terminate = refl
  rests_off task seq requests.Leave = refl

  rests_take : (task seq : ℕ) (request : Request) (phase : Phase) → is_connected phase ≡ false → Rests (takes.take_in s l r task seq request phase)
  rests_take task seq request Down e = tt
  rests_take task seq request Opening e = absurd (cc e)
  rests_take task seq request Up e = absurd (cc e)
  rests_take task seq request Spilled e = tt
  rests_take task seq request Off e = rests_off task seq request

  rests_arrived : (packet : Packet) (phase : Phase) → is_connected phase ≡ false → Rests (arrived_in s l r packet phase)
  rests_arrived packet Down e = tt
  rests_arrived packet Opening e = absurd (cc e)
  rests_arrived packet Up e = absurd (cc e)
  rests_arrived packet Spilled e = tt
  rests_arrived packet Off e = tt

  rests_fault : (phase : Phase) → is_connected phase ≡ false → Rests (fault_row s r phase)
  unfolding fault_row
  rests_fault Down e = rests_when (nat_le r.breaks s.reopen) (to Down []) refl
  rests_fault Opening e = absurd (cc e)
  rests_fault Up e = absurd (cc e)
  rests_fault Spilled e = refl
  rests_fault Off e = rests_when r.just_sent (to Off []) refl

  rests_broke : (at : ℕ) (why : Why) (phase : Phase) → is_connected phase ≡ false → r.phase ≡ phase → Rests (broke_row s r at why)
  unfolding end_row idle_row bytes_row keep_alive_row in_full_row
  rests_broke at w.Fault phase e is = rests_fault r.phase (subst (λ (p : Phase). is_connected p ≡ false) (sym is) e)
  rests_broke at w.End Down e is = subst (λ (p : Phase). Rests (end_row r p)) (sym is) tt
  rests_broke at w.End Opening e is = absurd (cc e)
  rests_broke at w.End Up e is = absurd (cc e)
  rests_broke at w.End Spilled e is = subst (λ (p : Phase). Rests (end_row r p)) (sym is) tt
  rests_broke at w.End Off e is = subst (λ (p : Phase). Rests (end_row r p)) (sym is) tt
  rests_broke at w.Idle Down e is = subst (λ (p : Phase). Rests (idle_row r p)) (sym is) tt
  rests_broke at w.Idle Opening e is = absurd (cc e)
  rests_broke at w.Idle Up e is = absurd (cc e)
  rests_broke at w.Idle Spilled e is = subst (λ (p : Phase). Rests (idle_row r p)) (sym is) tt
  rests_broke at w.Idle Off e is = subst (λ (p : Phase). Rests (idle_row r p)) (sym is) tt
  rests_broke at (w.Bad offset) Down e is = subst (λ (p : Phase). Rests (bytes_row s r p)) (sym is) tt
  rests_broke at (w.Bad offset) Opening e is = absurd (cc e)
  rests_broke at (w.Bad offset) Up e is = absurd (cc e)
  rests_broke at (w.Bad offset) Spilled e is = subst (λ (p : Phase). Rests (bytes_row s r p)) (sym is) tt
  rests_broke at (w.Bad offset) Off e is = subst (λ (p : Phase). Rests (bytes_row s r p)) (sym is) tt
  rests_broke at (w.TooLong size) Down e is = subst (λ (p : Phase). Rests (bytes_row s r p)) (sym is) tt
  rests_broke at (w.TooLong size) Opening e is = absurd (cc e)
  rests_broke at (w.TooLong size) Up e is = absurd (cc e)
  rests_broke at (w.TooLong size) Spilled e is = subst (λ (p : Phase). Rests (bytes_row s r p)) (sym is) tt
  rests_broke at (w.TooLong size) Off e is = subst (λ (p : Phase). Rests (bytes_row s r p)) (sym is) tt
  rests_broke at w.KeepAlive Down e is = subst (λ (p : Phase). Rests (keep_alive_row r at p)) (sym is) tt
  rests_broke at w.KeepAlive Opening e is = absurd (cc e)
  rests_broke at w.KeepAlive Up e is = absurd (cc e)
  rests_broke at w.KeepAlive Spilled e is = subst (λ (p : Phase). Rests (keep_alive_row r at p)) (sym is) tt
  rests_broke at w.KeepAlive Off e is = subst (λ (p : Phase). Rests (keep_alive_row r at p)) (sym is) tt
  rests_broke at w.InFull Down e is = subst (λ (p : Phase). Rests (in_full_row r p)) (sym is) tt
  rests_broke at w.InFull Opening e is = absurd (cc e)
  rests_broke at w.InFull Up e is = absurd (cc e)
  rests_broke at w.InFull Spilled e is = subst (λ (p : Phase). Rests (in_full_row r p)) (sym is) refl
  rests_broke at w.InFull Off e is = subst (λ (p : Phase). Rests (in_full_row r p)) (sym is) tt

  rests_tick : (at : ℕ) (phase : Phase) → is_connected phase ≡ false → Rests (tick_row s r at phase)
  unfolding tick_row
  rests_tick at Down e = tt
  rests_tick at Opening e = absurd (cc e)
  rests_tick at Up e = absurd (cc e)
  rests_tick at Spilled e = tt
  rests_tick at Off e = tt

  rests_gave_up : (phase : Phase) → is_connected phase ≡ false → Rests (gave_up_row s r phase)
  unfolding gave_up_row
  rests_gave_up Down e = rests_when _ (ends s r) refl
  rests_gave_up Opening e = absurd (cc e)
  rests_gave_up Up e = absurd (cc e)
  rests_gave_up Spilled e = tt
  rests_gave_up Off e = tt

  rests_finish : (phase : Phase) → is_connected phase ≡ false → Rests (finish_row s r phase)
  unfolding finish_row
  rests_finish Down e = tt
  rests_finish Opening e = absurd (cc e)
  rests_finish Up e = absurd (cc e)
  rests_finish Spilled e = tt
  rests_finish Off e = tt

  -- the phase that a row leads to
  abbrev Leads : Cause → Option Row → Type 0
  Leads cause None = Unit {0}
  Leads cause (Some row) = is_connected row.phase ≡ true → (is_connected r.phase ≡ true) ⊎ (cause ≡ c.Opened)

  leads_rest : (cause : Cause) (row : Option Row) → (is_connected r.phase ≡ false → Rests row) → Leads cause row
  leads_rest cause None rests = tt
  leads_rest cause (Some row) rests = λ to. go (is_connected r.phase) refl to
    where
      go : (b : Bool) → is_connected r.phase ≡ b → is_connected row.phase ≡ true → (is_connected r.phase ≡ true) ⊎ (cause ≡ c.Opened)
      go true e to = inl e
      go false e to = absurd (cc (sym to ∙ rests e))

  leads_opened : (row : Option Row) → Leads c.Opened row
  leads_opened None = tt
  leads_opened (Some row) = λ to. inr refl

  leads_cause : (at : ℕ) (cause : Cause) → Leads cause (cause_row s l r at cause)
  unfolding takes.take_row arrived_row
  leads_cause at c.Opened = leads_opened (cause_row s l r at c.Opened)
  leads_cause at (c.Take task seq request) = leads_rest (c.Take task seq request) (cause_row s l r at (c.Take task seq request)) (λ e. rests_when (takes.may_take s r task seq request) (takes.take_in s l r task seq request r.phase) (rests_take task seq request r.phase e))
  leads_cause at (c.Arrived packet) = leads_rest (c.Arrived packet) (cause_row s l r at (c.Arrived packet)) (λ e. rests_when (is_sound packet) (arrived_in s l r packet r.phase) (rests_arrived packet r.phase e))
  leads_cause at (c.Broke why) = leads_rest (c.Broke why) (cause_row s l r at (c.Broke why)) (λ e. rests_broke at why r.phase e refl)
  leads_cause at c.Tick = leads_rest c.Tick (cause_row s l r at c.Tick) (λ e. rests_tick at r.phase e)
  leads_cause at c.GaveUp = leads_rest c.GaveUp (cause_row s l r at c.GaveUp) (λ e. rests_gave_up r.phase e)
  leads_cause at c.Finish = leads_rest c.Finish (cause_row s l r at c.Finish) (λ e. rests_finish r.phase e)

  leads_when : (cause : Cause) (b : Bool) (row : Option Row) → Leads cause row → Leads cause (when b row)
  leads_when cause true row h = h
  leads_when cause false row h = tt

  pub connects : (at : ℕ) (cause : Cause) → Leads cause (row_of s l r at cause)
  unfolding row_of
  connects at cause = leads_when cause (nat_le r.last_time at) (cause_row s l r at cause) (leads_cause at cause)

pub only_opened_connects : OnlyOpenedConnects
only_opened_connects s l past at cause found is = subst (Leads s l (readings s l past) cause) is (connects s l (readings s l past) at cause)
