-- Where the table's rows lead, as far as the end of a replay asks.
use Rattle.std.proofs.Common.{◌≡◌, ℕ, ◌+◌, ◌*◌, ◌≤◌, ◌<◌, ◌⊎◌, Bool, true, false, cond, List, [], ◌∷◌, Option, Some, None, is_some, refl, sym, ap, ◌∙◌, subst, arith, inl, inr}
use Rattle.std.specs.Prelude.{◌&&◌, ◌==◌, not, nat_lt, nat_le, nat_eq}
use Rattle.std.proofs.lemmas.Bool.{le-leb, lt-leb, cases_lt}
use Rattle.mqtt_packet.specs.declared.qos.Qos.{Qos}
use Rattle.mqtt_packet.specs.declared.qos.Qos.TheVariants.{AtMostOnce, AtLeastOnce, ExactlyOnce}
use Rattle.mqtt_packet.specs.declared.packet.Packet.{Packet}
use Rattle.mqtt_packet.specs.declared.packet.Packet.TheVariants as p
use Rattle.mqtt_packet.specs.Spelling.{is_sound}
use Rattle.agent_journal.specs.declared.request.Request.{Request}
use Rattle.agent_journal.specs.declared.request.Request.TheVariants as requests
use Rattle.agent_journal.specs.declared.entry.Cause.{Cause}
use Rattle.agent_journal.specs.declared.entry.Cause.TheVariants as c
use Rattle.agent_journal.specs.declared.entry.Why.{Why}
use Rattle.agent_journal.specs.declared.entry.Why.TheVariants as w
use Rattle.agent_journal.specs.declared.effect.Effect.TheVariants as f
use Rattle.agent_journal.specs.declared.setup.Setup.{Setup}
use Rattle.agent_journal.specs.declared.setup.Phase.{Phase}
use Rattle.agent_journal.specs.declared.setup.Phase.TheVariants.{Down, Opening, Up, Spilled, Off}
use Rattle.agent_journal.specs.Readings.{accepts, breaks_behind}
use Rattle.agent_table.specs.Breaks.{all_left, is_none, connect}
use Rattle.agent_table.specs.Arrivals.{arrived_row, arrived_in}
use Rattle.agent_table.specs.Breaks.{opened_row, broke_row, fault_row, end_row, idle_row, bytes_row, keep_alive_row, in_full_row, gave_up_row, tick_row, finish_row, down, is_past, is_absent}
use Rattle.agent_table.specs.Readings.{Readings, at_most}
use Rattle.agent_table.specs.Rows.{Row, to, when, ends}
use Rattle.agent_table.specs.Sizes.{Sizes}
use Rattle.agent_table.specs.Table.{row_of, cause_row}
use Rattle.agent_table.specs.Takes as takes

abbrev phase_or : Option Row → Phase
phase_or None = Down
phase_or (Some row) = row.phase

leads_to : (r : Option Row) (found : Row) → r ≡ Some found → found.phase ≡ phase_or r
leads_to r found e = ap phase_or (sym e)

when_some : (b : Bool) (row : Option Row) (found : Row) → when b row ≡ Some found → (b ≡ true) × (row ≡ Some found)
when_some true row found e = (refl, e)
when_some false row found e = absurd (cc e)

-- the row of a cause in time
pub in_time : (s : Setup) (l : Sizes) (r : Readings) (at : ℕ) (cause : Cause) (found : Row) → row_of s l r at cause ≡ Some found → cause_row s l r at cause ≡ Some found
unfolding row_of
in_time s l r at cause found e = (when_some (nat_le r.last_time at) (cause_row s l r at cause) found e).1

pub timely : (s : Setup) (l : Sizes) (r : Readings) (at : ℕ) (cause : Cause) → r.last_time ≤ at → row_of s l r at cause ≡ cause_row s l r at cause
unfolding row_of
timely s l r at cause h = rw (le-leb r.last_time at h) refl

-- a request is taken in Up and Off alone
abbrev pub TakenIn : Row → Phase → Type 0
TakenIn found Down = ⊥
TakenIn found Opening = ⊥
TakenIn found Up = (found.phase ≡ Up) ⊎ (found.phase ≡ Off)
TakenIn found Spilled = ⊥
TakenIn found Off = found.phase ≡ Off

-- where a fault leads
abbrev pub fault_phase : Phase → Phase
fault_phase Down = Down
fault_phase Opening = Down
fault_phase Up = Down
fault_phase Spilled = Down
fault_phase Off = Off

-- how many breaks there are at most in a phase
abbrev pub Within : Setup → ℕ → Phase → Type 0
Within s breaks Down = breaks ≤ s.reopen + 1
Within s breaks Opening = breaks ≤ s.reopen
Within s breaks Up = breaks ≤ s.reopen
Within s breaks Spilled = breaks ≤ s.reopen
Within s breaks Off = Unit {0}

pub small_reading : (reopen breaks reading : ℕ) → reading ≡ at_most (reopen + 2) breaks → breaks ≤ reopen → reading ≤ reopen
small_reading reopen breaks reading e few = omega (arith, few, e ∙ ap (λ b. cond b breaks (reopen + 2)) (le-leb breaks (reopen + 2) (omega (arith, few))))

pub fault_leads : (s : Setup) (r : Readings) (found : Row) (phase : Phase) → fault_row s r phase ≡ Some found → found.phase ≡ fault_phase phase
unfolding fault_row
fault_leads s r found Down h = leads_to (to Down []) found (when_some (nat_le r.breaks s.reopen) (to Down []) found h).1
fault_leads s r found Opening h = leads_to (down r) found h
fault_leads s r found Up h = leads_to (down r) found h
fault_leads s r found Spilled h = leads_to (down r) found h
fault_leads s r found Off h = leads_to (to Off []) found (when_some r.just_sent (to Off []) found h).1

-- ---- Rows of what is due, and where they lead

module _ (s : Setup) (l : Sizes) (r : Readings) (at : ℕ) (found : Row) where
  pub finish_leads : (phase : Phase) → finish_row s r phase ≡ Some found → (phase ≡ Up) × (found.phase ≡ Off)
  unfolding finish_row
  finish_leads Down e = absurd (cc e)
  finish_leads Opening e = absurd (cc e)
  finish_leads Up e = (refl, leads_to (to Off (f.Send p.Disconnect ∷ [])) found (when_some (all_left s.tasks r.left && is_none r.pending) (to Off (f.Send p.Disconnect ∷ [])) found e).1)
  finish_leads Spilled e = absurd (cc e)
  finish_leads Off e = absurd (cc e)

  pub keep_alive_leads : (phase : Phase) → keep_alive_row r at phase ≡ Some found → (phase ≡ Up) × (found.phase ≡ Down)
  unfolding keep_alive_row
  keep_alive_leads Down e = absurd (cc e)
  keep_alive_leads Opening e = absurd (cc e)
  keep_alive_leads Up e = (refl, leads_to (down r) found (when_some (is_past r.ping 5000 at) (down r) found e).1)
  keep_alive_leads Spilled e = absurd (cc e)
  keep_alive_leads Off e = absurd (cc e)

  pub in_full_leads : (phase : Phase) → in_full_row r phase ≡ Some found → (phase ≡ Spilled) × (found.phase ≡ Down)
  unfolding in_full_row
  in_full_leads Down e = absurd (cc e)
  in_full_leads Opening e = absurd (cc e)
  in_full_leads Up e = absurd (cc e)
  in_full_leads Spilled e = (refl, leads_to (down r) found e)
  in_full_leads Off e = absurd (cc e)

  pub gave_up_leads : (phase : Phase) → gave_up_row s r phase ≡ Some found → (phase ≡ Down) × (found.phase ≡ Off)
  unfolding gave_up_row
  gave_up_leads Down e = (refl, leads_to (ends s r) found (when_some (r.breaks == s.reopen + 1) (ends s r) found e).1)
  gave_up_leads Opening e = absurd (cc e)
  gave_up_leads Up e = absurd (cc e)
  gave_up_leads Spilled e = absurd (cc e)
  gave_up_leads Off e = absurd (cc e)

  tick_if : (a b d : Bool) → when (a && b && d) (to Up (f.Send p.PingReq ∷ [])) ≡ Some found → (b ≡ true) × (found ≡ record { effects = f.Send p.PingReq ∷ []; phase = Up })
  tick_if true true true e = (refl, unsome e)
    where
      unsome : {x y : Row} → Some x ≡ Some y → y ≡ x
      unsome e = cc e
  tick_if true true false e = absurd (cc e)
  tick_if true false d e = absurd (cc e)
  tick_if false b d e = absurd (cc e)

  pub tick_leads : (phase : Phase) → tick_row s r at phase ≡ Some found → (phase ≡ Up) × ((is_absent r.ping ≡ true) × (found ≡ record { effects = f.Send p.PingReq ∷ []; phase = Up }))
  unfolding tick_row
  tick_leads Down e = absurd (cc e)
  tick_leads Opening e = absurd (cc e)
  tick_leads Up e = (refl, tick_if (nat_lt 0 s.keep_alive) (is_absent r.ping) (is_past r.last_sent (500 * s.keep_alive) at) e)
  tick_leads Spilled e = absurd (cc e)
  tick_leads Off e = absurd (cc e)

  -- ---- Rows of what is taken

  publish_leads : (task seq : ℕ) (qos : Qos) (topic payload : List ℕ) → takes.publish_row l r task seq qos topic payload ≡ Some found → found.phase ≡ Up
  unfolding takes.publish_row
  publish_leads task seq AtMostOnce topic payload e = leads_to _ found e
  publish_leads task seq AtLeastOnce topic payload e = leads_to _ found e
  publish_leads task seq ExactlyOnce topic payload e = leads_to _ found e

  up_leads : (task seq : ℕ) (request : Request) → takes.up_row s l r task seq request ≡ Some found → (found.phase ≡ Up) ⊎ (found.phase ≡ Off)
  unfolding takes.subscribe_row takes.unsubscribe_row takes.disconnect_row
  up_leads task seq (requests.Publish qos topic payload) e = inl (publish_leads task seq qos topic payload e)
  up_leads task seq (requests.Subscribe asks) e = inl (leads_to _ found e)
  up_leads task seq (requests.Unsubscribe filters) e = inl (leads_to _ found e)
  up_leads task seq requests.Ping e = inl (leads_to _ found e)
  up_leads task seq requests.Disconnect e = inr (leads_to _ found e)
  up_leads task seq requests.Terminate e = inr (leads_to _ found e)
  up_leads task seq requests.Leave e = inl (leads_to _ found e)

  off_leads : (task seq : ℕ) (request : Request) → takes.off_row r task seq request ≡ Some found → found.phase ≡ Off
  off_leads task seq (requests.Publish qos topic payload) e = leads_to _ found e
  off_leads task seq (requests.Subscribe asks) e = leads_to _ found e
  off_leads task seq (requests.Unsubscribe filters) e = leads_to _ found e
  off_leads task seq requests.Ping e = leads_to _ found e
  off_leads task seq requests.Disconnect e = leads_to _ found e
  off_leads task seq requests.Terminate e = leads_to _ found e
  off_leads task seq requests.Leave e = leads_to _ found e

  taken_in : (task seq : ℕ) (request : Request) (phase : Phase) → takes.take_in s l r task seq request phase ≡ Some found → TakenIn found phase
  taken_in task seq request Down e = absurd (cc e)
  taken_in task seq request Opening e = absurd (cc e)
  taken_in task seq request Up e = up_leads task seq request e
  taken_in task seq request Spilled e = absurd (cc e)
  taken_in task seq request Off e = off_leads task seq request e

  pub take_leads : (task seq : ℕ) (request : Request) → takes.take_row s l r task seq request ≡ Some found → TakenIn found r.phase
  unfolding takes.take_row
  take_leads task seq request e =
      taken_in task seq request r.phase (when_some (takes.may_take s r task seq request) (takes.take_in s l r task seq request r.phase) found e).1

  -- ---- Breaks fit the phase

  few : (breaks : ℕ) (phase : Phase) → breaks ≤ s.reopen → Within s breaks phase
  few breaks Down h = omega (arith, h)
  few breaks Opening h = h
  few breaks Up h = h
  few breaks Spilled h = h
  few breaks Off h = tt

  at_phase : (breaks : ℕ) (phase : Phase) → found.phase ≡ phase → Within s breaks phase → Within s breaks found.phase
  at_phase breaks phase e h = subst (λ p. Within s breaks p) (sym e) h

  read_few : (breaks : ℕ) → r.breaks ≡ at_most (s.reopen + 2) breaks → nat_le r.breaks s.reopen ≡ true → breaks ≤ s.reopen
  read_few breaks e h = elim (cases_lt s.reopen breaks) [ inl more ↦ absurd (many more) | inr less ↦ less ]
    where
      by : (b : Bool) (breaks : ℕ) → s.reopen < breaks → r.breaks ≡ cond b breaks (s.reopen + 2) → ⊥
      by true breaks more e = cc (sym h ∙ lt-leb r.breaks s.reopen (omega (arith, more, e)))
      by false breaks more e = cc (sym h ∙ lt-leb r.breaks s.reopen (omega (arith, e)))

      many : s.reopen < breaks → ⊥
      many more = by (nat_le breaks (s.reopen + 2)) breaks more e

  pub opened_fits : (breaks : ℕ) (phase : Phase) → r.breaks ≡ at_most (s.reopen + 2) breaks → opened_row s r phase ≡ Some found → Within s breaks found.phase
  unfolding opened_row
  opened_fits breaks Down e h = few breaks found.phase (read_few breaks e (when_some (nat_le r.breaks s.reopen) (to Opening (f.Send (connect s r.wiping) ∷ [])) found h).0)
  opened_fits breaks Opening e h = absurd (cc h)
  opened_fits breaks Up e h = absurd (cc h)
  opened_fits breaks Spilled e h = absurd (cc h)
  opened_fits breaks Off e h = absurd (cc h)

  lands_down : (breaks : ℕ) → found.phase ≡ Down → breaks ≤ s.reopen → Within s (breaks + 1) found.phase
  lands_down breaks e h = at_phase (breaks + 1) Down e (omega (arith, h))

  lands_off : (breaks : ℕ) → found.phase ≡ Off → Within s breaks found.phase
  lands_off breaks e = at_phase breaks Off e tt

  fault_fits : (breaks : ℕ) (phase : Phase) → r.breaks ≡ at_most (s.reopen + 2) breaks → Within s breaks phase → fault_row s r phase ≡ Some found → Within s (breaks + 1) found.phase
  unfolding fault_row
  fault_fits breaks Down e fits h =
      let there = when_some (nat_le r.breaks s.reopen) (to Down []) found h in lands_down breaks (leads_to (to Down []) found there.1) (read_few breaks e there.0)
  fault_fits breaks Opening e fits h = lands_down breaks (leads_to (down r) found h) fits
  fault_fits breaks Up e fits h = lands_down breaks (leads_to (down r) found h) fits
  fault_fits breaks Spilled e fits h = lands_down breaks (leads_to (down r) found h) fits
  fault_fits breaks Off e fits h = lands_off (breaks + 1) (leads_to (to Off []) found (when_some r.just_sent (to Off []) found h).1)

  end_fits : (breaks : ℕ) (phase : Phase) → Within s breaks phase → end_row r phase ≡ Some found → Within s (breaks + 1) found.phase
  unfolding end_row
  end_fits breaks Down fits h = absurd (cc h)
  end_fits breaks Opening fits h = lands_down breaks (leads_to (down r) found h) fits
  end_fits breaks Up fits h = lands_down breaks (leads_to (down r) found h) fits
  end_fits breaks Spilled fits h = absurd (cc h)
  end_fits breaks Off fits h = absurd (cc h)

  idle_fits : (breaks : ℕ) (phase : Phase) → Within s breaks phase → idle_row r phase ≡ Some found → Within s (breaks + 1) found.phase
  unfolding idle_row
  idle_fits breaks Down fits h = absurd (cc h)
  idle_fits breaks Opening fits h = lands_down breaks (leads_to (down r) found h) fits
  idle_fits breaks Up fits h = lands_down breaks (leads_to (down r) found (when_some (not (is_none r.pending)) (down r) found h).1) fits
  idle_fits breaks Spilled fits h = absurd (cc h)
  idle_fits breaks Off fits h = absurd (cc h)

  bytes_fits : (breaks : ℕ) (phase : Phase) → bytes_row s r phase ≡ Some found → Within s breaks found.phase
  unfolding bytes_row
  bytes_fits breaks Down h = absurd (cc h)
  bytes_fits breaks Opening h = lands_off breaks (leads_to (ends s r) found h)
  bytes_fits breaks Up h = lands_off breaks (leads_to (ends s r) found h)
  bytes_fits breaks Spilled h = absurd (cc h)
  bytes_fits breaks Off h = absurd (cc h)

  broke_fits : (breaks : ℕ) (why : Why) → r.breaks ≡ at_most (s.reopen + 2) breaks → Within s breaks r.phase → broke_row s r at why ≡ Some found → Within s (breaks + 1) found.phase
  broke_fits breaks w.Fault e fits h = fault_fits breaks r.phase e fits h
  broke_fits breaks w.End e fits h = end_fits breaks r.phase fits h
  broke_fits breaks w.Idle e fits h = idle_fits breaks r.phase fits h
  broke_fits breaks (w.Bad offset) e fits h = bytes_fits (breaks + 1) r.phase h
  broke_fits breaks (w.TooLong size) e fits h = bytes_fits (breaks + 1) r.phase h
  broke_fits breaks w.KeepAlive e fits h = let leads = keep_alive_leads r.phase h in lands_down breaks leads.1 (subst (Within s breaks) leads.0 fits)
  broke_fits breaks w.InFull e fits h = let leads = in_full_leads r.phase h in lands_down breaks leads.1 (subst (Within s breaks) leads.0 fits)

  fewer : (packet : Packet) (breaks : ℕ) → breaks ≤ s.reopen → breaks_behind (c.Arrived packet) breaks ≤ s.reopen
  fewer packet breaks h = by (accepts (c.Arrived packet)) h
    where
      by : (b : Bool) → breaks ≤ s.reopen → cond b 0 breaks ≤ s.reopen
      by true h = omega arith
      by false h = h

  arrived_fits : (breaks : ℕ) (packet : Packet) (phase : Phase) → Within s breaks phase → arrived_in s l r packet phase ≡ Some found → Within s (breaks_behind (c.Arrived packet) breaks) found.phase
  arrived_fits breaks packet Down fits h = absurd (cc h)
  arrived_fits breaks packet Opening fits h = few (breaks_behind (c.Arrived packet) breaks) found.phase (fewer packet breaks fits)
  arrived_fits breaks packet Up fits h = few (breaks_behind (c.Arrived packet) breaks) found.phase (fewer packet breaks fits)
  arrived_fits breaks packet Spilled fits h = absurd (cc h)
  arrived_fits breaks packet Off fits h = absurd (cc h)

  packet_fits : (breaks : ℕ) (packet : Packet) → Within s breaks r.phase → arrived_row s l r packet ≡ Some found → Within s (breaks_behind (c.Arrived packet) breaks) found.phase
  unfolding arrived_row
  packet_fits breaks packet fits h = arrived_fits breaks packet r.phase fits (when_some (is_sound packet) (arrived_in s l r packet r.phase) found h).1

  take_fits : (breaks : ℕ) (phase : Phase) → Within s breaks phase → TakenIn found phase → Within s breaks found.phase
  take_fits breaks Down fits h = absurd h
  take_fits breaks Opening fits h = absurd h
  take_fits breaks Up fits h = few breaks found.phase fits
  take_fits breaks Spilled fits h = absurd h
  take_fits breaks Off fits h = lands_off breaks h

  pub row_fits : (breaks : ℕ) (cause : Cause) → r.breaks ≡ at_most (s.reopen + 2) breaks → Within s breaks r.phase → cause_row s l r at cause ≡ Some found → Within s (breaks_behind cause breaks) found.phase
  row_fits breaks c.Opened e fits h = opened_fits breaks r.phase e h
  row_fits breaks (c.Take task seq request) e fits h = take_fits breaks r.phase fits (take_leads task seq request h)
  row_fits breaks (c.Arrived packet) e fits h = packet_fits breaks packet fits h
  row_fits breaks (c.Broke why) e fits h = broke_fits breaks why e fits h
  row_fits breaks c.Tick e fits h = few breaks found.phase (subst (Within s breaks) (tick_leads r.phase h).0 fits)
  row_fits breaks c.GaveUp e fits h = lands_off breaks (gave_up_leads r.phase h).1
  row_fits breaks c.Finish e fits h = lands_off breaks (finish_leads r.phase h).1

-- ---- Rows that there are

module _ (s : Setup) (l : Sizes) (r : Readings) (at : ℕ) (fits : r.last_time ≤ at) where
  pub fault_there : (breaks : ℕ) → r.phase ≡ Down → r.breaks ≡ at_most (s.reopen + 2) breaks → breaks ≤ s.reopen → row_of s l r at (c.Broke w.Fault) ≡ to Down []
  unfolding fault_row
  fault_there breaks down e few = timely s l r at (c.Broke w.Fault) fits ∙ ap (fault_row s r) down ∙ rw (le-leb r.breaks s.reopen (small_reading s.reopen breaks r.breaks e few)) refl

  pub end_opening : r.phase ≡ Opening → row_of s l r at (c.Broke w.End) ≡ down r
  unfolding end_row
  end_opening is = timely s l r at (c.Broke w.End) fits ∙ ap (end_row r) is

  pub end_up : r.phase ≡ Up → row_of s l r at (c.Broke w.End) ≡ down r
  unfolding end_row
  end_up is = timely s l r at (c.Broke w.End) fits ∙ ap (end_row r) is

  pub in_full_there : r.phase ≡ Spilled → row_of s l r at (c.Broke w.InFull) ≡ down r
  unfolding in_full_row
  in_full_there is = timely s l r at (c.Broke w.InFull) fits ∙ ap (in_full_row r) is

  pub finish_there : r.phase ≡ Up → all_left s.tasks r.left ≡ true → is_none r.pending ≡ true → is_some (row_of s l r at c.Finish) ≡ true
  unfolding finish_row
  finish_there is left none = ap is_some (timely s l r at c.Finish fits ∙ ap (finish_row s r) is) ∙ rw (left, none) refl

  pub gave_up_there : r.phase ≡ Down → nat_eq r.breaks (s.reopen + 1) ≡ true → is_some (row_of s l r at c.GaveUp) ≡ true
  unfolding gave_up_row
  gave_up_there is many = ap is_some (timely s l r at c.GaveUp fits ∙ ap (gave_up_row s r) is) ∙ rw many refl

  pub leave_up : (seq : ℕ) → r.phase ≡ Up → takes.may_take s r 0 seq requests.Leave ≡ true → row_of s l r at (c.Take 0 seq requests.Leave) ≡ to Up []
  unfolding takes.take_row
  leave_up seq is may = timely s l r at (c.Take 0 seq requests.Leave) fits ∙ rw may (ap (takes.take_in s l r 0 seq requests.Leave) is)

  pub leave_off : (seq : ℕ) → r.phase ≡ Off → takes.may_take s r 0 seq requests.Leave ≡ true → row_of s l r at (c.Take 0 seq requests.Leave) ≡ to Off []
  unfolding takes.take_row
  leave_off seq is may = timely s l r at (c.Take 0 seq requests.Leave) fits ∙ rw may (ap (takes.take_in s l r 0 seq requests.Leave) is)
