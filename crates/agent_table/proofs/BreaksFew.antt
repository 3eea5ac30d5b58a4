-- Connections break at most once more than they may be opened again.
use Rattle.std.proofs.Common.{◌≡◌, ℕ, zero, suc, ◌+◌, ◌≤◌, Bool, true, false, cond, List, [], ◌∷◌, ◌++◌, map, Option, Some, None, refl, sym, ap, ◌∙◌, subst, arith}
use Rattle.std.specs.Prelude.{◌&&◌, ◌==◌, not, nat_lt, nat_le}
use Rattle.std.specs.List.{flat_map}
use Rattle.std.proofs.lemmas.Bool.{leb-true}
use Rattle.std.proofs.lemmas.Grind.{flat_map-append}
use Rattle.mqtt_packet.specs.Spelling.{is_sound}
use Rattle.mqtt_packet.specs.declared.packet.Packet.{Packet}
use Rattle.mqtt_packet.specs.declared.packet.Packet.TheVariants as p
use Rattle.agent_journal.specs.declared.request.Request.{Request}
use Rattle.agent_journal.specs.declared.request.Request.TheVariants as requests
use Rattle.agent_journal.specs.declared.entry.Cause.{Cause}
use Rattle.agent_journal.specs.declared.entry.Cause.TheVariants as c
use Rattle.agent_journal.specs.declared.entry.Entry.{Entry}
use Rattle.agent_journal.specs.declared.entry.Why.{Why}
use Rattle.agent_journal.specs.declared.entry.Why.TheVariants as w
use Rattle.agent_journal.specs.declared.effect.Effect.{Effect}
use Rattle.agent_journal.specs.declared.effect.Effect.TheVariants as f
use Rattle.agent_journal.specs.declared.outcome.Outcome.TheVariants as o
use Rattle.agent_journal.specs.declared.setup.Setup.{Setup}
use Rattle.agent_journal.specs.declared.setup.Phase.{Phase}
use Rattle.agent_journal.specs.declared.setup.Phase.TheVariants.{Down, Opening, Up, Spilled, Off}
use Rattle.agent_journal.specs.Readings.{breaks_of, breaks_behind, is_accepting}
use Rattle.agent_journal.specs.Wires.{sends, packet_in}
use Rattle.agent_table.specs.Arrivals.{arrived_row, arrived_in, opening_row, up_row, connack_row}
use Rattle.agent_table.specs.Breaks.{opened_row, broke_row, fault_row, end_row, idle_row, bytes_row, keep_alive_row, in_full_row, gave_up_row, tick_row, finish_row, down, is_none, is_past}
use Rattle.agent_table.specs.Effects.{cancel_all, close, closed_below, lose_link}
use Rattle.agent_table.specs.Histories.{IsLegalPast, phase_of, phase_by, readings, row, effects_of}
use Rattle.agent_table.specs.Offs.{BreaksAreFew}
use Rattle.agent_table.specs.Readings.{Readings, at_most, sends_newest}
use Rattle.agent_table.specs.Rows.{Row, to, when, ends}
use Rattle.agent_table.specs.Sends.{has_send, is_some_packet}
use Rattle.agent_table.specs.Sizes.{Sizes}
use Rattle.agent_table.specs.Table.{row_of, cause_row}
use Rattle.agent_table.specs.Takes as takes
use Rattle.agent_table.proofs.Told.{sends_behind}

-- How often connections broke, in each phase. In Off it can break once more directly behind an entry that sends.
abbrev Bound : Setup → Phase → Bool → ℕ → Type 0
Bound s Down sent n = n ≤ s.reopen + 1
Bound s Opening sent n = n ≤ s.reopen
Bound s Up sent n = n ≡ 0
Bound s Spilled sent n = n ≡ 0
Bound s Off sent n = (n ≤ s.reopen + 1) × (sent ≡ true → n ≤ s.reopen)

abbrev BoundRow : Setup → ℕ → Option Row → Type 0
BoundRow s n None = Unit {0}
BoundRow s n (Some row) = Bound s row.phase (has_send row.effects) n

bound_when : (s : Setup) (n : ℕ) (b : Bool) (row : Option Row) → (b ≡ true → BoundRow s n row) → BoundRow s n (when b row)
bound_when s n true row h = h refl
bound_when s n false row h = tt

zero_bound : (s : Setup) (phase : Phase) (sent : Bool) (n : ℕ) → n ≡ 0 → Bound s phase sent n
zero_bound s Down sent n e = omega (arith, e)
zero_bound s Opening sent n e = omega (arith, e)
zero_bound s Up sent n e = e
zero_bound s Spilled sent n e = e
zero_bound s Off sent n e = (omega (arith, e), λ h. omega (arith, e))

zero_row : (s : Setup) (n : ℕ) (row : Option Row) → n ≡ 0 → BoundRow s n row
zero_row s n None e = tt
zero_row s n (Some row) e = zero_bound s row.phase (has_send row.effects) n e

few_breaks : (most n : ℕ) → nat_le (at_most (most + 2) n) most ≡ true → n ≤ most
few_breaks most n few = go (nat_le n (most + 2)) refl few
  where
    go : (b : Bool) → nat_le n (most + 2) ≡ b → nat_le (cond b n (most + 2)) most ≡ true → n ≤ most
    go true e h = leb-true n most h
    go false e h = let over = leb-true (most + 2) most h in let none : ⊥ = omega (arith, over) in absurd none

one_closed : (b : Bool) (n : ℕ) → sends (cond b [] (f.Closed n ∷ [])) ≡ []
one_closed true n = refl
one_closed false n = refl

closed_sends : (n : ℕ) (left : ℕ → Bool) → sends (closed_below n left) ≡ []
closed_sends zero left = refl
closed_sends (suc n) left =
    flat_map-append packet_in (closed_below n left) (cond (left n) [] (f.Closed n ∷ [])) ∙ ap (λ ps. ps ++ sends (cond (left n) [] (f.Closed n ∷ []))) (closed_sends n left) ∙ one_closed (left n) n

module _ (s : Setup) (l : Sizes) (r : Readings) (n : ℕ) (is : r.breaks ≡ at_most (s.reopen + 2) n) where
  ends_silent : has_send (cancel_all r ++ close s r) ≡ false
  ends_silent = ap is_some_packet (sends_behind o.Cancelled r.pending (close s r) ∙ closed_sends s.tasks r.left)

  ends_bound : (m : ℕ) → m ≤ s.reopen + 1 → BoundRow s m (ends s r)
  ends_bound m h = (h, λ sent. absurd (cc (sym sent ∙ ends_silent)))

  may_open : nat_le r.breaks s.reopen ≡ true → n ≤ s.reopen
  may_open e = few_breaks s.reopen n (ap (λ m. nat_le m s.reopen) (sym is) ∙ e)

  bound_opened : (phase : Phase) → BoundRow s n (opened_row s r phase)
  unfolding opened_row
  bound_opened Down = bound_when s n (nat_le r.breaks s.reopen) _ (λ e. may_open e)
  bound_opened Opening = tt
  bound_opened Up = tt
  bound_opened Spilled = tt
  bound_opened Off = tt

  bound_off : (task seq : ℕ) (request : Request) → n ≤ s.reopen + 1 → BoundRow s n (takes.off_row r task seq request)
  bound_off task seq (requests.Publish qos topic payload) h = (h, λ sent. absurd (cc sent))
  bound_off task seq (requests.Subscribe asks) h = (h, λ sent. absurd (cc sent))
  bound_off task seq (requests.Unsubscribe filters) h = (h, λ sent. absurd (cc sent))
  bound_off task seq requests.Ping h = (h, λ sent. absurd (cc sent))
  bound_off task seq requests.Disconnect h = (h, λ sent. absurd (cc sent))
  bound_off task seq requests.Terminate h = (h, λ sent. absurd (cc sent))
  bound_off task seq requests.Leave h = (h, λ sent. absurd (cc sent))

  bound_take : (task seq : ℕ) (request : Request) (phase : Phase) → Bound s phase r.just_sent n → BoundRow s n (takes.take_in s l r task seq request phase)
  bound_take task seq request Down h = tt
  bound_take task seq request Opening h = tt
  bound_take task seq request Up h = zero_row s n (takes.up_row s l r task seq request) h
  bound_take task seq request Spilled h = tt
  bound_take task seq request Off h = bound_off task seq request h.0

  -- a packet that doesn't accept ends an agent in Opening
  opening_ends : (packet : Packet) → is_accepting packet ≡ false → opening_row s r packet ≡ ends s r
  unfolding connack_row
  opening_ends (p.Connect clean keep_alive client will user password) nay = refl
  opening_ends (p.ConnAck present code) nay = rw nay refl
  opening_ends (p.Publish dup qos retain topic id payload) nay = refl
  opening_ends (p.PubAck id) nay = refl
  opening_ends (p.PubRec id) nay = refl
  opening_ends (p.PubRel id) nay = refl
  opening_ends (p.PubComp id) nay = refl
  opening_ends (p.Subscribe id asks) nay = refl
  opening_ends (p.SubAck id codes) nay = refl
  opening_ends (p.Unsubscribe id filters) nay = refl
  opening_ends (p.UnsubAck id) nay = refl
  opening_ends p.PingReq nay = refl
  opening_ends p.PingResp nay = refl
  opening_ends p.Disconnect nay = refl

  bound_arrived : (packet : Packet) (phase : Phase) → Bound s phase r.just_sent n → BoundRow s (cond (is_accepting packet) 0 n) (arrived_in s l r packet phase)
  bound_arrived packet Down h = tt
  bound_arrived packet Opening h = go (is_accepting packet) refl
    where
      go : (b : Bool) → is_accepting packet ≡ b → BoundRow s (cond b 0 n) (opening_row s r packet)
      go true e = zero_row s 0 (opening_row s r packet) refl
      go false e = subst (λ (x : Option Row). BoundRow s n x) (sym (opening_ends packet e)) (ends_bound n (omega (arith, h)))
  bound_arrived packet Up h = go (is_accepting packet)
    where
      go : (b : Bool) → BoundRow s (cond b 0 n) (up_row s l r packet)
      go true = zero_row s 0 (up_row s l r packet) refl
      go false = zero_row s n (up_row s l r packet) h
  bound_arrived packet Spilled h = tt
  bound_arrived packet Off h = tt

  bound_fault : (phase : Phase) → Bound s phase r.just_sent n → BoundRow s (n + 1) (fault_row s r phase)
  unfolding fault_row
  bound_fault Down h = bound_when s (n + 1) (nat_le r.breaks s.reopen) (to Down []) (λ e. let few = may_open e in omega (arith, few))
  bound_fault Opening h = omega (arith, h)
  bound_fault Up h = omega (arith, h)
  bound_fault Spilled h = omega (arith, h)
  bound_fault Off h = bound_when s (n + 1) r.just_sent (to Off []) (λ e. (let few = h.1 e in omega (arith, few), λ sent. absurd (cc sent)))

  bound_end : (phase : Phase) → Bound s phase r.just_sent n → BoundRow s (n + 1) (end_row r phase)
  unfolding end_row
  bound_end Down h = tt
  bound_end Opening h = omega (arith, h)
  bound_end Up h = omega (arith, h)
  bound_end Spilled h = tt
  bound_end Off h = tt

  bound_idle : (phase : Phase) → Bound s phase r.just_sent n → BoundRow s (n + 1) (idle_row r phase)
  unfolding idle_row
  bound_idle Down h = tt
  bound_idle Opening h = omega (arith, h)
  bound_idle Up h = bound_when s (n + 1) (not (is_none r.pending)) (down r) (λ e. omega (arith, h))
  bound_idle Spilled h = tt
  bound_idle Off h = tt

  bound_bytes : (phase : Phase) → Bound s phase r.just_sent n → BoundRow s (n + 1) (bytes_row s r phase)
  unfolding bytes_row
  bound_bytes Down h = tt
  bound_bytes Opening h = ends_bound (n + 1) (omega (arith, h))
  bound_bytes Up h = ends_bound (n + 1) (omega (arith, h))
  bound_bytes Spilled h = tt
  bound_bytes Off h = tt

  bound_keep_alive : (at : ℕ) (phase : Phase) → Bound s phase r.just_sent n → BoundRow s (n + 1) (keep_alive_row r at phase)
  unfolding keep_alive_row
  bound_keep_alive at Down h = tt
  bound_keep_alive at Opening h = tt
  bound_keep_alive at Up h = bound_when s (n + 1) (is_past r.ping 5000 at) (down r) (λ e. omega (arith, h))
  bound_keep_alive at Spilled h = tt
  bound_keep_alive at Off h = tt

  bound_in_full : (phase : Phase) → Bound s phase r.just_sent n → BoundRow s (n + 1) (in_full_row r phase)
  unfolding in_full_row
  bound_in_full Down h = tt
  bound_in_full Opening h = tt
  bound_in_full Up h = tt
  bound_in_full Spilled h = omega (arith, h)
  bound_in_full Off h = tt

  bound_broke : (at : ℕ) (why : Why) → Bound s r.phase r.just_sent n → BoundRow s (n + 1) (broke_row s r at why)
  bound_broke at w.Fault h = bound_fault r.phase h
  bound_broke at w.End h = bound_end r.phase h
  bound_broke at w.Idle h = bound_idle r.phase h
  bound_broke at (w.Bad offset) h = bound_bytes r.phase h
  bound_broke at (w.TooLong size) h = bound_bytes r.phase h
  bound_broke at w.KeepAlive h = bound_keep_alive at r.phase h
  bound_broke at w.InFull h = bound_in_full r.phase h

  bound_tick : (at : ℕ) (phase : Phase) → Bound s phase r.just_sent n → BoundRow s n (tick_row s r at phase)
  unfolding tick_row
  bound_tick at Down h = tt
  bound_tick at Opening h = tt
  bound_tick at Up h = zero_row s n (tick_row s r at Up) h
  bound_tick at Spilled h = tt
  bound_tick at Off h = tt

  bound_gave_up : (phase : Phase) → Bound s phase r.just_sent n → BoundRow s n (gave_up_row s r phase)
  unfolding gave_up_row
  bound_gave_up Down h = bound_when s n (r.breaks == s.reopen + 1) (ends s r) (λ e. ends_bound n h)
  bound_gave_up Opening h = tt
  bound_gave_up Up h = tt
  bound_gave_up Spilled h = tt
  bound_gave_up Off h = tt

  bound_finish : (phase : Phase) → Bound s phase r.just_sent n → BoundRow s n (finish_row s r phase)
  unfolding finish_row
  bound_finish Down h = tt
  bound_finish Opening h = tt
  bound_finish Up h = zero_row s n (finish_row s r Up) h
  bound_finish Spilled h = tt
  bound_finish Off h = tt

  bound_cause : (at : ℕ) (cause : Cause) → Bound s r.phase r.just_sent n → BoundRow s (breaks_behind cause n) (cause_row s l r at cause)
  unfolding takes.take_row arrived_row
  bound_cause at c.Opened h = bound_opened r.phase
  bound_cause at (c.Take task seq request) h = bound_when s n (takes.may_take s r task seq request) (takes.take_in s l r task seq request r.phase) (λ e. bound_take task seq request r.phase h)
  bound_cause at (c.Arrived packet) h = bound_when s (cond (is_accepting packet) 0 n) (is_sound packet) (arrived_in s l r packet r.phase) (λ e. bound_arrived packet r.phase h)
  bound_cause at (c.Broke why) h = bound_broke at why h
  bound_cause at c.Tick h = bound_tick at r.phase h
  bound_cause at c.GaveUp h = bound_gave_up r.phase h
  bound_cause at c.Finish h = bound_finish r.phase h

  bound_row : (at : ℕ) (cause : Cause) → Bound s r.phase r.just_sent n → BoundRow s (breaks_behind cause n) (row_of s l r at cause)
  unfolding row_of
  bound_row at cause h = bound_when s (breaks_behind cause n) (nat_le r.last_time at) (cause_row s l r at cause) (λ e. bound_cause at cause h)

bound_past : (s : Setup) (l : Sizes) (past : List Entry) → IsLegalPast s l past → Bound s (phase_of s l past) (sends_newest past) (breaks_of past)
bound_past s l [] legal = omega arith
bound_past s l (e ∷ past) legal =
    go (row s l past e.at e.cause) refl legal.0 (bound_row s l (readings s l past) (breaks_of past) refl e.at e.cause (bound_past s l past legal.1))
  where
    go : (found : Option Row) → row s l past e.at e.cause ≡ found → effects_of found ≡ Some e.effects → BoundRow s (breaks_of (e ∷ past)) (row s l past e.at e.cause) → Bound s (phase_of s l (e ∷ past)) (has_send e.effects) (breaks_of (e ∷ past))
    go None made has h = absurd (cc has)
    go (Some found) made has h =
        let same : found.effects ≡ e.effects = cc in
        subst (λ (phase : Phase). Bound s phase (has_send e.effects) (breaks_of (e ∷ past))) (sym (ap (λ (x : Option Row). phase_by x (phase_of s l past)) made))
        (subst (λ (es : List Effect). Bound s found.phase (has_send es) (breaks_of (e ∷ past))) same (subst (BoundRow s (breaks_of (e ∷ past))) made h))

of_bound : (s : Setup) (phase : Phase) (sent : Bool) (n : ℕ) → Bound s phase sent n → n ≤ s.reopen + 1
of_bound s Down sent n h = h
of_bound s Opening sent n h = omega (arith, h)
of_bound s Up sent n h = omega (arith, h)
of_bound s Spilled sent n h = omega (arith, h)
of_bound s Off sent n h = h.0

pub breaks_are_few : BreaksAreFew
breaks_are_few s l past legal = of_bound s (phase_of s l past) (sends_newest past) (breaks_of past) (bound_past s l past legal)
