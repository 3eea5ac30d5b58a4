-- An agent that has ended has nothing open.
use Rattle.std.proofs.Common.{◌≡◌, ◌⊎◌, ℕ, ◌+◌, ◌≤◌, Bool, true, false, cond, List, [], ◌∷◌, ◌++◌, Option, Some, None, refl, sym, ap, ◌∙◌, subst, arith}
use Rattle.std.specs.Prelude.{◌&&◌, ◌==◌, nat_le}
use Rattle.std.proofs.lemmas.Bool.{eqb-true, eq-eqb, lt-ltb, le-leb, leb-true}
use mathlib.Core.Logic.{inl, inr}
use Rattle.mqtt_packet.specs.declared.qos.Qos.{Qos}
use Rattle.mqtt_packet.specs.declared.qos.Qos.TheVariants.{AtMostOnce, AtLeastOnce, ExactlyOnce}
use Rattle.agent_journal.specs.declared.request.Request.{Request}
use Rattle.agent_journal.specs.declared.request.Request.TheVariants as requests
use Rattle.agent_journal.specs.declared.entry.Cause.{Cause}
use Rattle.agent_journal.specs.declared.entry.Cause.TheVariants as c
use Rattle.agent_journal.specs.declared.entry.Entry.{Entry}
use Rattle.agent_journal.specs.declared.setup.Setup.{Setup}
use Rattle.agent_journal.specs.declared.setup.Phase.{Phase}
use Rattle.agent_journal.specs.declared.setup.Phase.TheVariants.{Down, Opening, Up, Spilled, Off}
use Rattle.agent_journal.specs.Readings.{Pending, pending_of, opens, accepts, accepted_of}
use Rattle.agent_journal.specs.Projections.{commands_of}
use Rattle.agent_table.proofs.Commands.{below, answered_by}
use Rattle.agent_table.specs.Histories.{IsLegalPast, phase_of, phase_by, readings, row, effects_of}
use Rattle.agent_table.specs.Laws.{EndsWithNoneOpen, CommandsCompleteOnce, open_of}
use Rattle.agent_table.specs.Offs.{NoneIsOpenInOff}
use Rattle.agent_table.specs.Readings.{Readings}
use Rattle.agent_table.specs.Rows.{Row, when}
use Rattle.agent_table.specs.Sessions.{is_first}
use Rattle.agent_table.specs.Sizes.{Sizes}
use Rattle.agent_table.specs.Table.{row_of}
use Rattle.agent_table.specs.Takes as takes
use Rattle.agent_table.proofs.Counts.{opened, dones, count_append, count_more, stays, left}
use Rattle.agent_table.proofs.Ends.{Accepts, Completed, Leads, leads_row}
use Rattle.agent_table.proofs.Once.{opens_by, each_is_open_or_done, none_is_early}

-- a Take leaves the agent in Up or in Off
abbrev pub Lands : Option Row → Type 0
Lands None = Unit {0}
Lands (Some row) = (row.phase ≡ Up) ⊎ (row.phase ≡ Off)

lands_when : (b : Bool) (row : Option Row) → Lands row → Lands (when b row)
lands_when true row h = h
lands_when false row h = tt

lands_publish : (l : Sizes) (r : Readings) (task seq : ℕ) (qos : Qos) (topic payload : List ℕ) → Lands (takes.publish_row l r task seq qos topic payload)
unfolding takes.publish_row
lands_publish l r task seq AtMostOnce topic payload = inl refl
lands_publish l r task seq AtLeastOnce topic payload = inl refl
lands_publish l r task seq ExactlyOnce topic payload = inl refl

lands_up : (s : Setup) (l : Sizes) (r : Readings) (task seq : ℕ) (request : Request) → Lands (takes.up_row s l r task seq request)
unfolding takes.subscribe_row takes.unsubscribe_row takes.disconnect_row
lands_up s l r task seq (requests.Publish qos topic payload) = lands_publish l r task seq qos topic payload
lands_up s l r task seq (requests.Subscribe asks) = inl refl
lands_up s l r task seq (requests.Unsubscribe filters) = inl refl
lands_up s l r task seq requests.Ping = inl refl
lands_up s l r task seq requests.Disconnect = inr refl
lands_up s l r task seq requests.Terminate = inr refl
lands_up s l r task seq requests.Leave = inl refl

lands_off : (r : Readings) (task seq : ℕ) (request : Request) → Lands (takes.off_row r task seq request)
lands_off r task seq (requests.Publish qos topic payload) = inr refl
lands_off r task seq (requests.Subscribe asks) = inr refl
lands_off r task seq (requests.Unsubscribe filters) = inr refl
lands_off r task seq requests.Ping = inr refl
lands_off r task seq requests.Disconnect = inr refl
lands_off r task seq requests.Terminate = inr refl
lands_off r task seq requests.Leave = inr refl

lands_in : (s : Setup) (l : Sizes) (r : Readings) (task seq : ℕ) (request : Request) (phase : Phase) → Lands (takes.take_in s l r task seq request phase)
lands_in s l r task seq request Down = tt
lands_in s l r task seq request Opening = tt
lands_in s l r task seq request Up = lands_up s l r task seq request
lands_in s l r task seq request Spilled = tt
lands_in s l r task seq request Off = lands_off r task seq request

pub lands : (s : Setup) (l : Sizes) (r : Readings) (at task seq : ℕ) (request : Request) → Lands (row_of s l r at (c.Take task seq request))
unfolding row_of takes.take_row
lands s l r at task seq request =
    let inner = takes.take_in s l r task seq request r.phase in
    lands_when (nat_le r.last_time at) (when (takes.may_take s r task seq request) inner) (lands_when (takes.may_take s r task seq request) inner (lands_in s l r task seq request r.phase))

-- what is left open, where d are completed and o opened
none_left : (d p o : ℕ) (none : Bool) → (d == 0) ≡ none → (none ≡ true → p + o ≡ 0) → cond none (p + o) 0 ≡ 0
none_left d p o true is h = h refl
none_left d p o false is h = refl

-- once there was a session there will always have been one
first_before : (s : Setup) (accepting : Bool) (n : ℕ) → is_first s (cond accepting (n + 1) n) ≡ true → is_first s n ≡ true
first_before s true n e = let more = leb-true (n + 1) (cond s.wipe 1 0) e in le-leb n (cond s.wipe 1 0) (omega (arith, more))
first_before s false n e = e

not_again : (wipe : Bool) (n : ℕ) → (wipe && n == 0) ≡ false → nat_le (n + 1) (cond wipe 1 0) ≡ true → ⊥
not_again true n keeps e = let more = leb-true (n + 1) 1 e in absurd (cc (keeps, eq-eqb n 0 (omega (arith, more))))
not_again false n keeps e = let more = leb-true (n + 1) 0 e in omega (arith, more)

record Sane (t q : ℕ) (s : Setup) (l : Sizes) (past : List Entry) : Type 0 where
  pub off : phase_of s l past ≡ Off → open_of t q past ≡ 0
  pub first : is_first s (accepted_of past) ≡ true → open_of t q past ≡ 0
  pub not_up : is_first s (accepted_of past) ≡ true → phase_of s l past ≡ Up → ⊥

module _ (t q : ℕ) (s : Setup) (l : Sizes) (e : Entry) (past : List Entry) (sane : Sane t q s l past) where
  abbrev r : Readings
  r = readings s l past

  -- the row of the entry
  abbrev Made : Row → Type 0
  Made found = row s l past e.at e.cause ≡ Some found

  leads : (found : Row) → Made found → Leads t q s r e.cause (Some found)
  leads found is = subst (Leads t q s r e.cause) is (leads_row t q s r (record { off = sane.off; first = sane.first }) l e.at e.cause)

  phase_is : (found : Row) → Made found → phase_of s l (e ∷ past) ≡ found.phase
  phase_is found is = ap (λ (x : Option Row). phase_by x (phase_of s l past)) is

  open_is : open_of t q (e ∷ past) ≡ left (dones t q e.effects) (opened t q (pending_of past) + opened t q (opens e.cause e.effects))
  open_is = stays t q e.effects (pending_of past ++ opens e.cause e.effects) ∙ ap (left (dones t q e.effects)) (count_append _ (pending_of past) (opens e.cause e.effects))

  -- nothing is left where all that is open and what is taken is completed
  none_open : (found : Row) → Made found → found.effects ≡ e.effects → opened t q (pending_of past) + answered_by t q e.cause ≤ dones t q e.effects → open_of t q (e ∷ past) ≡ 0
  none_open found is effects h =
      let d = dones t q e.effects in
      open_is ∙ none_left d (opened t q (pending_of past)) (opened t q (opens e.cause e.effects)) (d == 0) refl
      (λ zero_is. let none : d ≡ 0 = eqb-true d 0 zero_is in let own = opens_by s l r t q e.at e.cause e.effects (ap effects_of is ∙ ap Some effects) none in omega (arith, none, own, h))

  off_on : (found : Row) → Made found → found.effects ≡ e.effects → phase_of s l (e ∷ past) ≡ Off → open_of t q (e ∷ past) ≡ 0
  off_on found is effects off =
      none_open found is effects (subst (λ es. Completed t q r (answered_by t q e.cause) es) effects ((leads found is).0 (sym (phase_is found is) ∙ off)))

  by_way : (r.phase ≡ Up) ⊎ Accepts s r e.cause → is_first s (accepted_of (e ∷ past)) ≡ true → ⊥
  by_way (inl up) first = sane.not_up (first_before s (accepts e.cause) (accepted_of past) first) up
  by_way (inr h) first = not_again s.wipe (accepted_of past) h.1 (subst (λ b. is_first s (cond b (accepted_of past + 1) (accepted_of past)) ≡ true) h.0 first)

  up_on : (found : Row) → Made found → is_first s (accepted_of (e ∷ past)) ≡ true → phase_of s l (e ∷ past) ≡ Up → ⊥
  up_on found is first up = by_way ((leads found is).1 (sym (phase_is found is) ∙ up)) first

  none_taken : (cause : Cause) → e.cause ≡ cause → answered_by t q cause ≡ 0 → opened t q (pending_of past) ≡ 0 → opened t q (pending_of past) + answered_by t q e.cause ≤ dones t q e.effects
  none_taken cause same zero_is none = let own : answered_by t q e.cause ≡ 0 = ap (answered_by t q) same ∙ zero_is in omega (arith, own, none)

  by_landing : (task seq : ℕ) (request : Request) → e.cause ≡ c.Take task seq request → (found : Row) → Made found → found.effects ≡ e.effects → is_first s (accepted_of (e ∷ past)) ≡ true → Lands (Some found) → open_of t q (e ∷ past) ≡ 0
  by_landing task seq request same found is effects first (inl up) = absurd (up_on found is first (phase_is found is ∙ up))
  by_landing task seq request same found is effects first (inr off) = off_on found is effects (phase_is found is ∙ off)

  by_cause : (cause : Cause) → e.cause ≡ cause → (found : Row) → Made found → found.effects ≡ e.effects → is_first s (accepted_of (e ∷ past)) ≡ true → opened t q (pending_of past) ≡ 0 → open_of t q (e ∷ past) ≡ 0
  by_cause c.Opened same found is effects first none = none_open found is effects (none_taken c.Opened same refl none)
  by_cause (c.Take task seq request) same found is effects first none = by_landing task seq request same found is effects first (subst (λ (x : Option Row). Lands x) (sym (ap (row s l past e.at) same) ∙ is) (lands s l r e.at task seq request))
  by_cause (c.Arrived packet) same found is effects first none = none_open found is effects (none_taken (c.Arrived packet) same refl none)
  by_cause (c.Broke why) same found is effects first none = none_open found is effects (none_taken (c.Broke why) same refl none)
  by_cause c.Tick same found is effects first none = none_open found is effects (none_taken c.Tick same refl none)
  by_cause c.GaveUp same found is effects first none = none_open found is effects (none_taken c.GaveUp same refl none)
  by_cause c.Finish same found is effects first none = none_open found is effects (none_taken c.Finish same refl none)

  -- before the first session nothing is taken but in Off
  first_on : (found : Row) → Made found → found.effects ≡ e.effects → is_first s (accepted_of (e ∷ past)) ≡ true → open_of t q (e ∷ past) ≡ 0
  first_on found is effects first =
      let none = sane.first (first_before s (accepts e.cause) (accepted_of past) first) in
      by_cause e.cause refl found is effects first none

  sane_on : (found : Option Row) → row s l past e.at e.cause ≡ found → effects_of found ≡ Some e.effects → Sane t q s l (e ∷ past)
  sane_on None is has = absurd (cc has)
  sane_on (Some found) is has =
      let effects : found.effects ≡ e.effects = cc in
      record { off = off_on found is effects; first = first_on found is effects; not_up = up_on found is }

sane : (t q : ℕ) (s : Setup) (l : Sizes) (past : List Entry) → IsLegalPast s l past → Sane t q s l past
sane t q s l [] legal = record { off = λ off. refl; first = λ first. refl; not_up = λ first up. absurd (cc up) }
sane t q s l (e ∷ past) legal = sane_on t q s l e past (sane t q s l past legal.1) (row s l past e.at e.cause) refl legal.0

-- commands of which none has any numbers are none
none_at_all : (commands : List Pending) → ((t q : ℕ) → opened t q commands ≡ 0) → commands ≡ []
none_at_all [] h = refl
none_at_all (command ∷ commands) h =
    let more = count_more (λ (x : Pending). x.task == command.task && x.seq == command.seq) command commands in
    let own : (command.task == command.task && command.seq == command.seq) ≡ true = rw (eq-eqb command.task command.task refl, eq-eqb command.seq command.seq refl) refl in
    let one = ap (λ b. cond {A = ℕ} b 1 0) own in
    let none : ⊥ = omega (arith, more, one, h command.task command.seq) in absurd none

pub none_is_open_in_off : NoneIsOpenInOff
none_is_open_in_off s l past legal off = none_at_all (pending_of past) (λ t q. (sane t q s l past legal).off off)

pub ends_with_none_open : EndsWithNoneOpen
ends_with_none_open s l past legal whole = none_is_open_in_off s l past legal whole.ended

pub commands_complete_once : CommandsCompleteOnce
commands_complete_once s l past legal whole = record {
  one = λ t seq taken.
      let sum = each_is_open_or_done s l past legal t seq in let none = (sane t seq s l past legal).off whole.ended in
      let one : below seq (commands_of t past) ≡ 1 = rw (lt-ltb seq (commands_of t past) taken) refl in omega (arith, sum, none, one);
  none_early = none_is_early s l past legal;
}
