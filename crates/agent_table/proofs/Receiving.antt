-- An open QoS 2 publish whose own PUBREC arrived is released.
use Rattle.std.proofs.Common.{◌≡◌, ◌⊎◌, ℕ, ◌<◌, ◌≤◌, true, List, [], ◌∷◌, ◌++◌, Option, Some, None, refl, sym, ap, ◌∙◌, subst, arith}
use Rattle.std.proofs.lemmas.Bool.{le-ltb, cases_lt}
use mathlib.Core.Logic.{inl, inr}
use Rattle.mqtt_packet.specs.declared.packet.Packet.TheVariants as p
use Rattle.agent_journal.specs.declared.request.Request.{Request}
use Rattle.agent_journal.specs.declared.entry.Cause.{Cause}
use Rattle.agent_journal.specs.declared.entry.Cause.TheVariants as c
use Rattle.agent_journal.specs.declared.entry.Entry.{Entry}
use Rattle.agent_journal.specs.declared.setup.Setup.{Setup}
use Rattle.agent_journal.specs.Projections.{commands_of}
use Rattle.agent_journal.specs.Readings.{Pending, pending_of, opens, opened_by, sent_filters, sent_id, stays_open}
use Rattle.agent_table.specs.Deliveries.{is_among, is_open_publish, is_exactly_once, publishes, released_behind, released_of}
use Rattle.agent_table.specs.Histories.{IsLegalPast, readings, row, effects_of}
use Rattle.agent_table.specs.Laws.{IsOneOf}
use Rattle.agent_table.specs.Meanings.{ReceivedAreReleased}
use Rattle.agent_table.specs.Sizes.{Sizes}
use Rattle.agent_table.proofs.Awaiting.{filter_among, with_new, behind_kept, counted, is_open}
use Rattle.agent_table.proofs.Commands.{below, all_commands}
use Rattle.agent_table.proofs.Earned as earned
use Rattle.agent_table.proofs.Once.{has_row, taken_next, each_is_open_or_done}
use Rattle.agent_table.proofs.Received.{either}

-- the past before these entries is legal, too
earlier_legal : (s : Setup) (l : Sizes) (later past : List Entry) → IsLegalPast s l (later ++ past) → IsLegalPast s l past
earlier_legal s l [] past legal = legal
earlier_legal s l (e ∷ later) past legal = earlier_legal s l later past legal.1

more_commands : (t : ℕ) (later past : List Entry) → commands_of t past ≤ commands_of t (later ++ past)
more_commands t [] past = omega arith
more_commands t (e ∷ later) past = let rest = more_commands t later past in omega (arith, rest)

-- an open command is one of those that were taken
numbered : (s : Setup) (l : Sizes) (past : List Entry) (command : Pending) → IsLegalPast s l past → IsOneOf command (pending_of past) → command.seq < commands_of command.task past
numbered s l past command legal one = elim (cases_lt command.seq (commands_of command.task past)) [
  | inl low ↦ low
  | inr high ↦
      let sum = each_is_open_or_done s l past legal command.task command.seq in
      let some = counted command 0 (pending_of past) one in
      let none : below command.seq (commands_of command.task past) ≡ 0 = rw (le-ltb command.seq (commands_of command.task past) high) refl in absurd (omega (arith, sum, some, none))
]

module _ (s : Setup) (l : Sizes) (command : Pending) (before : List Entry) where
  -- it isn't taken again
  by_id : (task seq : ℕ) (request : Request) (filters : List (List ℕ)) (id : Option ℕ) → IsOneOf command (opened_by task seq request filters id) → (command.task ≡ task) × (command.seq ≡ seq)
  by_id task seq request filters None one = absurd one
  by_id task seq request filters (Some id) (inl same) = (ap (λ (x : Pending). x.task) same, ap (λ (x : Pending). x.seq) same)
  by_id task seq request filters (Some id) (inr none) = absurd none

  not_again : (e : Entry) (past : List Entry) (cause : Cause) → e.cause ≡ cause → IsLegalPast s l (e ∷ past) → command.seq < commands_of command.task past → IsOneOf command (opens cause e.effects) → ⊥
  not_again e past c.Opened is legal low one = one
  not_again e past (c.Take task seq request) is legal low one =
      let its = by_id task seq request (sent_filters e.effects) (sent_id e.effects) one in
      let next = taken_next s l (readings s l past) e.at task seq request (has_row (row s l past e.at (c.Take task seq request)) e.effects (ap (λ (k : Cause). effects_of (row s l past e.at k)) (sym is) ∙ legal.0)) in
      let all : seq ≡ commands_of task past = next.0 ∙ all_commands task past next.1 in
      let same : commands_of command.task past ≡ commands_of task past = ap (λ (u : ℕ). commands_of u past) its.0 in
      let number : command.seq ≡ seq = its.1 in omega (arith, all, same, number, low)
  not_again e past (c.Arrived packet) is legal low one = one
  not_again e past (c.Broke why) is legal low one = one
  not_again e past c.Tick is legal low one = one
  not_again e past c.GaveUp is legal low one = one
  not_again e past c.Finish is legal low one = one

  old : (e : Entry) (past : List Entry) → IsLegalPast s l (e ∷ past) → command.seq < commands_of command.task past → IsOneOf command (pending_of (e ∷ past)) → IsOneOf command (pending_of past)
  old e past legal low one = by (either command (pending_of past) (opens e.cause e.effects) (earned.kept (stays_open e.effects) command (pending_of past ++ opens e.cause e.effects) one).0)
    where
      by : IsOneOf command (pending_of past) ⊎ IsOneOf command (opens e.cause e.effects) → IsOneOf command (pending_of past)
      by (inl was) = was
      by (inr new) = absurd (not_again e past e.cause refl legal low new)

  released_on : (e : Entry) (past : List Entry) → publishes is_exactly_once command.request ≡ true → is_among (released_behind (pending_of past) (released_of past) e.cause) command.id ≡ true → IsOneOf command (pending_of (e ∷ past))
      → is_among (released_of (e ∷ past)) command.id ≡ true
  released_on e past publish among one =
      filter_among (is_open_publish is_exactly_once (pending_of (e ∷ past))) (released_behind (pending_of past) (released_of past) e.cause) command.id among
      (is_open command command.id (pending_of (e ∷ past)) one (record { id = refl; publish = publish }))

  from : (later : List Entry) (e : Entry) → publishes is_exactly_once command.request ≡ true → IsLegalPast s l (later ++ e ∷ before) → e.cause ≡ c.Arrived (p.PubRec command.id) → IsOneOf command (pending_of before)
      → IsOneOf command (pending_of (later ++ e ∷ before)) → is_among (released_of (later ++ e ∷ before)) command.id ≡ true
  from [] e publish legal is was one =
      released_on e before publish
      (ap (λ (k : Cause). is_among (released_behind (pending_of before) (released_of before) k) command.id) is
      ∙ with_new (pending_of before) (released_of before) command.id (is_open command command.id (pending_of before) was (record { id = refl; publish = publish }))) one
  from (x ∷ later) e publish legal is was one =
      let past = later ++ e ∷ before in
      let first = numbered s l before command (earlier_legal s l (e ∷ []) before (earlier_legal s l later (e ∷ before) legal.1)) was in
      let step = more_commands command.task (e ∷ []) before in
      let more = more_commands command.task later (e ∷ before) in
      let low : command.seq < commands_of command.task past = omega (arith, first, step, more) in
      released_on x past publish (behind_kept (pending_of past) (released_of past) x.cause command.id (from later e publish legal.1 is was (old x past legal low one))) one

pub received_are_released : ReceivedAreReleased
received_are_released s l past legal command one publish (later, before, e, is, cause, was) =
    ap (λ (es : List Entry). is_among (released_of es) command.id) is
    ∙ from s l command before later e publish (subst (IsLegalPast s l) is legal) cause was (subst (λ (es : List Entry). IsOneOf command (pending_of es)) is one)
