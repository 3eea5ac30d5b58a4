-- Who is closed when the agent has ended, and how it ended then; and how many codes a subscribe is granted.
use Rattle.std.proofs.Common.{◌≡◌, ◌⊎◌, ℕ, ◌≤◌, Bool, true, false, cond, List, [], ◌∷◌, ◌++◌, length, Option, Some, None, is_some, refl, sym, ap, ◌∙◌, subst, arith}
use Rattle.std.specs.Prelude.{◌&&◌, ◌||◌, ◌==◌, not, nat_lt, nat_le}
use Rattle.std.specs.List.{list_all, AllByRecursion}
use Rattle.std.proofs.lemmas.Bool.{and_parts, leb-true}
use Rattle.std.proofs.Math.Bool.{or-true}
use mathlib.Core.Logic.{inl, inr}
use Rattle.agent_journal.specs.declared.request.Request.{Request}
use Rattle.agent_journal.specs.declared.request.Request.TheVariants as requests
use Rattle.agent_journal.specs.declared.outcome.Outcome.{Outcome}
use Rattle.agent_journal.specs.declared.outcome.Outcome.TheVariants as o
use Rattle.agent_journal.specs.declared.entry.Cause.{Cause}
use Rattle.agent_journal.specs.declared.entry.Cause.TheVariants as c
use Rattle.agent_journal.specs.declared.entry.Entry.{Entry}
use Rattle.agent_journal.specs.declared.effect.Effect.{Effect}
use Rattle.agent_journal.specs.declared.effect.Effect.TheVariants as f
use Rattle.agent_journal.specs.declared.ending.Ending.{Ending}
use Rattle.agent_journal.specs.declared.ending.Ending.TheVariants as ends_by
use Rattle.agent_journal.specs.declared.setup.Setup.{Setup}
use Rattle.agent_journal.specs.declared.setup.Phase.TheVariants.{Off}
use Rattle.agent_journal.specs.Endings.{is_off, ending_by}
use Rattle.agent_journal.specs.Readings.{Pending, pending_of, opens, opened_by, sent_filters, sent_id, stays_open, has_left, leaves_by}
use Rattle.agent_journal.specs.Requests.{is_valid, is_few, is_wanted}
use Rattle.agent_table.specs.Arrivals.{is_subscribe}
use Rattle.agent_table.specs.Closings.{closes, has_closed, asks_end, was_asked_to_end, OffHasClosed, ClosedIsOff, ClosedUnaskedIsAFault, HasFewCodesIn, HasFewCodes, GrantedAreFew}
use Rattle.agent_table.specs.Endings.{ending_of}
use Rattle.agent_table.specs.Histories.{IsLegalPast, readings, row, effects_of, phase_of, phase_by}
use Rattle.agent_table.specs.Laws.{IsOneOf, EarnsOutcome, Earns}
use Rattle.agent_table.specs.Readings.{Readings}
use Rattle.agent_table.specs.Routes.{asks_in}
use Rattle.agent_table.specs.Rows.{Row, when}
use Rattle.agent_table.specs.Sizes.{Sizes}
use Rattle.agent_table.specs.Table.{row_of}
use Rattle.agent_table.specs.Takes.{take_row, may_take}
use Rattle.agent_table.proofs.Closes.{AtEnd, Closing, closing_row}
use Rattle.agent_table.proofs.Earned.{outcomes_are_earned}
use Rattle.agent_table.proofs.Once.{has_row}
use Rattle.agent_table.proofs.SoundRows.{all_both, all_kept}
use Rattle.agent_table.proofs.Staying.{StaysOff, off_row}

neither : (a b : Bool) → (a || b) ≡ false → (a ≡ false) × (b ≡ false)
neither true b e = absurd (cc e)
neither false b e = (refl, e)

some_of : (a b : Bool) → (a || b) ≡ true → (a ≡ true) ⊎ (b ≡ true)
some_of true b e = inl refl
some_of false b e = inr e

-- what its row says of an entry
record Closes (t : ℕ) (s : Setup) (l : Sizes) (e : Entry) (past : List Entry) : Type 0 where
  found : Row
  phase : phase_of s l (e ∷ past) ≡ found.phase
  closing : ((closes t e.effects ≡ false) × ((found.phase ≡ Off → ⊥) ⊎ (phase_of s l past ≡ Off))) ⊎ ((found.phase ≡ Off) × AtEnd t s (readings s l past) e.cause e.effects)

closes_so : (t : ℕ) (s : Setup) (l : Sizes) (e : Entry) (past : List Entry) → IsLegalPast s l (e ∷ past) → Closes t s l e past
closes_so t s l e past legal = by (row s l past e.at e.cause) refl legal.0
  where
    by : (found : Option Row) → row s l past e.at e.cause ≡ found → effects_of found ≡ Some e.effects → Closes t s l e past
    by None made has = absurd (cc has)
    by (Some found) made has =
        let same : found.effects ≡ e.effects = cc in
        record {
          found = found;
          phase = ap (λ (x : Option Row). phase_by x (phase_of s l past)) made;
          closing = subst (λ (es : List Effect). ((closes t es ≡ false) × ((found.phase ≡ Off → ⊥) ⊎ (phase_of s l past ≡ Off))) ⊎ ((found.phase ≡ Off) × AtEnd t s (readings s l past) e.cause es)) same
              (subst (Closing t s (readings s l past) e.cause) made (closing_row t s l (readings s l past) e.at e.cause));
        }

off_on : (s : Setup) (l : Sizes) (e : Entry) (past : List Entry) → IsLegalPast s l (e ∷ past) → phase_of s l past ≡ Off → phase_of s l (e ∷ past) ≡ Off
off_on s l e past legal off = by (row s l past e.at e.cause) refl legal.0
  where
    by : (found : Option Row) → row s l past e.at e.cause ≡ found → effects_of found ≡ Some e.effects → phase_of s l (e ∷ past) ≡ Off
    by None made has = absurd (cc has)
    by (Some found) made has =
        let stays : StaysOff (Some found) = subst StaysOff made (off_row s l (readings s l past) e.at e.cause off) in ap (λ (x : Option Row). phase_by x (phase_of s l past)) made ∙ stays.0

pub closed_is_off : ClosedIsOff
closed_is_off s l [] t legal h = absurd (cc h)
closed_is_off s l (e ∷ past) t legal h = by so.closing (closed_is_off s l past t legal.1)
  where
    so : Closes t s l e past
    so = closes_so t s l e past legal

    by : ((closes t e.effects ≡ false) × ((so.found.phase ≡ Off → ⊥) ⊎ (phase_of s l past ≡ Off))) ⊎ ((so.found.phase ≡ Off) × AtEnd t s (readings s l past) e.cause e.effects)
        → (has_closed t past ≡ true → phase_of s l past ≡ Off) → phase_of s l (e ∷ past) ≡ Off
    by (inl (none, leads)) before = off_on s l e past legal (before (ap (λ b. b || has_closed t past) (sym none) ∙ h))
    by (inr (off, told)) before = so.phase ∙ off

pub off_has_closed : OffHasClosed
off_has_closed s l [] legal off t low stays = absurd (cc off)
off_has_closed s l (e ∷ past) legal off t low stays =
    let here = neither (leaves_by t e.cause) (has_left t past) stays in by so.closing here.1 (λ was. off_has_closed s l past legal.1 was t low here.1)
  where
    so : Closes t s l e past
    so = closes_so t s l e past legal

    by : ((closes t e.effects ≡ false) × ((so.found.phase ≡ Off → ⊥) ⊎ (phase_of s l past ≡ Off))) ⊎ ((so.found.phase ≡ Off) × AtEnd t s (readings s l past) e.cause e.effects)
        → has_left t past ≡ false → (phase_of s l past ≡ Off → has_closed t past ≡ true) → has_closed t (e ∷ past) ≡ true
    by (inl (none, inl never)) there before = absurd (never (sym so.phase ∙ off))
    by (inl (none, inr was)) there before = ap (λ b. closes t e.effects || b) (before was) ∙ or-true (closes t e.effects)
    by (inr (is, told)) there before = ap (λ b. b || has_closed t past) (told.told low there)

pub closed_unasked_is_a_fault : ClosedUnaskedIsAFault
closed_unasked_is_a_fault s l [] t legal h unasked ended = absurd (cc h)
closed_unasked_is_a_fault s l (e ∷ past) t legal h unasked ended =
    by (is_off (phase_of s l past)) (is_off (phase_of s l (e ∷ past))) refl refl (λ before. closed_unasked_is_a_fault s l past t legal.1 before) ended
  where
    so : Closes t s l e past
    so = closes_so t s l e past legal

    asked : (asks_end e.cause ≡ false) × (was_asked_to_end past ≡ false)
    asked = neither (asks_end e.cause) (was_asked_to_end past) unasked

    was_on : is_off (phase_of s l past) ≡ false → has_closed t past ≡ true → ⊥
    was_on on before = cc (ap is_off (closed_is_off s l past t legal.1 before), on)

    now : is_off (phase_of s l past) ≡ false → ending_by (phase_of s l past) e.cause ≡ ends_by.Done
        → ((closes t e.effects ≡ false) × ((so.found.phase ≡ Off → ⊥) ⊎ (phase_of s l past ≡ Off))) ⊎ ((so.found.phase ≡ Off) × AtEnd t s (readings s l past) e.cause e.effects)
        → (closes t e.effects ≡ true) ⊎ (has_closed t past ≡ true) → ⊥
    now on well closing (inr before) = was_on on before
    now on well (inl (none, leads)) (inl here) = cc (none, here)
    now on well (inr (is, told)) (inl here) = cc (told.well asked.0 well, here)

    still : is_off (phase_of s l past) ≡ true
        → ((closes t e.effects ≡ false) × ((so.found.phase ≡ Off → ⊥) ⊎ (phase_of s l past ≡ Off))) ⊎ ((so.found.phase ≡ Off) × AtEnd t s (readings s l past) e.cause e.effects)
        → (closes t e.effects ≡ true) ⊎ (has_closed t past ≡ true) → has_closed t past ≡ true
    still off closing (inr before) = before
    still off (inl (none, leads)) (inl here) = absurd (cc (none, here))
    still off (inr (is, told)) (inl here) = absurd (cc (told.on, off))

    same : (x y : Ending) → Some x ≡ Some y → x ≡ y
    same x y e = cc

    by : (before behind : Bool) → is_off (phase_of s l past) ≡ before → is_off (phase_of s l (e ∷ past)) ≡ behind
        → (has_closed t past ≡ true → was_asked_to_end past ≡ false → ending_of s l past ≡ Some ends_by.Done → ⊥)
        → cond before (ending_of s l past) (cond behind (Some (ending_by (phase_of s l past) e.cause)) None) ≡ Some ends_by.Done → ⊥
    by true behind was is before ending = before (still was so.closing (some_of (closes t e.effects) (has_closed t past) h)) asked.1 ending
    by false true was is before ending = now was (same (ending_by (phase_of s l past) e.cause) ends_by.Done ending) so.closing (some_of (closes t e.effects) (has_closed t past) h)
    by false false was is before ending = absurd (cc ending)

-- ---- What is open is valid

some_when : (b : Bool) (found : Option Row) → is_some (when b found) ≡ true → (b ≡ true) × (is_some found ≡ true)
some_when true found some = (refl, some)
some_when false found some = absurd (cc some)

take_valid : (s : Setup) (l : Sizes) (r : Readings) (at task seq : ℕ) (request : Request) → is_some (row_of s l r at (c.Take task seq request)) ≡ true → is_valid request ≡ true
unfolding row_of take_row may_take
take_valid s l r at task seq request some =
    let may = (some_when (nat_lt task s.tasks && not (r.left task) && (seq == r.takes task) && is_valid request) _ (some_when _ _ some).1).0 in
    (and_parts (nat_lt task s.tasks && not (r.left task) && (seq == r.takes task)) (is_valid request) may).1

abbrev IsValidCommand : Pending → Type 0
IsValidCommand command = is_valid command.request ≡ true

by_id : (task seq : ℕ) (request : Request) (filters : List (List ℕ)) (id : Option ℕ) → is_valid request ≡ true → AllByRecursion IsValidCommand (opened_by task seq request filters id)
by_id task seq request filters None valid = tt
by_id task seq request filters (Some id) valid = (valid, tt)

opens_valid : (s : Setup) (l : Sizes) (r : Readings) (at : ℕ) (cause : Cause) (effects : List Effect) → is_some (row_of s l r at cause) ≡ true → AllByRecursion IsValidCommand (opens cause effects)
opens_valid s l r at c.Opened effects some = tt
opens_valid s l r at (c.Take task seq request) effects some = by_id task seq request (sent_filters effects) (sent_id effects) (take_valid s l r at task seq request some)
opens_valid s l r at (c.Arrived packet) effects some = tt
opens_valid s l r at (c.Broke why) effects some = tt
opens_valid s l r at c.Tick effects some = tt
opens_valid s l r at c.GaveUp effects some = tt
opens_valid s l r at c.Finish effects some = tt

pub open_are_valid : (s : Setup) (l : Sizes) (past : List Entry) → IsLegalPast s l past → AllByRecursion (λ (command : Pending). is_valid command.request ≡ true) (pending_of past)
open_are_valid s l [] legal = tt
open_are_valid s l (e ∷ past) legal =
    all_kept IsValidCommand (stays_open e.effects) (pending_of past ++ opens e.cause e.effects)
    (all_both IsValidCommand (pending_of past) (opens e.cause e.effects) (open_are_valid s l past legal.1) (opens_valid s l (readings s l past) e.at e.cause e.effects (has_row (row s l past e.at e.cause) e.effects legal.0)))

one_valid : (command : Pending) (commands : List Pending) → AllByRecursion IsValidCommand commands → IsOneOf command commands → is_valid command.request ≡ true
one_valid command [] all one = absurd one
one_valid command (other ∷ commands) all (inl same) = ap (λ (x : Pending). is_valid x.request) same ∙ all.0
one_valid command (other ∷ commands) all (inr later) = one_valid command commands all.1 later

few_asks : (request : Request) → is_valid request ≡ true → is_subscribe request ≡ true → length (asks_in request) ≤ 8
unfolding is_valid
few_asks (requests.Publish qos topic payload) valid is = absurd (cc is)
few_asks (requests.Subscribe asks) valid is =
    let few = (and_parts (is_few (length asks)) (list_all (λ ask. is_wanted ask.filter) asks) valid).0 in leb-true (length asks) 8 (and_parts (nat_le 1 (length asks)) (nat_le (length asks) 8) few).1
few_asks (requests.Unsubscribe filters) valid is = absurd (cc is)
few_asks requests.Ping valid is = absurd (cc is)
few_asks requests.Disconnect valid is = absurd (cc is)
few_asks requests.Terminate valid is = absurd (cc is)
few_asks requests.Leave valid is = absurd (cc is)

few_outcome : (r : Readings) (cause : Cause) (task seq : ℕ) (outcome : Outcome) → AllByRecursion IsValidCommand r.pending → EarnsOutcome r cause task seq outcome → HasFewCodesIn outcome
few_outcome r cause task seq o.Done valid h = tt
few_outcome r cause task seq (o.Granted codes) valid (command, one, its_task, its_seq, is, subscribes, many) =
    let few = few_asks command.request (one_valid command r.pending valid one) subscribes in omega (arith, few, many)
few_outcome r cause task seq o.NoRoom valid h = tt
few_outcome r cause task seq o.NoRoute valid h = tt
few_outcome r cause task seq o.NotConnected valid h = tt
few_outcome r cause task seq o.LinkLost valid h = tt
few_outcome r cause task seq o.SessionLost valid h = tt
few_outcome r cause task seq o.Cancelled valid h = tt
few_outcome r cause task seq o.NoMemory valid h = tt

few_effects : (r : Readings) (cause : Cause) (effects : List Effect) → AllByRecursion IsValidCommand r.pending → AllByRecursion (Earns r cause) effects → AllByRecursion HasFewCodes effects
few_effects r cause [] valid h = tt
few_effects r cause (f.Send packet ∷ effects) valid h = (tt, few_effects r cause effects valid h.1)
few_effects r cause (f.Done task seq outcome ∷ effects) valid h = (few_outcome r cause task seq outcome valid h.0, few_effects r cause effects valid h.1)
few_effects r cause (f.Pass task message ∷ effects) valid h = (tt, few_effects r cause effects valid h.1)
few_effects r cause (f.Closed task ∷ effects) valid h = (tt, few_effects r cause effects valid h.1)

pub granted_are_few : GrantedAreFew
granted_are_few s l [] legal = tt
granted_are_few s l (e ∷ past) legal =
    (few_effects (readings s l past) e.cause e.effects (open_are_valid s l past legal.1) (outcomes_are_earned s l past e.at e.cause e.effects legal.0), granted_are_few s l past legal.1)
