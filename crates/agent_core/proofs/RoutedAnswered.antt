-- The command that an acknowledgement ends.
use Rattle.std.proofs.Common.{◌≡◌, ◌≢◌, ℕ, Bool, true, false, not, List, [], ◌∷◌, ◌++◌, Option, Some, None, refl, ap, ◌∙◌, subst}
use Rattle.std.specs.Prelude.{◌&&◌, ◌==◌, filter, find, nat_le, length, if◌then◌else◌}
use Rattle.std.specs.List.{list_any, flat_map}
use Rattle.std.proofs.lemmas.List.{append-nil}
use Rattle.std.proofs.lemmas.Bool.{eq-eqb}
use Rattle.mqtt_packet.specs.declared.packet.Packet.{Packet}
use Rattle.mqtt_packet.specs.declared.packet.Packet.TheVariants as p
use Rattle.mqtt_packet.specs.Spelling.{is_sound}
use Rattle.agent_journal.specs.declared.effect.Effect.{Effect}
use Rattle.agent_journal.specs.declared.entry.Cause.TheVariants as c
use Rattle.agent_journal.specs.declared.entry.Entry.{Entry}
use Rattle.agent_journal.specs.declared.setup.Setup.{Setup}
use Rattle.agent_journal.specs.declared.setup.Phase.{Phase}
use Rattle.agent_journal.specs.declared.setup.Phase.TheVariants.{Down, Opening, Up, Spilled, Off}
use Rattle.agent_journal.specs.Readings.{Pending, pending_of}
use Rattle.agent_table.specs.Arrivals.{arrived_row, arrived_in, suback_row, unsuback_row, connack_row, awaited, all_done, all_granted, at, is_subscribe, is_unsubscribe}
use Rattle.agent_table.specs.Histories.{row, readings, phase_of, phase_by, effects_of}
use Rattle.agent_table.specs.Readings.{Readings}
use Rattle.agent_table.specs.Rows.{Row, when, to, ends}
use Rattle.agent_table.specs.Sizes.{Sizes}
use Rattle.agent_table.specs.Table.{row_of}
use Rattle.pending_acks.specs.Commands.{has_id, is_command}
use Rattle.agent_core.proofs.RoutedEnds.{AreApart, IsApart, one_false, turned}
use Rattle.agent_core.proofs.RoutedLists.{all_found, all_map, flat_none}

-- ---- Rows that don't end the agent

abbrev pub OfGoing : (List Effect → Type 0) → Option Row → Type 0
OfGoing P None = Unit {0}
OfGoing P (Some row) = row.phase ≢ Off → P row.effects

pub going_when : (P : List Effect → Type 0) (b : Bool) (row : Option Row) → OfGoing P row → OfGoing P (when b row)
going_when P true row h = h
going_when P false row h = tt

pub of_going : (P : List Effect → Type 0) (found : Option Row) (effects : List Effect) (phase : Phase) → effects_of found ≡ Some effects → phase_by found phase ≢ Off → OfGoing P found → P effects
of_going P None effects phase e goes h = absurd (cc e)
of_going P (Some row) effects phase e goes h = let is : row.effects ≡ effects = cc in subst P is (h goes)

pub going_arrived : (P : List Effect → Type 0) (s : Setup) (l : Sizes) (r : Readings) (at : ℕ) (packet : Packet) → OfGoing P (arrived_in s l r packet r.phase) → OfGoing P (row_of s l r at (c.Arrived packet))
unfolding row_of arrived_row
going_arrived P s l r at packet h = going_when P (nat_le r.last_time at) (when (is_sound packet) (arrived_in s l r packet r.phase)) (going_when P (is_sound packet) (arrived_in s l r packet r.phase) h)

ended : (P : List Effect → Type 0) (s : Setup) (r : Readings) → OfGoing P (ends s r)
ended P s r = λ goes. absurd (goes refl)

going_unsuback : (s : Setup) (l : Sizes) (r : Readings) (n : ℕ) (phase : Phase) → OfGoing (λ effects. effects ≡ all_done (filter (λ command. is_unsubscribe command.request) (at n r.pending))) (arrived_in s l r (p.UnsubAck n) phase)
unfolding unsuback_row
going_unsuback s l r n Down = tt
going_unsuback s l r n Opening = ended (λ effects. effects ≡ all_done (filter (λ command. is_unsubscribe command.request) (at n r.pending))) s r
going_unsuback s l r n Up = λ goes. refl
going_unsuback s l r n Spilled = tt
going_unsuback s l r n Off = tt

pub unsuback_effects : (s : Setup) (l : Sizes) (past : List Entry) (time n : ℕ) (effects : List Effect) → effects_of (row s l past time (c.Arrived (p.UnsubAck n))) ≡ Some effects
    → phase_of s l (record { at = time; cause = c.Arrived (p.UnsubAck n); effects = effects } ∷ past) ≢ Off → effects ≡ all_done (filter (λ command. is_unsubscribe command.request) (at n (pending_of past)))
unsuback_effects s l past time n effects e goes =
    let r = readings s l past in
    let P : List Effect → Type 0 = λ es. es ≡ all_done (filter (λ command. is_unsubscribe command.request) (at n r.pending)) in
    of_going P (row s l past time (c.Arrived (p.UnsubAck n))) effects (phase_of s l past) e goes
    (going_arrived P s l r time (p.UnsubAck n) (going_unsuback s l r n r.phase))

-- a SUBACK has as many codes as filters
abbrev pub Codes : ℕ → List ℕ → Readings → List Effect → Type 0
Codes n codes r effects = (r.phase ≡ Up) × (list_any (λ count. not (count == length codes)) (awaited r n) ≡ false) × (effects ≡ all_granted codes (filter (λ command. is_subscribe command.request) (at n r.pending)))

going_suback : (s : Setup) (l : Sizes) (r : Readings) (n : ℕ) (codes : List ℕ) (phase : Phase) → r.phase ≡ phase → OfGoing (Codes n codes r) (arrived_in s l r (p.SubAck n codes) phase)
unfolding suback_row
going_suback s l r n codes Down is = tt
going_suback s l r n codes Opening is = ended (Codes n codes r) s r
going_suback s l r n codes Up is = go (list_any (λ count. not (count == length codes)) (awaited r n)) refl
  where
    go : (b : Bool) → list_any (λ count. not (count == length codes)) (awaited r n) ≡ b
        → OfGoing (Codes n codes r) (if b then ends s r else to Up (all_granted codes (filter (λ command. is_subscribe command.request) (at n r.pending))))
    go true e = ended (Codes n codes r) s r
    go false e = λ goes. (is, e, refl)
going_suback s l r n codes Spilled is = tt
going_suback s l r n codes Off is = tt

pub suback_effects : (s : Setup) (l : Sizes) (past : List Entry) (time n : ℕ) (codes : List ℕ) (effects : List Effect) → effects_of (row s l past time (c.Arrived (p.SubAck n codes))) ≡ Some effects
    → phase_of s l (record { at = time; cause = c.Arrived (p.SubAck n codes); effects = effects } ∷ past) ≢ Off → Codes n codes (readings s l past) effects
suback_effects s l past time n codes effects e goes =
    let r = readings s l past in
    of_going (Codes n codes r) (row s l past time (c.Arrived (p.SubAck n codes))) effects (phase_of s l past) e goes
    (going_arrived (Codes n codes r) s l r time (p.SubAck n codes) (going_suback s l r n codes r.phase refl))

-- a CONNACK that doesn't end the agent comes in Opening
going_connack : (s : Setup) (l : Sizes) (r : Readings) (present : Bool) (code : ℕ) (phase : Phase) → r.phase ≡ phase → OfGoing (λ effects. r.phase ≡ Opening) (arrived_in s l r (p.ConnAck present code) phase)
going_connack s l r present code Down is = tt
going_connack s l r present code Opening is = any (connack_row s r present code)
  where
    any : (found : Option Row) → OfGoing (λ effects. r.phase ≡ Opening) found
    any None = tt
    any (Some row) = λ goes. is
going_connack s l r present code Up is = ended (λ effects. r.phase ≡ Opening) s r
going_connack s l r present code Spilled is = tt
going_connack s l r present code Off is = tt

pub connack_opening : (s : Setup) (l : Sizes) (past : List Entry) (time : ℕ) (present : Bool) (code : ℕ) (effects : List Effect) → effects_of (row s l past time (c.Arrived (p.ConnAck present code))) ≡ Some effects
    → phase_of s l (record { at = time; cause = c.Arrived (p.ConnAck present code); effects = effects } ∷ past) ≢ Off → phase_of s l past ≡ Opening
connack_opening s l past time present code effects e goes =
    let r = readings s l past in
    of_going (λ effects. r.phase ≡ Opening) (row s l past time (c.Arrived (p.ConnAck present code))) effects (phase_of s l past) e goes
    (going_arrived (λ effects. r.phase ≡ Opening) s l r time (p.ConnAck present code) (going_connack s l r present code r.phase refl))

-- ---- The one command of an identifier

-- it is found by its numbers too
pub found_by : (n : ℕ) (commands : List Pending) (command : Pending) → AreApart commands → find (has_id n) commands ≡ Some command → find (is_command command.task command.seq) commands ≡ Some command
found_by n [] command apart e = absurd (cc e)
found_by n (first ∷ commands) command apart e = go (has_id n first) refl (found_by n commands command apart.1)
  where
    itself : (x : Pending) → is_command x.task x.seq x ≡ true
    itself x = rw (eq-eqb x.task x.task refl, eq-eqb x.seq x.seq refl) refl

    go : (b : Bool) → has_id n first ≡ b → (find (has_id n) commands ≡ Some command → find (is_command command.task command.seq) commands ≡ Some command) → find (is_command command.task command.seq) (first ∷ commands) ≡ Some command
    go true is rest =
        let same : first ≡ command = cc (rw is at e) in
        subst (λ (x : Pending). find (is_command x.task x.seq) (first ∷ commands) ≡ Some x) same (rw (itself first) refl)
    go false is rest =
        let there : find (has_id n) commands ≡ Some command = rw is at e in
        let own = (all_found (IsApart first) (has_id n) commands command apart.0 there).0.1 in
        let miss : is_command command.task command.seq first ≡ false = ap (λ b. b && first.seq == command.seq) (turned first.task command.task) ∙ ap (λ b. command.task == first.task && b) (turned first.seq command.seq) ∙ own in
        rw miss (rest there)

-- What only this command gives, they all together give.
pub flat_one : {Y : Type 0} (f : Pending → List Y) (t q : ℕ) (commands : List Pending) (command : Pending) → AreApart commands → find (is_command t q) commands ≡ Some command
    → ((other : Pending) → is_command t q other ≡ false → f other ≡ []) → flat_map f commands ≡ f command
flat_one f t q [] command apart e none = absurd (cc e)
flat_one {Y = Y} f t q (first ∷ commands) command apart e none = go (is_command t q first) refl (flat_one f t q commands command apart.1)
  where
    go : (b : Bool) → is_command t q first ≡ b → (find (is_command t q) commands ≡ Some command → ((other : Pending) → is_command t q other ≡ false → f other ≡ []) → flat_map f commands ≡ f command) → flat_map f (first ∷ commands) ≡ f command
    go true is rest =
        let same : first ≡ command = cc (rw is at e) in
        ap (λ ys. f first ++ ys) (flat_none f commands (all_map (IsApart first) (λ (other : Pending). f other ≡ []) commands (λ other apart. none other (one_false true true t q first other is apart.1)) apart.0))
        ∙ append-nil (f first) ∙ ap f same
    go false is rest = ap (λ ys. ys ++ flat_map f commands) (none first is) ∙ rest (rw is at e) none
