-- While the agent listens there is a connection, and its next packet has a row.
use Rattle.std.proofs.Common.{◌≡◌, ℕ, ◌+◌, ◌<◌, ◌≤◌, Bool, true, false, cond, List, [], ◌∷◌, ◌++◌, Option, Some, None, is_some, refl, sym, ap, ◌∙◌, arith, inl, inr}
use Rattle.std.specs.Prelude.{nat_eq}
use Rattle.std.proofs.lemmas.Bool.{cases_lt, eq-eqb, le-leb}
use Rattle.mqtt_packet.specs.declared.packet.Packet.{Packet}
use Rattle.mqtt_packet.specs.declared.splitter.Next.TheVariants as answers
use Rattle.mqtt_packet.specs.Splitting.{Kept as Stream}
use Rattle.mqtt_packet.specs.Steps.{next_of}
use Rattle.mqtt_packet.proofs.Uniqueness.{spelled_are_sound}
use Rattle.agent_link.specs.Wires.{onto_last}
use Rattle.agent_journal.specs.declared.entry.Cause.{Cause}
use Rattle.agent_journal.specs.declared.entry.Cause.TheVariants as c
use Rattle.agent_journal.specs.declared.entry.Entry.{Entry}
use Rattle.agent_journal.specs.declared.setup.Phase.TheVariants.{Down}
use Rattle.agent_journal.specs.declared.setup.Setup.{Setup}
use Rattle.agent_journal.specs.Readings.{last_time_of, breaks_of}
use Rattle.agent_journal.specs.Wires.{connections, is_opened, sent_in, Wired}
use Rattle.agent_table.specs.Breaks.{opened_row}
use Rattle.agent_table.specs.Histories.{phase_by, phase_of, readings, row}
use Rattle.agent_table.specs.Readings.{at_most}
use Rattle.agent_table.specs.Rows.{Row}
use Rattle.agent_table.specs.Sizes.{Sizes}
use Rattle.agent_table.specs.Ties.{Moment, moment, stages, listens}
use Rattle.agent_ties.specs.Seen.{Seen, phase_seen, row_seen}
use Rattle.agent_ties.specs.Heard.{AreHanding, IsGoing, LastHeard}
use Rattle.agent_ties.specs.Wired.{AreWired, LastWired, TiedBut}
use Rattle.agent_ties.proofs.Handed.{next_spells}
use Rattle.agent_ties.proofs.Heard.{listened}
use Rattle.agent_ties.proofs.Listening.{arrived_some}
use Rattle.agent_ties.proofs.Rows.{timely, in_time, small_reading, gave_up_there}
use Rattle.agent_ties.proofs.Seen.{found_by}
use Rattle.agent_ties.proofs.Sends.{is_gone, gone_stays, gone_away, nothing}
use Rattle.agent_ties.proofs.Wires.{last_there}

onto_none : {X : Type 0} (xs : List (List X)) (more : List X) → onto_last xs more ≡ [] → xs ≡ []
onto_none [] more e = refl
onto_none (x ∷ []) more e = absurd (cc e)
onto_none (x ∷ y ∷ xs) more e = absurd (cc e)

some_behind : {X : Type 0} (xs : List X) (x : X) → xs ++ x ∷ [] ≡ [] → ⊥
some_behind [] x e = cc e
some_behind (y ∷ xs) x e = cc e

module _ (s : Setup) (l : Sizes) (entry : Entry) (past : List Entry) where
  stays_gone : is_opened entry.cause ≡ false → (r : Option Row) → row s l past entry.at entry.cause ≡ r → is_gone (phase_of s l past) ≡ true → is_gone (phase_by r (phase_of s l past)) ≡ true
  stays_gone other None is gone = gone
  stays_gone other (Some found) is gone =
      (gone_stays s l (readings s l past) entry.at entry.cause found (in_time s l (readings s l past) entry.at entry.cause found is) other gone).1

  none_by : (b : Bool) → is_opened entry.cause ≡ b → (stages s l past ≡ [] → is_gone (phase_of s l past) ≡ true)
      → cond b (stages s l past ++ (moment s l entry past ∷ []) ∷ []) (onto_last (stages s l past) (moment s l entry past ∷ [])) ≡ [] → is_gone (phase_of s l (entry ∷ past)) ≡ true
  none_by true is before none = absurd (some_behind (stages s l past) (moment s l entry past ∷ []) none)
  none_by false is before none = stays_gone is (row s l past entry.at entry.cause) refl (before (onto_none (stages s l past) (moment s l entry past ∷ []) none))

pub none_gone : (s : Setup) (l : Sizes) (past : List Entry) → stages s l past ≡ [] → is_gone (phase_of s l past) ≡ true
none_gone s l [] e = refl
none_gone s l (entry ∷ past) e = none_by s l entry past (is_opened entry.cause) refl (none_gone s l past) e

-- Without a connection that took something, neither was there one that gave something.
pub none_connected : (s : Setup) (l : Sizes) (past : List Entry) → connections past ≡ [] → stages s l past ≡ []
none_connected s l [] e = refl
none_connected s l (entry ∷ past) e = by (is_opened entry.cause) (none_connected s l past) e
  where
    by : (b : Bool) → (connections past ≡ [] → stages s l past ≡ []) → cond b (connections past ++ (entry ∷ []) ∷ []) (onto_last (connections past) (entry ∷ [])) ≡ []
        → cond b (stages s l past ++ (moment s l entry past ∷ []) ∷ []) (onto_last (stages s l past) (moment s l entry past ∷ [])) ≡ []
    by true rest none = absurd (some_behind (connections past) (entry ∷ []) none)
    by false rest none = ap (λ xs. onto_last xs (moment s l entry past ∷ [])) (rest (onto_none (connections past) (entry ∷ []) none))

-- Where no connection took something, an entry but Opened sends nothing.
pub silent_without : (now : ℕ) (v : Seen) (cause : Cause) (found : Row) → row_seen v now cause ≡ Some found → is_opened cause ≡ false → AreWired v → v.taken ≡ [] → sent_in found.effects ≡ []
silent_without now v cause found e other wired none =
    let r = readings v.setup v.sizes v.past in
    let gone = none_gone v.setup v.sizes v.past (none_connected v.setup v.sizes v.past (none_tied (connections v.past) v.taken wired none)) in
    nothing found.effects (gone_stays v.setup v.sizes r now cause found (in_time v.setup v.sizes r now cause found e) other gone).0
  where
    none_tied : (xs : List (List Entry)) (ws : List (List ℕ)) → TiedBut Wired (LastWired (phase_seen v)) xs ws → ws ≡ [] → xs ≡ []
    none_tied [] ws h e = refl
    none_tied (x ∷ xs) [] h e = absurd h
    none_tied (x ∷ xs) (w ∷ ws) h e = absurd (cc e)

pub going_there : (v : Seen) → listens (phase_seen v) ≡ true → AreHanding v → (ms : List Moment) × (bs : List ℕ) × IsGoing v.stream ms bs
going_there v on h =
    let (ms, bs, last) =
    last_there _ (LastHeard IsGoing (phase_seen v) v.stream) (stages v.setup v.sizes v.past) v.given
    (λ none. cc (sym on ∙ gone_away v.setup v.sizes (readings v.setup v.sizes v.past) 0 (phase_seen v) (none_gone v.setup v.sizes v.past none))) h in
    (ms, bs, listened IsGoing (phase_seen v) v.stream ms bs on last)

-- A whole packet has a row.
pub packet_row : (now : ℕ) (v : Seen) (new : Stream) → listens (phase_seen v) ≡ true → last_time_of v.past ≤ now → (ms : List Moment) (bs : List ℕ) → IsGoing v.stream ms bs → (packet : Packet)
    → (answers.Packet packet, new) ≡ next_of v.stream → (found : Row) × (row_seen v now (c.Arrived packet) ≡ Some found)
packet_row now v new on time ms bs going packet e =
    let spells = next_spells v.stream new ms bs going packet e in
    let r = readings v.setup v.sizes v.past in
    found_by (row_seen v now (c.Arrived packet))
    (ap is_some (timely v.setup v.sizes r now (c.Arrived packet) time) ∙ arrived_some v.setup v.sizes r packet (spelled_are_sound packet spells.0 spells.1).0 on)

-- In Down another connection has a row, as long as so many may fail.
pub opened_there : (now : ℕ) (v : Seen) → last_time_of v.past ≤ now → phase_seen v ≡ Down → breaks_of v.past ≤ v.setup.reopen → (found : Row) × (row_seen v now c.Opened ≡ Some found)
unfolding opened_row
opened_there now v time down few =
    let r = readings v.setup v.sizes v.past in
    found_by (row_seen v now c.Opened)
    (ap is_some (timely v.setup v.sizes r now c.Opened time) ∙ ap (λ phase. is_some (opened_row v.setup r phase)) down
    ∙ rw (le-leb r.breaks v.setup.reopen (small_reading v.setup.reopen (breaks_of v.past) r.breaks refl few)) refl)

-- Where the agent doesn't give up in Down, as many openings may still fail.
pub opens_few : (now : ℕ) (v : Seen) → last_time_of v.past ≤ now → is_some (row_seen v now c.GaveUp) ≡ false → phase_seen v ≡ Down → breaks_of v.past ≤ v.setup.reopen + 1 → breaks_of v.past ≤ v.setup.reopen
opens_few now v time stays down within =
    elim (cases_lt v.setup.reopen (breaks_of v.past)) [
      | inl more ↦ absurd (cc (sym stays ∙ gave_up_there v.setup v.sizes (readings v.setup v.sizes v.past) now time down (last more)))
      | inr less ↦ less
    ]
  where
    last : v.setup.reopen < breaks_of v.past → nat_eq (at_most (v.setup.reopen + 2) (breaks_of v.past)) (v.setup.reopen + 1) ≡ true
    last more =
        let few = within in
        let same : at_most (v.setup.reopen + 2) (breaks_of v.past) ≡ breaks_of v.past = ap (λ b. cond b (breaks_of v.past) (v.setup.reopen + 2)) (le-leb (breaks_of v.past) (v.setup.reopen + 2) (omega (arith, few))) in
        eq-eqb (at_most (v.setup.reopen + 2) (breaks_of v.past)) (v.setup.reopen + 1) (omega (arith, same, few, more))
