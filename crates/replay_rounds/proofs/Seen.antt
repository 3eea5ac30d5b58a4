-- What the ties of a journal see of a world, and what an entry leaves of it.
use Rattle.std.proofs.Common.{◌≡◌, ℕ, ◌<◌, Bool, true, false, cond, List, [], ◌∷◌, length, take, Option, Some, None, is_some, refl, sym, ap, ◌∙◌, subst}
use Rattle.std.specs.Prelude.{nat_lt}
use Rattle.std.proofs.lemmas.Bool.{ltb-true}
use Rattle.agent_link.specs.Wires.{onto_last}
use Rattle.broker_tape.specs.Playing.{fitting}
use Rattle.agent_journal.specs.declared.entry.Cause.{Cause}
use Rattle.agent_journal.specs.declared.entry.Cause.TheVariants as c
use Rattle.agent_journal.specs.declared.entry.Why.TheVariants as why
use Rattle.agent_journal.specs.declared.setup.Phase.{Phase}
use Rattle.agent_journal.specs.declared.setup.Phase.TheVariants.{Down, Opening, Up, Spilled, Off}
use Rattle.agent_journal.specs.Wires.{sent_in}
use Rattle.agent_table.specs.Rows.{Row}
use Rattle.agent_ties.proofs.Seen.{faults_behind}
use Rattle.replay_rounds.specs.World.{World, phase_in, row_in, shut_in, settled}
use Rattle.agent_ties.specs.Seen.{entry, Seen, with_entry, with_bytes}
use Rattle.replay_rounds.specs.Entering.{noted, noted_by, failed, onto_wire, sends_some, entered, entered_by}
use Rattle.replay_rounds.specs.Entering as entering
use Rattle.replay_rounds.proofs.Moments.{with_row}
use Rattle.agent_ties.proofs.Wires.{onto_nothing}

abbrev pub seen : World → Seen
seen w = record { setup = w.setup; sizes = w.sizes; past = w.past; taken = w.taken; given = w.given; stream = w.stream }

-- ---- What isn't seen

settled_in : (P : Seen → Type 0) (w : World) (phase : Phase) → P (seen w) → P (seen (shut_in w phase))
settled_in P w Down h = h
settled_in P w Opening h = h
settled_in P w Up h = h
settled_in P w Spilled h = h
settled_in P w Off h = h

settles : (P : Seen → Type 0) (w : World) → P (seen w) → P (seen (settled w))
settles P w h = settled_in P w (phase_in w) h

noted_of : (P : Seen → Type 0) (now : ℕ) (w : World) (cause : Cause) (r : Option Row) → row_in w now cause ≡ r → (r ≡ None → P (seen w)) → ((found : Row) → r ≡ Some found → P (with_entry (seen w) now cause found))
    → P (seen (noted_by w now cause r))
noted_of P now w cause None e none some = none refl
noted_of P now w cause (Some found) e none some = settles P (record w { past = entry now cause found ∷ w.past }) (some found refl)

pub noted_seen : (P : Seen → Type 0) (now : ℕ) (w : World) (cause : Cause) → (row_in w now cause ≡ None → P (seen w)) → ((found : Row) → row_in w now cause ≡ Some found → P (with_entry (seen w) now cause found))
    → P (seen (noted w now cause))
noted_seen P now w cause none some = noted_of P now w cause (row_in w now cause) refl none some

module _ (now : ℕ) (w : World) (cause : Cause) (found : Row) (e : row_in w now cause ≡ Some found) where
  abbrev pub behind : World
  behind = with_row w now cause found

  -- ---- What an entry leaves: all of its packets on the wire, or less and a fault

  module _ (P : Seen → Type 0)
      (whole : P (with_bytes (with_entry (seen w) now cause found) (sent_in found.effects)))
      (part : (k : ℕ) (second : Row) → k < length (sent_in found.effects) → row_in behind now (c.Broke why.Fault) ≡ Some second
      → P (with_entry (with_bytes (with_entry (seen w) now cause found) (take k (sent_in found.effects))) now (c.Broke why.Fault) second)) where
    none_there : (b : ℕ) (bytes : List ℕ) → sent_in found.effects ≡ b ∷ bytes → row_in behind now (c.Broke why.Fault) ≡ None → ⊥
    none_there b bytes some none = cc (sym (faults_behind now (seen w) cause found e b bytes some) ∙ ap is_some none)

    some_sent : (less : Bool) (fits b : ℕ) (bytes : List ℕ) → sent_in found.effects ≡ b ∷ bytes → nat_lt fits (length (b ∷ bytes)) ≡ less
        → P (seen (cond less (noted (failed (onto_wire (record behind { idle = 0 }) (take fits (b ∷ bytes)))) now (c.Broke why.Fault)) (settled (onto_wire (record behind { idle = 0 }) (b ∷ bytes)))))
    some_sent true fits b bytes some less =
        noted_seen P now (failed (onto_wire (record behind { idle = 0 }) (take fits (b ∷ bytes)))) (c.Broke why.Fault) (λ none. absurd (none_there b bytes some none))
        (λ second is.
        subst (λ bs. P (with_entry (with_bytes (with_entry (seen w) now cause found) (take fits bs)) now (c.Broke why.Fault) second)) some
        (part fits second (subst (λ bs. fits < length bs) (sym some) (ltb-true fits (length (b ∷ bytes)) less)) is))
    some_sent false fits b bytes some less =
        settles P (onto_wire (record behind { idle = 0 }) (b ∷ bytes)) (subst (λ bs. P (with_bytes (with_entry (seen w) now cause found) bs)) some whole)

    sent_by : (bytes : List ℕ) → sent_in found.effects ≡ bytes → P (seen (entering.sends behind now bytes))
    sent_by [] none =
        settles P behind (subst (λ ws. P (record (with_entry (seen w) now cause found) { taken = ws })) (ap (onto_last w.taken) none ∙ onto_nothing w.taken) whole)
    sent_by (b ∷ bytes) some = some_sent (nat_lt (fitting w.room (length (b ∷ bytes))) (length (b ∷ bytes))) (fitting w.room (length (b ∷ bytes))) b bytes some refl

    pub entered_seen : P (seen (entered w now cause))
    entered_seen = subst (λ q. P (seen (entered_by w now cause q))) (sym e) (sent_by (sent_in found.effects) refl)
