-- A connection that breaks, one that is opened, and what is due keep what holds.
use Rattle.std.proofs.Common.{◌≡◌, ◌⊎◌, ℕ, ◌+◌, Bool, true, false, List, [], ◌∷◌, ◌++◌, map, count_by, Option, Some, None, refl, sym, ap, ◌∙◌, subst, arith}
use mathlib.Core.Logic.{inl, inr}
use Rattle.mqtt_packet.specs.declared.packet.Packet.TheVariants as p
use Rattle.agent_journal.specs.declared.entry.Cause.{Cause}
use Rattle.agent_journal.specs.declared.entry.Cause.TheVariants as c
use Rattle.agent_journal.specs.declared.entry.Why.{Why}
use Rattle.agent_journal.specs.declared.entry.Why.TheVariants as why
use Rattle.agent_journal.specs.declared.entry.Entry.{Entry}
use Rattle.agent_journal.specs.declared.effect.Effect.TheVariants as f
use Rattle.agent_journal.specs.declared.setup.Setup.{Setup}
use Rattle.agent_journal.specs.declared.setup.Phase.{Phase}
use Rattle.agent_journal.specs.declared.setup.Phase.TheVariants.{Down, Opening, Up, Spilled, Off}
use Rattle.agent_journal.specs.Readings.{pending_of}
use Rattle.agent_journal.specs.Wires.{sends}
use Rattle.agent_table.specs.Breaks.{opened_row, tick_row, gave_up_row, finish_row, connect}
use Rattle.agent_table.specs.Histories.{IsLegalPast, phase_of, readings, row, due_by}
use Rattle.agent_table.specs.Rows.{Row, to, when, ends}
use Rattle.agent_table.specs.Sizes.{Sizes}
use Rattle.agent_table.specs.Table.{cause_row}
use Rattle.agent_table.proofs.Counts.{count_append}
use Rattle.session_world.specs.World.{World, Rising, Falling, Origin, Own, entries, kept, phase, noted, sent, stepped, stepped_by, faulted_by, faulted_in, crashed, told_of, falling, from, nothing}
use Rattle.session_world.specs.World as world
use Rattle.once_laws.specs.Followed.{is_of, is_beginning, rises_first, falls_back, IsFollowed}
use Rattle.once_laws.specs.Once.{is_from, times}
use Rattle.once_laws.proofs.Effects.{left, IsQuiet}
use Rattle.once_laws.proofs.Effects as effects
use Rattle.once_laws.proofs.Following.{IsLeft, IsAdded, first_of, mine_first}
use Rattle.once_laws.proofs.Following as following
use Rattle.once_laws.proofs.Labels.{risen_count}
use Rattle.once_laws.proofs.UpRows.{IsKept, quiet}
use Rattle.once_laws.proofs.Settled as settling
use Rattle.once_laws.proofs.Stepping.{OfRow, of_found, of_cause, off_behind, IsDue, due_is}
use Rattle.once_laws.proofs.Holding.{IsGoing, Holds, entry_of, unheard, entered, left_fewer, kept_on}

module _ (s : Setup) (l : Sizes) where
  -- ---- A connection that breaks

  -- both lists are emptied behind an entry
  broken : (w new : World) (at : ℕ) (reason : Why) (found : Row) → row s l (entries w) at (c.Broke reason) ≡ Some found → Holds s l w
      → entries new ≡ entry_of s l at (c.Broke reason) found ∷ entries w → new.origins ≡ w.origins → new.up ≡ [] → new.down ≡ [] → Holds s l new
  broken w new at reason found e h past origins up down =
      entered s l w new at (c.Broke reason) found e h past origins
      (λ t q. unheard s l (pending_of (entries w)) (c.Broke reason) t q (times t q w) (λ id is. cc is))
      (λ goes_on t q n.
      let was = (h.going (λ off. goes_on (off_behind s l (entries w) at (c.Broke reason) found e off))).followed t q n in
      subst (λ rising. IsFollowed t q n (left (pending_of (entries w)) found.effects) rising new.down (times t q w)) (sym up)
      (subst (λ falls. IsFollowed t q n (left (pending_of (entries w)) found.effects) [] falls (times t q w)) (sym down)
      (following.emptied t q n (pending_of (entries w)) (left (pending_of (entries w)) found.effects) (times t q w) was.alone (left_fewer s l (is_of n) (pending_of (entries w)) found.effects))))
      (λ goes_on begins n. (ap (count_by (rises_first n)) up, ap (count_by (falls_back n)) down))

  -- or where there is no entry
  bare : (w new : World) → Holds s l w → entries new ≡ entries w → new.origins ≡ w.origins → new.up ≡ [] → new.down ≡ [] → Holds s l new
  bare w new h past origins up down = record {
    legal = subst (IsLegalPast s l) (sym past) h.legal;
    settled = λ t q. subst (λ es. settling.IsSettled settling.is_first t q es (times t q new)) (sym past) (subst (λ os. settling.IsSettled settling.is_first t q (entries w) (count_by (is_from t q) os)) (sym origins) (h.settled t q));
    going = λ on.
        let g = h.going (λ off. on (ap (phase_of s l) past ∙ off)) in
        record {
          followed = λ t q n.
              subst (λ es. IsFollowed t q n (pending_of es) new.up new.down (times t q new)) (sym past)
              (subst (λ rising. IsFollowed t q n (pending_of (entries w)) rising new.down (times t q new)) (sym up)
              (subst (λ falls. IsFollowed t q n (pending_of (entries w)) [] falls (times t q new)) (sym down)
              (following.emptied t q n (pending_of (entries w)) (pending_of (entries w)) (times t q new) (g.followed t q n).alone (omega arith))));
          quiet = λ begins n. (ap (count_by (rises_first n)) up, ap (count_by (falls_back n)) down);
        };
  }

  pub breaks : (w : World) (at : ℕ) → Holds s l w → Holds s l (crashed s l at (record w { breaks = w.breaks + 1 }))
  breaks w at h = by (phase s l w)
    where
      go : (found : Option Row) → row s l (entries w) at (c.Broke why.Fault) ≡ found → Holds s l (world.emptied s l (faulted_by s l found at (record w { breaks = w.breaks + 1 })))
      go None e = bare w (world.emptied s l (record w { breaks = w.breaks + 1 })) h refl refl refl refl
      go (Some found) e = broken w (world.emptied s l (faulted_by s l (Some found) at (record w { breaks = w.breaks + 1 }))) at why.Fault found e h refl refl refl refl

      by : (phase : Phase) → Holds s l (world.emptied s l (faulted_in s l phase at (record w { breaks = w.breaks + 1 })))
      by Down = bare w (world.emptied s l (record w { breaks = w.breaks + 1 })) h refl refl refl refl
      by Opening = go (row s l (entries w) at (c.Broke why.Fault)) refl
      by Up = go (row s l (entries w) at (c.Broke why.Fault)) refl
      by Spilled = go (row s l (entries w) at (c.Broke why.Fault)) refl
      by Off = bare w (world.emptied s l (record w { breaks = w.breaks + 1 })) h refl refl refl refl

  -- ---- An entry of no packet, which publishes nothing

  -- it completes nothing, and comes where nothing begins or where nothing of a publish was under way
  pub record IsPlain (cause : Cause) (past : List Entry) (found : Row) : Type 0 where
    pub kept : (n : ℕ) → IsKept n (pending_of past) 0 found.effects
    pub begins : is_beginning found.phase ≡ true → is_beginning (phase_of s l past) ≡ true

  abbrev Plain : Cause → List Entry → Row → Type 0
  Plain cause past found = (found.phase ≡ Off) ⊎ IsPlain cause past found

  plainly : (w new : World) (at : ℕ) (cause : Cause) (found : Row) → row s l (entries w) at cause ≡ Some found → Holds s l w → Plain cause (entries w) found
      → ((id : ℕ) → cause ≡ c.Arrived (p.PubAck id) → ⊥) → pending_of (entry_of s l at cause found ∷ entries w) ≡ left (pending_of (entries w)) found.effects
      → entries new ≡ entry_of s l at cause found ∷ entries w → new.origins ≡ w.origins
      → new.up ≡ w.up ++ map (world.rising s l cause (left (pending_of (entries w)) found.effects)) (sends found.effects) → new.down ≡ w.down → Holds s l new
  plainly w new at cause found e h plain no_ack opens_none past origins up down =
      entered s l w new at cause found e h past origins (λ t q. unheard s l (pending_of (entries w)) cause t q (times t q w) no_ack)
      (λ goes_on t q n. follows goes_on t q n plain) (λ goes_on begins n. silent goes_on begins n plain)
    where
      going : (found.phase ≡ Off → ⊥) → IsGoing s l w
      going goes_on = h.going (λ off. goes_on (off_behind s l (entries w) at cause found e off))

      follows : (found.phase ≡ Off → ⊥) → (t q n : ℕ) → Plain cause (entries w) found → IsFollowed t q n (pending_of (entry_of s l at cause found ∷ entries w)) new.up new.down (times t q w)
      follows goes_on t q n (inl off) = absurd (goes_on off)
      follows goes_on t q n (inr is) =
          subst (λ cs. IsFollowed t q n cs new.up new.down (times t q w)) (sym opens_none)
          (subst (λ rising. IsFollowed t q n (left (pending_of (entries w)) found.effects) rising new.down (times t q w)) (sym up)
          (subst (λ falls. IsFollowed t q n (left (pending_of (entries w)) found.effects) (w.up ++ map (world.rising s l cause (left (pending_of (entries w)) found.effects)) (sends found.effects)) falls (times t q w)) (sym down)
          (kept_on s l t q n (pending_of (entries w)) w.up w.down (times t q w) cause found.effects (is.kept n) ((going goes_on).followed t q n))))

      silent : (found.phase ≡ Off → ⊥) → is_beginning found.phase ≡ true → (n : ℕ) → Plain cause (entries w) found → (count_by (rises_first n) new.up ≡ 0) × (count_by (falls_back n) new.down ≡ 0)
      silent goes_on begins n (inl off) = absurd (goes_on off)
      silent goes_on begins n (inr is) =
          let none = (going goes_on).quiet (is.begins begins) n in
          let added = map (world.rising s l cause (left (pending_of (entries w)) found.effects)) (sends found.effects) in (
            omega (arith, none.0, ap (count_by (rises_first n)) up, count_append (rises_first n) w.up added, risen_count s l n cause (left (pending_of (entries w)) found.effects) (sends found.effects), (is.kept n).sends),
            omega (arith, none.1, ap (count_by (falls_back n)) down),
          )

  -- ---- Openings and what is due

  of_when : (P : Row → Type 0) (b : Bool) (x : Option Row) → OfRow P x → OfRow P (when b x)
  of_when P true x h = h
  of_when P false x h = tt

  opened_plain : (past : List Entry) (phase : Phase) → phase ≡ phase_of s l past → OfRow (Plain c.Opened past) (opened_row s (readings s l past) phase)
  unfolding opened_row
  opened_plain past Down is =
      of_when (Plain c.Opened past) _ (to Opening (f.Send (connect s (readings s l past).wiping) ∷ []))
      (inr (record { kept = λ n. quiet n (pending_of past) 0 (f.Send (connect s (readings s l past).wiping) ∷ []) (effects.sent (connect s (readings s l past).wiping)) refl; begins = λ begins. sym (ap is_beginning is) }))
  opened_plain past Opening is = tt
  opened_plain past Up is = tt
  opened_plain past Spilled is = tt
  opened_plain past Off is = tt

  tick_plain : (past : List Entry) (at : ℕ) (phase : Phase) → OfRow (Plain c.Tick past) (tick_row s (readings s l past) at phase)
  unfolding tick_row
  tick_plain past at Up = of_when (Plain c.Tick past) _ (to Up (f.Send p.PingReq ∷ [])) (inr (record { kept = λ n. quiet n (pending_of past) 0 (f.Send p.PingReq ∷ []) (effects.sent p.PingReq) refl; begins = λ begins. absurd (cc begins) }))
  tick_plain past at Down = tt
  tick_plain past at Opening = tt
  tick_plain past at Spilled = tt
  tick_plain past at Off = tt

  gave_up_plain : (past : List Entry) (phase : Phase) → OfRow (Plain c.GaveUp past) (gave_up_row s (readings s l past) phase)
  unfolding gave_up_row
  gave_up_plain past Down = of_when (Plain c.GaveUp past) _ (ends s (readings s l past)) (inl refl)
  gave_up_plain past Opening = tt
  gave_up_plain past Up = tt
  gave_up_plain past Spilled = tt
  gave_up_plain past Off = tt

  finish_plain : (past : List Entry) (phase : Phase) → OfRow (Plain c.Finish past) (finish_row s (readings s l past) phase)
  unfolding finish_row
  finish_plain past Up = of_when (Plain c.Finish past) _ (to Off (f.Send p.Disconnect ∷ [])) (inl refl)
  finish_plain past Down = tt
  finish_plain past Opening = tt
  finish_plain past Spilled = tt
  finish_plain past Off = tt

  plain_row : (past : List Entry) (at : ℕ) (cause : Cause) (found : Row) → row s l past at cause ≡ Some found → OfRow (Plain cause past) (cause_row s l (readings s l past) at cause) → Plain cause past found
  plain_row past at cause found e h = of_found (Plain cause past) (row s l past at cause) found e (of_cause (Plain cause past) s l (readings s l past) at cause h)

  pub opens : (w : World) (at : ℕ) → Holds s l w → Holds s l (stepped s l None at c.Opened w)
  opens w at h = go (row s l (entries w) at c.Opened) refl
    where
      go : (found : Option Row) → row s l (entries w) at c.Opened ≡ found → Holds s l (stepped_by s l found None at c.Opened w)
      go None e = h
      go (Some found) e =
          plainly w (stepped_by s l (Some found) None at c.Opened w) at c.Opened found e h
          (plain_row (entries w) at c.Opened found e (opened_plain (entries w) (phase_of s l (entries w)) refl)) (λ id is. cc is) refl refl refl refl refl

  pub is_due : (w : World) (at : ℕ) (cause : Cause) → due_by s l (readings s l (entries w)) at ≡ Some cause → Holds s l w → Holds s l (stepped s l None at cause w)
  is_due w at cause e h = by cause (due_is s l (readings s l (entries w)) at cause e)
    where
      by : (cause : Cause) → IsDue cause → Holds s l (stepped s l None at cause w)
      by c.Finish due = go (row s l (entries w) at c.Finish) refl
        where
          go : (found : Option Row) → row s l (entries w) at c.Finish ≡ found → Holds s l (stepped_by s l found None at c.Finish w)
          go None e = h
          go (Some found) e =
              plainly w (stepped_by s l (Some found) None at c.Finish w) at c.Finish found e h (plain_row (entries w) at c.Finish found e (finish_plain (entries w) (phase_of s l (entries w)))) (λ id is. cc is)
              refl refl refl refl refl
      by c.Tick due = go (row s l (entries w) at c.Tick) refl
        where
          go : (found : Option Row) → row s l (entries w) at c.Tick ≡ found → Holds s l (stepped_by s l found None at c.Tick w)
          go None e = h
          go (Some found) e =
              plainly w (stepped_by s l (Some found) None at c.Tick w) at c.Tick found e h (plain_row (entries w) at c.Tick found e (tick_plain (entries w) at (phase_of s l (entries w)))) (λ id is. cc is) refl
              refl refl refl refl
      by c.GaveUp due = go (row s l (entries w) at c.GaveUp) refl
        where
          go : (found : Option Row) → row s l (entries w) at c.GaveUp ≡ found → Holds s l (stepped_by s l found None at c.GaveUp w)
          go None e = h
          go (Some found) e =
              plainly w (stepped_by s l (Some found) None at c.GaveUp w) at c.GaveUp found e h (plain_row (entries w) at c.GaveUp found e (gave_up_plain (entries w) (phase_of s l (entries w)))) (λ id is. cc is)
              refl refl refl refl refl
      by (c.Broke reason) due = go (row s l (entries w) at (c.Broke reason)) refl
        where
          go : (found : Option Row) → row s l (entries w) at (c.Broke reason) ≡ found → Holds s l (stepped_by s l found None at (c.Broke reason) w)
          go None e = h
          go (Some found) e = broken w (stepped_by s l (Some found) None at (c.Broke reason) w) at reason found e h refl refl refl refl
      by c.Opened due = absurd due
      by (c.Take task seq request) due = absurd due
      by (c.Arrived packet) due = absurd due
