-- A connection that breaks, one that is opened, and what is due keep what holds at quality of service 2.
use Rattle.std.proofs.Common.{◌≡◌, ◌⊎◌, ℕ, ◌+◌, ◌≤◌, Bool, true, false, List, [], ◌∷◌, ◌++◌, map, filter, count_by, Option, Some, None, refl, sym, ap, ◌∙◌, subst, arith}
use Rattle.std.specs.List.{AllByRecursion}
use mathlib.Core.Logic.{inl, inr}
use Rattle.mqtt_packet.specs.declared.packet.Packet.{Packet}
use Rattle.mqtt_packet.specs.declared.packet.Packet.TheVariants as p
use Rattle.agent_journal.specs.declared.entry.Cause.{Cause}
use Rattle.agent_journal.specs.declared.entry.Cause.TheVariants as c
use Rattle.agent_journal.specs.declared.entry.Why.{Why}
use Rattle.agent_journal.specs.declared.entry.Why.TheVariants as why
use Rattle.agent_journal.specs.declared.entry.Entry.{Entry}
use Rattle.agent_journal.specs.declared.effect.Effect.TheVariants as f
use Rattle.agent_journal.specs.declared.setup.Setup.{Setup}
use Rattle.agent_journal.specs.declared.setup.Phase.{Phase}
use Rattle.agent_journal.specs.declared.setup.Phase.TheVariants.{Down, Opening, Up, Spilled, Off}
use Rattle.agent_journal.specs.Readings.{Pending, pending_of, takes_of, accepts}
use Rattle.agent_journal.specs.Wires.{sends}
use Rattle.agent_table.specs.Breaks.{opened_row, tick_row, gave_up_row, finish_row, connect}
use Rattle.agent_table.specs.Deliveries.{is_open_publish, is_exactly_once, released_of}
use Rattle.agent_table.specs.Histories.{IsLegalPast, phase_of, readings, row, due_by}
use Rattle.agent_table.specs.Rows.{Row, to, when, ends}
use Rattle.agent_table.specs.Sizes.{Sizes}
use Rattle.agent_table.specs.Table.{cause_row}
use Rattle.agent_table.proofs.Counts.{count_append, opened}
use Rattle.broker_core.specs.Kept.{ended}
use Rattle.broker_core.specs.declared.link.Link.TheVariants.{Gone}
use Rattle.session_world.specs.World.{World, Rising, Falling, entries, kept, phase, rising, stepped, stepped_by, faulted_by, faulted_in, crashed}
use Rattle.session_world.specs.World as world
use Rattle.once_laws.specs.Counted.{digit, publishes_second, releases, receives, completes, IsTidy, IsCounted}
use Rattle.once_laws.specs.Followed.{is_of, is_beginning}
use Rattle.once_laws.specs.Home.{has_session, IsOwnConnect, received_of}
use Rattle.once_laws.specs.Once.{was_taken, is_from, times}
use Rattle.once_laws.proofs.Balance.{Keeps, IsBalanced, IsLabelled, AreLabelled, ShownIn, IsAtHome, is_opening, first_yet, entry_of, entered, counts_now, balance_now, frozen, labelled_later, all_both}
use Rattle.once_laws.proofs.BrokenRows.{IsBroken, broken}
use Rattle.once_laws.proofs.Counting.{IsRest, IsTold, IsNext, second_of, told_tidy, told_counted, emptied_tidy, emptied_counted}
use Rattle.once_laws.proofs.Effects.{left, IsQuiet}
use Rattle.once_laws.proofs.Effects as effects
use Rattle.once_laws.proofs.Holding.{left_fewer}
use Rattle.once_laws.proofs.Homes.{IsEnded, ended_home, begun_home, stays_home, home_entered, home_emptied, first_broke, all_later, connects_in}
use Rattle.once_laws.proofs.Labels.{risen_any, risen_second}
use Rattle.once_laws.proofs.Settled as settling
use Rattle.once_laws.proofs.Stepping.{OfRow, of_found, of_cause, legal_behind, phase_behind, off_behind, open_once, IsDue, due_is}
use Rattle.once_laws.proofs.TakingSeconds.{off_or}
use Rattle.once_laws.proofs.UpSeconds.{rest_of, stays_told, ends_send}

-- all released ones stay, of the same commands
same_rest : (n : ℕ) (commands : List Pending) (ids received : List ℕ) (up : List Rising) (down : List Falling) → IsTidy n commands ids received up down → IsRest n commands ids ids
same_rest n commands ids received up down h = record { less = omega arith; most = omega (arith, h.two); keeps = omega (arith, h.alone, second_of n commands) }

module _ (s : Setup) (l : Sizes) where
  -- ---- Breaks

  emptied_kept : (w new : World) → IsAtHome s l w → kept new ≡ ended (kept w) → IsEnded s.client (kept w) (kept new)
  emptied_kept w new h is = subst (IsEnded s.client (kept w)) (sym is) (ended_home s.client (kept w) h.home)

  broke : (w new : World) (at : ℕ) (reason : Why) (found : Row) → row s l (entries w) at (c.Broke reason) ≡ Some found → Keeps s l w → entries new ≡ entry_of s l at (c.Broke reason) found ∷ entries w → new.origins ≡ w.origins
      → new.up ≡ [] → new.down ≡ [] → kept new ≡ ended (kept w) → Keeps s l new
  broke w new at reason found e h past origins up down same = by (off_or found.phase)
    where
      behind : Entry
      behind = entry_of s l at (c.Broke reason) found

      after : IsEnded s.client (kept w) (kept new)
      after = emptied_kept w new h.at_home same

      home : IsAtHome s l new
      home = home_emptied s l w new h.at_home after up down (ap (first_yet s l) past ∙ first_broke s l (entries w) (entry_of s l at (c.Broke reason) found) refl)

      whole : (commands : List Pending) (released : List ℕ) → ((i j : ℕ) → opened i j commands ≤ 1) → ((n : ℕ) → IsTidy n commands released (received_of (kept w)) [] [])
          → ((t q n : ℕ) → was_taken settling.is_second t q (entries w) ≡ true → IsCounted t q n commands released (received_of (kept w)) [] (times t q w))
          → ((found.phase ≡ Off → ⊥) → (commands ≡ pending_of (entry_of s l at (c.Broke reason) found ∷ entries w)) × (released ≡ released_of (entry_of s l at (c.Broke reason) found ∷ entries w))) → Keeps s l new
      whole commands released single tidy counts now =
          entered s l w new at (c.Broke reason) found e h past origins (λ t q command one task seq kind is. absurd (cc is)) (subst (AreLabelled (entry_of s l at (c.Broke reason) found ∷ entries w)) (sym up) tt) commands released single
          (λ n. subst (λ ids. IsTidy n commands released ids new.up new.down) (sym after.received)
          (subst (λ rising. IsTidy n commands released (received_of (kept w)) rising new.down) (sym up) (subst (λ falls. IsTidy n commands released (received_of (kept w)) [] falls) (sym down) (tidy n))))
          (λ t q n label most. subst (λ ids. IsCounted t q n commands released ids new.up (times t q w)) (sym after.received)
          (subst (λ rising. IsCounted t q n commands released (received_of (kept w)) rising (times t q w)) (sym up) (counts t q n label)))
          now (λ begins n. record { second = ap (count_by _) up; release = ap (count_by _) up; receive = ap (count_by _) down; complete = ap (count_by _) down }) home

      by : (found.phase ≡ Off) ⊎ (found.phase ≡ Off → ⊥) → Keeps s l new
      by (inl off) =
          whole h.commands h.released h.balanced.single
          (λ n. emptied_tidy n h.commands h.commands h.released h.released (received_of (kept w)) w.up w.down (h.balanced.tidy n) (omega arith) refl (same_rest n h.commands h.released (received_of (kept w)) w.up w.down (h.balanced.tidy n)))
          (λ t q n label. emptied_counted t q n h.commands h.commands h.released h.released (received_of (kept w)) w.up w.down (times t q w) (h.balanced.tidy n) (h.balanced.counts t q n label) refl refl
          (same_rest n h.commands h.released (received_of (kept w)) w.up w.down (h.balanced.tidy n)))
          (λ goes_on. absurd (goes_on off))
      by (inr goes_on) =
          whole (pending_of (entry_of s l at (c.Broke reason) found ∷ entries w)) (released_of (entry_of s l at (c.Broke reason) found ∷ entries w))
          (open_once s l (entry_of s l at (c.Broke reason) found ∷ entries w) (legal_behind s l (entries w) at (c.Broke reason) found e h.legal))
          (λ n. emptied_tidy n (pending_of (entries w)) new_commands (released_of (entries w)) _ (received_of (kept w)) w.up w.down (balance.tidy n) (less n) (lost.second n) (rest n))
          (λ t q n label. emptied_counted t q n (pending_of (entries w)) new_commands (released_of (entries w)) _ (received_of (kept w)) w.up w.down (times t q w) (balance.tidy n) (balance.counts t q n label) (lost.second n) (lost.ours t q n) (rest n))
          (λ off. (refl, refl))
        where
          on : phase s l w ≡ Off → ⊥
          on off = goes_on (off_behind s l (entries w) at (c.Broke reason) found e off)

          balance : IsBalanced s l w (pending_of (entries w)) (released_of (entries w))
          balance = balance_now s l w h on

          new_commands : List Pending
          new_commands = left (pending_of (entries w)) found.effects

          lost : IsBroken (pending_of (entries w)) found.effects
          lost = pick (of_found (λ row. (row.phase ≡ Off) ⊎ IsBroken (pending_of (entries w)) row.effects) (row s l (entries w) at (c.Broke reason)) found e
              (of_cause (λ row. (row.phase ≡ Off) ⊎ IsBroken (pending_of (entries w)) row.effects) s l (readings s l (entries w)) at (c.Broke reason) (broken s (readings s l (entries w)) (open_once s l (entries w) h.legal) at reason)))
            where
              pick : (found.phase ≡ Off) ⊎ IsBroken (pending_of (entries w)) found.effects → IsBroken (pending_of (entries w)) found.effects
              pick (inl off) = absurd (goes_on off)
              pick (inr it) = it

          less : (n : ℕ) → count_by (is_of n) (left (pending_of (entries w)) found.effects) ≤ count_by (is_of n) (pending_of (entries w))
          less n = left_fewer s l (is_of n) (pending_of (entries w)) found.effects

          rest : (n : ℕ) → IsRest n (left (pending_of (entries w)) found.effects) (released_of (entries w)) (filter (is_open_publish is_exactly_once (left (pending_of (entries w)) found.effects)) (released_of (entries w)))
          rest n = rest_of n (left (pending_of (entries w)) found.effects) (released_of (entries w)) (omega (arith, less n, (balance.tidy n).alone))

  -- without an entry
  bare : (w new : World) → Keeps s l w → entries new ≡ entries w → new.origins ≡ w.origins → new.up ≡ [] → new.down ≡ [] → kept new ≡ ended (kept w) → Keeps s l new
  bare w new h past origins up down same =
      let after = emptied_kept w new h.at_home same in
      let times_is : (t q : ℕ) → times t q new ≡ times t q w = λ t q. ap (count_by (is_from t q)) origins in
      record {
        legal = subst (IsLegalPast s l) (sym past) h.legal;
        most = λ t q taken. omega (arith, times_is t q, h.most t q (ap (was_taken settling.is_second t q) (sym past) ∙ taken));
        unborn = λ t q few. times_is t q ∙ h.unborn t q (subst (λ es. takes_of t es ≤ q) past few);
        labelled = subst (AreLabelled (entries new)) (sym up) tt;
        settled = λ t q. subst (λ es. settling.IsSettled settling.is_second t q es (times t q new)) (sym past) (subst (λ m. settling.IsSettled settling.is_second t q (entries w) m) (sym (times_is t q)) (h.settled t q));
        commands = h.commands;
        released = h.released;
        balanced = record {
          single = h.balanced.single;
          tidy = λ n. subst (λ ids. IsTidy n h.commands h.released ids new.up new.down) (sym after.received)
              (subst (λ rising. IsTidy n h.commands h.released (received_of (kept w)) rising new.down) (sym up)
              (subst (λ falls. IsTidy n h.commands h.released (received_of (kept w)) [] falls) (sym down)
              (emptied_tidy n h.commands h.commands h.released h.released (received_of (kept w)) w.up w.down (h.balanced.tidy n) (omega arith) refl (same_rest n h.commands h.released (received_of (kept w)) w.up w.down (h.balanced.tidy n)))));
          counts = λ t q n taken. subst (λ m. IsCounted t q n h.commands h.released (received_of (kept new)) new.up m) (sym (times_is t q))
              (subst (λ ids. IsCounted t q n h.commands h.released ids new.up (times t q w)) (sym after.received)
              (subst (λ rising. IsCounted t q n h.commands h.released (received_of (kept w)) rising (times t q w)) (sym up)
              (emptied_counted t q n h.commands h.commands h.released h.released (received_of (kept w)) w.up w.down (times t q w) (h.balanced.tidy n)
              (h.balanced.counts t q n (ap (was_taken settling.is_second t q) (sym past) ∙ taken)) refl refl (same_rest n h.commands h.released (received_of (kept w)) w.up w.down (h.balanced.tidy n)))));
        };
        now = λ on. let is = h.now (λ off. on (ap (phase_of s l) past ∙ off)) in (is.0 ∙ ap pending_of (sym past), is.1 ∙ ap released_of (sym past));
        quiet = λ begins n. record { second = ap (count_by _) up; release = ap (count_by _) up; receive = ap (count_by _) down; complete = ap (count_by _) down };
        at_home = home_emptied s l w new h.at_home after up down (ap (first_yet s l) past);
      }

  pub breaks : (w : World) (at : ℕ) → Keeps s l w → Keeps s l (crashed s l at (record w { breaks = w.breaks + 1 }))
  breaks w at h = by (phase s l w)
    where
      go : (found : Option Row) → row s l (entries w) at (c.Broke why.Fault) ≡ found → Keeps s l (world.emptied s l (faulted_by s l found at (record w { breaks = w.breaks + 1 })))
      go None e = bare w (world.emptied s l (record w { breaks = w.breaks + 1 })) h refl refl refl refl refl
      go (Some found) e = broke w (world.emptied s l (faulted_by s l (Some found) at (record w { breaks = w.breaks + 1 }))) at why.Fault found e h refl refl refl refl refl

      by : (phase : Phase) → Keeps s l (world.emptied s l (faulted_in s l phase at (record w { breaks = w.breaks + 1 })))
      by Down = bare w (world.emptied s l (record w { breaks = w.breaks + 1 })) h refl refl refl refl refl
      by Opening = go (row s l (entries w) at (c.Broke why.Fault)) refl
      by Up = go (row s l (entries w) at (c.Broke why.Fault)) refl
      by Spilled = go (row s l (entries w) at (c.Broke why.Fault)) refl
      by Off = bare w (world.emptied s l (record w { breaks = w.breaks + 1 })) h refl refl refl refl refl

  -- ---- An entry of no packet and no break, that completes nothing

  -- what it sends is neither a PUBLISH nor a PUBREL; or it leads to Off
  pub record IsPlain (past : List Entry) (found : Row) : Type 0 where
    pub packets : List Packet
    pub sends_is : sends found.effects ≡ packets
    pub labelled : (cause : Cause) (commands : List Pending) (es : List Entry) → AreLabelled es (map (rising s l cause commands) packets)
    pub second : (n : ℕ) → count_by (publishes_second n) packets ≡ 0
    pub release : (n : ℕ) → count_by (releases n) packets ≡ 0
    pub own : (cause : Cause) (commands : List Pending) → AllByRecursion (λ (x : Rising). IsOwnConnect s.client x.packet) (map (rising s l cause commands) packets)
    pub connects : (cause : Cause) (commands : List Pending) → connects_in (map (rising s l cause commands) packets) ≤ digit (is_opening s l found.phase)
    pub closed : (found.phase ≡ Off → ⊥) → is_opening s l (phase_of s l past) ≡ false
    pub quiet : (found.phase ≡ Off → ⊥) → IsQuiet found.effects
    pub begins : is_beginning found.phase ≡ true → is_beginning (phase_of s l past) ≡ true

  none_sent : (past : List Entry) (found : Row) → sends found.effects ≡ [] → found.phase ≡ Off → IsPlain past found
  none_sent past found is off = record {
    packets = [];
    sends_is = is;
    labelled = λ cause commands es. tt;
    second = λ n. refl;
    release = λ n. refl;
    own = λ cause commands. tt;
    connects = λ cause commands. omega arith;
    closed = λ goes_on. absurd (goes_on off);
    quiet = λ goes_on. absurd (goes_on off);
    begins = λ begins. absurd (cc (sym begins ∙ ap is_beginning off));
  }

  of_when : (P : Row → Type 0) (b : Bool) (x : Option Row) → OfRow P x → OfRow P (when b x)
  of_when P true x h = h
  of_when P false x h = tt

  opened_plain : (past : List Entry) (phase : Phase) → s.wipe ≡ false → phase ≡ phase_of s l past → OfRow (IsPlain past) (opened_row s (readings s l past) phase)
  unfolding opened_row
  opened_plain past Down wipe is =
      of_when (IsPlain past) _ (to Opening (f.Send (connect s (readings s l past).wiping) ∷ []))
      (record {
        packets = connect s (readings s l past).wiping ∷ [];
        sends_is = refl;
        labelled = λ cause commands es. ((λ t q from. absurd (cc from)), tt);
        second = λ n. refl;
        release = λ n. refl;
        own = λ cause commands. ((rw wipe refl, refl), tt);
        connects = λ cause commands. omega arith;
        closed = λ goes_on. sym (ap (is_opening s l) is);
        quiet = λ goes_on. effects.sent (connect s (readings s l past).wiping);
        begins = λ begins. sym (ap is_beginning is);
      })
  opened_plain past Opening wipe is = tt
  opened_plain past Up wipe is = tt
  opened_plain past Spilled wipe is = tt
  opened_plain past Off wipe is = tt

  tick_plain : (past : List Entry) (at : ℕ) (phase : Phase) → phase ≡ phase_of s l past → OfRow (IsPlain past) (tick_row s (readings s l past) at phase)
  unfolding tick_row
  tick_plain past at Up is =
      of_when (IsPlain past) _ (to Up (f.Send p.PingReq ∷ []))
      (record {
        packets = p.PingReq ∷ [];
        sends_is = refl;
        labelled = λ cause commands es. ((λ t q from. absurd (cc from)), tt);
        second = λ n. refl;
        release = λ n. refl;
        own = λ cause commands. (tt, tt);
        connects = λ cause commands. omega arith;
        closed = λ goes_on. sym (ap (is_opening s l) is);
        quiet = λ goes_on. effects.sent p.PingReq;
        begins = λ begins. absurd (cc begins);
      })
  tick_plain past at Down is = tt
  tick_plain past at Opening is = tt
  tick_plain past at Spilled is = tt
  tick_plain past at Off is = tt

  gave_up_plain : (past : List Entry) (phase : Phase) → OfRow (IsPlain past) (gave_up_row s (readings s l past) phase)
  unfolding gave_up_row
  gave_up_plain past Down = of_when (IsPlain past) _ (ends s (readings s l past)) (none_sent past _ (ends_send s (readings s l past)) refl)
  gave_up_plain past Opening = tt
  gave_up_plain past Up = tt
  gave_up_plain past Spilled = tt
  gave_up_plain past Off = tt

  finish_plain : (past : List Entry) (phase : Phase) → OfRow (IsPlain past) (finish_row s (readings s l past) phase)
  unfolding finish_row
  finish_plain past Up =
      of_when (IsPlain past) _ (to Off (f.Send p.Disconnect ∷ []))
      (record {
        packets = p.Disconnect ∷ [];
        sends_is = refl;
        labelled = λ cause commands es. ((λ t q from. absurd (cc from)), tt);
        second = λ n. refl;
        release = λ n. refl;
        own = λ cause commands. (tt, tt);
        connects = λ cause commands. omega arith;
        closed = λ goes_on. absurd (goes_on refl);
        quiet = λ goes_on. absurd (goes_on refl);
        begins = λ begins. absurd (cc begins);
      })
  finish_plain past Down = tt
  finish_plain past Opening = tt
  finish_plain past Spilled = tt
  finish_plain past Off = tt

  plainly : (w new : World) (at : ℕ) (cause : Cause) (found : Row) → row s l (entries w) at cause ≡ Some found → Keeps s l w → IsPlain (entries w) found → accepts cause ≡ false → ((id : ℕ) → cause ≡ c.Arrived (p.PubComp id) → ⊥)
      → ((t q : ℕ) → was_taken settling.is_second t q (entry_of s l at cause found ∷ entries w) ≡ true → was_taken settling.is_second t q (entries w) ≡ true)
      → IsEnded s.client (kept w) (kept new) → pending_of (entry_of s l at cause found ∷ entries w) ≡ left (pending_of (entries w)) found.effects
      → released_of (entry_of s l at cause found ∷ entries w) ≡ filter (is_open_publish is_exactly_once (left (pending_of (entries w)) found.effects)) (released_of (entries w)) → entries new ≡ entry_of s l at cause found ∷ entries w
      → new.origins ≡ w.origins → new.up ≡ w.up ++ map (rising s l cause (left (pending_of (entries w)) found.effects)) (sends found.effects) → new.down ≡ w.down → Keeps s l new
  plainly w new at cause found e h plain other not_complete no_take after pending_is released_is past origins up down = by (off_or found.phase)
    where
      commands : List Pending
      commands = left (pending_of (entries w)) found.effects

      more : List Rising
      more = map (rising s l cause (left (pending_of (entries w)) found.effects)) plain.packets

      up_is : new.up ≡ w.up ++ map (rising s l cause (left (pending_of (entries w)) found.effects)) plain.packets
      up_is = up ∙ ap (λ packets. w.up ++ map (rising s l cause (left (pending_of (entries w)) found.effects)) packets) plain.sends_is

      second : (n : ℕ) → count_by (λ (x : Rising). publishes_second n x.packet) (map (rising s l cause (left (pending_of (entries w)) found.effects)) plain.packets) ≡ 0
      second n = risen_second s l n cause (left (pending_of (entries w)) found.effects) plain.packets ∙ plain.second n

      release : (n : ℕ) → count_by (λ (x : Rising). releases n x.packet) (map (rising s l cause (left (pending_of (entries w)) found.effects)) plain.packets) ≡ 0
      release n = risen_any s l (releases n) cause (left (pending_of (entries w)) found.effects) plain.packets ∙ plain.release n

      step : (n : ℕ) → IsNext n (map (rising s l cause (left (pending_of (entries w)) found.effects)) plain.packets) w.down w.down 0 0 0
      step n = record { second = second n; release = release n; receive = omega arith; complete = omega arith; apart = omega arith }

      whole : (cs : List Pending) (ids : List ℕ) → ((i j : ℕ) → opened i j cs ≤ 1)
          → ((n : ℕ) → IsTidy n cs ids (received_of (kept w)) (w.up ++ map (rising s l cause (left (pending_of (entries w)) found.effects)) plain.packets) w.down)
          → ((t q n : ℕ) → was_taken settling.is_second t q (entry_of s l at cause found ∷ entries w) ≡ true → times t q w ≤ 1
          → IsCounted t q n cs ids (received_of (kept w)) (w.up ++ map (rising s l cause (left (pending_of (entries w)) found.effects)) plain.packets) (times t q w))
          → ((found.phase ≡ Off → ⊥) → (cs ≡ pending_of (entry_of s l at cause found ∷ entries w)) × (ids ≡ released_of (entry_of s l at cause found ∷ entries w)))
          → IsAtHome s l new → Keeps s l new
      whole cs ids single tidy counts now home =
          entered s l w new at cause found e h past origins (λ t q command one task seq kind is. absurd (not_complete command.id is))
          (subst (AreLabelled (entry_of s l at cause found ∷ entries w)) (sym up_is)
          (all_both (IsLabelled (entry_of s l at cause found ∷ entries w)) w.up (map (rising s l cause (left (pending_of (entries w)) found.effects)) plain.packets)
          (labelled_later (entries w) (entry_of s l at cause found) w.up h.labelled) (plain.labelled cause (left (pending_of (entries w)) found.effects) (entry_of s l at cause found ∷ entries w))))
          cs ids single
          (λ n. subst (λ received. IsTidy n cs ids received new.up new.down) (sym after.received)
          (subst (λ rises. IsTidy n cs ids (received_of (kept w)) rises new.down) (sym up_is) (subst (λ falls. IsTidy n cs ids (received_of (kept w)) (w.up ++ map (rising s l cause (left (pending_of (entries w)) found.effects)) plain.packets) falls) (sym down) (tidy n))))
          (λ t q n label most. subst (λ received. IsCounted t q n cs ids received new.up (times t q w)) (sym after.received)
          (subst (λ rises. IsCounted t q n cs ids (received_of (kept w)) rises (times t q w)) (sym up_is) (counts t q n label most)))
          now
          (λ begins n. let z = h.quiet (plain.begins begins) n in record {
            second = omega (arith, z.second, second n, ap (count_by (λ (x : Rising). publishes_second n x.packet)) up_is, count_append (λ (x : Rising). publishes_second n x.packet) w.up (map (rising s l cause (left (pending_of (entries w)) found.effects)) plain.packets));
            release = omega (arith, z.release, release n, ap (count_by (λ (x : Rising). releases n x.packet)) up_is, count_append (λ (x : Rising). releases n x.packet) w.up (map (rising s l cause (left (pending_of (entries w)) found.effects)) plain.packets));
            receive = ap (count_by (λ (x : Falling). receives n x.packet)) down ∙ z.receive;
            complete = ap (count_by (λ (x : Falling). completes n x.packet)) down ∙ z.complete;
          }) home

      on_of : (found.phase ≡ Off → ⊥) → phase s l w ≡ Off → ⊥
      on_of goes_on off = goes_on (off_behind s l (entries w) at cause found e off)

      by : (found.phase ≡ Off) ⊎ (found.phase ≡ Off → ⊥) → Keeps s l new
      by (inl off) = ending
        where
          first : first_yet s l (entries new) ≡ first_yet s l (entries w)
          first = ap (first_yet s l) past ∙ first_broke s l (entries w) (entry_of s l at cause found) other

          home : IsAtHome s l new
          home = record {
            home = after.home;
            connects = subst (AllByRecursion (λ (x : Rising). IsOwnConnect s.client x.packet)) (sym up_is)
                (all_both (λ (x : Rising). IsOwnConnect s.client x.packet) w.up (map (rising s l cause (left (pending_of (entries w)) found.effects)) plain.packets) h.at_home.connects (plain.own cause (left (pending_of (entries w)) found.effects)));
            known = λ not_first. after.kept (h.at_home.known (sym first ∙ not_first));
            present = subst (λ b. AllByRecursion (λ (x : Falling). ShownIn s l (has_session (kept new)) b x.packet) new.down) (sym first)
                (subst (AllByRecursion (λ (x : Falling). ShownIn s l (has_session (kept new)) (first_yet s l (entries w)) x.packet)) (sym down)
                (all_later s l (has_session (kept w)) (has_session (kept new)) (first_yet s l (entries w)) w.down after.kept h.at_home.present));
            one = λ goes_on. absurd (goes_on (ap (phase_of s l) past ∙ phase_behind s l (entries w) at cause found e ∙ off));
          }

          frozen_counts : (t q n : ℕ) → IsCounted t q n h.commands h.released (received_of (kept w)) w.up (times t q w) → times t q w ≤ 1
              → IsCounted t q n h.commands h.released (received_of (kept w)) (w.up ++ map (rising s l cause (left (pending_of (entries w)) found.effects)) plain.packets) (times t q w)
          frozen_counts t q n was most =
              told_counted t q n h.commands h.commands h.released h.released (received_of (kept w)) w.up (map (rising s l cause (left (pending_of (entries w)) found.effects)) plain.packets) w.down w.down 0 0 0 (times t q w) most (h.balanced.tidy n) was
              (frozen t q n h.commands h.released 0 0 (h.balanced.tidy n).alone) (step n)

          tidy : (n : ℕ) → IsTidy n h.commands h.released (received_of (kept w)) (w.up ++ map (rising s l cause (left (pending_of (entries w)) found.effects)) plain.packets) w.down
          tidy n =
              told_tidy 0 0 n h.commands h.commands h.released h.released (received_of (kept w)) w.up (map (rising s l cause (left (pending_of (entries w)) found.effects)) plain.packets) w.down w.down 0 0 0 (h.balanced.tidy n)
              (frozen 0 0 n h.commands h.released 0 0 (h.balanced.tidy n).alone) (step n)

          ending : Keeps s l new
          ending =
              entered s l w new at cause found e h past origins (λ t q command one task seq kind is. absurd (not_complete command.id is))
              (subst (AreLabelled (entry_of s l at cause found ∷ entries w)) (sym up_is)
              (all_both (IsLabelled (entry_of s l at cause found ∷ entries w)) w.up (map (rising s l cause (left (pending_of (entries w)) found.effects)) plain.packets)
              (labelled_later (entries w) (entry_of s l at cause found) w.up h.labelled) (plain.labelled cause (left (pending_of (entries w)) found.effects) (entry_of s l at cause found ∷ entries w))))
              h.commands h.released h.balanced.single
              (λ n. subst (λ received. IsTidy n h.commands h.released received new.up new.down) (sym after.received)
              (subst (λ rises. IsTidy n h.commands h.released (received_of (kept w)) rises new.down) (sym up_is)
              (subst (λ falls. IsTidy n h.commands h.released (received_of (kept w)) (w.up ++ map (rising s l cause (left (pending_of (entries w)) found.effects)) plain.packets) falls) (sym down) (tidy n))))
              (λ t q n label most. subst (λ received. IsCounted t q n h.commands h.released received new.up (times t q w)) (sym after.received)
              (subst (λ rises. IsCounted t q n h.commands h.released (received_of (kept w)) rises (times t q w)) (sym up_is) (frozen_counts t q n (h.balanced.counts t q n (no_take t q label)) most)))
              (λ goes_on. absurd (goes_on off)) (λ begins. absurd (cc (sym (ap is_beginning off) ∙ begins))) home
      by (inr goes_on) =
          whole (left (pending_of (entries w)) found.effects) (filter (is_open_publish is_exactly_once (left (pending_of (entries w)) found.effects)) (released_of (entries w)))
          (λ i j. subst (λ cs. opened i j cs ≤ 1) pending_is (open_once s l (entry_of s l at cause found ∷ entries w) (legal_behind s l (entries w) at cause found e h.legal) i j))
          (λ n. told_tidy 0 0 n (pending_of (entries w)) (left (pending_of (entries w)) found.effects) (released_of (entries w)) _ (received_of (kept w)) w.up (map (rising s l cause (left (pending_of (entries w)) found.effects)) plain.packets) w.down w.down 0 0 0
          ((balance_now s l w h (on_of goes_on)).tidy n) (stays 0 0 n) (step n))
          (λ t q n label most. told_counted t q n (pending_of (entries w)) (left (pending_of (entries w)) found.effects) (released_of (entries w)) _ (received_of (kept w)) w.up (map (rising s l cause (left (pending_of (entries w)) found.effects)) plain.packets)
          w.down w.down 0 0 0 (times t q w) most ((balance_now s l w h (on_of goes_on)).tidy n) (counts_now s l w at cause found e h (on_of goes_on) t q n label) (stays t q n) (step n))
          (λ off. (sym pending_is, sym released_is))
          (home_entered s l w new at cause found (map (rising s l cause (left (pending_of (entries w)) found.effects)) plain.packets) e h.at_home (on_of goes_on) past other after up_is down
          (plain.own cause (left (pending_of (entries w)) found.effects)) (plain.closed goes_on) (plain.connects cause (left (pending_of (entries w)) found.effects)))
        where
          stays : (t q n : ℕ) → IsTold t q n (pending_of (entries w)) (left (pending_of (entries w)) found.effects) (released_of (entries w))
              (filter (is_open_publish is_exactly_once (left (pending_of (entries w)) found.effects)) (released_of (entries w))) 0 0 0
          stays t q n =
              stays_told t q n (pending_of (entries w)) (released_of (entries w)) (released_of (entries w)) found.effects 0 0 0 ((balance_now s l w h (on_of goes_on)).tidy n).alone (plain.quiet goes_on) (omega arith) (omega arith) (omega arith)
              (omega arith) (omega arith)

  plain_row : (past : List Entry) (at : ℕ) (cause : Cause) (found : Row) → row s l past at cause ≡ Some found → OfRow (IsPlain past) (cause_row s l (readings s l past) at cause) → IsPlain past found
  plain_row past at cause found e h = of_found (IsPlain past) (row s l past at cause) found e (of_cause (IsPlain past) s l (readings s l past) at cause h)

  pub opens : (w : World) (at : ℕ) → s.wipe ≡ false → (kept w).link ≡ Gone → Keeps s l w → Keeps s l (stepped s l None at c.Opened w)
  opens w at wipe gone h = go (row s l (entries w) at c.Opened) refl
    where
      go : (found : Option Row) → row s l (entries w) at c.Opened ≡ found → Keeps s l (stepped_by s l found None at c.Opened w)
      go None e = h
      go (Some found) e =
          plainly w (stepped_by s l (Some found) None at c.Opened w) at c.Opened found e h (plain_row (entries w) at c.Opened found e (opened_plain (entries w) (phase_of s l (entries w)) wipe refl)) refl (λ id is. cc is) (λ t q label. label)
          (begun_home s.client (kept w) gone h.at_home.home) refl refl refl refl refl refl

  pub is_due : (w : World) (at : ℕ) (cause : Cause) → due_by s l (readings s l (entries w)) at ≡ Some cause → Keeps s l w → Keeps s l (stepped s l None at cause w)
  is_due w at cause e h = by cause (due_is s l (readings s l (entries w)) at cause e)
    where
      by : (cause : Cause) → IsDue cause → Keeps s l (stepped s l None at cause w)
      by c.Finish due = go (row s l (entries w) at c.Finish) refl
        where
          go : (found : Option Row) → row s l (entries w) at c.Finish ≡ found → Keeps s l (stepped_by s l found None at c.Finish w)
          go None e = h
          go (Some found) e =
              plainly w (stepped_by s l (Some found) None at c.Finish w) at c.Finish found e h (plain_row (entries w) at c.Finish found e (finish_plain (entries w) (phase_of s l (entries w)))) refl (λ id is. cc is) (λ t q label. label)
              (stays_home s l s.client (kept w) h.at_home.home) refl refl refl refl refl refl
      by c.Tick due = go (row s l (entries w) at c.Tick) refl
        where
          go : (found : Option Row) → row s l (entries w) at c.Tick ≡ found → Keeps s l (stepped_by s l found None at c.Tick w)
          go None e = h
          go (Some found) e =
              plainly w (stepped_by s l (Some found) None at c.Tick w) at c.Tick found e h (plain_row (entries w) at c.Tick found e (tick_plain (entries w) at (phase_of s l (entries w)) refl)) refl (λ id is. cc is) (λ t q label. label)
              (stays_home s l s.client (kept w) h.at_home.home) refl refl refl refl refl refl
      by c.GaveUp due = go (row s l (entries w) at c.GaveUp) refl
        where
          go : (found : Option Row) → row s l (entries w) at c.GaveUp ≡ found → Keeps s l (stepped_by s l found None at c.GaveUp w)
          go None e = h
          go (Some found) e =
              plainly w (stepped_by s l (Some found) None at c.GaveUp w) at c.GaveUp found e h (plain_row (entries w) at c.GaveUp found e (gave_up_plain (entries w) (phase_of s l (entries w)))) refl (λ id is. cc is) (λ t q label. label)
              (stays_home s l s.client (kept w) h.at_home.home) refl refl refl refl refl refl
      by (c.Broke reason) due = go (row s l (entries w) at (c.Broke reason)) refl
        where
          go : (found : Option Row) → row s l (entries w) at (c.Broke reason) ≡ found → Keeps s l (stepped_by s l found None at (c.Broke reason) w)
          go None e = h
          go (Some found) e = broke w (stepped_by s l (Some found) None at (c.Broke reason) w) at reason found e h refl refl refl refl refl
      by c.Opened due = absurd due
      by (c.Take task seq request) due = absurd due
      by (c.Arrived packet) due = absurd due
