-- A packet that arrives at the agent keeps what holds.
use Rattle.std.proofs.Common.{◌≡◌, ◌⊎◌, ℕ, ◌≤◌, true, List, [], ◌∷◌, ◌++◌, map, count_by, Option, Some, None, refl, sym, ap, ◌∙◌, subst, arith}
use Rattle.std.proofs.lemmas.Bool.{eq-eqb}
use mathlib.Core.Logic.{inl, inr}
use Rattle.mqtt_packet.specs.declared.packet.Packet.{Packet}
use Rattle.mqtt_packet.specs.declared.packet.Packet.TheVariants as p
use Rattle.agent_journal.specs.declared.entry.Cause.{Cause}
use Rattle.agent_journal.specs.declared.entry.Cause.TheVariants as c
use Rattle.agent_journal.specs.declared.entry.Entry.{Entry}
use Rattle.agent_journal.specs.declared.setup.Setup.{Setup}
use Rattle.agent_journal.specs.declared.setup.Phase.{Phase}
use Rattle.agent_journal.specs.declared.setup.Phase.TheVariants.{Down, Opening, Up, Spilled, Off}
use Rattle.agent_journal.specs.Readings.{Pending, pending_of}
use Rattle.agent_journal.specs.Wires.{sends}
use Rattle.agent_table.specs.Arrivals as arrivals
use Rattle.agent_table.specs.Histories.{IsLegalPast, phase_of, readings, row}
use Rattle.agent_table.specs.Laws.{IsOneOf}
use Rattle.agent_table.specs.Rows.{Row}
use Rattle.agent_table.specs.Sizes.{Sizes}
use Rattle.agent_table.proofs.Counts.{count_append}
use Rattle.session_world.specs.Playing as playing
use Rattle.session_world.specs.World.{World, Rising, Falling, Origin, Own, entries, kept, phase, noted, sent, stepped, stepped_by, faulted_by, faulted_in, crashed, told_of, falling, from, nothing}
use Rattle.session_world.specs.World as world
use Rattle.once_laws.specs.Followed.{is_of, is_mine, is_beginning, publishes_first, acknowledges, rises_first, falls_back, IsFollowed}
use Rattle.once_laws.specs.Once.{times}
use Rattle.once_laws.proofs.Effects.{left}
use Rattle.once_laws.proofs.Following.{IsLeft, IsAdded, first_of, mine_first}
use Rattle.once_laws.proofs.Following as following
use Rattle.once_laws.proofs.Labels.{risen_count, labelled}
use Rattle.once_laws.proofs.OpeningRows.{Resumes, arrives_opening}
use Rattle.once_laws.proofs.Parts.{IsIn, digit, counted, some}
use Rattle.once_laws.proofs.UpRows.{Keeps, arrives_up}
use Rattle.once_laws.proofs.Settled as settling
use Rattle.once_laws.proofs.Stepping.{OfRow, of_found, arrives_in, open_once}
use Rattle.once_laws.proofs.Holding.{IsGoing, Holds, entered, left_fewer, keeps_left}

module _ (s : Setup) (l : Sizes) where
  -- ---- A packet that arrives

  in_pending : (command : Pending) (commands : List Pending) → IsOneOf command commands → IsIn command commands
  in_pending command [] here = here
  in_pending command (other ∷ commands) (inl same) = inl same
  in_pending command (other ∷ commands) (inr here) = inr (in_pending command commands here)

  -- the PUBACK that arrives is of a publish that was passed on
  heard : (w : World) (x : Falling) (rest : List Falling) (t q : ℕ) → IsGoing s l w → w.down ≡ x ∷ rest → settling.IsHeard settling.is_first (λ id. p.PubAck id) t q (pending_of (entries w)) (c.Arrived x.packet) (times t q w)
  heard w x rest t q going is command one task seq kind cause_is =
      let n = command.id in
      let h = going.followed t q n in
      let packet_is : x.packet ≡ p.PubAck n = ap (packet_of x.packet) cause_is in
      let back : falls_back n x ≡ true = ap (acknowledges n) packet_is ∙ eq-eqb n n refl in
      let mine : is_mine t q n command ≡ true = rw (eq-eqb command.id n refl, kind, task, seq) (rw (eq-eqb t t refl, eq-eqb q q refl) refl) in
      let some_mine = some (is_mine t q n) command (pending_of (entries w)) (in_pending command (pending_of (entries w)) one) mine in
      omega (arith, h.heard, some_mine, ap (count_by (falls_back n)) is, counted (falls_back n) x rest, ap digit back)
    where
      packet_of : Packet → Cause → Packet
      packet_of other (c.Arrived packet) = packet
      packet_of other c.Opened = other
      packet_of other (c.Take a b d) = other
      packet_of other (c.Broke reason) = other
      packet_of other c.Tick = other
      packet_of other c.GaveUp = other
      packet_of other c.Finish = other

  up_row : (n : ℕ) (past : List Entry) (at : ℕ) (packet : Packet) (found : Row) → IsLegalPast s l past → phase_of s l past ≡ Up → row s l past at (c.Arrived packet) ≡ Some found → count_by (is_of n) (pending_of past) ≤ 1
      → Keeps n (pending_of past) (digit (acknowledges n packet)) (Some found)
  up_row n past at packet found legal up e alone =
      of_found (λ row. Keeps n (pending_of past) (digit (acknowledges n packet)) (Some row)) (row s l past at (c.Arrived packet)) found e
      (arrives_in (λ row. Keeps n (pending_of past) (digit (acknowledges n packet)) (Some row)) s l (readings s l past) at packet Up up
      (as_row (arrivals.up_row s l (readings s l past) packet) (arrives_up n s l (readings s l past) alone (open_once s l past legal) packet)))
    where
      as_row : (x : Option Row) → Keeps n (pending_of past) (digit (acknowledges n packet)) x → OfRow (λ row. Keeps n (pending_of past) (digit (acknowledges n packet)) (Some row)) x
      as_row None h = tt
      as_row (Some row) h = h

  opening_row : (n : ℕ) (past : List Entry) (at : ℕ) (packet : Packet) (found : Row) → phase_of s l past ≡ Opening → row s l past at (c.Arrived packet) ≡ Some found → Resumes n (pending_of past) (Some found)
  opening_row n past at packet found opening e =
      of_found (λ row. Resumes n (pending_of past) (Some row)) (row s l past at (c.Arrived packet)) found e
      (arrives_in (λ row. Resumes n (pending_of past) (Some row)) s l (readings s l past) at packet Opening opening
      (as_row (arrivals.opening_row s (readings s l past) packet) (arrives_opening n s (readings s l past) packet)))
    where
      as_row : (x : Option Row) → Resumes n (pending_of past) x → OfRow (λ row. Resumes n (pending_of past) (Some row)) x
      as_row None h = tt
      as_row (Some row) h = h

  -- a packet without a row is passed over
  passed_over : (w : World) (x : Falling) (rest : List Falling) → w.down ≡ x ∷ rest → Holds s l w → Holds s l (record w { down = rest })
  passed_over w x rest is h = record {
    legal = h.legal;
    settled = h.settled;
    going = λ on.
        let g = h.going on in
        record {
          followed = λ t q n. following.dropped t q n (pending_of (entries w)) w.up x rest (times t q w) (subst (λ down. IsFollowed t q n (pending_of (entries w)) w.up down (times t q w)) is (g.followed t q n));
          quiet = λ begins n. let z = g.quiet begins n in (z.0, omega (arith, z.1, ap (count_by (falls_back n)) is, counted (falls_back n) x rest));
        };
  }

  pub arrives : (w : World) (at : ℕ) (x : Falling) (rest : List Falling) → playing.is_connected (phase s l w) ≡ true → w.down ≡ x ∷ rest → Holds s l w → Holds s l (stepped s l x.place at (c.Arrived x.packet) (record w { down = rest }))
  arrives w at x rest there is h = go (row s l (entries w) at (c.Arrived x.packet)) refl
    where
      by_phase : (phase : Phase) → playing.is_connected phase ≡ true → (phase ≡ Opening) ⊎ (phase ≡ Up)
      by_phase Opening e = inl refl
      by_phase Up e = inr refl
      by_phase Down e = absurd (cc e)
      by_phase Spilled e = absurd (cc e)
      by_phase Off e = absurd (cc e)

      on : phase s l w ≡ Off → ⊥
      on off = cc (sym there ∙ ap playing.is_connected off)

      left_over : World
      left_over = record w { down = rest }

      go : (found : Option Row) → row s l (entries w) at (c.Arrived x.packet) ≡ found → Holds s l (stepped_by s l found x.place at (c.Arrived x.packet) (record w { down = rest }))
      go None e = passed_over w x rest is h
      go (Some found) e =
          entered s l w (stepped_by s l (Some found) x.place at (c.Arrived x.packet) (record w { down = rest })) at (c.Arrived x.packet) found e h refl refl
          (λ t q. heard w x rest t q (h.going on) is)
          (λ goes_on t q n. follows goes_on t q n ((h.going on).followed t q n) (by_phase (phase s l w) there))
          (λ goes_on begins n. silent goes_on begins n ((h.going on).followed 0 0 n) (by_phase (phase s l w) there))
        where
          commands : List Pending
          commands = left (pending_of (entries w)) found.effects

          more : List Rising
          more = map (world.rising s l (c.Arrived x.packet) (left (pending_of (entries w)) found.effects)) (sends found.effects)

          risen : (n : ℕ) → count_by (rises_first n) (map (world.rising s l (c.Arrived x.packet) (left (pending_of (entries w)) found.effects)) (sends found.effects)) ≡ count_by (publishes_first n) (sends found.effects)
          risen n = risen_count s l n (c.Arrived x.packet) (left (pending_of (entries w)) found.effects) (sends found.effects)

          in_up : (t q n : ℕ) → (found.phase ≡ Off → ⊥) → IsFollowed t q n (pending_of (entries w)) w.up w.down (times t q w) → Keeps n (pending_of (entries w)) (digit (acknowledges n x.packet)) (Some found)
              → IsFollowed t q n (left (pending_of (entries w)) found.effects) (w.up ++ map (world.rising s l (c.Arrived x.packet) (left (pending_of (entries w)) found.effects)) (sends found.effects)) rest (times t q w)
          in_up t q n goes_on was (inl off) = absurd (goes_on off)
          in_up t q n goes_on was (inr (ongoing, kept)) =
              following.entered t q n (pending_of (entries w)) (left (pending_of (entries w)) found.effects) w.up
              (map (world.rising s l (c.Arrived x.packet) (left (pending_of (entries w)) found.effects)) (sends found.effects)) w.down rest (times t q w) (digit (acknowledges n x.packet)) was
              (keeps_left s l t q n (pending_of (entries w)) (digit (acknowledges n x.packet)) found.effects kept) (ap (count_by (falls_back n)) is ∙ counted (falls_back n) x rest) (risen n ∙ kept.sends)

          in_opening : (t q n : ℕ) → (found.phase ≡ Off → ⊥) → phase s l w ≡ Opening → IsFollowed t q n (pending_of (entries w)) w.up w.down (times t q w) → Resumes n (pending_of (entries w)) (Some found)
              → IsFollowed t q n (left (pending_of (entries w)) found.effects) (w.up ++ map (world.rising s l (c.Arrived x.packet) (left (pending_of (entries w)) found.effects)) (sends found.effects)) rest (times t q w)
          in_opening t q n goes_on opening was (inl off) = absurd (goes_on off)
          in_opening t q n goes_on opening was (inr again) =
              let none = (h.going on).quiet (ap is_beginning opening) n in
              let behind : List Pending = left (pending_of (entries w)) found.effects in
              let fewer_of = left_fewer s l (is_of n) (pending_of (entries w)) found.effects in
              following.resumed t q n (pending_of (entries w)) behind w.up (map (world.rising s l (c.Arrived x.packet) behind) (sends found.effects)) rest (times t q w) was.alone fewer_of none.0
              (omega (arith, none.1, ap (count_by (falls_back n)) is, counted (falls_back n) x rest)) (omega (arith, risen n, again.most))
              (omega (arith, risen n, labelled s l t q n x.packet behind (sends found.effects) (omega (arith, fewer_of, was.alone)) again.most))

          follows : (found.phase ≡ Off → ⊥) → (t q n : ℕ) → IsFollowed t q n (pending_of (entries w)) w.up w.down (times t q w) → (phase s l w ≡ Opening) ⊎ (phase s l w ≡ Up)
              → IsFollowed t q n (left (pending_of (entries w)) found.effects) (w.up ++ map (world.rising s l (c.Arrived x.packet) (left (pending_of (entries w)) found.effects)) (sends found.effects)) rest (times t q w)
          follows goes_on t q n was (inl opening) = in_opening t q n goes_on opening was (opening_row n (entries w) at x.packet found opening e)
          follows goes_on t q n was (inr up) = in_up t q n goes_on was (up_row n (entries w) at x.packet found h.legal up e was.alone)

          silent : (found.phase ≡ Off → ⊥) → is_beginning found.phase ≡ true → (n : ℕ) → IsFollowed 0 0 n (pending_of (entries w)) w.up w.down (times 0 0 w) → (phase s l w ≡ Opening) ⊎ (phase s l w ≡ Up)
              → (count_by (rises_first n) (w.up ++ map (world.rising s l (c.Arrived x.packet) (left (pending_of (entries w)) found.effects)) (sends found.effects)) ≡ 0) × (count_by (falls_back n) rest ≡ 0)
          silent goes_on begins n was (inl opening) = still (opening_row n (entries w) at x.packet found opening e)
            where
              still : Resumes n (pending_of (entries w)) (Some found)
                  → (count_by (rises_first n) (w.up ++ map (world.rising s l (c.Arrived x.packet) (left (pending_of (entries w)) found.effects)) (sends found.effects)) ≡ 0) × (count_by (falls_back n) rest ≡ 0)
              still (inl off) = absurd (goes_on off)
              still (inr again) =
                  let none = (h.going on).quiet (ap is_beginning opening) n in
                  let added = map (world.rising s l (c.Arrived x.packet) (left (pending_of (entries w)) found.effects)) (sends found.effects) in
                  (omega (arith, none.0, count_append (rises_first n) w.up added, risen n, again.none begins), omega (arith, none.1, ap (count_by (falls_back n)) is, counted (falls_back n) x rest))
          silent goes_on begins n was (inr up) = absurd (not_beginning (up_row n (entries w) at x.packet found h.legal up e was.alone))
            where
              not_beginning : Keeps n (pending_of (entries w)) (digit (acknowledges n x.packet)) (Some found) → ⊥
              not_beginning (inl off) = goes_on off
              not_beginning (inr (ongoing, kept)) = cc (sym begins ∙ ongoing)
