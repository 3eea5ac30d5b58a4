-- A request that is taken keeps what holds at quality of service 2.
use Rattle.std.proofs.Common.{◌≡◌, ◌⊎◌, ℕ, ◌+◌, ◌≤◌, Bool, true, false, List, [], ◌∷◌, ◌++◌, map, filter, count_by, Option, Some, None, refl, sym, ap, ◌∙◌, arith}
use Rattle.std.specs.Prelude.{◌==◌, ◌&&◌}
use Rattle.std.specs.List.{AllByRecursion}
use Rattle.std.proofs.lemmas.Bool.{eqb-true, and_parts}
use mathlib.Core.Logic.{inl, inr}
use Rattle.mqtt_packet.specs.declared.packet.Packet.{Packet}
use Rattle.mqtt_packet.specs.declared.packet.Packet.TheVariants as p
use Rattle.agent_journal.specs.declared.entry.Cause.{Cause}
use Rattle.agent_journal.specs.declared.entry.Cause.TheVariants as c
use Rattle.agent_journal.specs.declared.entry.Entry.{Entry}
use Rattle.agent_journal.specs.declared.request.Request.{Request}
use Rattle.agent_journal.specs.declared.setup.Setup.{Setup}
use Rattle.agent_journal.specs.declared.setup.Phase.{Phase}
use Rattle.agent_journal.specs.declared.setup.Phase.TheVariants.{Down, Opening, Up, Spilled, Off}
use Rattle.agent_journal.specs.Readings.{Pending, pending_of, takes_of}
use Rattle.agent_journal.specs.Wires.{sends}
use Rattle.agent_table.specs.Deliveries.{is_open_publish, is_exactly_once, released_of}
use Rattle.agent_table.specs.Histories.{IsLegalPast, phase_of, readings, row}
use Rattle.agent_table.specs.Laws.{HasIdentifiers}
use Rattle.agent_table.specs.Rows.{Row}
use Rattle.agent_table.specs.Sizes.{Sizes}
use Rattle.agent_table.specs.Takes as table
use Rattle.session_world.specs.World.{World, Rising, entries, kept, phase, rising, stepped, stepped_by}
use Rattle.once_laws.specs.Counted.{digit, publishes_second, releases, brings, IsTidy, IsCounted}
use Rattle.once_laws.specs.Followed.{is_of, is_beginning}
use Rattle.once_laws.specs.Home.{received_of, is_connect}
use Rattle.once_laws.specs.Once.{was_taken, times}
use Rattle.agent_table.proofs.Counts.{opened}
use Rattle.once_laws.proofs.Balance.{Keeps, is_opening, entry_of, entered, counts_now, balance_now, frozen, labelled_later, asked_labelled, all_both, IsLabelled}
use Rattle.once_laws.proofs.Counting.{IsRest, IsNext, told_tidy, told_counted, opened_tidy, opened_counted, brought_second}
use Rattle.once_laws.proofs.Homes.{home_entered, stays_home, rising_own, rising_none, askeds}
use Rattle.once_laws.proofs.Labels.{risen_any, risen_second}
use Rattle.once_laws.proofs.Parts.{counted}
use Rattle.once_laws.proofs.Settled as settling
use Rattle.once_laws.proofs.Stepping.{OfRow, of_found, takes_in, legal_behind, open_once, is_new, is_free}
use Rattle.once_laws.proofs.TakenRows.{taken, raised}
use Rattle.once_laws.proofs.TakenSeconds.{IsRow, IsTakenRow, Opens, opens_up}
use Rattle.once_laws.proofs.UpSeconds.{none_aside, second_aside, rest_of}

pub off_or : (phase : Phase) → (phase ≡ Off) ⊎ (phase ≡ Off → ⊥)
off_or Off = inl refl
off_or Down = inr (λ e. cc e)
off_or Opening = inr (λ e. cc e)
off_or Up = inr (λ e. cc e)
off_or Spilled = inr (λ e. cc e)

module _ (s : Setup) (l : Sizes) where
  -- ---- Labels

  one_taken : (t q n task seq : ℕ) (request : Request) (commands : List Pending) (packet : Packet) → digit (brings t q n (rising s l (c.Take task seq request) commands packet)) ≡ digit (publishes_second n packet && (task == t && seq == q))
  one_taken t q n task seq request commands (p.Publish dup qos retain topic id payload) = refl
  one_taken t q n task seq request commands p.PingReq = refl
  one_taken t q n task seq request commands p.PingResp = refl
  one_taken t q n task seq request commands p.Disconnect = refl
  one_taken t q n task seq request commands (p.Connect a b d e f g) = refl
  one_taken t q n task seq request commands (p.ConnAck a b) = refl
  one_taken t q n task seq request commands (p.PubAck a) = refl
  one_taken t q n task seq request commands (p.PubRec a) = refl
  one_taken t q n task seq request commands (p.PubRel a) = refl
  one_taken t q n task seq request commands (p.PubComp a) = refl
  one_taken t q n task seq request commands (p.Subscribe a b) = refl
  one_taken t q n task seq request commands (p.SubAck a b) = refl
  one_taken t q n task seq request commands (p.Unsubscribe a b) = refl
  one_taken t q n task seq request commands (p.UnsubAck a) = refl

  -- what another command brings
  other_brought : (t q n task seq : ℕ) (request : Request) (commands : List Pending) (packets : List Packet) → (task == t && seq == q) ≡ false → count_by (brings t q n) (map (rising s l (c.Take task seq request) commands) packets) ≡ 0
  other_brought t q n task seq request commands [] differ = refl
  other_brought t q n task seq request commands (packet ∷ packets) differ =
      omega (
        arith,
        counted (brings t q n) (rising s l (c.Take task seq request) commands packet) (map (rising s l (c.Take task seq request) commands) packets),
        one_taken t q n task seq request commands packet,
        ap (λ b. digit (publishes_second n packet && b)) differ ∙ none (publishes_second n packet),
        other_brought t q n task seq request commands packets differ,
      )
    where
      none : (b : Bool) → digit (b && false) ≡ 0
      none true = refl
      none false = refl

  -- ---- The row

  takes_row : (t q n : ℕ) (past : List Entry) (at task seq : ℕ) (request : Request) (found : Row) → HasIdentifiers l → IsLegalPast s l past → phase_of s l past ≡ Up → row s l past at (c.Take task seq request) ≡ Some found
      → count_by (is_of n) (pending_of past) ≤ 1 → IsRow s l t q n (readings s l past) task seq request found
  takes_row t q n past at task seq request found free legal up e alone =
      of_found (IsRow s l t q n (readings s l past) task seq request) (row s l past at (c.Take task seq request)) found e
      (takes_in (IsRow s l t q n (readings s l past) task seq request) s l (readings s l past) at task seq request Up up
      (as_row (table.up_row s l (readings s l past) task seq request)
      (opens_up s l t q n (readings s l past) alone task seq (is_new s l past at task seq request found e legal) (is_free s l past free legal) request)))
    where
      as_row : (x : Option Row) → Opens s l t q n (readings s l past) task seq request x → OfRow (IsRow s l t q n (readings s l past) task seq request) x
      as_row None h = tt
      as_row (Some row) h = h

  pub takes : (w : World) (at : ℕ) (request : Request) → HasIdentifiers l → phase s l w ≡ Up → Keeps s l w → Keeps s l (stepped s l None at (c.Take 0 (takes_of 0 (entries w)) request) w)
  takes w at request free up h = go (row s l (entries w) at (c.Take 0 (takes_of 0 (entries w)) request)) refl
    where
      on : phase s l w ≡ Off → ⊥
      on off = cc (sym up ∙ off)

      go : (x : Option Row) → row s l (entries w) at (c.Take 0 (takes_of 0 (entries w)) request) ≡ x → Keeps s l (stepped_by s l x None at (c.Take 0 (takes_of 0 (entries w)) request) w)
      go None e = h
      go (Some found) e = by (off_or found.phase)
        where
          seq : ℕ
          seq = takes_of 0 (entries w)

          cause : Cause
          cause = c.Take 0 (takes_of 0 (entries w)) request

          old : List Pending
          old = pending_of (entries w)

          new : List Pending
          new = taken (pending_of (entries w)) 0 (takes_of 0 (entries w)) request found.effects

          more : List Rising
          more = raised s l (taken (pending_of (entries w)) 0 (takes_of 0 (entries w)) request found.effects) 0 (takes_of 0 (entries w)) request found.effects

          behind : World
          behind = stepped_by s l (Some found) None at (c.Take 0 (takes_of 0 (entries w)) request) w

          fact : (t q n : ℕ) → IsRow s l t q n (readings s l (entries w)) 0 (takes_of 0 (entries w)) request found
          fact t q n = takes_row t q n (entries w) at 0 (takes_of 0 (entries w)) request found free h.legal up e ((balance_now s l w h on).tidy n).alone

          releases_is : (n : ℕ) → count_by (λ (x : Rising). releases n x.packet) (raised s l (taken (pending_of (entries w)) 0 (takes_of 0 (entries w)) request found.effects) 0 (takes_of 0 (entries w)) request found.effects) ≡ 0
          releases_is n = risen_any s l (releases n) (c.Take 0 (takes_of 0 (entries w)) request) (taken (pending_of (entries w)) 0 (takes_of 0 (entries w)) request found.effects) (sends found.effects) ∙ (fact 0 0 n).silent

          labelled : AllByRecursion (IsLabelled (entry_of s l at (c.Take 0 (takes_of 0 (entries w)) request) found ∷ entries w))
              (w.up ++ raised s l (taken (pending_of (entries w)) 0 (takes_of 0 (entries w)) request found.effects) 0 (takes_of 0 (entries w)) request found.effects)
          labelled =
              all_both (IsLabelled (entry_of s l at (c.Take 0 (takes_of 0 (entries w)) request) found ∷ entries w)) w.up
              (raised s l (taken (pending_of (entries w)) 0 (takes_of 0 (entries w)) request found.effects) 0 (takes_of 0 (entries w)) request found.effects)
              (labelled_later (entries w) (entry_of s l at (c.Take 0 (takes_of 0 (entries w)) request) found) w.up h.labelled)
              (asked_labelled s l (entries w) (entry_of s l at (c.Take 0 (takes_of 0 (entries w)) request) found) 0 (takes_of 0 (entries w)) request
              (taken (pending_of (entries w)) 0 (takes_of 0 (entries w)) request found.effects) (sends found.effects) refl (fact 0 0 0).asked)

          none : AllByRecursion (λ (packet : Packet). is_connect packet ≡ false) (sends found.effects)
          none = askeds request (sends found.effects) (fact 0 0 0).asked

          closed : (phase : Phase) → phase ≡ Up → is_opening s l phase ≡ false
          closed Up e = refl
          closed Down e = refl
          closed Opening e = absurd (cc e)
          closed Spilled e = refl
          closed Off e = refl

          whole : (commands : List Pending) (released : List ℕ) → ((i j : ℕ) → opened i j commands ≤ 1)
              → ((n : ℕ) → IsTidy n commands released (received_of (kept w)) (w.up ++ raised s l (taken (pending_of (entries w)) 0 (takes_of 0 (entries w)) request found.effects) 0 (takes_of 0 (entries w)) request found.effects) w.down)
              → ((t q n : ℕ) → was_taken settling.is_second t q (entry_of s l at (c.Take 0 (takes_of 0 (entries w)) request) found ∷ entries w) ≡ true → times t q w ≤ 1
              → IsCounted t q n commands released (received_of (kept w)) (w.up ++ raised s l (taken (pending_of (entries w)) 0 (takes_of 0 (entries w)) request found.effects) 0 (takes_of 0 (entries w)) request found.effects)
              (times t q w))
              → ((found.phase ≡ Off → ⊥)
              → (commands ≡ pending_of (entry_of s l at (c.Take 0 (takes_of 0 (entries w)) request) found ∷ entries w)) × (released ≡ released_of (entry_of s l at (c.Take 0 (takes_of 0 (entries w)) request) found ∷ entries w)))
              → (is_beginning found.phase ≡ true → ⊥) → Keeps s l (stepped_by s l (Some found) None at (c.Take 0 (takes_of 0 (entries w)) request) w)
          whole commands released single tidy counts now ongoing =
              entered s l w (stepped_by s l (Some found) None at (c.Take 0 (takes_of 0 (entries w)) request) w) at (c.Take 0 (takes_of 0 (entries w)) request) found e h refl refl
              (λ t q command one task seq kind is. absurd (cc is)) labelled commands released single tidy counts now (λ begins n. absurd (ongoing begins))
              (home_entered s l w (stepped_by s l (Some found) None at (c.Take 0 (takes_of 0 (entries w)) request) w) at (c.Take 0 (takes_of 0 (entries w)) request) found
              (raised s l (taken (pending_of (entries w)) 0 (takes_of 0 (entries w)) request found.effects) 0 (takes_of 0 (entries w)) request found.effects) e h.at_home on refl refl
              (stays_home s l s.client (kept w) h.at_home.home) refl refl (rising_own s l (c.Take 0 (takes_of 0 (entries w)) request) (taken (pending_of (entries w)) 0 (takes_of 0 (entries w)) request found.effects) (sends found.effects) none)
              (closed (phase s l w) up)
              (omega (arith, rising_none s l (c.Take 0 (takes_of 0 (entries w)) request) (taken (pending_of (entries w)) 0 (takes_of 0 (entries w)) request found.effects) (sends found.effects) none)))

          by : (found.phase ≡ Off) ⊎ (found.phase ≡ Off → ⊥) → Keeps s l (stepped_by s l (Some found) None at (c.Take 0 (takes_of 0 (entries w)) request) w)
          by (inl off) =
              whole (pending_of (entries w)) (released_of (entries w)) (open_once s l (entries w) h.legal)
              (λ n. told_tidy 0 0 n old old (released_of (entries w)) (released_of (entries w)) _ w.up more w.down w.down 0 0 0 ((balance_now s l w h on).tidy n)
              (frozen 0 0 n old (released_of (entries w)) 0 0 ((balance_now s l w h on).tidy n).alone) (heard n))
              (λ t q n label most. told_counted t q n old old (released_of (entries w)) (released_of (entries w)) _ w.up more w.down w.down 0 0 0 (times t q w) most ((balance_now s l w h on).tidy n)
              (counts_now s l w at cause found e h on t q n label) (frozen t q n old (released_of (entries w)) 0 0 ((balance_now s l w h on).tidy n).alone) (heard n))
              (λ goes_on. absurd (goes_on off)) (λ begins. cc (sym (ap is_beginning off) ∙ begins))
            where
              heard : (n : ℕ) → IsNext n more w.down w.down 0 0 0
              heard n = record {
                second = risen_second s l n cause new (sends found.effects) ∙ none_aside (publishes_second n) (second_aside n) (sends found.effects) ((fact 0 0 n).aside off);
                release = releases_is n;
                receive = omega arith;
                complete = omega arith;
                apart = omega arith;
              }
          by (inr goes_on) =
              whole new (filter (is_open_publish is_exactly_once new) (released_of (entries w))) (open_once s l (entry_of s l at cause found ∷ entries w) (legal_behind s l (entries w) at cause found e h.legal))
              (λ n. opened_tidy 0 0 n old new (released_of (entries w)) _ _ w.up more w.down (opens 0 0 n).adds ((balance_now s l w h on).tidy n) (opens 0 0 n).opened (releases_is n) (rest 0 0 n))
              (λ t q n label most. opened_counted t q n old new (released_of (entries w)) _ _ w.up more w.down (opens t q n).adds (times t q w) most (unborn t q n most (0 == t && seq == q) refl)
              ((balance_now s l w h on).tidy n) (counts_now s l w at cause found e h on t q n label) (opens t q n).opened (rest t q n))
              (λ off. (refl, refl)) (λ begins. cc (sym begins ∙ (opens 0 0 0).ongoing))
            where
              opens : (t q n : ℕ) → IsTakenRow s l t q n (readings s l (entries w)) 0 (takes_of 0 (entries w)) request found
              opens t q n = pick (fact t q n).taken_row
                where
                  pick : (found.phase ≡ Off) ⊎ IsTakenRow s l t q n (readings s l (entries w)) 0 (takes_of 0 (entries w)) request found → IsTakenRow s l t q n (readings s l (entries w)) 0 (takes_of 0 (entries w)) request found
                  pick (inl off) = absurd (goes_on off)
                  pick (inr it) = it

              rest : (t q n : ℕ) → IsRest n new (released_of (entries w)) (filter (is_open_publish is_exactly_once new) (released_of (entries w)))
              rest t q n = rest_of n new (released_of (entries w)) (omega (arith, (opens t q n).opened.all, (opens t q n).opened.free))

              unborn : (t q n : ℕ) → times t q w ≤ 1 → (b : Bool) → (0 == t && seq == q) ≡ b → times t q w + count_by (brings t q n) more ≤ 1
              unborn t q n most true is =
                  let two = and_parts (0 == t) (seq == q) is in
                  let task_is : 0 ≡ t = eqb-true 0 t two.0 in
                  let seq_is : seq ≡ q = eqb-true seq q two.1 in
                  let zero_is = h.unborn t q (omega (arith, seq_is, ap (λ (u : ℕ). takes_of u (entries w)) task_is)) in
                  omega (arith, zero_is, brought_second t q n more, (opens t q n).opened.few, (opens t q n).opened.free)
              unborn t q n most false is = omega (arith, most, other_brought t q n 0 seq request new (sends found.effects) is)
