-- What each connection gave, by what a receive brings: bytes, packets, and what is none.
use Rattle.std.proofs.Common.{◌≡◌, ℕ, ◌<◌, true, false, List, [], ◌∷◌, ◌++◌, length, Some, None, refl, sym, ap, ◌∙◌, subst, arith, append_assoc, length-append, inl, inr}
use Rattle.std.proofs.lemmas.List.{append-nil}
use Rattle.mqtt_packet.specs.declared.packet.Packet.{Packet}
use Rattle.mqtt_packet.specs.declared.splitter.Next.{Next}
use Rattle.mqtt_packet.specs.declared.splitter.Next.TheVariants as answers
use Rattle.mqtt_packet.specs.Fronts.{front_of}
use Rattle.mqtt_packet.specs.Grammar.{Spells}
use Rattle.mqtt_packet.specs.Splitting.{Kept as Stream, StandsFor, MayDrop, Tells}
use Rattle.mqtt_packet.specs.Steps.{next_of, fed_to, fed_in}
use Rattle.mqtt_packet.specs.Stream.{AreBytes, SpellAll}
use Rattle.mqtt_packet.proofs.Fronts.{spell_one}
use Rattle.mqtt_packet.proofs.Stands.{Goes, next_on, feed_on, kept_after}
use Rattle.mqtt_packet.proofs.Uniqueness.{have_one_spelling}
use Rattle.agent_link.specs.Wires.{onto_last}
use Rattle.agent_journal.specs.declared.entry.Cause.TheVariants as c
use Rattle.agent_journal.specs.declared.entry.Why.{Why}
use Rattle.agent_journal.specs.declared.entry.Why.TheVariants as why
use Rattle.agent_journal.specs.declared.setup.Phase.{Phase}
use Rattle.agent_journal.specs.declared.setup.Phase.TheVariants.{Down, Opening, Up, Spilled, Off}
use Rattle.agent_table.specs.Histories.{readings}
use Rattle.agent_table.specs.Rows.{Row}
use Rattle.agent_table.specs.Ties.{Moment, stages, listens, arrived, has_verdict, Rejects, BeginsWith, Heard}
use Rattle.agent_ties.specs.Seen.{entry, fresh, Seen, phase_seen, row_seen, with_entry}
use Rattle.agent_ties.proofs.Rows.{in_time, fault_leads, fault_phase}
use Rattle.agent_ties.specs.Heard.{IsGoing, IsHandedIn, LastHeard, AreHeard, AreHanding}
use Rattle.agent_ties.proofs.Heard.{listened, told as told_of, is_heard, of_both, arrived_more, quiet_more, on_any, on_last, newest}
use Rattle.agent_ties.proofs.Seen.{phase_is}
use Rattle.agent_ties.specs.Wired.{TiedBut}
use Rattle.agent_ties.proofs.Wires.{bytes_on, one_more, turned}

-- ---- One connection

-- the next packet is handed out, and isn't handed in yet
pub record IsNext (packet : Packet) (stream : Stream) (ms : List Moment) (bs : List ℕ) : Type 0 where
  pub stands : StandsFor stream bs (arrived ms ++ packet ∷ [])
  pub unended : stream.verdict ≡ None
  pub quiet : has_verdict ms ≡ false

module _ (k new : Stream) (ms : List Moment) (bs : List ℕ) (h : IsGoing k ms bs) where
  goes : (next : Next) → (next, new) ≡ next_of k → Goes bs (arrived ms) (next, new)
  goes next e = subst (λ answer. Goes bs (arrived ms) answer) (sym e) (next_on k bs (arrived ms) h.stands)

  pub next_packet : (packet : Packet) → (answers.Packet packet, new) ≡ next_of k → IsNext packet new ms bs
  next_packet packet e = record { stands = (goes (answers.Packet packet) e).stands; unended = kept_after k new (answers.Packet packet) e; quiet = h.quiet }

  pub next_none : (answers.More, new) ≡ next_of k → IsHandedIn new ms bs
  next_none e =
      record { going = record { stands = (goes answers.More e).stands; unended = kept_after k new answers.More e; quiet = h.quiet }; tells = (goes answers.More e).tells }

  pub next_bad : (at : ℕ) → (answers.Bad at, new) ≡ next_of k → Rejects bs (arrived ms) (why.Bad at)
  next_bad at e = (goes (answers.Bad at) e).tells

  pub next_long : (at len : ℕ) → (answers.TooLong at len, new) ≡ next_of k → Rejects bs (arrived ms) (why.TooLong len)
  next_long at len e = (at, (goes (answers.TooLong at len) e).tells)

  pub next_spells : (packet : Packet) → (answers.Packet packet, new) ≡ next_of k → (own : List ℕ) × Spells packet own
  next_spells packet e = let t = (goes (answers.Packet packet) e).tells in (t.1, t.5)

-- A packet leaves fewer bytes.

-- the last of these packets apart
last_apart : (packets : List Packet) (packet : Packet) (bytes : List ℕ) → SpellAll (packets ++ packet ∷ []) bytes → (front own : List ℕ) × (bytes ≡ front ++ own) × SpellAll packets front × Spells packet own
last_apart [] packet bytes (front, behind, split, spells, none) = ([], front, split ∙ ap (λ xs. front ++ xs) none ∙ append-nil front, refl, spells)
last_apart (one ∷ packets) packet bytes (front, behind, split, spells, others) =
    let (a, own, e, all, last) = last_apart packets packet behind others in
    (front ++ a, own, split ∙ ap (λ xs. front ++ xs) e ∙ sym (append_assoc front a own), (front, a, refl, spells, all), last)

same_length : (packets : List Packet) (a b : List ℕ) → SpellAll packets a → SpellAll packets b → length a ≡ length b
same_length [] a b h k = ap length (h ∙ sym k)
same_length (packet ∷ packets) a b (f, x, e, s, h) (g, y, d, t, k) =
    let one : length f ≡ length g = ap length (have_one_spelling packet f g s t) in
    let others = same_length packets x y h k in
    omega (arith, ap length e, length-append f x, ap length d, length-append g y, one, others)

some_size : (packet : Packet) (own : List ℕ) → Spells packet own → 0 < length own
some_size packet [] h = absurd (cc (spell_one packet [] h).0)
some_size packet (b ∷ own) h = omega arith

dropped_none : (k : Stream) (bs : List ℕ) (packets : List Packet) (s : StandsFor k bs packets) → k.verdict ≡ None → s.dropped ≡ []
dropped_none k bs packets s e = subst (λ verdict. MayDrop verdict s.dropped) e s.may_drop

fewer : (k new : Stream) (bs : List ℕ) (packets : List Packet) (packet : Packet) → StandsFor k bs packets → k.verdict ≡ None → StandsFor new bs (packets ++ packet ∷ []) → length new.rest < length k.rest
fewer k new bs packets packet s unended t =
    let (front, own, split, all, spells) = last_apart packets packet t.front t.spelled in
    let same = same_length packets s.front front s.spelled all in
    let some = some_size packet own spells in
    let none : length s.dropped ≡ 0 = ap length (dropped_none k bs packets s unended) in
    omega (
      arith,
      ap length s.stream,
      length-append s.front (k.rest ++ s.dropped),
      length-append k.rest s.dropped,
      none,
      ap length t.stream,
      length-append t.front (new.rest ++ t.dropped),
      length-append new.rest t.dropped,
      ap length split,
      length-append front own,
      same,
      some,
    )

pub shorter : (k new : Stream) (ms : List Moment) (bs : List ℕ) (packet : Packet) → IsGoing k ms bs → (answers.Packet packet, new) ≡ next_of k → length new.rest < length k.rest
shorter k new ms bs packet h e = fewer k new bs (arrived ms) packet h.stands h.unended (next_packet k new ms bs h packet e).stands

-- ---- All connections

module _ (v : Seen) (on : listens (phase_seen v) ≡ true) where
  -- bytes come
  pub fed_on : (piece : List ℕ) → AreBytes piece → AreHeard v → AreHanding (record v { given = onto_last v.given piece; stream = fed_to v.stream piece })
  fed_on piece fits h =
      bytes_on Heard (LastHeard IsHandedIn (phase_seen v) v.stream) (LastHeard IsGoing (phase_seen v) (fed_to v.stream piece)) piece
      (λ ms bs l. of_both IsGoing (phase_seen v) (fed_to v.stream piece) ms (bs ++ piece) (λ is. fed ms bs (listened IsHandedIn (phase_seen v) v.stream ms bs on l)) (λ is. absurd (cc (sym on ∙ is))))
      (stages v.setup v.sizes v.past) v.given h
    where
      fed : (ms : List Moment) (bs : List ℕ) → IsHandedIn v.stream ms bs → IsGoing (fed_to v.stream piece) ms (bs ++ piece)
      fed ms bs i =
          record {
            stands = feed_on v.stream (fed_to v.stream piece) piece bs (arrived ms) refl fits i.going.stands;
            unended = ap (λ x. (fed_in v.stream x piece).verdict) i.going.unended;
            quiet = i.going.quiet;
          }

  module _ (new : Stream) (h : AreHanding v) where
    -- no whole packet is left
    pub none_left : (answers.More, new) ≡ next_of v.stream → AreHeard (record v { stream = new })
    none_left e =
        turned Heard (LastHeard IsGoing (phase_seen v) v.stream) (LastHeard IsHandedIn (phase_seen v) new)
        (λ ms bs l. of_both IsHandedIn (phase_seen v) new ms bs (λ is. next_none v.stream new ms bs (listened IsGoing (phase_seen v) v.stream ms bs on l) e) (λ is. absurd (cc (sym on ∙ is))))
        (stages v.setup v.sizes v.past) v.given h

    -- a packet is left
    pub one_left : (packet : Packet) → (answers.Packet packet, new) ≡ next_of v.stream → TiedBut Heard (IsNext packet new) (stages v.setup v.sizes v.past) v.given
    one_left packet e =
        turned Heard (LastHeard IsGoing (phase_seen v) v.stream) (IsNext packet new) (λ ms bs l. next_packet v.stream new ms bs (listened IsGoing (phase_seen v) v.stream ms bs on l) packet e) (stages v.setup v.sizes v.past) v.given h

    -- what is left is no packet
    pub rejected : (reason : Why) → ((ms : List Moment) (bs : List ℕ) → IsGoing v.stream ms bs → Rejects bs (arrived ms) reason)
        → TiedBut Heard (λ ms bs. Rejects bs (arrived ms) reason × (has_verdict ms ≡ false)) (stages v.setup v.sizes v.past) v.given
    rejected reason says =
        turned Heard (LastHeard IsGoing (phase_seen v) v.stream) (λ ms bs. Rejects bs (arrived ms) reason × (has_verdict ms ≡ false))
        (λ ms bs l. let g = listened IsGoing (phase_seen v) v.stream ms bs on l in (says ms bs g, g.quiet)) (stages v.setup v.sizes v.past) v.given h

-- where the agent doesn't listen any more
pub stopped : (v : Seen) → listens (phase_seen v) ≡ false → AreHanding v → AreHeard v
stopped v off h =
    turned Heard (LastHeard IsGoing (phase_seen v) v.stream) (LastHeard IsHandedIn (phase_seen v) v.stream)
    (λ ms bs l. of_both IsHandedIn (phase_seen v) v.stream ms bs (λ is. absurd (cc (sym is ∙ off))) (λ is. told_of IsGoing (phase_seen v) v.stream ms bs off l)) (stages v.setup v.sizes v.past) v.given h

-- ---- The entry of a packet

module _ (now : ℕ) (v : Seen) (packet : Packet) (found : Row) (e : row_seen v now (c.Arrived packet) ≡ Some found)
    (h : TiedBut Heard (IsNext packet v.stream) (stages v.setup v.sizes v.past) v.given) where
  abbrev own : Moment
  own = newest now v (c.Arrived packet) found e

  begins : (ms : List Moment) (bs : List ℕ) → IsNext packet v.stream ms bs → BeginsWith bs (arrived (ms ++ own ∷ []))
  begins ms bs n = subst (λ ps. BeginsWith bs ps) (sym (arrived_more ms own)) (n.stands.front, v.stream.rest ++ n.stands.dropped, n.stands.stream, n.stands.spelled)

  -- it goes on, or the agent listens no more
  pub arrived_on : AreHanding (with_entry v now (c.Arrived packet) found)
  arrived_on =
      on_last now v (c.Arrived packet) found e IsGoing (IsNext packet v.stream) refl
      (λ ms bs n.
      of_both IsGoing found.phase v.stream (ms ++ own ∷ []) bs
      (λ is. record { stands = subst (λ ps. StandsFor v.stream bs ps) (sym (arrived_more ms own)) n.stands; unended = n.unended; quiet = quiet_more ms own n.quiet refl })
      (λ is. inr (inr (ms, own, [], packet, refl, refl, ap listens (phase_is now v (c.Arrived packet) found e) ∙ is, refl, quiet_more ms own n.quiet refl, begins ms bs n)))) h

  -- a fault comes directly behind it
  abbrev HasCome : List Moment → List ℕ → Type 0
  HasCome all bs = (ms : List Moment) × (all ≡ ms ++ own ∷ []) × IsNext packet v.stream ms bs

  away : (phase : Phase) → listens (fault_phase phase) ≡ false
  away Down = refl
  away Opening = refl
  away Up = refl
  away Spilled = refl
  away Off = refl

  pub arrived_cut : (taken : List (List ℕ)) (second : Row) → row_seen (with_entry v now (c.Arrived packet) found) now (c.Broke why.Fault) ≡ Some second
      → AreHanding (with_entry (record (with_entry v now (c.Arrived packet) found) { taken = taken }) now (c.Broke why.Fault) second)
  arrived_cut taken second is =
      let u = record (with_entry v now (c.Arrived packet) found) { taken = taken } in
      let q = readings u.setup u.sizes u.past in
      let broke = newest now u (c.Broke why.Fault) second is in
      let off : listens second.phase ≡ false = ap listens (fault_leads u.setup q second (phase_seen u) (in_time u.setup u.sizes q now (c.Broke why.Fault) second is)) ∙ away (phase_seen u) in
      on_last now u (c.Broke why.Fault) second is IsGoing HasCome refl
      (λ all bs come.
      of_both IsGoing second.phase v.stream (all ++ broke ∷ []) bs (λ on. absurd (cc (sym on ∙ off)))
      (λ gone.
      inr
      (inr (
        come.0,
        own,
        broke ∷ [],
        packet,
        ap (λ xs. xs ++ broke ∷ []) come.1 ∙ append_assoc come.0 (own ∷ []) (broke ∷ []),
        refl,
        inr (refl, ap listens (phase_is now u (c.Broke why.Fault) second is) ∙ off),
        refl,
        quiet_more all broke (quiet_is all come.0 come.1 come.2.quiet) refl,
        subst (λ ps. BeginsWith bs ps) (sym (arrived_more all broke ∙ append-nil (arrived all))) (subst (λ xs. BeginsWith bs (arrived xs)) (sym come.1) (begins come.0 bs come.2)),
      ))))
      (on_any now v (c.Arrived packet) found e (IsNext packet v.stream) HasCome refl (λ ms bs n. (ms, refl, n)) h)
    where
      quiet_is : (all ms : List Moment) → all ≡ ms ++ own ∷ [] → has_verdict ms ≡ false → has_verdict all ≡ false
      quiet_is all ms e quiet = ap has_verdict e ∙ quiet_more ms own quiet refl

-- ---- The entry of what is no packet

module _ (now : ℕ) (v : Seen) (reason : Why) (found : Row) (e : row_seen v now (c.Broke reason) ≡ Some found) (off : listens found.phase ≡ false)
    (h : TiedBut Heard (λ ms bs. Rejects bs (arrived ms) reason × (has_verdict ms ≡ false)) (stages v.setup v.sizes v.past) v.given) where
  pub rejected_on : AreHeard (with_entry v now (c.Broke reason) found)
  rejected_on =
      on_last now v (c.Broke reason) found e IsHandedIn (λ ms bs. Rejects bs (arrived ms) reason × (has_verdict ms ≡ false)) refl
      (λ ms bs n.
      of_both IsHandedIn found.phase v.stream (ms ++ newest now v (c.Broke reason) found e ∷ []) bs (λ on. absurd (cc (sym on ∙ off)))
      (λ gone. inr (inl (ms, newest now v (c.Broke reason) found e, [], reason, refl, refl, n.0, n.1, refl, refl)))) h

-- ---- The entry of a connection

fresh_stands : StandsFor fresh [] []
fresh_stands = record { bytes = λ i. omega arith; front = []; dropped = []; stream = refl; spelled = refl; at = refl; may_drop = refl; verdict = tt }

fresh_tells : Tells [] [] answers.More
unfolding front_of
fresh_tells = (next_on fresh [] [] fresh_stands).tells

module _ (now : ℕ) (v : Seen) (found : Row) (e : row_seen v now c.Opened ≡ Some found) (h : AreHeard v) where
  abbrev first : Moment
  first = newest now v c.Opened found e

  handed_first : IsHandedIn fresh (first ∷ []) []
  handed_first = record { going = record { stands = fresh_stands; unended = refl; quiet = refl }; tells = fresh_tells }

  pub opened_heard : AreHeard (with_entry (record v { given = v.given ++ [] ∷ []; stream = fresh }) now c.Opened found)
  opened_heard =
      subst (λ phase. TiedBut Heard (LastHeard IsHandedIn phase fresh) (stages v.setup v.sizes (entry now c.Opened found ∷ v.past)) (v.given ++ [] ∷ [])) (sym (phase_is now v c.Opened found e))
      (one_more Heard (LastHeard IsHandedIn (phase_seen v) v.stream) (LastHeard IsHandedIn found.phase fresh) (first ∷ []) [] (is_heard (phase_seen v) v.stream)
      (of_both IsHandedIn found.phase fresh (first ∷ []) [] (λ on. handed_first) (λ off. inl (refl, fresh_tells))) (stages v.setup v.sizes v.past) v.given h)
