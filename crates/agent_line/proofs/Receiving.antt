-- What a receive brings, and what follows it.
use Rattle.std.proofs.Common.{◌≡◌, ℕ, ◌<◌, ◌≤◌, true, false, List, [], ◌∷◌, ◌++◌, length, is_some, refl, sym, ap, ◌∙◌, subst, arith, inl, inr}
use Rattle.mqtt_packet.specs.declared.packet.Packet.{Packet}
use Rattle.mqtt_packet.specs.declared.splitter.Next.TheVariants as answers
use Rattle.mqtt_packet.specs.Splitting.{Kept as Stream, StandsFor}
use Rattle.mqtt_packet.specs.Steps.{next_of, fed_to, fed_in}
use Rattle.agent_link.specs.Wires.{onto_last}
use Rattle.agent_journal.specs.declared.entry.Cause.TheVariants as c
use Rattle.agent_journal.specs.Readings.{last_time_of}
use Rattle.agent_table.specs.Histories.{readings}
use Rattle.agent_table.specs.Ties.{Moment, stages, arrived, listens, Heard}
use Rattle.agent_ties.specs.Counting.{IsLater}
use Rattle.agent_ties.specs.Heard.{AreHeard, AreHanding, IsGoing, IsHandedIn, LastHeard}
use Rattle.agent_ties.specs.Seen.{Seen}
use Rattle.agent_ties.specs.Ties.{Ties, Handing}
use Rattle.agent_ties.specs.Wired.{TiedBut, AreWired}
use Rattle.agent_ties.proofs.Counting.{same_later, later_counted, plain_counted}
use Rattle.agent_ties.proofs.Handed.{shorter, none_left, stopped}
use Rattle.agent_ties.proofs.Heard.{listened, of_both}
use Rattle.agent_ties.proofs.Keeping.{packet_whole, packet_part}
use Rattle.agent_ties.proofs.Present.{going_there, none_gone, packet_row, silent_without}
use Rattle.agent_ties.proofs.Sends.{gone_away}
use Rattle.agent_ties.proofs.Wires.{bytes_on as more_bytes}
use Rattle.agent_line.specs.Recorded.{Recorded, phase_in, row_in}
use Rattle.agent_line.specs.Told.{Told, Follows, more_on, seen_in, Since}
use Rattle.agent_line.specs.Entered.{Arrives}
use Rattle.agent_line.proofs.Following.{follows_more}
use Rattle.agent_line.proofs.Since.{entered_on, since_map}

-- ---- A packet arrives

-- It was handed out, and has no entry yet.
record IsComing (now : ℕ) (stream : Stream) (v : Seen) : Type 0 where
  wired : AreWired v
  handing : AreHanding (record v { stream = stream })
  time : last_time_of v.past ≤ now

module _ (first : Told) (old new : Recorded) (at : ℕ) (packet : Packet) (before now : Told) (stream behind : Stream) (idle less : ℕ) (on : listens (phase_in old) ≡ true) (fewer : less ≤ idle)
    (e : (answers.Packet packet, behind) ≡ next_of stream) where
  there : (taken given : List (List ℕ)) → Handing at stream (seen_in old stream taken given) → is_some (row_in old at (c.Arrived packet)) ≡ true
  there taken given h =
      let (ms, bs, going) = going_there (seen_in old stream taken given) on h.handing in
      let (found, is) = packet_row at (seen_in old stream taken given) behind on h.time ms bs going packet e in
      ap is_some is

  pub arrives_on : Arrives old at packet before new now → Since (Handing at stream) first old stream idle before → Since (Handing at behind) first new behind less now
  arrives_on (inl none) since = absurd (cc (sym (there since.taken since.given since.ties) ∙ ap is_some none.0))
  arrives_on (inr h) since =
      entered_on (IsComing at stream) (Handing at behind) first old new at (c.Arrived packet) before now behind idle less h
      (λ taken given t none. silent_without at (seen_in old behind taken given) (c.Arrived packet) h.found h.is refl t.wired none)
      (λ counts counted.
      plain_counted old.setup old.sizes old.past first.counts at (c.Arrived packet) h.found h.is less counts (record { opened = refl; fault = refl; end = refl; idle = refl })
      (later_counted old.setup old.sizes old.past first.counts idle less counts counts fewer (same_later counts) counted))
      (λ taken given t. packet_whole at (seen_in old stream taken given) behind packet h.found on t.wired t.handing e h.is)
      (λ taken given t k second short is. packet_part at (seen_in old stream taken given) behind packet h.found on t.wired t.handing e h.is k second short is)
      (since_map (Handing at stream) (IsComing at stream) first old stream behind idle before (λ taken given t. record { wired = t.wired; handing = t.handing; time = t.time }) since)

-- A packet leaves fewer bytes.
pub smaller : {first : Told} {old : Recorded} {at : ℕ} {before : Told} {stream : Stream} {idle : ℕ} (packet : Packet) (behind : Stream) → listens (phase_in old) ≡ true → (answers.Packet packet, behind) ≡ next_of stream
    → Since (Handing at stream) first old stream idle before → length behind.rest < length stream.rest
smaller {first} {old} {at} {before} {stream} {idle} packet behind on e since =
    let (ms, bs, going) = going_there (seen_in old stream since.taken since.given) on since.ties.handing in
    shorter stream behind ms bs packet going e

-- ---- No whole packet is left, or none can come

module _ (first : Told) (r : Recorded) (at : ℕ) (now : Told) (stream : Stream) (idle : ℕ) where
  pub stopped_on : listens (phase_in r) ≡ false → Since (Handing at stream) first r stream idle now → Since Ties first r stream idle now
  stopped_on off = since_map (Handing at stream) Ties first r stream stream idle now (λ taken given h. record { wired = h.wired; heard = stopped (seen_in r stream taken given) off h.handing })

  pub left_on : (behind : Stream) → listens (phase_in r) ≡ true → (answers.More, behind) ≡ next_of stream → Since (Handing at stream) first r stream idle now → Since Ties first r behind idle now
  left_on behind on e = since_map (Handing at stream) Ties first r stream behind idle now (λ taken given h. record { wired = h.wired; heard = none_left (seen_in r stream taken given) on behind h.handing e })

-- ---- Bytes came

module _ (first : Told) (r : Recorded) (at : ℕ) (before now : Told) (stream behind : Stream) (idle : ℕ) (piece : List ℕ)
    (feeds : (fed : List ℕ) (handed : List Packet) → StandsFor stream fed handed → StandsFor behind (fed ++ piece) handed) (exact : behind ≡ fed_to stream piece) (on : listens (phase_in r) ≡ true)
    (time : last_time_of r.past ≤ at) (took : now.taken ≡ before.taken) (gave : now.given ≡ more_on before.given piece) (later : IsLater before.counts now.counts) where
  -- there is a connection
  there_is : (taken given : List (List ℕ)) → Ties (seen_in r stream taken given) → given ≡ [] → piece ≡ []
  there_is taken given t none =
      absurd
      (cc (sym on ∙ gone_away r.setup r.sizes (readings r.setup r.sizes r.past) 0 (phase_in r) (none_gone r.setup r.sizes r.past (none_tied (stages r.setup r.sizes r.past) given t.heard none))))
    where
      none_tied : (xs : List (List Moment)) (ws : List (List ℕ)) → TiedBut Heard (LastHeard IsHandedIn (phase_in r) stream) xs ws → ws ≡ [] → xs ≡ []
      none_tied [] ws h e = refl
      none_tied (x ∷ xs) [] h e = absurd h
      none_tied (x ∷ xs) (w ∷ ws) h e = absurd (cc e)

  fed_on : (taken given : List (List ℕ)) → AreHeard (seen_in r stream taken given) → AreHanding (seen_in r behind taken (onto_last given piece))
  fed_on taken given h =
      more_bytes Heard (LastHeard IsHandedIn (phase_in r) stream) (LastHeard IsGoing (phase_in r) behind) piece
      (λ ms bs l. of_both IsGoing (phase_in r) behind ms (bs ++ piece) (λ is. fed ms bs (listened IsHandedIn (phase_in r) stream ms bs on l)) (λ is. absurd (cc (sym on ∙ is)))) (stages r.setup r.sizes r.past) given h
    where
      fed : (ms : List Moment) (bs : List ℕ) → IsHandedIn stream ms bs → IsGoing behind ms (bs ++ piece)
      fed ms bs i =
          record {
            stands = feeds bs (arrived ms) i.going.stands;
            unended = ap (λ (s : Stream). s.verdict) exact ∙ ap (λ x. (fed_in stream x piece).verdict) i.going.unended;
            quiet = i.going.quiet;
          }

  pub bytes_on : Since Ties first r stream idle before → Since (Handing at behind) first r behind 0 now
  bytes_on since =
      record {
        taken = since.taken;
        given = onto_last since.given piece;
        took = subst (Follows first.taken since.taken) (sym took) since.took;
        gave = follows_more first.given since.given before.given now.given piece since.gave (there_is since.taken since.given since.ties) gave;
        ties = record { wired = since.ties.wired; handing = fed_on since.taken since.given since.ties.heard; same = refl; time = time };
        counts = later_counted r.setup r.sizes r.past first.counts idle 0 before.counts now.counts (omega arith) later since.counts;
      }
