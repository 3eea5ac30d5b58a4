-- What each connection gave, by an entry more: the packets that arrived, and a rest.
use Rattle.std.proofs.Common.{◌≡◌, ℕ, Bool, true, false, cond, List, [], ◌∷◌, ◌++◌, Some, refl, sym, ap, ◌∙◌, subst, append_assoc, inl, inr}
use Rattle.std.proofs.lemmas.List.{append-nil}
use Rattle.std.proofs.lemmas.List.Folds.{list_any-append}
use Rattle.std.proofs.lemmas.Grind.{flat_map-append}
use Rattle.mqtt_packet.specs.declared.splitter.Next.{Next}
use Rattle.mqtt_packet.specs.declared.splitter.Next.TheVariants as answers
use Rattle.mqtt_packet.specs.Splitting.{Kept as Stream, StandsFor, Tells}
use Rattle.agent_link.specs.Wires.{onto_last}
use Rattle.agent_journal.specs.declared.entry.Cause.{Cause}
use Rattle.agent_journal.specs.declared.setup.Phase.{Phase}
use Rattle.agent_journal.specs.declared.setup.Phase.TheVariants.{Down, Opening, Up, Spilled, Off}
use Rattle.agent_journal.specs.Wires.{is_opened, arrives}
use Rattle.agent_table.specs.Histories.{readings}
use Rattle.agent_table.specs.Readings.{Readings}
use Rattle.agent_table.specs.Rows.{Row}
use Rattle.agent_table.specs.Ties.{Moment, moment, stages, listens, arrived, is_verdict, has_verdict, HasStopped, BeginsWith, Heard}
use Rattle.agent_ties.specs.Seen.{entry, Seen, phase_seen, row_seen, with_entry}
use Rattle.agent_ties.proofs.Rows.{in_time}
use Rattle.agent_ties.specs.Heard.{IsGoing, IsHandedIn, LastHeard, AreTold, AreHeard, AreHanding, IsPlain}
use Rattle.agent_ties.proofs.Seen.{phase_is}
use Rattle.agent_ties.proofs.Sends.{away_stays}
use Rattle.agent_ties.specs.Wired.{TiedBut}
use Rattle.agent_ties.proofs.Wires.{entries_on}

pub listened : (L : Stream → List Moment → List ℕ → Type 0) (phase : Phase) (stream : Stream) (ms : List Moment) (bs : List ℕ) → listens phase ≡ true → LastHeard L phase stream ms bs → L stream ms bs
listened L Down stream ms bs e h = absurd (cc e)
listened L Opening stream ms bs e h = h
listened L Up stream ms bs e h = h
listened L Spilled stream ms bs e h = absurd (cc e)
listened L Off stream ms bs e h = absurd (cc e)

pub told : (L : Stream → List Moment → List ℕ → Type 0) (phase : Phase) (stream : Stream) (ms : List Moment) (bs : List ℕ) → listens phase ≡ false → LastHeard L phase stream ms bs → Heard ms bs
told L Down stream ms bs e h = h
told L Opening stream ms bs e h = absurd (cc e)
told L Up stream ms bs e h = absurd (cc e)
told L Spilled stream ms bs e h = h
told L Off stream ms bs e h = h

-- what holds in either case
pub of_both : (L : Stream → List Moment → List ℕ → Type 0) (phase : Phase) (stream : Stream) (ms : List Moment) (bs : List ℕ) → (listens phase ≡ true → L stream ms bs) → (listens phase ≡ false → Heard ms bs) → LastHeard L phase stream ms bs
of_both L Down stream ms bs on off = off refl
of_both L Opening stream ms bs on off = on refl
of_both L Up stream ms bs on off = on refl
of_both L Spilled stream ms bs on off = off refl
of_both L Off stream ms bs on off = off refl

heard_out : (stream : Stream) (ms : List Moment) (bs : List ℕ) → IsHandedIn stream ms bs → Heard ms bs
heard_out stream ms bs h = inl (h.going.quiet, h.tells)

pub is_heard : (phase : Phase) (stream : Stream) (ms : List Moment) (bs : List ℕ) → LastHeard IsHandedIn phase stream ms bs → Heard ms bs
is_heard Down stream ms bs h = h
is_heard Opening stream ms bs h = heard_out stream ms bs h
is_heard Up stream ms bs h = heard_out stream ms bs h
is_heard Spilled stream ms bs h = h
is_heard Off stream ms bs h = h

-- ---- One connection, by a moment more

pub arrived_more : (ms : List Moment) (m : Moment) → arrived (ms ++ m ∷ []) ≡ arrived ms ++ arrives m.entry.cause
arrived_more ms m = flat_map-append (λ (x : Moment). arrives x.entry.cause) ms (m ∷ []) ∙ ap (λ ps. arrived ms ++ ps) (append-nil (arrives m.entry.cause))

same_arrived : (ms : List Moment) (m : Moment) → arrives m.entry.cause ≡ [] → arrived (ms ++ m ∷ []) ≡ arrived ms
same_arrived ms m none = arrived_more ms m ∙ ap (λ ps. arrived ms ++ ps) none ∙ append-nil (arrived ms)

pub quiet_more : (ms : List Moment) (m : Moment) → has_verdict ms ≡ false → is_verdict m.entry.cause ≡ false → has_verdict (ms ++ m ∷ []) ≡ false
quiet_more ms m quiet none = list_any-append (λ (x : Moment). is_verdict x.entry.cause) ms (m ∷ []) ∙ rw (quiet, none) refl

going_more : (stream : Stream) (ms : List Moment) (bs : List ℕ) (m : Moment) → IsPlain m.entry.cause → IsGoing stream ms bs → IsGoing stream (ms ++ m ∷ []) bs
going_more stream ms bs m plain h =
    record { stands = subst (λ ps. StandsFor stream bs ps) (sym (same_arrived ms m plain.0)) h.stands; unended = h.unended; quiet = quiet_more ms m h.quiet plain.1 }

handed_more : (stream : Stream) (ms : List Moment) (bs : List ℕ) (m : Moment) → IsPlain m.entry.cause → IsHandedIn stream ms bs → IsHandedIn stream (ms ++ m ∷ []) bs
handed_more stream ms bs m plain h =
    record { going = going_more stream ms bs m plain h.going; tells = subst (λ ps. Tells bs ps answers.More) (sym (same_arrived ms m plain.0)) h.tells }

stopped_more : (last m : Moment) (after : List Moment) → HasStopped last after → HasStopped last (after ++ m ∷ [])
stopped_more last m [] h = inl h
stopped_more last m (next ∷ after) h = h

split_more : (ms before : List Moment) (last : Moment) (after : List Moment) (m : Moment) → ms ≡ before ++ last ∷ after → ms ++ m ∷ [] ≡ before ++ last ∷ (after ++ m ∷ [])
split_more ms before last after m split = ap (λ xs. xs ++ m ∷ []) split ∙ append_assoc before (last ∷ after) (m ∷ [])

none_more : (after : List Moment) (m : Moment) → arrives m.entry.cause ≡ [] → arrived after ≡ [] → arrived (after ++ m ∷ []) ≡ []
none_more after m none h = same_arrived after m none ∙ h

pub heard_more : (ms : List Moment) (bs : List ℕ) (m : Moment) → IsPlain m.entry.cause → Heard ms bs → Heard (ms ++ m ∷ []) bs
heard_more ms bs m plain (inl h) = inl (quiet_more ms m h.0 plain.1, subst (λ ps. Tells bs ps answers.More) (sym (same_arrived ms m plain.0)) h.1)
heard_more ms bs m plain (inr (inl (before, last, after, reason, split, is, rejects, quiet, still, none))) =
    inr (inl (before, last, after ++ m ∷ [], reason, split_more ms before last after m split, is, rejects, quiet, quiet_more after m still plain.1, none_more after m plain.0 none))
heard_more ms bs m plain (inr (inr (before, last, after, packet, split, is, stopped, none, quiet, begins))) =
    inr
    (inr (
      before,
      last,
      after ++ m ∷ [],
      packet,
      split_more ms before last after m split,
      is,
      stopped_more last m after stopped,
      none_more after m plain.0 none,
      quiet_more ms m quiet plain.1,
      subst (λ ps. BeginsWith bs ps) (sym (same_arrived ms m plain.0)) begins,
    ))

-- ---- All connections, by a plain entry more

module _ (now : ℕ) (v : Seen) (cause : Cause) (found : Row) (e : row_seen v now cause ≡ Some found) where
  abbrev pub newest : Moment
  newest = moment v.setup v.sizes (entry now cause found) v.past

  abbrev r : Readings
  r = readings v.setup v.sizes v.past

  same_stages : is_opened cause ≡ false → stages v.setup v.sizes (entry now cause found ∷ v.past) ≡ onto_last (stages v.setup v.sizes v.past) (newest ∷ [])
  same_stages other = ap (λ b. cond b (stages v.setup v.sizes v.past ++ (newest ∷ []) ∷ []) (onto_last (stages v.setup v.sizes v.past) (newest ∷ []))) other

  -- how the present connection is tied behind the entry
  pub on_any : (Before Next : List Moment → List ℕ → Type 0) → is_opened cause ≡ false → ((ms : List Moment) (bs : List ℕ) → Before ms bs → Next (ms ++ newest ∷ []) bs)
      → TiedBut Heard Before (stages v.setup v.sizes v.past) v.given → TiedBut Heard Next (stages v.setup v.sizes (entry now cause found ∷ v.past)) v.given
  on_any Before Next other on h =
      subst (λ ms. TiedBut Heard Next ms v.given) (sym (same_stages other)) (entries_on Heard Before Next (newest ∷ []) on (stages v.setup v.sizes v.past) v.given h)

  pub on_last : (L : Stream → List Moment → List ℕ → Type 0) (Before : List Moment → List ℕ → Type 0) → is_opened cause ≡ false
      → ((ms : List Moment) (bs : List ℕ) → Before ms bs → LastHeard L found.phase v.stream (ms ++ newest ∷ []) bs) → TiedBut Heard Before (stages v.setup v.sizes v.past) v.given → AreTold L (with_entry v now cause found)
  on_last L Before other on h =
      subst (λ phase. TiedBut Heard (LastHeard L phase v.stream) (stages v.setup v.sizes (entry now cause found ∷ v.past)) v.given) (sym (phase_is now v cause found e))
      (on_any Before (LastHeard L found.phase v.stream) other on h)

  away : is_opened cause ≡ false → listens (phase_seen v) ≡ false → listens found.phase ≡ false
  away other off = away_stays v.setup v.sizes r now cause found (in_time v.setup v.sizes r now cause found e) other off

  pub heard_on : is_opened cause ≡ false → IsPlain cause → AreHeard v → AreHeard (with_entry v now cause found)
  heard_on other plain h = on_last IsHandedIn (LastHeard IsHandedIn (phase_seen v) v.stream) other (λ ms bs l. by (listens (phase_seen v)) refl ms bs l) h
    where
      by : (b : Bool) → listens (phase_seen v) ≡ b → (ms : List Moment) (bs : List ℕ) → LastHeard IsHandedIn (phase_seen v) v.stream ms bs → LastHeard IsHandedIn found.phase v.stream (ms ++ newest ∷ []) bs
      by true on ms bs l =
          let in_order = listened IsHandedIn (phase_seen v) v.stream ms bs on l in
          of_both IsHandedIn found.phase v.stream (ms ++ newest ∷ []) bs (λ is. handed_more v.stream ms bs newest plain in_order) (λ is. heard_more ms bs newest plain (heard_out v.stream ms bs in_order))
      by false off ms bs l =
          of_both IsHandedIn found.phase v.stream (ms ++ newest ∷ []) bs (λ is. absurd (cc (sym is ∙ away other off))) (λ is. heard_more ms bs newest plain (told IsHandedIn (phase_seen v) v.stream ms bs off l))

  -- where the agent doesn't listen, neither while packets are handed in
  pub handing_on : listens (phase_seen v) ≡ false → is_opened cause ≡ false → IsPlain cause → AreHanding v → AreHanding (with_entry v now cause found)
  handing_on off other plain h =
      on_last IsGoing (LastHeard IsGoing (phase_seen v) v.stream) other
      (λ ms bs l.
      of_both IsGoing found.phase v.stream (ms ++ newest ∷ []) bs (λ is. absurd (cc (sym is ∙ away other off))) (λ is. heard_more ms bs newest plain (told IsGoing (phase_seen v) v.stream ms bs off l))) h
