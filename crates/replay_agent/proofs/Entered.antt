-- Entries that were made, and those for which there is no row.
use Rattle.std.proofs.Common.{◌≡◌, ℕ, ◌+◌, ◌*◌, ◌^◌, ◌<◌, ◌≤◌, true, false, List, [], ◌∷◌, ◌++◌, length, take, drop, cond, reverse, Option, Some, None, is_some, refl, sym, ap, ◌∙◌, subst, arith, length-append, length-take}
use Rattle.std.specs.Prelude.{◌||◌, ◌==◌, count_by, nat_lt}
use Rattle.std.proofs.lemmas.Bool.{lt-ltb, le-ltb, eqb-false}
use Rattle.std.specs.List.{AllByRecursion, list_any}
use Rattle.std.proofs.lemmas.List.{take_all}
use Rattle.agent_link.specs.Wires.{onto_last}
use Rattle.broker_tape.specs.Playing.{counts, fitting, room_behind}
use Rattle.agent_journal.specs.declared.entry.Cause.{Cause}
use Rattle.agent_journal.specs.declared.entry.Cause.TheVariants as c
use Rattle.agent_journal.specs.declared.entry.Why.TheVariants as why
use Rattle.agent_journal.specs.declared.entry.Entry.{Entry}
use Rattle.agent_journal.specs.declared.effect.Effect.{Effect}
use Rattle.agent_script.specs.declared.script.Line.{Line}
use Rattle.agent_journal.specs.declared.setup.Phase.{Phase}
use Rattle.agent_journal.specs.Endings.{ending_behind}
use Rattle.agent_journal.specs.Sound.{IsSoundEffect}
use Rattle.agent_journal.specs.Projections.{is_pass}
use Rattle.agent_journal.specs.Readings.{takes_behind, leaves_by}
use Rattle.agent_journal.specs.Setups.{is_client}
use Rattle.agent_journal.specs.Wires.{sent_in}
use Rattle.agent_table.specs.Histories.{phase_of, effects_of}
use Rattle.agent_table.proofs.SoundPasts.{packets_are_sound}
use Rattle.agent_core.specs.Kept.{Kept, row_now}
use Rattle.agent_core.specs.Stands.{StandsFor}
use Rattle.agent_core.proofs.Standing.{rows_are_same}
use Rattle.agent_table.specs.Rows.{Row}
use Rattle.agent_line.proofs.Making.{reversed, row_of_step}
use Rattle.replay_rounds.specs.World.{World, row_in, settled}
use Rattle.agent_ties.specs.Seen.{entry}
use Rattle.replay_rounds.specs.Entering.{noted, noted_by, failed, onto_wire, sends, sends_some, entered, entered_by}
use Rattle.replay_rounds.specs.Lines.{is_closed}
use Rattle.agent_table.specs.Endings.{ending_of}
use Rattle.replay_agent.specs.declared.run.Run.{Run}
use Rattle.replay_agent.specs.Entries.{Makes}
use Rattle.replay_agent.specs.Runs.{world, IsNoted, IsSound}
use Rattle.replay_agent.proofs.Sends.{fits_within}

none_entered : (r : Option Row) (w : World) (at : ℕ) (cause : Cause) → is_some r ≡ false → w ≡ entered_by w at cause r
none_entered None w at cause e = refl
none_entered (Some r) w at cause e = absurd (cc e)

-- a cause without a row
pub row_none : (w : World) (at : ℕ) (cause : Cause) → false ≡ is_some (row_in w at cause) → w ≡ entered w at cause
row_none w at cause e = none_entered (row_in w at cause) w at cause (sym e)

none_noted : (r : Option Row) (w : World) (at : ℕ) (cause : Cause) → is_some r ≡ false → w ≡ noted_by w at cause r
none_noted None w at cause e = refl
none_noted (Some r) w at cause e = absurd (cc e)

pub note_none : (w : World) (at : ℕ) (cause : Cause) → false ≡ is_some (row_in w at cause) → w ≡ noted w at cause
note_none w at cause e = none_noted (row_in w at cause) w at cause (sym e)

-- an entry that was made, and its packets sent
pub entered_made : (old mid new : World) (at : ℕ) (cause : Cause) (bytes : List ℕ) → Makes old at cause mid bytes → new ≡ sends mid at bytes → new ≡ entered old at cause
entered_made old mid new at cause bytes made e = e ∙ (λ i. sends (made.newest i) at (made.spelled i)) ∙ sym (ap (entered_by old at cause) made.found)

pub noted_made : (old mid new : World) (at : ℕ) (cause : Cause) (bytes : List ℕ) → Makes old at cause mid bytes → new ≡ settled mid → new ≡ noted old at cause
noted_made old mid new at cause bytes made e = e ∙ ap settled made.newest ∙ sym (ap (noted_by old at cause) made.found)

-- ---- An entry more

-- the packets that it sends have a spelling
pub effects_sound : (core : Kept) (past : List Entry) (at : ℕ) (cause : Cause) (effects : List Effect) → is_client core.setup.client ≡ true → StandsFor core past
    → effects_of (row_now core at cause) ≡ Some effects → AllByRecursion IsSoundEffect effects
effects_sound core past at cause effects client stands e =
    let e_now : Entry = record { at = at; cause = cause; effects = effects } in
    (packets_are_sound core.setup core.sizes (e_now ∷ past) client (ap effects_of (sym (rows_are_same core past at cause stands)) ∙ e, stands.legal)).0.effects

-- what the run keeps is read off the journal with one more entry
pub sound_behind : (core new : Kept) (old now : Run) (e : Entry) (entries : ℕ) (before behind : Phase) → IsSound core old → now.journal ≡ old.journal ++ e ∷ [] → StandsFor new (e ∷ reverse old.journal)
    → new.setup ≡ core.setup → new.sizes ≡ core.sizes → entries ≡ length old.journal → before ≡ core.phase → behind ≡ new.phase → now.notes.taken ≡ takes_behind 0 e.cause old.notes.taken
    → now.notes.messages ≡ old.notes.messages + count_by (is_pass 0) e.effects → now.notes.messages ≤ (entries + 1) * 2 ^ 64 → now.notes.closed ≡ (list_any is_closed e.effects || old.notes.closed)
    → now.notes.left ≡ (leaves_by 0 e.cause || old.notes.left) → now.notes.ending ≡ ending_behind before behind e.cause old.notes.ending → now.listened ≡ old.listened → now.gone ≡ old.gone
    → IsSound new now
sound_behind core new old now e entries before behind sound grown stands setup sizes count from to taken messages few closed left ending listened gone =
    let past = reverse old.journal in
    let more : reverse now.journal ≡ e ∷ past = reversed old.journal now.journal e grown in
    let first : before ≡ phase_of core.setup core.sizes past = from ∙ sound.stands.keeps.phase in
    let last : behind ≡ phase_of core.setup core.sizes (e ∷ past) =
    to ∙ stands.keeps.phase ∙ ap (λ s. phase_of s new.sizes (e ∷ past)) setup ∙ ap (λ l. phase_of core.setup l (e ∷ past)) sizes
    in
    let ended : now.notes.ending ≡ ending_of core.setup core.sizes (e ∷ past) =
    ending ∙ ap (λ p. ending_behind p behind e.cause old.notes.ending) first ∙ ap (λ p. ending_behind (phase_of core.setup core.sizes past) p e.cause old.notes.ending) last
    ∙ ap (ending_behind (phase_of core.setup core.sizes past) (phase_of core.setup core.sizes (e ∷ past)) e.cause) sound.noted.ending_is
    in
    let here : IsNoted core.setup core.sizes now.notes (e ∷ past) =
    record {
      taken_is = taken ∙ ap (takes_behind 0 e.cause) sound.noted.taken_is;
      messages_is = messages ∙ ap (λ n. n + count_by (is_pass 0) e.effects) sound.noted.messages_is;
      closed_is = closed ∙ ap (λ b. list_any is_closed e.effects || b) sound.noted.closed_is;
      left_is = left ∙ ap (λ b. leaves_by 0 e.cause || b) sound.noted.left_is;
      ending_is = ended;
    }
    in
    let size : length now.journal ≡ length old.journal + 1 = ap length grown ∙ length-append old.journal (e ∷ []) in
    record {
      client = ap (λ s. is_client s.client) setup ∙ sound.client;
      stands = subst (StandsFor new) (sym more) stands;
      noted =
          subst (λ s. IsNoted s new.sizes now.notes (reverse now.journal)) (sym setup)
          (subst (λ l. IsNoted core.setup l now.notes (reverse now.journal)) (sym sizes) (subst (IsNoted core.setup core.sizes now.notes) (sym more) here));
      few = omega (arith, few, size, count);
      listens = omega (arith, sound.listens, listened, gone);
    }

-- the entry that was made is the newest
pub made_behind : (core new : Kept) (old now : Run) (at : ℕ) (cause : Cause) (e : Entry) (bytes : List ℕ) → now.clock ≡ old.clock → now.link ≡ old.link → now.splitter ≡ old.splitter → now.idle ≡ old.idle
    → now.gone ≡ old.gone → now.listened ≡ old.listened → StandsFor core (reverse old.journal) → effects_of (row_now core at cause) ≡ Some e.effects → e.at ≡ at → e.cause ≡ cause
    → now.journal ≡ old.journal ++ e ∷ [] → new.setup ≡ core.setup → new.sizes ≡ core.sizes → bytes ≡ sent_in e.effects → (lines : List Line)
    → Makes (world core old lines) at cause (world new now lines) bytes
made_behind core new old now at cause e bytes clock link splitter idle gone listened stands effects time is grown setup sizes spelled lines =
    let found = row_of_step core (reverse old.journal) at cause e.effects stands effects in
    let made : e ≡ entry at cause found.0 = λ i. record { at = time i; cause = is i; effects = sym found.2 i } in
    let past : reverse now.journal ≡ entry at cause found.0 ∷ reverse old.journal = reversed old.journal now.journal e grown ∙ ap (λ x. x ∷ reverse old.journal) made in
    record {
      row = found.0;
      found = found.1;
      newest =
          λ i. record {
            setup = setup i;
            sizes = sizes i;
            clock = clock i;
            past = past i;
            lines = drop (gone i) lines;
            listened = listened i;
            items = (link i).left;
            room = (link i).room;
            taken = (link i).taken;
            given = (link i).given;
            stream = splitter i;
            idle = idle i;
            counts = counts (link i);
          };
      spelled = spelled ∙ ap sent_in (sym found.2);
    }

-- ---- What was sent

length_some : (bytes : List ℕ) (n : ℕ) → n ≤ length bytes → length (take n bytes) ≡ n
length_some bytes n less = length-take n bytes ∙ (omega (arith, less))

-- a part of the bytes was taken, and the link failed
pub sent_short : (w : World) (at n : ℕ) (bytes : List ℕ) → n ≡ fitting w.room (length bytes) → n < length bytes
    → noted (failed (record w { idle = 0; taken = onto_last w.taken (take n bytes); room = room_behind w.room n })) at (c.Broke why.Fault) ≡ sends w at bytes
sent_short w at n [] fits short = absurd (omega (arith, short))
sent_short w at n (b ∷ bytes) fits short =
    let u : World = record w { idle = 0 } in
    let len : length (take n (b ∷ bytes)) ≡ n = length_some (b ∷ bytes) n (omega (arith, short)) in
    let less : nat_lt n (length (b ∷ bytes)) ≡ true = lt-ltb n (length (b ∷ bytes)) short in
    (λ i. noted (failed (record u { taken = onto_last w.taken (take n (b ∷ bytes)); room = room_behind w.room (sym len i) })) at (c.Broke why.Fault))
    ∙ sym (ap (λ x. cond x (noted (failed (onto_wire u (take n (b ∷ bytes)))) at (c.Broke why.Fault)) (settled (onto_wire u (b ∷ bytes)))) less) ∙ ap (sends_some u at (b ∷ bytes)) fits

-- all bytes were taken
pub sent_whole : (w : World) (at n : ℕ) (bytes : List ℕ) → n ≡ fitting w.room (length bytes) → length bytes ≤ n → 0 < length bytes
    → settled (record w { idle = 0; taken = onto_last w.taken (take n bytes); room = room_behind w.room n }) ≡ sends w at bytes
sent_whole w at n [] fits whole some = absurd (omega (arith, some))
sent_whole w at n (b ∷ bytes) fits whole some =
    let u : World = record w { idle = 0 } in
    let all : n ≡ length (b ∷ bytes) = by_most w.room n (length (b ∷ bytes)) fits whole in
    let less : nat_lt n (length (b ∷ bytes)) ≡ false = le-ltb n (length (b ∷ bytes)) whole in
    (λ i. settled (record u { taken = onto_last w.taken (take_all n (b ∷ bytes) whole i); room = room_behind w.room (all i) }))
    ∙ sym (ap (λ x. cond x (noted (failed (onto_wire u (take n (b ∷ bytes)))) at (c.Broke why.Fault)) (settled (onto_wire u (b ∷ bytes)))) less) ∙ ap (sends_some u at (b ∷ bytes)) fits
  where
    by_most : (room : Option ℕ) (n len : ℕ) → n ≡ fitting room len → len ≤ n → n ≡ len
    by_most room n len fits whole = let most = fits_within room len in omega (arith, fits, whole, most)

-- bytes that aren't empty
pub some_bytes : (bytes : List ℕ) (count : ℕ) → length bytes ≡ count → false ≡ (count == 0) → 0 < length bytes
some_bytes [] count e some = absurd (eqb-false count 0 (sym some) (sym e))
some_bytes (b ∷ bytes) count e some = omega arith
