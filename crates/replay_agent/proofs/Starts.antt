-- A run before its first round, and behind its last one.
use Rattle.std.proofs.Common.{◌≡◌, ℕ, ◌≤◌, true, false, List, [], ◌∷◌, ◌++◌, length, drop, reverse, Some, None, is_some, refl, sym, ap, ◌∙◌, subst, arith, length-append}
use Rattle.std.specs.List.{AllByRecursion}
use Rattle.std.proofs.lemmas.List.{reverse-append, reverse-reverse}
use Rattle.broker_tape.specs.declared.tape.Item.{Item}
use Rattle.broker_tape.specs.Playing.{counts, unplayed}
use Rattle.agent_journal.specs.declared.entry.Entry.{Entry}
use Rattle.agent_journal.specs.declared.ending.Ending.{Ending}
use Rattle.agent_journal.specs.declared.request.Request.TheVariants as requests
use Rattle.agent_script.specs.declared.script.Line.{Line}
use Rattle.agent_journal.specs.declared.setup.Setup.{Setup}
use Rattle.agent_journal.specs.Sound.{IsSoundEntry}
use Rattle.agent_script.specs.Asked.{asked_in}
use Rattle.agent_journal.specs.Setups.{is_client}
use Rattle.agent_table.specs.Sizes.{Sizes}
use Rattle.agent_table.proofs.SoundPasts.{packets_are_sound}
use Rattle.agent_core.specs.Kept.{Kept, beginning}
use Rattle.agent_core.specs.Stands.{StandsFor}
use Rattle.replay_rounds.specs.World.{World}
use Rattle.replay_rounds.specs.Asked.{IsValidLine, taken_and_left}
use Rattle.agent_table.specs.Endings.{ending_of}
use Rattle.replay_rounds.specs.Rounds.{begun, has_ended}
use Rattle.agent_ties.specs.Seen.{fresh}
use Rattle.replay_rounds.specs.Bound.{bound, finished}
use Rattle.replay_rounds.proofs.Asked.{IsAsking}
use Rattle.replay_rounds.proofs.AskedAll.{few_asked, off_has_ending, ended_is_off}
use Rattle.replay_rounds.proofs.Ends.{IsSteady, begun_steady}
use Rattle.replay_rounds.proofs.Stays.{after_of}
use Rattle.replay_agent.specs.declared.run.Run.{Run}
use Rattle.replay_agent.specs.Runs.{world, IsNoted, IsSound}

-- what a new core and a new run are
pub record Begins (setup : Setup) (sizes : Sizes) (tick : ℕ) (items : List Item) (core : Kept) (run : Run) : Type 0 where
  pub setup_is : core.setup ≡ setup
  pub begins : core ≡ beginning setup sizes
  pub stands : StandsFor core []
  pub journal : run.journal ≡ []
  pub link : run.link ≡ unplayed items
  pub clock : run.clock ≡ record { step = tick; calls = 0 }
  pub stream : run.splitter ≡ fresh
  pub fresh_is : (run.gone ≡ 0) × (run.listened ≡ 0) × (run.idle ≡ 0)
  pub counts : (run.notes.taken ≡ 0) × (run.notes.messages ≡ 0)
  pub nothing : (run.notes.closed ≡ false) × (run.notes.left ≡ false) × (run.notes.ending ≡ None)

module _ (setup : Setup) (sizes : Sizes) (tick : ℕ) (items : List Item) (core : Kept) (run : Run) (h : Begins setup sizes tick items core run) where
  -- it is a replay before its first round
  pub start_is : (lines : List Line) → world core run lines ≡ begun setup sizes tick lines items
  start_is lines =
      let same : core.sizes ≡ sizes = ap (λ (k : Kept). k.sizes) h.begins in
      λ i. record {
        setup = h.setup_is i;
        sizes = same i;
        clock = h.clock i;
        past = reverse (h.journal i);
        lines = drop (h.fresh_is.0 i) lines;
        listened = h.fresh_is.1 i;
        items = (h.link i).left;
        room = (h.link i).room;
        taken = (h.link i).taken;
        given = (h.link i).given;
        stream = h.stream i;
        idle = h.fresh_is.2 i;
        counts = counts (h.link i);
      }

  pub start_sound : is_client setup.client ≡ true → IsSound core run
  start_sound client =
      let none : reverse run.journal ≡ [] = ap reverse h.journal in
      let noted : IsNoted core.setup core.sizes run.notes [] =
      record { taken_is = h.counts.0; messages_is = h.counts.1; closed_is = h.nothing.0; left_is = h.nothing.1; ending_is = h.nothing.2 }
      in
      let no_message = h.counts.1 in
      let no_line = h.fresh_is.1 in
      record {
        client = ap (λ (s : Setup). is_client s.client) h.setup_is ∙ client;
        stands = subst (StandsFor core) (sym none) h.stands;
        noted = subst (IsNoted core.setup core.sizes run.notes) (sym none) noted;
        few = omega (arith, no_message);
        listens = omega (arith, no_line);
      }

  pub start_steady : (lines : List Line) → setup.tasks ≡ 1 → IsSteady (world core run lines)
  start_steady lines one = subst IsSteady (sym (start_is lines)) (begun_steady setup sizes tick lines items one)

  pub start_asks : (lines : List Line) → AllByRecursion IsValidLine lines → IsAsking (world core run lines)
  start_asks lines valid = subst IsAsking (sym (start_is lines)) (record { valid = valid; none_behind = λ e. absurd (cc e) })

  pub start_few : (lines : List Line) → length lines ≤ 4000000000 → length (taken_and_left (world core run lines)) ≤ 4000000001
  start_few lines few =
      let all = length-append (asked_in 0 lines) (requests.Leave ∷ []) in
      let most = few_asked lines in
      let count : length (taken_and_left (begun setup sizes tick lines items)) ≤ 4000000001 = omega (arith, all, most, few) in
      subst (λ (w : World). length (taken_and_left w) ≤ 4000000001) (sym (start_is lines)) count

  -- ---- Behind the last round

  pub past_is : (lines : List Line) (new : Kept) (now : Run) → world new now lines ≡ finished (world core run lines) → reverse now.journal ≡ (finished (begun setup sizes tick lines items)).past
  past_is lines new now over = ap (λ (w : World). w.past) over ∙ ap (λ (w : World). (finished w).past) (start_is lines)

  kept_of : (lines : List Line) (new : Kept) (now : Run) → world new now lines ≡ finished (world core run lines) → (new.setup ≡ setup) × (new.sizes ≡ sizes)
  kept_of lines new now over =
      let w = begun setup sizes tick lines items in
      let stays = after_of (bound w) setup sizes w (refl, refl) in
      let all : world new now lines ≡ finished w = over ∙ ap finished (start_is lines) in
      (ap (λ (v : World). v.setup) all ∙ stays.0, ap (λ (v : World). v.sizes) all ∙ stays.1)

  pub ending_is : (lines : List Line) (new : Kept) (now : Run) (ending : Ending) → world new now lines ≡ finished (world core run lines) → IsSound new now → now.notes.ending ≡ Some ending
      → Some ending ≡ ending_of setup sizes (reverse now.journal)
  ending_is lines new now ending over sound is =
      let same = kept_of lines new now over in
      sym is ∙ sound.noted.ending_is ∙ ap (λ (s : Setup). ending_of s new.sizes (reverse now.journal)) same.0 ∙ ap (λ (l : Sizes). ending_of setup l (reverse now.journal)) same.1

-- an agent that has ended has an ending
pub has_ending : (new : Kept) (now : Run) (lines : List Line) → IsSound new now → has_ended (world new now lines) ≡ true → now.notes.ending ≡ None → ⊥
has_ending new now lines sound ended none =
    let some = off_has_ending new.setup new.sizes (reverse now.journal) (ended_is_off (world new now lines) ended) in
    let gone : is_some (ending_of new.setup new.sizes (reverse now.journal)) ≡ false = ap is_some (sym sound.noted.ending_is ∙ none) in
    absurd (cc (sym some ∙ gone))

all_append : (P : Entry → Type 0) (xs ys : List Entry) → AllByRecursion P xs → AllByRecursion P ys → AllByRecursion P (xs ++ ys)
all_append P [] ys h k = k
all_append P (x ∷ xs) ys h k = (h.0, all_append P xs ys h.1 k)

all_reversed : (P : Entry → Type 0) (xs : List Entry) → AllByRecursion P xs → AllByRecursion P (reverse xs)
all_reversed P [] h = tt
all_reversed P (x ∷ xs) h = subst (AllByRecursion P) (sym (reverse-append (x ∷ []) xs)) (all_append P (reverse xs) (x ∷ []) (all_reversed P xs h.1) (h.0, tt))

-- the entries of a journal that is stood for can be printed
pub printable : (core : Kept) (run : Run) → IsSound core run → AllByRecursion IsSoundEntry run.journal
printable core run h =
    subst (AllByRecursion IsSoundEntry) (reverse-reverse run.journal)
    (all_reversed IsSoundEntry (reverse run.journal) (packets_are_sound core.setup core.sizes (reverse run.journal) h.client h.stands.legal))
