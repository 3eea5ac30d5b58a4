-- A replay is one legal history of the agent, tied to its link and clock.
use Rattle.std.proofs.Common.{◌≡◌, ℕ, Bool, true, false, List, [], ◌∷◌, Some, refl, sym, ap, ◌∙◌, subst, arith}
use Rattle.std.proofs.lemmas.Bool.{and_parts}
use Rattle.std.specs.List.{AllByRecursion}
use Rattle.agent_journal.specs.declared.ending.Ending.{Ending}
use Rattle.agent_journal.specs.declared.entry.Entry.{Entry}
use Rattle.agent_journal.specs.declared.setup.Phase.{Phase}
use Rattle.agent_journal.specs.declared.setup.Phase.TheVariants.{Down, Opening, Up, Spilled, Off}
use Rattle.agent_journal.specs.declared.setup.Setup.{Setup}
use Rattle.agent_journal.specs.Endings.{is_off, ending_by}
use Rattle.agent_journal.specs.Projections.{requests_of}
use Rattle.agent_journal.specs.Readings.{has_left}
use Rattle.agent_script.specs.Asked.{asked}
use Rattle.agent_table.specs.Histories.{IsLegalPast, IsWholePast, phase_of}
use Rattle.agent_table.specs.Sizes.{Sizes}
use Rattle.agent_table.proofs.Ended.{commands_complete_once}
use Rattle.agent_table.proofs.Received.{good_are_earned}
use Rattle.replay_rounds.specs.World.{phase_in}
use Rattle.broker_tape.specs.declared.tape.Item.{Item}
use Rattle.broker_tape.specs.Given.{GivesBytes}
use Rattle.agent_script.specs.declared.script.Script.{Script}
use Rattle.replay_rounds.specs.Asked.{IsValidLine}
use Rattle.agent_table.specs.Endings.{ending_of}
use Rattle.replay_rounds.specs.Laws.{IsTiedHistory, ReplaysAreHistories}
use Rattle.replay_rounds.specs.Rounds.{after, begun, has_ended}
use Rattle.replay_rounds.proofs.AskedAll.{replays_take_all}
use Rattle.replay_rounds.proofs.Legal.{legal_after}
use Rattle.replay_rounds.proofs.Stays.{after_of}
use Rattle.replay_rounds.proofs.TiedAll.{tied_after}

off_is : (phase : Phase) → is_off phase ≡ true → phase ≡ Off
off_is Down e = absurd (cc e)
off_is Opening e = absurd (cc e)
off_is Up e = absurd (cc e)
off_is Spilled e = absurd (cc e)
off_is Off e = refl

-- ---- Whoever is Off has ended

abbrev Ends : Setup → Sizes → List Entry → Type 0
Ends s l past = (ending : Ending) × (ending_of s l past ≡ Some ending)

ends_by : (was : Bool) (s : Setup) (l : Sizes) (e : Entry) (past : List Entry) → is_off (phase_of s l past) ≡ was → (was ≡ true → Ends s l past) → phase_of s l (e ∷ past) ≡ Off → Ends s l (e ∷ past)
ends_by true s l e past before h off = ((h refl).0, rw before (h refl).1)
ends_by false s l e past before h off = (ending_by (phase_of s l past) e.cause, rw (before, off) refl)

off_ends : (s : Setup) (l : Sizes) (past : List Entry) → phase_of s l past ≡ Off → Ends s l past
off_ends s l [] off = absurd (cc off)
off_ends s l (e ∷ past) off = ends_by (is_off (phase_of s l past)) s l e past refl (λ was. off_ends s l past (off_is (phase_of s l past) was)) off

is_history : (n : ℕ) (setup : Setup) (sizes : Sizes) (tick : ℕ) (script : Script) (items : List Item) → setup.tasks ≡ 1 → AllByRecursion IsValidLine script.lines → GivesBytes items
    → has_ended (after n (begun setup sizes tick script.lines items)) ≡ true → IsTiedHistory setup sizes script (after n (begun setup sizes tick script.lines items))
is_history n setup sizes tick script items one valid gives ended =
    let start = begun setup sizes tick script.lines items in
    let w = after n start in
    let same = after_of n setup sizes start (refl, refl) in
    let parts = and_parts (is_off (phase_in w)) (has_left 0 w.past) ended in
    let legal : IsLegalPast setup sizes w.past = subst (λ s. IsLegalPast s sizes w.past) same.0 (subst (λ l. IsLegalPast w.setup l w.past) same.1 (legal_after n start tt)) in
    let off : phase_of setup sizes w.past ≡ Off = ap (λ s. phase_of s sizes w.past) (sym same.0) ∙ ap (λ l. phase_of w.setup l w.past) (sym same.1) ∙ off_is (phase_in w) parts.0 in
    let whole : IsWholePast setup sizes w.past = record { ended = off; left = λ t within. let none : 0 ≡ t = omega (arith, within, one) in subst (λ k. has_left k w.past ≡ true) none parts.1 } in
    let end = off_ends setup sizes w.past off in
    let tied = tied_after n setup sizes tick script.lines items one gives in
    record {
      history =
          record {
            legal = legal;
            whole = whole;
            taken = λ t within. let none : 0 ≡ t = omega (arith, within, one) in subst (λ k. requests_of k w.past ≡ asked script k) none (replays_take_all setup sizes tick script.lines items w one valid (record { rounds = n; is = refl; ended = ended }));
            once = commands_complete_once setup sizes w.past legal whole;
            earned = λ free. good_are_earned setup sizes w.past free legal;
          };
      ending = end.0;
      ended = end.1;
      readings = tied.read.readings;
      are_read = tied.read.are_read;
      tied = tied.tied;
    }

pub replays_are_histories : ReplaysAreHistories
replays_are_histories setup sizes tick script items w one valid gives leads =
    subst (IsTiedHistory setup sizes script) leads.is (is_history leads.rounds setup sizes tick script items one valid gives (ap has_ended leads.is ∙ leads.ended))
