-- A task goes on with its work.
use Rattle.std.proofs.Common.{◌≡◌, ℕ, ◌+◌, ◌<◌, ◌≤◌, ◌⊎◌, true, false, List, [], ◌++◌, map, length, None, All, refl, sym, ap, ◌∙◌, subst, ⊎_elim, inl, inr, arith}
use Rattle.std.proofs.lemmas.Int.{clamps}
use Rattle.std.specs.List.{Contains}
use Rattle.std.specs.Option.{option_to_list}
use Rattle.std.proofs.lemmas.List.Elements.{All-nil, All-weaker}
use Rattle.agent_script.specs.declared.script.Step.{Step}
use Rattle.task_gate.specs.Passages.{Passed, fresh}
use Rattle.task_queues.specs.declared.note.Note.{Note}
use Rattle.task_queues.specs.Submissions.{request_of}
use Rattle.task_end.specs.Notes.{messages_in, has_closed}
use Rattle.task_end.specs.Sides.{TaskSide, Tasking}
use Rattle.share_work.specs.declared.ending.Ending.TheVariants as endings
use Rattle.share_work.specs.Steps.{asked_of, listened_in, IsOver, IsHeardOut, IsReady}
use Rattle.share_work.specs.Tickets.{Ticketed, seqs_of, IsSameTask}
use Rattle.share_work.specs.Working.{Working, side_of, got_by, at_gate, is_spent, count_to, IsLetIn, IsAtWork, GoesOn}
use Rattle.share_work.proofs.Coming.{messages_both, over_more, closed_more, heard_more, ready_more}

pub same_task : (s : TaskSide) → IsSameTask s s
same_task s = record { mailbox = refl; joined = refl; pool = refl }

pub task_on : (a b c : TaskSide) → IsSameTask a b → IsSameTask b c → IsSameTask a c
task_on a b c f g = record {
  mailbox = g.mailbox ∙ f.mailbox;
  joined = g.joined ∙ f.joined;
  pool = g.pool ∙ f.pool;
}

pub stays : (w : Working) → GoesOn w w
stays w = record { keeps = λ all at. at; task = same_task (side_of w); gate = refl }

pub on : (a b c : Working) → GoesOn a b → GoesOn b c → GoesOn a c
on a b c f g = record { keeps = λ all at. g.keeps all (f.keeps all at); task = task_on (side_of a) (side_of b) (side_of c) f.task g.task; gate = g.gate ∙ f.gate }

-- ---- Notes are taken in

-- Some notes were taken in and some tickets collected, and the steps stay.
pub record TurnsTo (old new : Working) : Type 0 where
  pub more : List Note
  pub got : got_by new ≡ got_by old ++ more
  pub sender : (side_of new).sender.sent ≡ (side_of old).sender.sent
  pub fronts : (side_of new).fronts ≡ (side_of old).fronts
  pub current : new.current ≡ old.current
  pub others : new.others ≡ old.others
  pub ending : new.ending ≡ old.ending
  pub tickets : (seq : ℕ) → Contains (seqs_of old.held.tickets) seq → IsOver (got_by new) seq ⊎ Contains (seqs_of new.held.tickets) seq
  pub spared : (new.closed ≡ true)
      ⊎ ((new.closed ≡ old.closed) × (new.spare + length new.held.tasking.kept ≤ old.spare + length old.held.tasking.kept + length (messages_in more)))
  pub is_closed : new.closed ≡ true → (old.closed ≡ true) ⊎ (has_closed (got_by new) ≡ true)
  pub asked : new.passage.asked ≡ old.passage.asked
  pub gate : new.passage.task ≡ old.passage.task
  pub last_asked : new.passage.last_asked ≡ old.passage.last_asked
  pub gone : ℕ
  pub answered : (k : ℕ) → old.passage.answered ≡ count_to k → new.passage.answered ≡ count_to (k + gone)
  pub each : gone + length new.held.tickets ≡ length old.held.tickets

module _ (old new : Working) (t : TurnsTo old new) (all : List Step) (at : IsAtWork all old) where
  spared_on : (new.closed ≡ true) ⊎ (listened_in at.done + new.spare + length new.held.tasking.kept ≤ length (messages_in (got_by new)))
  spared_on = ⊎_elim
      (λ is. inl is)
      (λ same. ⊎_elim
      (λ is. inl (same.0 ∙ is))
      (λ enough. inr (omega (arith, enough, same.1, ap (λ l. length (messages_in l)) t.got, messages_both (got_by old) t.more)))
      at.spared)
      t.spared

  over_on : (seq : ℕ) → seq < length (asked_of at.done) → IsOver (got_by new) seq ⊎ Contains (seqs_of new.held.tickets) seq
  over_on seq below = ⊎_elim
      (λ is. inl (subst (λ l. IsOver l seq) (sym t.got) (over_more (got_by old) t.more seq is)))
      (λ has. t.tickets seq has)
      (at.over seq below)

  closed_on : new.closed ≡ true → has_closed (got_by new) ≡ true
  closed_on is = ⊎_elim
      (λ was. ap has_closed t.got ∙ closed_more (got_by old) t.more (at.is_closed was))
      (λ has. has)
      (t.is_closed is)

  pub turns_on : IsAtWork all new
  turns_on = record {
    done = at.done;
    cut = at.cut ∙ ap (λ l. at.done ++ l) (λ i. option_to_list (sym t.current i) ++ sym t.others i);
    sent = ap (map request_of) t.sender ∙ at.sent;
    heard = subst (λ l. IsHeardOut l 0 0 at.done) (sym t.got) (heard_more (got_by old) t.more 0 0 at.done at.heard);
    fronts = subst (All (IsReady all (got_by new))) (sym t.fronts)
        (All-weaker (IsReady all (got_by old)) (IsReady all (got_by new))
        (λ front is. subst (λ l. IsReady all l front) (sym t.got) (ready_more all (got_by old) t.more front is)) (side_of old).fronts at.fronts);
    numbered = ap length t.fronts ∙ at.numbered;
    over = over_on;
    spared = spared_on;
    is_closed = closed_on;
    asked = t.asked ∙ at.asked ∙ ap (λ c. count_to (length (asked_of at.done) + length (at_gate c))) (sym t.current);
    let_in = subst (λ c. IsLetIn c (length (asked_of at.done)) new.passage.last_asked) (sym t.current)
        (subst (IsLetIn old.current (length (asked_of at.done))) (sym t.last_asked) at.let_in);
    collected = at.collected + t.gone;
    answered = t.answered at.collected at.answered;
    each = omega (arith, at.each, t.each);
    spent = λ is. at.spent (ap is_spent (sym t.ending) ∙ is);
  }

pub turns : (old new : Working) → TurnsTo old new → IsSameTask (side_of old) (side_of new) → GoesOn old new
turns old new t task = record { keeps = λ all at. turns_on old new t all at; task = task; gate = t.gate }

-- ---- Before the first step

module _ (tasking : Tasking) (sent : tasking.side.sender.sent ≡ []) (got : tasking.side.getter.got ≡ []) (fronts : tasking.side.fronts ≡ [])
    (kept : tasking.kept ≡ []) (all : List Step) (task : ℕ) where
  abbrev pub begun : Ticketed → List Step → Passed → Working
  begun held others passage = record { held = held; current = None; others = others; spare = 0; closed = false; ending = endings.All; passage = passage }

  begins_there : IsAtWork all (begun (record { tasking = tasking; tickets = [] }) all (fresh task))
  begins_there = record {
    done = [];
    cut = refl;
    sent = ap (map request_of) sent;
    heard = tt;
    fronts = subst (All (IsReady all tasking.side.getter.got)) (sym fronts) (All-nil (IsReady all tasking.side.getter.got));
    numbered = ap length fronts;
    over = λ seq below. absurd (omega (arith, below));
    spared = inr (omega (arith, ap length kept));
    is_closed = λ is. absurd cc;
    asked = omega (arith, clamps);
    let_in = tt;
    collected = 0;
    answered = omega (arith, clamps);
    each = refl;
    spent = λ is. absurd cc;
  }

  pub begins : (held : Ticketed) (others : List Step) (passage : Passed) → held ≡ record { tasking = tasking; tickets = [] } → others ≡ all → passage ≡ fresh task
      → IsAtWork all (begun held others passage)
  begins held others passage e f h = subst (λ t. IsAtWork all (begun t others passage)) (sym e)
      (subst (λ l. IsAtWork all (begun (record { tasking = tasking; tickets = [] }) l passage)) (sym f)
      (subst (λ p. IsAtWork all (begun (record { tasking = tasking; tickets = [] }) all p)) (sym h) begins_there))
