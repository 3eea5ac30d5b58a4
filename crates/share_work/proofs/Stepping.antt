-- A task goes on behind a step: one that it comes to, one that it is refused at, and one that it goes past.
use Rattle.std.proofs.Common.{◌≡◌, ℕ, ◌+◌, ◌<◌, ◌≤◌, ◌⊎◌, true, List, [], ◌∷◌, ◌++◌, map, length, Option, None, Some, All, refl, sym, ap, ◌∙◌, subst, ⊎_elim, inl, inr, append-nil, length-append, arith}
use Rattle.std.proofs.lemmas.Int.{clamps}
use Rattle.std.specs.List.{Contains}
use Rattle.std.specs.Option.{option_to_list}
use Rattle.std.proofs.lemmas.Bool.{cases_lt}
use Rattle.std.proofs.lemmas.List.{map-append, append_assoc, length-map}
use Rattle.std.proofs.lemmas.List.Elements.{All-append, All-nil, All-cons, Contains-append_left, Contains-append_right}
use Rattle.atomic_table.specs.Seated.{TableId}
use Rattle.agent_journal.specs.declared.request.Request.{Request}
use Rattle.agent_script.specs.declared.script.Step.{Step}
use Rattle.agent_script.specs.declared.script.Step.TheVariants as steps
use Rattle.agent_script.specs.Asked.{asked_by}
use Rattle.task_gate.specs.Passages.{Passed}
use Rattle.task_queues.specs.Submissions.{request_of}
use Rattle.task_queues.specs.MailboxPasses.{Getting}
use Rattle.task_end.specs.declared.ticket.Ticket.{Ticket}
use Rattle.task_end.specs.Notes.{messages_in, seen_by, counted, has_closed}
use Rattle.task_end.specs.Sides.{submitted}
use Rattle.share_work.specs.declared.ending.Ending.TheVariants as endings
use Rattle.share_work.specs.Steps.{asked_of, listened_by, listened_in, IsOver, HasHeard, HasCome, IsHeardOut, IsReady}
use Rattle.share_work.specs.Tickets.{Ticketed, seqs_of, IsSameTask}
use Rattle.share_work.specs.Working.{Working, side_of, got_by, at_gate, count_to, number_to, IsLetIn, at_step, IsAtWork, GoesOn}
use Rattle.share_work.proofs.Coming.{asked_one, listened_one, heard_one}
use Rattle.share_work.proofs.Collecting.{seqs_last}
use Rattle.share_work.proofs.Over.{all_over}
use Rattle.share_work.proofs.Onward.{turns, same_task}

-- how many requests were submitted
pub sent_count : (all : List Step) (w : Working) (at : IsAtWork all w) → length (side_of w).sender.sent ≡ length (asked_of at.done)
sent_count all w at = sym (length-map (side_of w).sender.sent request_of) ∙ ap length at.sent

-- ---- A step that the task comes to

module _ (old : Working) (s : Step) (rest : List Step) (was : old.current ≡ None) (others : old.others ≡ s ∷ rest) where
  abbrev there : Working
  there = record old { current = Some s; others = rest; passage = at_step s (length (side_of old).sender.sent) old.passage }

  own_gate : (s : Step) → (at_step s (length (side_of old).sender.sent) old.passage).task ≡ old.passage.task
  own_gate (steps.Do request) = refl
  own_gate (steps.Shadow op name payload) = refl
  own_gate (steps.Jobs op job payload) = refl
  own_gate steps.Wait = refl
  own_gate (steps.Listen n) = refl

  module _ (all : List Step) (at : IsAtWork all old) where
    asked_then : old.passage.asked ≡ count_to (length (asked_of at.done))
    asked_then = at.asked ∙ ap (λ c. count_to (length (asked_of at.done) + length (at_gate c))) was ∙ ap count_to (none (length (asked_of at.done)))
      where
        none : (n : ℕ) → n + 0 ≡ n
        none n = omega arith

    asked_now : (s : Step) → (at_step s (length (side_of old).sender.sent) old.passage).asked ≡ count_to (length (asked_of at.done) + length (at_gate (Some s)))
    asked_now (steps.Do request) = omega (arith, clamps, asked_then)
    asked_now (steps.Shadow op name payload) = omega (arith, clamps, asked_then)
    asked_now (steps.Jobs op job payload) = omega (arith, clamps, asked_then)
    asked_now steps.Wait = omega (arith, clamps, asked_then)
    asked_now (steps.Listen n) = omega (arith, clamps, asked_then)

    let_in_now : (s : Step) → IsLetIn (Some s) (length (asked_of at.done)) (at_step s (length (side_of old).sender.sent) old.passage).last_asked
    let_in_now (steps.Do request) = inr (ap number_to (sent_count all old at))
    let_in_now (steps.Shadow op name payload) = inl refl
    let_in_now (steps.Jobs op job payload) = inl refl
    let_in_now steps.Wait = inl refl
    let_in_now (steps.Listen n) = inl refl

    answered_now : (s : Step) → (at_step s (length (side_of old).sender.sent) old.passage).answered ≡ old.passage.answered
    answered_now (steps.Do request) = refl
    answered_now (steps.Shadow op name payload) = refl
    answered_now (steps.Jobs op job payload) = refl
    answered_now steps.Wait = refl
    answered_now (steps.Listen n) = refl

    comes_on : IsAtWork all there
    comes_on = record {
      done = at.done;
      cut = at.cut ∙ ap (λ l. at.done ++ l) (λ i. option_to_list (was i) ++ others i);
      sent = at.sent;
      heard = at.heard;
      fronts = at.fronts;
      numbered = at.numbered;
      over = at.over;
      spared = at.spared;
      is_closed = at.is_closed;
      asked = asked_now s;
      let_in = let_in_now s;
      collected = at.collected;
      answered = answered_now s ∙ at.answered;
      each = at.each;
      spent = at.spent;
    }

  pub comes_to : (passage : Passed) → passage ≡ at_step s (length (side_of old).sender.sent) old.passage → GoesOn old (record old { current = Some s; others = rest; passage = passage })
  comes_to passage e = subst (λ p. GoesOn old (record old { current = Some s; others = rest; passage = p })) (sym e) (record { keeps = comes_on; task = same_task (side_of old); gate = own_gate s })

-- ---- A refusal

pub refused_at : (old : Working) (request : Request) (held : Ticketed) → old.current ≡ Some (steps.Do request)
    → held.tasking.side.getter ≡ (side_of old).getter → held.tasking.kept ≡ old.held.tasking.kept → IsSameTask (side_of old) held.tasking.side
    → held.tasking.side.sender.sent ≡ (side_of old).sender.sent → held.tasking.side.fronts ≡ (side_of old).fronts → held.tickets ≡ old.held.tickets
    → GoesOn old (record old { held = held; current = Some (steps.Do request) })
refused_at old request held was getter kept task sent fronts tickets = turns old (record old { held = held; current = Some (steps.Do request) }) (record {
  more = [];
  got = ap (λ (g : Getting). g.got) getter ∙ sym (append-nil (got_by old));
  sender = sent;
  fronts = fronts;
  current = sym was;
  others = refl;
  ending = refl;
  tickets = λ seq has. inr (subst (λ l. Contains (seqs_of l) seq) (sym tickets) has);
  spared = inr (refl, omega (arith, ap length kept));
  is_closed = λ is. inl is;
  asked = refl;
  gate = refl;
  last_asked = refl;
  gone = 0;
  answered = λ k e. omega (arith, clamps, e);
  each = omega (arith, ap length tickets);
}) task

module _ (old : Working) where
  pub ends_short : GoesOn old (record old { ending = endings.NoMemory })
  ends_short = record {
    keeps = λ all at. record {
      done = at.done;
      cut = at.cut;
      sent = at.sent;
      heard = at.heard;
      fronts = at.fronts;
      numbered = at.numbered;
      over = at.over;
      spared = at.spared;
      is_closed = at.is_closed;
      asked = at.asked;
      let_in = at.let_in;
      collected = at.collected;
      answered = at.answered;
      each = at.each;
      spent = λ is. absurd cc;
    };
    task = same_task (side_of old);
    gate = refl;
  }

  pub ends_spent : 4000000000 ≤ length (side_of old).sender.sent → GoesOn old (record old { ending = endings.Spent })
  ends_spent many = record {
    keeps = λ all at. record {
      done = at.done;
      cut = at.cut;
      sent = at.sent;
      heard = at.heard;
      fronts = at.fronts;
      numbered = at.numbered;
      over = at.over;
      spared = at.spared;
      is_closed = at.is_closed;
      asked = at.asked;
      let_in = at.let_in;
      collected = at.collected;
      answered = at.answered;
      each = at.each;
      spent = λ is. omega (arith, many, sent_count all old at);
    };
    task = same_task (side_of old);
    gate = refl;
  }

-- ---- A step that the task goes past

cut_at : (all done others : List Step) (s : Step) (current : Option Step) → current ≡ Some s → all ≡ done ++ (option_to_list current ++ others) → all ≡ done ++ s ∷ others
cut_at all done others s current was cut = cut ∙ ap (λ c. done ++ (option_to_list c ++ others)) was

cut_past : (all done others : List Step) (s : Step) → all ≡ done ++ s ∷ others → all ≡ (done ++ s ∷ []) ++ others
cut_past all done others s cut = cut ∙ sym (append_assoc done (s ∷ []) others)

-- A step that asks nothing, for which what it waits for has come.
module _ (old : Working) (s : Step) (spare : ℕ) (was : old.current ≡ Some s) (asks : asked_by s ≡ [])
    (spares : (old.closed ≡ true) ⊎ (spare + listened_by s ≡ old.spare))
    (come : (all : List Step) (at : IsAtWork all old) → HasCome (got_by old) (0 + length (asked_of at.done)) (0 + listened_in at.done) s) where
  abbrev pub past : Working
  past = record old { current = None; spare = spare }

  module _ (all : List Step) (at : IsAtWork all old) where
    asked_same : asked_of (at.done ++ s ∷ []) ≡ asked_of at.done
    asked_same = asked_one at.done s ∙ ap (λ l. asked_of at.done ++ l) asks ∙ append-nil (asked_of at.done)

    count_same : length (asked_of (at.done ++ s ∷ [])) ≡ length (asked_of at.done)
    count_same = ap length asked_same

    none_at : length (at_gate old.current) ≡ 0
    none_at = ap (λ c. length (at_gate c)) was ∙ ap (λ l. length (l ++ [])) asks

    goes_past : IsAtWork all past
    goes_past = record {
      done = at.done ++ s ∷ [];
      cut = cut_past all at.done old.others s (cut_at all at.done old.others s old.current was at.cut);
      sent = at.sent ∙ sym asked_same;
      heard = heard_one (got_by old) 0 0 at.done s at.heard (come all at);
      fronts = at.fronts;
      numbered = at.numbered ∙ sym count_same;
      over = λ seq below. at.over seq (omega (arith, below, count_same));
      spared = ⊎_elim
          (λ is. inl is)
          (λ enough. ⊎_elim (λ is. inl is) (λ e. inr (omega (arith, enough, e, listened_one at.done s))) spares)
          at.spared;
      is_closed = at.is_closed;
      asked = at.asked ∙ ap count_to (omega (arith, count_same, none_at));
      let_in = tt;
      collected = at.collected;
      answered = at.answered;
      each = at.each ∙ sym count_same;
      spent = λ is. omega (arith, at.spent is, count_same);
    }

  pub passes : GoesOn old past
  passes = record { keeps = goes_past; task = same_task (side_of old); gate = refl }

-- ---- A request that was submitted

module _ (board : TableId) (old : Working) (request : Request) (held : Ticketed) (was : old.current ≡ Some (steps.Do request))
    (getter : held.tasking.side.getter ≡ (side_of old).getter) (kept : held.tasking.kept ≡ old.held.tasking.kept) (task : IsSameTask (side_of old) held.tasking.side)
    (sent : held.tasking.side.sender.sent ≡ (side_of old).sender.sent ++ submitted board (side_of old) request ∷ [])
    (fronts : held.tasking.side.fronts
    ≡ (side_of old).fronts ++ (length (side_of old).sender.sent, seen_by (got_by old), counted (got_by old)) ∷ [])
    (ticket : (t : Ticket) × (t.seq ≡ length (side_of old).sender.sent) × (held.tickets ≡ old.held.tickets ++ t ∷ [])) where
  got_same : held.tasking.side.getter.got ≡ got_by old
  got_same = ap (λ (g : Getting). g.got) getter

  module _ (all : List Step) (at : IsAtWork all old) where
    there_is : all ≡ at.done ++ steps.Do request ∷ old.others
    there_is = cut_at all at.done old.others (steps.Do request) old.current was at.cut

    count : length (side_of old).sender.sent ≡ length (asked_of at.done)
    count = sent_count all old at

    one_asked : asked_of (at.done ++ steps.Do request ∷ []) ≡ asked_of at.done ++ request ∷ []
    one_asked = asked_one at.done (steps.Do request)

    one_more : length (asked_of (at.done ++ steps.Do request ∷ [])) ≡ length (asked_of at.done) + 1
    one_more = ap length one_asked ∙ length-append (asked_of at.done) (request ∷ [])

    front : IsReady all (got_by old) (length (side_of old).sender.sent, seen_by (got_by old), counted (got_by old))
    front = record {
      before = at.done;
      request = request;
      behind = old.others;
      stands = there_is;
      number = count;
      seen = got_by old;
      later = [];
      told = sym (append-nil (got_by old));
      marked = refl;
      noted = refl;
      heard = at.heard;
    }

    all_fronts : All (IsReady all (got_by old)) held.tasking.side.fronts
    all_fronts = subst (All (IsReady all (got_by old))) (sym fronts)
        (All-append (IsReady all (got_by old)) (side_of old).fronts ((length (side_of old).sender.sent, seen_by (got_by old), counted (got_by old)) ∷ []) at.fronts
        (All-cons (IsReady all (got_by old)) (length (side_of old).sender.sent, seen_by (got_by old), counted (got_by old)) [] front (All-nil (IsReady all (got_by old)))))

    has_ticket : (seq : ℕ) → seq ≡ length (asked_of at.done) → Contains (seqs_of held.tickets) seq
    has_ticket seq is = subst (λ l. Contains l seq) (sym (ap seqs_of ticket.2 ∙ seqs_last old.held.tickets ticket.0))
        (Contains-append_right (seqs_of old.held.tickets) (ticket.0.seq ∷ []) seq
        (subst (Contains (ticket.0.seq ∷ [])) (ticket.1 ∙ count ∙ sym is) (0, omega arith, refl)))

    over_now : (seq : ℕ) → seq < length (asked_of (at.done ++ steps.Do request ∷ [])) → IsOver (got_by old) seq ⊎ Contains (seqs_of held.tickets) seq
    over_now seq below = ⊎_elim
        (λ before. ⊎_elim
        (λ is. inl is)
        (λ has. inr (subst (λ l. Contains l seq) (sym (ap seqs_of ticket.2 ∙ seqs_last old.held.tickets ticket.0))
        (Contains-append_left (seqs_of old.held.tickets) (ticket.0.seq ∷ []) seq has)))
        (at.over seq before))
        (λ past. inr (has_ticket seq (omega (arith, below, past, one_more))))
        (cases_lt seq (length (asked_of at.done)))

    submits_on : IsAtWork all (record old { held = held; current = None })
    submits_on = record {
      done = at.done ++ steps.Do request ∷ [];
      cut = cut_past all at.done old.others (steps.Do request) there_is;
      sent = ap (map request_of) sent ∙ map-append request_of (side_of old).sender.sent (submitted board (side_of old) request ∷ [])
          ∙ ap (λ l. l ++ request ∷ []) at.sent ∙ sym one_asked;
      heard = subst (λ l. IsHeardOut l 0 0 (at.done ++ steps.Do request ∷ [])) (sym got_same) (heard_one (got_by old) 0 0 at.done (steps.Do request) at.heard tt);
      fronts = subst (λ l. All (IsReady all l) held.tasking.side.fronts) (sym got_same) all_fronts;
      numbered = omega (arith, ap length fronts, length-append (side_of old).fronts ((length (side_of old).sender.sent, seen_by (got_by old), counted (got_by old)) ∷ []), at.numbered, one_more);
      over = λ seq below. subst (λ l. IsOver l seq ⊎ Contains (seqs_of held.tickets) seq) (sym got_same) (over_now seq below);
      spared = ⊎_elim
          (λ is. inl is)
          (λ enough. inr (omega (arith, enough, listened_one at.done (steps.Do request), ap length kept, ap (λ l. length (messages_in l)) got_same)))
          at.spared;
      is_closed = λ is. ap has_closed got_same ∙ at.is_closed is;
      asked = at.asked ∙ ap (λ c. count_to (length (asked_of at.done) + length (at_gate c))) was ∙ ap count_to (omega (arith, one_more));
      let_in = tt;
      collected = at.collected;
      answered = at.answered;
      each = omega (arith, at.each, ap length ticket.2, length-append old.held.tickets (ticket.0 ∷ []), one_more);
      spent = λ is. omega (arith, at.spent is, one_more);
    }

  pub submits : GoesOn old (record old { held = held; current = None })
  submits = record { keeps = submits_on; task = task; gate = refl }

-- ---- Each kind of step that asks nothing

none_more : (n : ℕ) → n + 0 ≡ n
none_more n = omega arith

-- one that waits for nothing
pub passes_by : (old : Working) (s : Step) → old.current ≡ Some s → asked_by s ≡ [] → listened_by s ≡ 0
    → ((all : List Step) (at : IsAtWork all old) → HasCome (got_by old) (0 + length (asked_of at.done)) (0 + listened_in at.done) s) → GoesOn old (record old { current = None })
passes_by old s was asks none come = passes old s old.spare was asks (inr (ap (λ n. old.spare + n) none ∙ none_more old.spare)) come

no_tickets : (l : List Ticket) → length l ≡ 0 → l ≡ []
no_tickets [] e = refl
no_tickets (t ∷ l) e = absurd (omega (arith, e))

pub waits : (old : Working) → old.current ≡ Some steps.Wait → length old.held.tickets ≡ 0 → GoesOn old (record old { current = None })
waits old was none = passes_by old steps.Wait was refl refl
    (λ all at seq below. all_over all old at (no_tickets old.held.tickets none) seq (omega (arith, below)))

pub listens : (old : Working) (count spare : ℕ) → old.current ≡ Some (steps.Listen count)
    → (spare + count ≡ old.spare) ⊎ ((old.closed ≡ true) × (spare ≡ old.spare)) → GoesOn old (record old { current = None; spare = spare })
listens old count spare was heard = passes old (steps.Listen count) spare was refl (⊎_elim (λ e. inr e) (λ is. inl is.0) heard) (λ all at. has all at)
  where
    has : (all : List Step) (at : IsAtWork all old) → HasHeard (got_by old) (0 + listened_in at.done + count)
    has all at = ⊎_elim
        (λ e. ⊎_elim (λ is. inr (at.is_closed is)) (λ enough. inl (omega (arith, enough, e))) at.spared)
        (λ is. inr (at.is_closed is.0))
        heard
