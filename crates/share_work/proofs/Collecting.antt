-- A task goes on behind a try of a ticket, and behind a message.
use Rattle.std.proofs.Common.{◌≡◌, ℕ, zero, suc, ◌+◌, ◌≤◌, ◌⊎◌, true, Bool, List, [], ◌∷◌, ◌++◌, length, refl, sym, ap, ◌∙◌, subst, ⊎_elim, inl, inr, length-append, arith}
use Rattle.std.proofs.lemmas.Int.{clamps}
use Rattle.std.specs.List.{Contains}
use Rattle.std.proofs.lemmas.List.{map-append}
use Rattle.std.proofs.lemmas.List.Elements.{Contains-append_left, Contains-append_right, Contains-append_cases}
use Rattle.agent_journal.specs.declared.message.Message.{Message}
use Rattle.task_gate.specs.Passages.{Passed, told}
use Rattle.task_queues.specs.declared.note.Note.{Note}
use Rattle.task_queues.specs.QueuePasses.{Sending}
use Rattle.task_queues.specs.MailboxPasses.{Getting}
use Rattle.task_end.specs.declared.ticket.Ticket.{Ticket}
use Rattle.task_end.specs.Notes.{messages_in, has_closed}
use Rattle.task_end.specs.Sides.{TaskSide, IsBehind, IsSameSent}
use Rattle.share_work.specs.Steps.{IsOver}
use Rattle.share_work.specs.Tickets.{Ticketed, seqs_of, IsSameTask, TakesIn}
use Rattle.share_work.specs.Working.{Working, side_of, got_by, GoesOn}
use Rattle.share_work.proofs.Onward.{turns}

pub same_by : (more : List Note) (looks : ℕ) (old new : TaskSide) → IsBehind more looks old new → IsSameSent old new → new.permits.pool ≡ old.permits.pool → IsSameTask old new
same_by more looks old new got sent pool = record {
  mailbox = ap (λ (g : Getting). g.mailbox) got;
  joined = ap (λ (g : Getting). g.joined) got;
  pool = pool;
}

only_one : (x s : ℕ) → Contains (x ∷ []) s → x ≡ s
only_one x s (zero, within, is) = is
only_one x s (suc k, within, is) = absurd (omega (arith, within))

-- the first is the one, or it is behind
pub first_or : (t : Ticket) (rest : List Ticket) (seq : ℕ) → Contains (seqs_of (t ∷ rest)) seq → (t.seq ≡ seq) ⊎ Contains (seqs_of rest) seq
first_or t rest seq has = ⊎_elim (λ here. inl (only_one t.seq seq here)) (λ behind. inr behind) (Contains-append_cases (t.seq ∷ []) (seqs_of rest) seq has)

pub seqs_last : (rest : List Ticket) (t : Ticket) → seqs_of (rest ++ t ∷ []) ≡ seqs_of rest ++ t.seq ∷ []
seqs_last rest t = map-append (λ (t : Ticket). t.seq) rest (t ∷ [])

module _ (old : Working) (held : Ticketed) (takes : TakesIn old.held.tasking held.tasking) where
  got_on : held.tasking.side.getter.got ≡ got_by old ++ takes.more
  got_on = ap (λ (g : Getting). g.got) takes.got

  kept_on : length held.tasking.kept ≡ length old.held.tasking.kept + length (messages_in takes.more)
  kept_on = ap length takes.kept ∙ length-append old.held.tasking.kept (messages_in takes.more)

  same_on : IsSameTask (side_of old) held.tasking.side
  same_on = same_by takes.more takes.looks (side_of old) held.tasking.side takes.got takes.sent takes.pool

  -- its command is over
  pub collected : (number : ℕ) (passage : Passed) → passage ≡ told number old.passage → (t : Ticket) × (old.held.tickets ≡ t ∷ held.tickets) × (t.seq ≡ number) × IsOver held.tasking.side.getter.got number
      → GoesOn old (record old { held = held; passage = passage })
  collected number passage e (t, was, is, over) = subst (λ p. GoesOn old (record old { held = held; passage = p })) (sym e)
      (turns old (record old { held = held; passage = told number old.passage }) (record {
        more = takes.more;
        got = got_on;
        sender = ap (λ (s : Sending). s.sent) takes.sent.sender;
        fronts = takes.sent.fronts;
        current = refl;
        others = refl;
        ending = refl;
        tickets = λ seq has. ⊎_elim
            (λ here. inl (subst (IsOver held.tasking.side.getter.got) (sym is ∙ here) over))
            (λ behind. inr behind)
            (first_or t held.tickets seq (subst (λ l. Contains (seqs_of l) seq) was has));
        spared = inr (refl, omega (arith, kept_on));
        is_closed = λ was. inl was;
        asked = refl;
        gate = refl;
        last_asked = refl;
        gone = 1;
        answered = λ k e. omega (arith, clamps, e);
        each = omega (arith, ap length was);
      }) same_on)

  -- the ticket is the last one now
  pub put_back : (t : Ticket) × (rest : List Ticket) × (old.held.tickets ≡ t ∷ rest) × (held.tickets ≡ rest ++ t ∷ []) → GoesOn old (record old { held = held })
  put_back (t, rest, was, is) = turns old (record old { held = held }) (record {
    more = takes.more;
    got = got_on;
    sender = ap (λ (s : Sending). s.sent) takes.sent.sender;
    fronts = takes.sent.fronts;
    current = refl;
    others = refl;
    ending = refl;
    tickets = λ seq has. inr (subst (λ l. Contains l seq) (sym (ap seqs_of is ∙ seqs_last rest t))
        (⊎_elim
        (λ here. Contains-append_right (seqs_of rest) (t.seq ∷ []) seq (subst (λ x. Contains (t.seq ∷ []) x) here (0, omega arith, refl)))
        (λ behind. Contains-append_left (seqs_of rest) (t.seq ∷ []) seq behind)
        (first_or t rest seq (subst (λ l. Contains (seqs_of l) seq) was has))));
    spared = inr (refl, omega (arith, kept_on));
    is_closed = λ was. inl was;
    asked = refl;
    gate = refl;
    last_asked = refl;
    gone = 0;
    answered = λ k e. omega (arith, clamps, e);
    each = omega (arith, ap length was, ap length is, length-append rest (t ∷ []));
  }) same_on

-- a message was taken, or none is there
pub messaged : (old : Working) (held : Ticketed) (spare : ℕ) (closed : Bool) (more : List Note) (looks : ℕ) (out : List (Message × ℕ))
    → IsBehind more looks (side_of old) held.tasking.side → old.held.tasking.kept ++ messages_in more ≡ out ++ held.tasking.kept
    → IsSameSent (side_of old) held.tasking.side → held.tasking.side.permits.pool ≡ (side_of old).permits.pool → held.tickets ≡ old.held.tickets
    → spare ≤ old.spare + length out → (closed ≡ old.closed) ⊎ ((closed ≡ true) × (has_closed held.tasking.side.getter.got ≡ true))
    → GoesOn old (record old { held = held; spare = spare; closed = closed })
messaged old held spare closed more looks out got kept sent pool same few told = turns old (record old { held = held; spare = spare; closed = closed }) (record {
  more = more;
  got = ap (λ (g : Getting). g.got) got;
  sender = ap (λ (s : Sending). s.sent) sent.sender;
  fronts = sent.fronts;
  current = refl;
  others = refl;
  ending = refl;
  tickets = λ seq has. inr (subst (λ l. Contains (seqs_of l) seq) (sym same) has);
  spared = ⊎_elim
      (λ e. inr (e, omega (arith, few, ap length kept, length-append old.held.tasking.kept (messages_in more), length-append out held.tasking.kept)))
      (λ is. inl is.0)
      told;
  is_closed = λ is. ⊎_elim (λ e. inl (sym e ∙ is)) (λ has. inr has.1) told;
  asked = refl;
  gate = refl;
  last_asked = refl;
  gone = 0;
  answered = λ k e. omega (arith, clamps, e);
  each = omega (arith, ap length same);
}) (same_by more looks (side_of old) held.tasking.side got sent pool)
