-- What rounds of a loop leave that takes in one note more.
use Rattle.std.proofs.Common.{◌≡◌, ℕ, ◌+◌, Bool, List, [], ◌∷◌, ◌++◌, Option, None, Some, IfSome, IfNone, slice_get, refl, sym, ap, ◌∙◌, subst, append-nil, arith}
use Rattle.std.proofs.lemmas.Grind.{flat_map-append}
use Rattle.std.proofs.lemmas.List.{append_assoc}
use Rattle.atomic_table.specs.Seated.{TableId}
use Rattle.agent_journal.specs.declared.message.Message.{Message}
use Rattle.task_queues.specs.declared.note.Note.{Note}
use Rattle.task_queues.specs.MailboxPasses.{Getting, WasEmpty}
use Rattle.task_end.specs.declared.ticket.Ticket.{Ticket}
use Rattle.task_end.specs.declared.answers.Told.{Told}
use Rattle.task_end.specs.Answers.{told_in, IsNext, looks_for}
use Rattle.task_end.proofs.Lists.{some_is_none}
use Rattle.task_end.specs.Notes.{message_in, messages_in}
use Rattle.task_end.specs.Sides.{TaskSide, Tasking, took, keeping, trying, found_empty, found_full, IsOut, IsGivenBack, IsSameSent, IsBehind, WasFoundEmpty}

pub took_none : (s : TaskSide) → s ≡ took [] s
took_none s = λ i. record s { getter = record s.getter { got = sym (append-nil s.getter.got) i } }

pub took_on : (more : List Note) (note : Note) (first s new : TaskSide) → s ≡ took more first → new ≡ took (note ∷ []) s → new ≡ took (more ++ note ∷ []) first
took_on more note first s new e n = n ∙ ap (took (note ∷ [])) e
    ∙ (λ i. record first { getter = record first.getter { got = append_assoc first.getter.got more (note ∷ []) i } })

pub keeping_none : (t : Tasking) → t ≡ keeping [] t
keeping_none t = λ i. record { side = took_none t.side i; kept = sym (append-nil t.kept) i }

pub keeping_on : (more : List Note) (note : Note) (first t new : Tasking) → t ≡ keeping more first → new ≡ keeping (note ∷ []) t → new ≡ keeping (more ++ note ∷ []) first
keeping_on more note first t new e n = n ∙ ap (keeping (note ∷ [])) e
    ∙ (λ i. record {
      side = record first.side { getter = record first.side.getter { got = append_assoc first.side.getter.got more (note ∷ []) i } };
      kept = (append_assoc first.kept (messages_in more) (messages_in (note ∷ [])) ∙ ap (λ l. first.kept ++ l) (sym (flat_map-append message_in more (note ∷ [])))) i;
    })

module _ (more : List Note) (first s : TaskSide) (e : s ≡ took more first) where
  pub behind_notes : IsBehind more 0 first s
  behind_notes = ap (λ (t : TaskSide). t.getter) e ∙ (λ i. record first.getter { got = first.getter.got ++ more; empties = zero_more first.getter.empties i })
    where
      zero_more : (n : ℕ) → n ≡ n + 0
      zero_more n = omega arith

  pub behind_look : (new : TaskSide) → new ≡ found_empty s → IsBehind more 1 first new
  behind_look new n = ap (λ (t : TaskSide). t.getter) (n ∙ ap found_empty e)

  pub was_empty : (board : TableId) (new : TaskSide) → new ≡ found_empty s → WasEmpty board s.getter → WasFoundEmpty board first.getter.empties new.getter
  was_empty board new n empty = subst (WasEmpty board) (sym
      (ap (λ (t : TaskSide). record t.getter { empties = first.getter.empties }) n
      ∙ (λ i. record s.getter { empties = ap (λ (t : TaskSide). t.getter.empties) (sym e) i }))) empty

  pub still_out : (t : Ticket) → IsOut t first → IsOut t s
  still_out t is = subst (IsOut t) (sym e) is

  pub given_back : (t : Ticket) (new : TaskSide) → IsGivenBack t s new → IsGivenBack t first new
  given_back t new is = let there = subst (λ (u : TaskSide). IsGivenBack t u new) e is in record { tickets = there.tickets; permits = there.permits }

  pub same_sent : (new : TaskSide) → IsSameSent s new → IsSameSent first new
  same_sent new is = record { sender = is.sender ∙ ap (λ (t : TaskSide). t.sender) e; fronts = is.fronts ∙ ap (λ (t : TaskSide). t.fronts) e }

  pub as_sent : IsSameSent first s
  as_sent = record { sender = ap (λ (t : TaskSide). t.sender) e; fronts = ap (λ (t : TaskSide). t.fronts) e }

  pub behind_handed : (new : TaskSide) → new.getter ≡ s.getter → IsBehind more 0 first new
  behind_handed new same = same ∙ behind_notes

-- ---- A Leave that is tried again

more_of : (n m : ℕ) → n + m + 1 ≡ n + (m + 1)
more_of n m = omega arith

pub trying_none : (s : TaskSide) → s ≡ trying [] 0 0 s
trying_none s = λ i. record s {
  sender = record s.sender { fulls = none_more s.sender.fulls i };
  getter = record s.getter { got = sym (append-nil s.getter.got) i; empties = none_more s.getter.empties i };
}
  where
    none_more : (n : ℕ) → n ≡ n + 0
    none_more n = omega arith

module _ (more : List Note) (looks fulls : ℕ) (first s : TaskSide) (e : s ≡ trying more looks fulls first) where
  pub found_full_on : (new : TaskSide) → new ≡ found_full s → new ≡ trying more looks (fulls + 1) first
  found_full_on new n = n ∙ ap found_full e
      ∙ (λ i. record (trying more looks fulls first) { sender = record first.sender { fulls = more_of first.sender.fulls fulls i } })

  pub trying_on : (note : Note) (new : TaskSide) → new ≡ took (note ∷ []) s → new ≡ trying (more ++ note ∷ []) looks fulls first
  trying_on note new n = n ∙ ap (took (note ∷ [])) e
      ∙ (λ i. record (trying more looks fulls first) { getter = record first.getter { got = append_assoc first.getter.got more (note ∷ []) i; empties = first.getter.empties + looks } })

  pub found_empty_on : (new : TaskSide) → new ≡ found_empty s → new ≡ trying more (looks + 1) fulls first
  found_empty_on new n = n ∙ ap found_empty e
      ∙ (λ i. record (trying more looks fulls first) { getter = record first.getter { got = first.getter.got ++ more; empties = more_of first.getter.empties looks i } })

-- ---- The next note, where no message is kept

pub none_there : {A : Type 0} (l : List A) → slice_get l 0 ≡ None → l ≡ []
none_there [] e = refl
none_there (x ∷ l) e = absurd (some_is_none x e)

zero_more : (n : ℕ) → n ≡ n + 0
zero_more n = omega arith

pub next_of : (r : Option Told) (kept left : List (Message × ℕ)) (first new : TaskSide) → kept ≡ [] → left ≡ []
    → IfSome r (λ told. (note : Note) × (told_in note ≡ told) × (new ≡ took (note ∷ []) first)) → IfNone r (new ≡ found_empty first)
    → (more : List Note) × IsBehind more (looks_for r) first new × IsNext kept r more left
next_of None kept left first new none gone some empty = (
  [],
  ap (λ (t : TaskSide). t.getter) empty ∙ (λ i. record first.getter { got = sym (append-nil first.getter.got) i; empties = first.getter.empties + 1 }),
  subst (λ k. IsNext k None [] left) (sym none) (refl, gone),
)
next_of (Some told) kept left first new none gone some empty = (
  some.0 ∷ [],
  ap (λ (t : TaskSide). t.getter) some.2 ∙ (λ i. record first.getter { got = first.getter.got ++ some.0 ∷ []; empties = zero_more first.getter.empties i }),
  subst (λ k. IsNext k (Some told) (some.0 ∷ []) left) (sym none) (ap Some (sym some.1), gone),
)

-- a round in which the queue was full, and a note was taken in where there was one
pub tried_on : (r : Option Told) (more : List Note) (looks fulls : ℕ) (first s refused new : TaskSide) → s ≡ trying more looks fulls first → refused ≡ found_full s
    → IfSome r (λ told. (note : Note) × (told_in note ≡ told) × (new ≡ took (note ∷ []) refused)) → IfNone r (new ≡ found_empty refused)
    → (m : List Note) × (l : ℕ) × (f : ℕ) × (new ≡ trying m l f first)
tried_on None more looks fulls first s refused new e full some none = (
  more,
  looks + 1,
  fulls + 1,
  found_empty_on more looks (fulls + 1) first refused (found_full_on more looks fulls first s e refused full) new none,
)
tried_on (Some told) more looks fulls first s refused new e full some none = (
  more ++ some.0 ∷ [],
  looks,
  fulls + 1,
  trying_on more looks (fulls + 1) first refused (found_full_on more looks fulls first s e refused full) some.0 new some.2,
)
