-- What is owed behind each step.
use Rattle.std.proofs.Common.{◌≡◌, ◌≢◌, ◌⊎◌, inl, inr, ℕ, ◌+◌, ◌<◌, ◌≤◌, Bool, true, false, cond, List, [], ◌∷◌, ◌++◌, length, Option, Some, None, refl, sym, ap, ◌∙◌, subst, arith, append-nil, eq-eqb, ne_eqb, reverse}
use Rattle.std.specs.Prelude.{◌==◌, ◌&&◌, ◌||◌, not, slice_get, slice_set, replicate, count_by, IfSome}
use Rattle.std.proofs.lemmas.List.{length-set, length-replicate, get_or-replicate}
use Rattle.std.proofs.lemmas.List.Folds.{list_any-append}
use Rattle.std.proofs.lemmas.Option.{slice_get_within, slice_get-get_or}
use Rattle.agent_journal.specs.Readings.{is_leave}
use Rattle.agent_posts.specs.declared.kind.Kind.{Kind}
use Rattle.agent_posts.specs.declared.kind.Kind.TheVariants as kinds
use Rattle.agent_posts.specs.Kinds.{kind_of}
use Rattle.agent_posts.specs.Waiting.{Placed, waiting}
use Rattle.agent_posts.specs.Mail.{Mail, held_for, AreTold, IsMadeTo, IsPosted, PutsOne, FindsFull}
use Rattle.agent_posts.proofs.Handing.{get_set_same, get_set_other, is_same, same_some, held_own, held_other}
use Rattle.agent_requests.specs.declared.answers.Popped.{Popped}
use Rattle.agent_requests.specs.declared.answers.Short.{Short}
use Rattle.agent_requests.specs.Intake.{Taking, Pops, AddsBefore, FallsShort}
use Rattle.agent_requests.specs.Takes.{BecomeAll, AreTakes}
use Rattle.agent_journal.specs.declared.entry.Entry.{Entry}
use Rattle.agent_table.proofs.Counts.{count_append, count_more}
use Rattle.task_queues.specs.declared.note.Note.{Note}
use Rattle.task_queues.specs.declared.note.Note.TheVariants as notes
use Rattle.task_queues.specs.declared.submission.Submission.{Submission}
use Rattle.task_queues.specs.Submissions.{task_of, seq_of, request_of}
use Rattle.task_queues.specs.MailboxPasses.{Putting}
use Rattle.task_queues.specs.QueuePasses.{Receiving}
use Rattle.agent_end.specs.Owed.{is_command, commands_in, leaves, left_in, completes, dones_in, closes, closed_in, NoneIsToldTwice, is_owed, owed_in, held_in, Owes, commands_with, left_with, done_by, closed_with}
use Rattle.agent_end.specs.Serving.{Serving}

abbrev for_one : Bool → ℕ
for_one b = cond b 1 0

pub count_one : {X : Type 0} (p : X → Bool) (xs : List X) (x : X) → count_by p (xs ++ x ∷ []) ≡ count_by p xs + cond (p x) 1 0
count_one p xs x = let all = count_append p xs (x ∷ []) in let one = count_more p x [] in omega (arith, all, one)

-- ---- A request was taken

owed_more : (b : Bool) (t q : ℕ) (commands : List Popped) (p : Popped)
    → owed_in t q (cond b commands (commands ++ p ∷ [])) ≡ owed_in t q commands + cond (not b && is_owed t q p) 1 0
owed_more true t q commands p = omega arith
owed_more false t q commands p = count_one (is_owed t q) commands p

or_later : (a b : Bool) → (a || (b || false)) ≡ (a || b)
or_later true b = refl
or_later false true = refl
or_later false false = refl

left_more : (t : ℕ) (taken : List Submission) (one : Submission) → left_in t (taken ++ one ∷ []) ≡ (left_in t taken || leaves t one)
left_more t taken one = list_any-append (leaves t) taken (one ∷ []) ∙ or_later (left_in t taken) (leaves t one)

or_true : (a : Bool) → (a || true) ≡ true
or_true true = refl
or_true false = refl

or_false : (a : Bool) → (a || false) ≡ a
or_false true = refl
or_false false = refl

-- the flag of a task behind a request of some task
left_by : (b : Bool) (t task : ℕ) (left : List Bool) (before : Bool) → (t ≡ task) ⊎ (t ≢ task) → slice_get left t ≡ Some before
    → slice_get (cond b (slice_set left task true) left) t ≡ Some (before || (b && (task == t)))
left_by true t task left before (inl same) there =
    ap (λ n. slice_get (slice_set left n true) t) (sym same) ∙ get_set_same left t true before there
    ∙ ap (λ b. Some b) (sym (or_true before) ∙ ap (λ b. before || b) (sym (eq-eqb task t (sym same))))
left_by true t task left before (inr apart) there =
    get_set_other left task t true apart ∙ there ∙ ap (λ b. Some b) (sym (or_false before) ∙ ap (λ b. before || b) (sym (ne_eqb task t (λ e. apart (sym e)))))
left_by false t task left before which there = there ∙ ap (λ b. Some b) (sym (or_false before))

known_more : (b : Bool) (commands : List Popped) (p : Popped) (n : ℕ) → ((t q : ℕ) → 0 < owed_in t q commands → t < n) → p.task < n
    → (t q : ℕ) → 0 < owed_in t q (cond b commands (commands ++ p ∷ [])) → t < n
known_more true commands p n known own t q some = known t q some
known_more false commands p n known own t q some = by (is_same t p.task)
  where
    by : (t ≡ p.task) ⊎ (t ≢ p.task) → t < n
    by (inl same) = subst (λ u. u < n) (sym same) own
    by (inr apart) =
        let all = count_one (is_owed t q) commands p in
        let none : is_owed t q p ≡ false = ap (λ b. b && (p.seq == q)) (ne_eqb p.task t (λ e. apart (sym e))) in
        let zero = ap for_one none in
        known t q (omega (arith, some, all, zero))

pub owes_taken : (commands : List Popped) (shut left : List Bool) (old new : Receiving) (putters : List Putting) (held : Option (ℕ × Note)) (p : Option Popped) → Pops p old new → new.senders ≡ old.senders
    → Owes commands shut left old putters held → Owes (commands_with commands p) shut (left_with left p) new putters held
owes_taken commands shut left old new putters held None pops same h =
    record {
      few = h.few;
      senders = same ∙ h.senders;
      known = h.known;
      dones = λ t p there seq. h.dones t p there seq ∙ ap (commands_in t seq) (sym pops);
      closings = h.closings;
      leavings = λ t known. h.leavings t known ∙ ap (λ taken. Some (left_in t taken)) (sym pops);
    }
owes_taken commands shut left old new putters held (Some p) pops same h =
    let one = pops.0 in
    let is = pops.1 in
    let taken : new.taken ≡ old.taken ++ one ∷ [] = ap (λ (r : Receiving). r.taken) pops.3 in
    let task : p.task ≡ task_of one = ap (λ (x : Popped). x.task) is in
    let seq_is : p.seq ≡ seq_of one = ap (λ (x : Popped). x.seq) is in
    let goes : p.leaves ≡ is_leave (request_of one) = ap (λ (x : Popped). x.leaves) is in
    record {
      few = h.few;
      senders = same ∙ h.senders;
      known = known_more p.leaves commands p (length putters) h.known (subst (λ n. n < length putters) (sym task) (subst (λ n. task_of one < n) h.senders pops.2));
      dones =
          λ t put there seq.
          let before = h.dones t put there seq in
          let owed = owed_more p.leaves t seq commands p in
          let all = ap (commands_in t seq) taken ∙ count_one (is_command t seq) old.taken one in
          let alike : for_one (not p.leaves && is_owed t seq p) ≡ for_one (is_command t seq one) =
          ap (λ b. for_one (not b && is_owed t seq p)) goes ∙ ap (λ n. for_one (not (is_leave (request_of one)) && ((n == t) && (p.seq == seq)))) task
          ∙ ap (λ n. for_one (not (is_leave (request_of one)) && ((task_of one == t) && (n == seq)))) seq_is in
          omega (arith, before, owed, all, alike);
      closings = h.closings;
      leavings =
          λ t known.
          left_by p.leaves t p.task left (left_in t old.taken) (is_same t p.task) (h.leavings t known)
          ∙ ap (λ b. Some (left_in t old.taken || (b && (p.task == t)))) goes ∙ ap (λ n. Some (left_in t old.taken || (is_leave (request_of one) && (n == t)))) task
          ∙ ap (λ b. Some b) (sym (left_more t old.taken one)) ∙ ap (λ xs. Some (left_in t xs)) (sym taken);
    }

-- ---- A note was put, or its mailbox was full

-- who is told by a note
pub record IsOwn (t task : ℕ) (before p : Putting) (note : Note) : Type 0 where
  pub same : t ≡ task
  pub is : p.put ≡ before.put ++ note ∷ []

module _ (task : ℕ) (note : Note) (putters new : List Putting) (puts : PutsOne task note putters new) where
  abbrev behind : Putting
  behind = record puts.before { put = puts.before.put ++ note ∷ [] }

  pub as_many : length new ≡ length putters
  as_many = ap length puts.put ∙ length-set putters task behind

  pub own_there : slice_get new task ≡ Some behind
  own_there = ap (λ ps. slice_get ps task) puts.put ∙ get_set_same putters task behind puts.before puts.there

  pub who : (t : ℕ) (p : Putting) → slice_get new t ≡ Some p → IsOwn t task puts.before p note ⊎ ((t ≢ task) × (slice_get putters t ≡ Some p))
  who t p there = by (is_same t task)
    where
      by : (t ≡ task) ⊎ (t ≢ task) → IsOwn t task puts.before p note ⊎ ((t ≢ task) × (slice_get putters t ≡ Some p))
      by (inl same) =
          let is : p ≡ behind = same_some p behind (sym there ∙ ap (slice_get new) same ∙ own_there) in
          inl (record { same = same; is = ap (λ (x : Putting). x.put) is })
      by (inr apart) = inr (apart, sym (get_set_other putters task t behind apart) ∙ sym (ap (λ ps. slice_get ps t) puts.put) ∙ there)

no_other : (t seq task : ℕ) (kind : Kind) → t ≢ task → done_by t seq task kind ≡ 0
no_other t seq task (kinds.Done number) apart = ap (λ b. cond (b && (number == seq)) 1 0) (ne_eqb task t (λ e. apart (sym e)))
no_other t seq task kinds.Message apart = refl
no_other t seq task kinds.Closed apart = refl

own_done : (seq task : ℕ) (note : Note) → done_by task seq task (kind_of note) ≡ cond (completes seq note) 1 0
own_done seq task (notes.Done number outcome at front) = ap (λ b. cond (b && (number == seq)) 1 0) (eq-eqb task task refl)
own_done seq task (notes.Message message at front) = refl
own_done seq task (notes.Closed at front) = refl

closed_own : (shut : List Bool) (task : ℕ) (put : List Note) (note : Note) → slice_get shut task ≡ Some (closed_in put) → slice_get (closed_with shut task (kind_of note)) task ≡ Some (closed_in (put ++ note ∷ []))
closed_own shut task put note there = by note ∙ ap (λ b. Some b) (sym (list_any-append closes put (note ∷ []) ∙ or_later (closed_in put) (closes note)))
  where
    by : (n : Note) → slice_get (closed_with shut task (kind_of n)) task ≡ Some (closed_in put || closes n)
    by (notes.Done number outcome at front) = there ∙ ap (λ b. Some b) (sym (or_false (closed_in put)))
    by (notes.Message message at front) = there ∙ ap (λ b. Some b) (sym (or_false (closed_in put)))
    by (notes.Closed at front) = get_set_same shut task true (closed_in put) there ∙ ap (λ b. Some b) (sym (or_true (closed_in put)))

closed_other : (shut : List Bool) (t task : ℕ) (kind : Kind) → t ≢ task → slice_get (closed_with shut task kind) t ≡ slice_get shut t
closed_other shut t task (kinds.Done number) apart = refl
closed_other shut t task kinds.Message apart = refl
closed_other shut t task kinds.Closed apart = get_set_other shut task t true apart

closings_put : (shut : List Bool) (task : ℕ) (note : Note) (putters new : List Putting) → PutsOne task note putters new → ((t : ℕ) (p : Putting) → slice_get putters t ≡ Some p → slice_get shut t ≡ Some (closed_in p.put))
    → (t : ℕ) (p : Putting) → slice_get new t ≡ Some p → slice_get (closed_with shut task (kind_of note)) t ≡ Some (closed_in p.put)
closings_put shut task note putters new puts h t p there =
    elim (who task note putters new puts t p there) [
      | inl own ↦
          subst (λ u. slice_get (closed_with shut task (kind_of note)) u ≡ Some (closed_in p.put)) (sym own.same)
          (closed_own shut task puts.before.put note (h task puts.before puts.there) ∙ ap (λ put. Some (closed_in put)) (sym own.is))
      | inr other ↦ closed_other shut t task (kind_of note) other.0 ∙ h t p other.1
    ]

none_held : (t : ℕ) (put : List Note) → put ++ held_for t None ≡ put
none_held t put = append-nil put

-- with memory: its command is owed no more
pub owes_put : (commands next : List Popped) (shut left : List Bool) (r : Receiving) (putters new : List Putting) (task : ℕ) (note : Note) → PutsOne task note putters new
    → ((t q : ℕ) → owed_in t q next + done_by t q task (kind_of note) ≡ owed_in t q commands) → Owes commands shut left r putters None → Owes next (closed_with shut task (kind_of note)) left r new None
owes_put commands next shut left r putters new task note puts fewer h =
    let size = as_many task note putters new puts in
    record {
      few = subst (λ n. n ≤ 8) (sym size) h.few;
      senders = h.senders ∙ sym size;
      known = λ t q some. subst (λ n. t < n) (sym size) (h.known t q (let one = fewer t q in omega (arith, some, one)));
      dones = λ t p there q. by t p q (who task note putters new puts t p there);
      closings = closings_put shut task note putters new puts h.closings;
      leavings = λ t known. h.leavings t (subst (λ n. t < n) size known);
    }
  where
    by : (t : ℕ) (p : Putting) (q : ℕ) → IsOwn t task puts.before p note ⊎ ((t ≢ task) × (slice_get putters t ≡ Some p)) → owed_in t q next + dones_in q (p.put ++ held_for t None) ≡ commands_in t q r.taken
    by t p q (inl own) =
        let before = h.dones task puts.before puts.there q in
        let fewer_one = fewer task q in
        let one = own_done q task note in
        let put = ap (dones_in q) (none_held task p.put ∙ own.is) ∙ count_one (completes q) puts.before.put note in
        let was = ap (dones_in q) (none_held task puts.before.put) in
        subst (λ u. owed_in u q next + dones_in q (p.put ++ held_for u None) ≡ commands_in u q r.taken) (sym own.same) (omega (arith, before, fewer_one, one, put, was))
    by t p q (inr other) = let before = h.dones t p other.1 q in let fewer_one = fewer t q in let none = no_other t q task (kind_of note) other.0 in omega (arith, before, fewer_one, none)

-- without memory: the note that was held
pub owes_put_held : (commands : List Popped) (shut left : List Bool) (r : Receiving) (putters new : List Putting) (task : ℕ) (note : Note) → PutsOne task note putters new
    → Owes commands shut left r putters (Some (task, note)) → Owes commands (closed_with shut task (kind_of note)) left r new None
owes_put_held commands shut left r putters new task note puts h =
    let size = as_many task note putters new puts in
    record {
      few = subst (λ n. n ≤ 8) (sym size) h.few;
      senders = h.senders ∙ sym size;
      known = λ t q some. subst (λ n. t < n) (sym size) (h.known t q some);
      dones = λ t p there q. by t p q (who task note putters new puts t p there);
      closings = closings_put shut task note putters new puts h.closings;
      leavings = λ t known. h.leavings t (subst (λ n. t < n) size known);
    }
  where
    by : (t : ℕ) (p : Putting) (q : ℕ) → IsOwn t task puts.before p note ⊎ ((t ≢ task) × (slice_get putters t ≡ Some p)) → owed_in t q commands + dones_in q (p.put ++ held_for t None) ≡ commands_in t q r.taken
    by t p q (inl own) =
        let all : p.put ++ held_for task None ≡ puts.before.put ++ held_for task (Some (task, note)) = none_held task p.put ∙ own.is ∙ ap (λ held. puts.before.put ++ held) (sym (held_own task note)) in
        subst (λ u. owed_in u q commands + dones_in q (p.put ++ held_for u None) ≡ commands_in u q r.taken) (sym own.same)
        (ap (λ ns. owed_in task q commands + dones_in q ns) all ∙ h.dones task puts.before puts.there q)
    by t p q (inr other) = ap (λ held. owed_in t q commands + dones_in q (p.put ++ held)) (sym (held_other t task note other.0)) ∙ h.dones t p other.1 q

pub as_many_full : (task : ℕ) (full : Putting) (putters new : List Putting) → FindsFull task full putters new → length new ≡ length putters
as_many_full task full putters new finds = ap length finds.counted ∙ length-set putters task (record full { fulls = full.fulls + 1 })

-- a mailbox that was found full once more was put the same
pub owes_full : (commands : List Popped) (shut left : List Bool) (r : Receiving) (putters new : List Putting) (task : ℕ) (full : Putting) (held : Option (ℕ × Note)) → FindsFull task full putters new
    → Owes commands shut left r putters held → Owes commands shut left r new held
owes_full commands shut left r putters new task full held finds h =
    let size = as_many_full task full putters new finds in
    record {
      few = subst (λ n. n ≤ 8) (sym size) h.few;
      senders = h.senders ∙ sym size;
      known = λ t q some. subst (λ n. t < n) (sym size) (h.known t q some);
      dones = λ t p there q. let was = before t p there in ap (λ put. owed_in t q commands + dones_in q (put ++ held_for t held)) was.1 ∙ h.dones t was.0 was.2 q;
      closings = λ t p there. let was = before t p there in h.closings t was.0 was.2 ∙ ap (λ put. Some (closed_in put)) (sym was.1);
      leavings = λ t known. h.leavings t (subst (λ n. t < n) size known);
    }
  where
    behind_full : Putting
    behind_full = record full { fulls = full.fulls + 1 }

    before : (t : ℕ) (p : Putting) → slice_get new t ≡ Some p → (was : Putting) × (p.put ≡ was.put) × (slice_get putters t ≡ Some was)
    before t p there = by (is_same t task)
      where
        by : (t ≡ task) ⊎ (t ≢ task) → (was : Putting) × (p.put ≡ was.put) × (slice_get putters t ≡ Some was)
        by (inl same) =
            let own : slice_get new task ≡ Some behind_full = ap (λ ps. slice_get ps task) finds.counted ∙ get_set_same putters task behind_full full finds.there in
            let is : p ≡ behind_full = same_some p behind_full (sym there ∙ ap (slice_get new) same ∙ own) in
            (full, ap (λ (x : Putting). x.put) is, ap (slice_get putters) same ∙ finds.there)
        by (inr apart) = (p, refl, sym (get_set_other putters task t behind_full apart) ∙ sym (ap (λ ps. slice_get ps t) finds.counted) ∙ there)

-- ---- Before the first entry

no_flag : (n t : ℕ) → t < n → slice_get (replicate n false) t ≡ Some false
no_flag n t less =
    let size = length-replicate n false in
    slice_get-get_or (replicate n false) t false (omega (arith, less, size)) ∙ ap (λ b. Some b) (get_or-replicate n t false false less)

pub owes_none : (r : Receiving) (putters : List Putting) → r.senders ≡ length putters → length putters ≤ 8 → r.taken ≡ [] → ((t : ℕ) (p : Putting) → slice_get putters t ≡ Some p → p.put ≡ [])
    → Owes [] (replicate 8 false) (replicate 8 false) r putters None
owes_none r putters senders few none unput =
    record {
      few = few;
      senders = senders;
      known = λ t q some. absurd (omega (arith, some));
      dones = λ t p there q. let put = ap (λ put. dones_in q (put ++ [])) (unput t p there) in let taken = ap (commands_in t q) none in omega (arith, put, taken);
      closings = λ t p there. let known = slice_get_within putters t p there in no_flag 8 t (omega (arith, known, few)) ∙ ap (λ put. Some (closed_in put)) (sym (unput t p there));
      leavings = λ t known. no_flag 8 t (omega (arith, known, few)) ∙ ap (λ taken. Some (left_in t taken)) (sym none);
    }

nothing_before : {X : Type 0} (xs ys : List X) → [] ≡ xs ++ ys → xs ≡ []
nothing_before [] ys e = refl
nothing_before (x ∷ xs) ys e = absurd (cc e)

no_notes : (before : List Placed) (made : List Note) → before ≡ [] → AreTold before made → made ≡ []
no_notes [] [] e h = refl
no_notes [] (note ∷ made) e h = absurd h
no_notes (b ∷ before) made e h = absurd (cc e)

first_part : {X : Type 0} (xs ys : List X) → xs ++ ys ≡ [] → xs ≡ []
first_part xs ys e = nothing_before xs ys (sym e)

-- of an empty journal nothing was put
pub unput : (past : List Entry) (m : Mail) → past ≡ [] → IsPosted (reverse past) m → (t : ℕ) (p : Putting) → slice_get m.putters t ≡ Some p → p.put ≡ []
unput past m none h t p there =
    let made : IsMadeTo t [] m.place (p.put ++ held_for t m.next) = subst (λ past. IsMadeTo t (reverse past) m.place (p.put ++ held_for t m.next)) none (h.made t p there) in
    first_part p.put (held_for t m.next) (no_notes made.before (p.put ++ held_for t m.next) (nothing_before made.before (waiting t [] m.place) made.in_order) made.told)

-- and nothing was taken
pub untaken : (past : List Entry) (taken : List Submission) → past ≡ [] → AreTakes taken past → taken ≡ []
untaken past taken none h = by taken (subst (λ past. AreTakes taken past) none h)
  where
    by : (xs : List Submission) → BecomeAll xs [] → xs ≡ []
    by [] k = refl
    by (x ∷ xs) k = absurd k

-- ---- Memory runs out

held_none : (b : Bool) (next : Option (ℕ × Note)) → next ≡ None → cond b next None ≡ None
held_none true next e = e
held_none false next e = refl

module _ (commands : List Popped) (shut left : List Bool) (r : Receiving) (putters : List Putting) where
  pub with_memory : (a : Serving) → a.short ≡ false → Owes commands shut left r putters (held_in a) → Owes commands shut left r putters None
  with_memory a e h = subst (λ b. Owes commands shut left r putters (cond b a.mail.next None)) e h

  pub without_memory : (a : Serving) → a.short ≡ true → Owes commands shut left r putters (held_in a) → Owes commands shut left r putters a.mail.next
  without_memory a e h = subst (λ b. Owes commands shut left r putters (cond b a.mail.next None)) e h

  -- with nothing held it is the same with memory and without
  pub either_way : (a : Serving) → a.mail.next ≡ None → Owes commands shut left r putters None → Owes commands shut left r putters (held_in a)
  either_way a none h = subst (Owes commands shut left r putters) (sym (held_none a.short a.mail.next none)) h

-- ---- What it says of any moment

dones_before : (t q : ℕ) (put : List Note) (held : Option (ℕ × Note)) → dones_in q put ≤ dones_in q (put ++ held_for t held)
dones_before t q put held = let all = count_append (completes q) put (held_for t held) in omega (arith, all)

pub none_twice_by : (commands : List Popped) (shut left : List Bool) (a : Serving) (held : Option (ℕ × Note)) → Owes commands shut left a.taking.receiver a.mail.putters held → NoneIsToldTwice a
none_twice_by commands shut left a held h = λ t p there q. let all = h.dones t p there q in let less = dones_before t q p.put held in omega (arith, all, less)

pub known_popped : (p : Option Popped) (old new : Receiving) (n : ℕ) → Pops p old new → old.senders ≡ n → n ≤ 8 → IfSome p (λ one. one.task < 8)
known_popped None old new n pops same few = tt
known_popped (Some p) old new n pops same few =
    let own = pops.2 in
    let task : p.task ≡ task_of pops.0 = ap (λ (x : Popped). x.task) pops.1 in
    omega (arith, own, task, same, few)

-- where memory ran out, what was popped
pub falls_pops : (at : ℕ) (old new : Taking) (e : Short) → FallsShort at old new e → Pops e.popped old.receiver new.receiver
falls_pops at old new e h = by e.popped h
  where
    by : (p : Option Popped) → AddsBefore at old new p → Pops p old.receiver new.receiver
    by None f = ap (λ (r : Receiving). r.taken) f.1
    by (Some p) f =
        let l = f.3 in
        subst (λ (r : Receiving). Pops (Some p) r new.receiver) f.2 (l.submission, l.is, l.sender, l.taken)

-- ---- A command whose Done was put was owed it

done_completes : (seq : ℕ) (note : Note) → kind_of note ≡ kinds.Done seq → completes seq note ≡ true
done_completes seq (notes.Done number outcome at front) e = let same : number ≡ seq = cc e in eq-eqb number seq same
done_completes seq (notes.Message message at front) e = absurd (cc e)
done_completes seq (notes.Closed at front) e = absurd (cc e)

pub was_owed : (commands : List Popped) (shut left : List Bool) (r : Receiving) (putters new : List Putting) (task : ℕ) (note : Note) (seq : ℕ) → Owes commands shut left r putters None → (puts : PutsOne task note putters new)
    → ((t : ℕ) (p : Putting) → slice_get new t ≡ Some p → (q : ℕ) → dones_in q p.put ≤ commands_in t q r.taken) → kind_of note ≡ kinds.Done seq → 0 < owed_in task seq commands
was_owed commands shut left r putters new task note seq h puts most kind =
    let limit = most task (behind task note putters new puts) (own_there task note putters new puts) seq in
    let more = count_one (completes seq) puts.before.put note in
    let one = ap for_one (done_completes seq note kind) in
    let before = h.dones task puts.before puts.there seq in
    let was = ap (dones_in seq) (none_held task puts.before.put) in
    omega (arith, limit, more, one, before, was)
