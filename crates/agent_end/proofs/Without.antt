-- What an agent does whose memory ran out.
use Rattle.std.proofs.Common.{◌≡◌, ◌≢◌, ◌⊎◌, inl, inr, ℕ, zero, suc, ◌+◌, ◌<◌, Bool, true, false, cond, List, [], ◌∷◌, ◌++◌, length, Option, Some, None, is_some, refl, sym, ap, ◌∙◌, subst, arith, append-nil, eq-eqb, ne_eqb}
use Rattle.std.specs.Prelude.{◌==◌, ◌&&◌, ◌||◌, not, slice_get, slice_set}
use Rattle.std.proofs.lemmas.Option.{slice_get_within}
use Rattle.agent_journal.specs.Readings.{is_leave}
use Rattle.agent_posts.specs.Kinds.{failed, closed}
use Rattle.agent_posts.specs.Mail.{Mail, held_for}
use Rattle.agent_posts.proofs.Handing.{is_same, same_some, held_own, held_other}
use Rattle.agent_requests.specs.declared.answers.Popped.{Popped}
use Rattle.agent_requests.specs.Intake.{Pops}
use Rattle.task_queues.specs.declared.note.Note.{Note}
use Rattle.task_queues.specs.Submissions.{task_of, seq_of, request_of}
use Rattle.task_queues.specs.MailboxPasses.{Putting}
use Rattle.task_queues.specs.QueuePasses.{Receiving}
use Rattle.agent_end.specs.Serving.{Serving, IsServing}
use Rattle.agent_end.specs.Owed.{is_command, commands_in, left_in, completes, dones_in, closed_in, is_owed, owed_in, held_in, Owes, IsOneTrue}
use Rattle.agent_end.specs.Short.{time_of, IsNext, AreAllTold}
use Rattle.agent_end.proofs.Owing.{count_one, owes_taken}

abbrev for_one : Bool → ℕ
for_one b = cond b 1 0

-- nothing is promised of its journal any more
pub spent : (a : Serving) → a.short ≡ true → length a.mail.putters ≡ a.taking.recorded.setup.tasks → IsServing a
spent a e tasks = record { served = λ f. absurd (cc (sym e ∙ f)); posted = λ f. absurd (cc (sym e ∙ f)); tasks = tasks }

pub held_short : (a : Serving) → a.short ≡ true → held_in a ≡ a.mail.next
held_short a e = ap (λ b. cond b a.mail.next None) e

-- a note for a task, as it is held
abbrev pub pair : ℕ → Note → ℕ × Note
pair t note = (t, note)

abbrev pub held : ℕ → Note → Option (ℕ × Note)
held t note = Some (t, note)

-- with nothing held
pub nothing_held : (commands : List Popped) (shut left : List Bool) (a : Serving) → a.short ≡ true → a.mail.next ≡ None → Owes commands shut left a.taking.receiver a.mail.putters (held_in a)
    → Owes commands shut left a.taking.receiver a.mail.putters None
nothing_held commands shut left a short none h = subst (Owes commands shut left a.taking.receiver a.mail.putters) (held_short a short ∙ none) h

-- behind a change of the mail
pub owes_now : (commands : List Popped) (shut left : List Bool) (r : Receiving) (m own : Mail) (short : Bool) → short ≡ true → own ≡ m → Owes commands shut left r m.putters m.next → Owes commands shut left r own.putters (cond short own.next None)
owes_now commands shut left r m own short e same h = subst (λ (x : Mail). Owes commands shut left r x.putters (cond short x.next None)) (sym same) (subst (λ b. Owes commands shut left r m.putters (cond b m.next None)) (sym e) h)

pub none_of : {X : Type 0} (o : Option X) → is_some o ≡ false → o ≡ None
none_of None e = refl
none_of (Some x) e = absurd (cc e)

pub empty_of : {X : Type 0} (xs : List X) → length xs ≡ 0 → xs ≡ []
empty_of [] e = refl
empty_of (x ∷ xs) e = absurd (omega (arith, e))

is_there : {X : Type 0} (xs : List X) (i : ℕ) → i < length xs → (x : X) × (slice_get xs i ≡ Some x)
is_there [] i less = absurd (omega (arith, less))
is_there (x ∷ xs) zero less = (x, refl)
is_there (x ∷ xs) (suc i) less = is_there xs i (omega (arith, less))

-- ---- A note is held

held_failed : (t q task seq at : ℕ) (put : List Note) → dones_in q (put ++ held_for t (Some (task, failed seq at))) ≡ dones_in q (put ++ held_for t None) + for_one ((task == t) && (seq == q))
held_failed t q task seq at put = by (is_same t task)
  where
    before : dones_in q (put ++ held_for t None) ≡ dones_in q put
    before = ap (dones_in q) (append-nil put)

    by : (t ≡ task) ⊎ (t ≢ task) → dones_in q (put ++ held_for t (Some (task, failed seq at))) ≡ dones_in q (put ++ held_for t None) + for_one ((task == t) && (seq == q))
    by (inl same) =
        let more = ap (λ ns. dones_in q (put ++ ns)) (ap (λ u. held_for u (Some (task, failed seq at))) same ∙ held_own task (failed seq at)) in
        let one = count_one (completes q) put (failed seq at) in
        let own : for_one ((task == t) && (seq == q)) ≡ for_one (seq == q) = ap (λ b. for_one (b && (seq == q))) (eq-eqb task t (sym same)) in
        omega (arith, before, more, one, own)
    by (inr apart) =
        let more = ap (λ ns. dones_in q (put ++ ns)) (held_other t task (failed seq at) apart ∙ refl) in
        let none : for_one ((task == t) && (seq == q)) ≡ 0 = ap (λ b. for_one (b && (seq == q))) (ne_eqb task t (λ e. apart (sym e))) in
        omega (arith, more, none)

held_closed : (t q task at : ℕ) (put : List Note) → dones_in q (put ++ held_for t (Some (task, closed at))) ≡ dones_in q (put ++ held_for t None)
held_closed t q task at put = by (is_same t task)
  where
    before : dones_in q (put ++ held_for t None) ≡ dones_in q put
    before = ap (dones_in q) (append-nil put)

    by : (t ≡ task) ⊎ (t ≢ task) → dones_in q (put ++ held_for t (Some (task, closed at))) ≡ dones_in q (put ++ held_for t None)
    by (inl same) =
        let more = ap (λ ns. dones_in q (put ++ ns)) (ap (λ u. held_for u (Some (task, closed at))) same ∙ held_own task (closed at)) in
        let one = count_one (completes q) put (closed at) in
        omega (arith, before, more, one)
    by (inr apart) = ap (λ ns. dones_in q (put ++ ns)) (held_other t task (closed at) apart)

module _ (commands : List Popped) (shut left : List Bool) (r : Receiving) (putters : List Putting) (h : Owes commands shut left r putters None) where
  pub owes_closed : (task at : ℕ) → Owes commands shut left r putters (Some (task, closed at))
  owes_closed task at = record {
    few = h.few;
    senders = h.senders;
    known = h.known;
    dones = λ t p there q. let before = h.dones t p there q in let same = held_closed t q task at p.put in omega (arith, before, same);
    closings = h.closings;
    leavings = h.leavings;
  }

  -- a command that was taken without memory fails next
  pub owes_failing : (new : Receiving) (p : Popped) (at : ℕ) → Pops (Some p) r new → p.leaves ≡ false → Owes commands shut left new putters (Some (p.task, failed p.seq at))
  owes_failing new p at pops stays =
      let one = pops.0 in
      let is = pops.1 in
      let taken : new.taken ≡ r.taken ++ one ∷ [] = ap (λ (x : Receiving). x.taken) pops.3 in
      let all = owes_taken commands shut left r new putters None (Some p) pops (ap (λ (x : Receiving). x.senders) pops.3) h in
      let goes : is_leave (request_of one) ≡ false = sym (ap (λ (x : Popped). x.leaves) is) ∙ stays in
      let task : p.task ≡ task_of one = ap (λ (x : Popped). x.task) is in
      let seq : p.seq ≡ seq_of one = ap (λ (x : Popped). x.seq) is in
      record {
        few = h.few;
        senders = all.senders;
        known = h.known;
        dones =
            λ t put there q.
            let before = h.dones t put there q in
            let kept = held_failed t q p.task p.seq at put.put in
            let more = ap (commands_in t q) taken ∙ count_one (is_command t q) r.taken one in
            let alike : for_one ((p.task == t) && (p.seq == q)) ≡ for_one (is_command t q one) =
            ap (λ n. for_one ((n == t) && (p.seq == q))) task ∙ ap (λ n. for_one ((task_of one == t) && (n == q))) seq
            ∙ ap (λ b. for_one (not b && ((task_of one == t) && (seq_of one == q)))) (sym goes) in
            omega (arith, before, kept, more, alike);
        closings = h.closings;
        leavings = subst (λ b. (t : ℕ) → t < length putters → slice_get (cond b (slice_set left p.task true) left) t ≡ Some (left_in t new.taken)) stays all.leavings;
      }

-- a Leave is owed nothing
pub owes_leave : (commands own : List Popped) (shut left own_shut own_left : List Bool) (r new : Receiving) (putters : List Putting) (kept : Option (ℕ × Note)) (p : Popped) → Pops (Some p) r new → p.leaves ≡ true
    → own_left ≡ slice_set left p.task true → own ≡ commands → own_shut ≡ shut → Owes commands shut left r putters kept → Owes own own_shut own_left new putters kept
owes_leave commands own shut left own_shut own_left r new putters kept p pops goes is_left same is_shut h =
    let all = owes_taken commands shut left r new putters kept (Some p) pops (ap (λ (x : Receiving). x.senders) pops.3) h in
    let known : Owes commands shut (slice_set left p.task true) new putters kept =
    subst (λ b. Owes (cond b commands (commands ++ p ∷ [])) shut (cond b (slice_set left p.task true) left) new putters kept) goes all in
    subst (λ xs. Owes xs own_shut own_left new putters kept) (sym same)
    (subst (λ xs. Owes commands xs own_left new putters kept) (sym is_shut) (subst (λ xs. Owes commands shut xs new putters kept) (sym is_left) known))

-- ---- The last command that is owed

module _ (commands rest : List Popped) (shut left : List Bool) (r : Receiving) (putters : List Putting) (c : Popped) (is : commands ≡ rest ++ c ∷ []) (h : Owes commands shut left r putters None) where
  parts : (t q : ℕ) → owed_in t q commands ≡ owed_in t q rest + for_one (is_owed t q c)
  parts t q = ap (owed_in t q) is ∙ count_one (is_owed t q) rest c

  itself : for_one (is_owed c.task c.seq c) ≡ 1
  itself = ap (λ b. for_one (b && (c.seq == c.seq))) (eq-eqb c.task c.task refl) ∙ ap for_one (eq-eqb c.seq c.seq refl)

  pub last_known : c.task < length putters
  last_known = let all = parts c.task c.seq in let one = itself in h.known c.task c.seq (omega (arith, all, one))

  pub owes_failed : (at : ℕ) → Owes rest shut left r putters (Some (c.task, failed c.seq at))
  owes_failed at = record {
    few = h.few;
    senders = h.senders;
    known = λ t q some. let all = parts t q in h.known t q (omega (arith, some, all));
    dones = λ t p there q. let before = h.dones t p there q in let all = parts t q in let kept = held_failed t q c.task c.seq at p.put in omega (arith, before, all, kept);
    closings = h.closings;
    leavings = h.leavings;
  }

  pub last_fails : (a : Serving) (at t : ℕ) (note : Note) → a.taking.receiver ≡ r → a.mail.putters ≡ putters → a.mail.next ≡ None → at ≡ time_of a → held c.task (failed c.seq at) ≡ held t note → IsNext a t note
  last_fails a at t note receiver same none time e =
      let both = same_some (pair c.task (failed c.seq at)) (pair t note) e in
      let task : c.task ≡ t = ap (λ (x : ℕ × Note). x.0) both in
      let there = is_there putters c.task last_known in
      let all = parts c.task c.seq in
      let one = itself in
      let sum = h.dones c.task there.0 there.1 c.seq in
      let put = ap (dones_in c.seq) (append-nil there.0.put) in
      let undone : dones_in c.seq there.0.put < commands_in c.task c.seq r.taken = omega (arith, all, one, sum, put) in
      inr (
        none,
        inl (record {
          seq = c.seq;
          is = sym (ap (λ (x : ℕ × Note). x.1) both) ∙ ap (failed c.seq) time;
          putter = there.0;
          there = ap (λ ps. slice_get ps t) same ∙ ap (slice_get putters) (sym task) ∙ there.1;
          undone = subst (λ (x : Receiving). dones_in c.seq there.0.put < commands_in t c.seq x.taken) (sym receiver) (subst (λ u. dones_in c.seq there.0.put < commands_in u c.seq r.taken) task undone);
        }),
      )

-- ---- A task that isn't closed

same_flag : (flags : List Bool) (t : ℕ) (a b : Bool) → slice_get flags t ≡ Some a → slice_get flags t ≡ Some b → a ≡ b
same_flag flags t a b e f = same_some a b (sym e ∙ f)

pub unclosed_is_next : (commands : List Popped) (shut left : List Bool) (a : Serving) (task at t : ℕ) (note : Note) → Owes commands shut left a.taking.receiver a.mail.putters None → a.mail.next ≡ None → at ≡ time_of a
    → task < length a.mail.putters → slice_get shut task ≡ Some false → slice_get left task ≡ Some false → held task (closed at) ≡ held t note → IsNext a t note
unclosed_is_next commands shut left a task at t note h none time known unclosed stays e =
    let both = same_some (pair task (closed at)) (pair t note) e in
    let is : task ≡ t = ap (λ (x : ℕ × Note). x.0) both in
    let there = is_there a.mail.putters task known in
    inr (
      none,
      inr (record {
        is = sym (ap (λ (x : ℕ × Note). x.1) both) ∙ ap closed time;
        putter = there.0;
        there = ap (slice_get a.mail.putters) (sym is) ∙ there.1;
        unclosed = same_flag shut task (closed_in there.0.put) false (h.closings task there.0 there.1) unclosed;
        stays = ap (λ u. left_in u a.taking.receiver.taken) (sym is) ∙ same_flag left task (left_in task a.taking.receiver.taken) false (h.leavings task known) stays;
      }),
    )

one_flag : (shut left : List Bool) (t : ℕ) (a b : Bool) → slice_get shut t ≡ Some a → slice_get left t ≡ Some b → IsOneTrue (slice_get shut t) (slice_get left t) → (a || b) ≡ true
one_flag shut left t true b e f h = refl
one_flag shut left t false b e f (inl is) = absurd (cc (same_flag shut t false true e is))
one_flag shut left t false b e f (inr is) = same_flag left t b true f is

-- all is put
pub all_told : (commands : List Popped) (shut left : List Bool) (a : Serving) → Owes commands shut left a.taking.receiver a.mail.putters None → a.mail.next ≡ None → commands ≡ []
    → ((t : ℕ) → t < length a.mail.putters → IsOneTrue (slice_get shut t) (slice_get left t)) → AreAllTold a
all_told commands shut left a h none empty flags =
    record {
      none_held = none;
      done =
          λ t p there q.
          let sum = h.dones t p there q in
          let owed = ap (owed_in t q) empty in
          let put = ap (dones_in q) (append-nil p.put) in
          omega (arith, sum, owed, put);
      closed =
          λ t p there.
          let known = slice_get_within a.mail.putters t p there in
          one_flag shut left t (closed_in p.put) (left_in t a.taking.receiver.taken) (h.closings t p there) (h.leavings t known) (flags t known);
    }

-- ---- The next note is put

pub owes_same : (commands own : List Popped) (shut left own_shut own_left : List Bool) (r : Receiving) (putters : List Putting) (kept : Option (ℕ × Note)) → own ≡ commands → own_shut ≡ shut → own_left ≡ left
    → Owes commands shut left r putters kept → Owes own own_shut own_left r putters kept
owes_same commands own shut left own_shut own_left r putters kept same is_shut is_left h =
    subst (λ xs. Owes xs own_shut own_left r putters kept) (sym same) (subst (λ xs. Owes commands xs own_left r putters kept) (sym is_shut) (subst (λ xs. Owes commands shut xs r putters kept) (sym is_left) h))

-- with memory what is held counts for nothing
pub held_with : (commands : List Popped) (shut left : List Bool) (a : Serving) → a.short ≡ false → Owes commands shut left a.taking.receiver a.mail.putters None → Owes commands shut left a.taking.receiver a.mail.putters (held_in a)
held_with commands shut left a e h = subst (λ b. Owes commands shut left a.taking.receiver a.mail.putters (cond b a.mail.next None)) (sym e) h
