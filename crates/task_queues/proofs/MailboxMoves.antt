-- Each kind of step keeps the rule of a mailbox.
use Rattle.std.proofs.Common.{◌≡◌, ◌≢◌, ℕ, true, List, [], ◌∷◌, ◌++◌, length, slice_set, refl, sym, ap, subst, ◌∙◌, append_assoc, append-nil}
use Rattle.std.specs.Prelude.{Option as Maybe, None, Some, IfSome}
use mathlib.Core.Option.{Option, some, none, some-injective, some-ne-none}
use Rattle.crossbeam_queue.specs.Fifo.{Pushes, Pops, Forks, Merges, Held}
use Rattle.task_queues.specs.declared.note.Note.{Note}
use Rattle.task_queues.specs.declared.end.End.{End}
use Rattle.task_queues.specs.Ends.{whole, putter, getter, idle, putting, getting, full, empty, joining, both, as_getter, as_putter}
use Rattle.task_queues.specs.MailboxRule.{IsPutter, IsGetter, IsHandedOver}
use Rattle.atomic_table.specs.Seated.{TableId}
use Rattle.task_queues.specs.Fronts.{IsSoundNote}
use Rattle.task_queues.specs.Moments.{Moment}
use Rattle.task_queues.specs.MailboxPasses.{Putting, Getting, WasEmpty, Holds}
use Rattle.task_queues.proofs.Submissions.{all_snoc}
use Rattle.task_queues.proofs.Views.{neither, each_set, each_snoc, each_one, was}
use Rattle.task_queues.proofs.Moments.{none_held}

abbrev PutsFit : Option ℕ → List Note → ℕ → End → Type 0
PutsFit writer put p v = v.puts ≡ true → IsPutter writer put p v

abbrev GetsFit : ℕ → Option ℕ → List Note → List Note → ℕ → End → Type 0
GetsFit reader writer put got p v = v.gets ≡ true → IsGetter reader writer put got p v

-- where one pass gets, no other does, and so with puts
one_getter : (reader : ℕ) (writer : Option ℕ) (put got : List Note) (p q : ℕ) (v u : End) {P : Type 0} → IsGetter reader writer put got p v → IsGetter reader writer put got q u → q ≢ p → P
one_getter reader writer put got p q v u mine yours apart = absurd (apart (yours.one_pass ∙ sym mine.one_pass))

one_putter : (writer : Option ℕ) (put : List Note) (p q : ℕ) (v u : End) {P : Type 0} → IsPutter writer put p v → IsPutter writer put q u → q ≢ p → P
one_putter writer put p q v u mine yours apart = absurd (apart (some-injective q p (sym yours.one_pass ∙ mine.one_pass)))

pub opens : (board : TableId) → IsHandedOver board [] (whole ∷ [])
opens board = record {
  reader = 0;
  writer = some 0;
  put = [];
  got = [];
  in_all = refl;
  sound = tt;
  putters = each_one whole (PutsFit (some 0) []) (λ _. record { one_pass = refl; knows_put = refl });
  getters = each_one whole (GetsFit 0 (some 0) [] []) (λ _. record { one_pass = refl; knows_got = refl; knows_joined = tt });
}

-- where one pass puts, none was joined
none_joined : (writer : Option ℕ) (put : List Note) (p : ℕ) → writer ≡ some p → (P : List Note → Type 0) (joined : Maybe (List Note))
    → IfSome joined (λ all. (writer ≡ none) × (all ≡ put)) → IfSome joined P
none_joined writer put p is P None knows = tt
none_joined writer put p is P (Some all) knows = absurd (some-ne-none p (sym is ∙ knows.0))

pub puts : (board : TableId) (size p : ℕ) (v : End) (n : Note) → v.puts ≡ true → IsSoundNote board n → Pushes (IsHandedOver board) size p v n (λ w. w ≡ putting v n)
puts board size p v n may is_sound items views room rule at = (
  putting v n,
  record {
    reader = rule.reader;
    writer = rule.writer;
    put = put;
    got = rule.got;
    in_all = ap (λ l. l ++ n ∷ []) rule.in_all ∙ append_assoc rule.got items (n ∷ []);
    sound = all_snoc (IsSoundNote board) items n rule.sound is_sound;
    putters = each_set views p (putting v n) (PutsFit rule.writer put) (λ _. record { one_pass = mine.one_pass; knows_put = ap (λ l. l ++ n ∷ []) mine.knows_put })
        (λ q u apart is puts. one_putter _ _ p q v u mine (rule.putters q u is puts) apart);
    getters = each_set views p (putting v n) (GetsFit rule.reader rule.writer put rule.got) neither
        (λ q u _ is gets. let yours = rule.getters q u is gets in record {
          one_pass = yours.one_pass;
          knows_got = yours.knows_got;
          knows_joined = none_joined rule.writer rule.put p mine.one_pass _ u.joined yours.knows_joined;
        });
  },
  refl,
)
  where
    put : List Note
    put = rule.put ++ n ∷ []

    mine : IsPutter rule.writer rule.put p v
    mine = rule.putters p v at may

pub gets : (board : TableId) (p : ℕ) (v : End) → v.gets ≡ true → Pops (IsHandedOver board) p v (λ n w. (w ≡ getting v n) × IsSoundNote board n)
gets board p v may n items views rule at = (
  getting v n,
  record {
    reader = rule.reader;
    writer = rule.writer;
    put = rule.put;
    got = rule.got ++ n ∷ [];
    in_all = rule.in_all ∙ sym (append_assoc rule.got (n ∷ []) items);
    sound = rule.sound.1;
    putters = each_set views p (getting v n) (PutsFit rule.writer rule.put) neither (λ q u _ is. rule.putters q u is);
    getters = each_set views p (getting v n) (GetsFit rule.reader rule.writer rule.put (rule.got ++ n ∷ []))
        (λ _. record { one_pass = mine.one_pass; knows_got = ap (λ l. l ++ n ∷ []) mine.knows_got; knows_joined = mine.knows_joined })
        (λ q u apart is gets. one_getter _ _ _ _ p q v u mine (rule.getters q u is gets) apart);
  },
  (refl, rule.sound.0),
)
  where
    mine : IsGetter rule.reader rule.writer rule.put rule.got p v
    mine = rule.getters p v at may

-- a pass that is both ends is cut in two
pub parts : (board : TableId) (p : ℕ) (v : End) → v.puts ≡ true → v.gets ≡ true → Forks (IsHandedOver board) p v (as_getter v) (as_putter v)
parts board p v puts_may gets_may items views rule at = record {
  reader = rule.reader;
  writer = writer;
  put = rule.put;
  got = rule.got;
  in_all = rule.in_all;
  sound = rule.sound;
  putters = each_snoc now (as_putter v) (PutsFit writer rule.put) (λ _. record { one_pass = refl; knows_put = theirs.knows_put })
      (each_set views p (as_getter v) (PutsFit writer rule.put) neither (λ q u apart is puts. one_putter _ _ p q v u theirs (rule.putters q u is puts) apart));
  getters = each_snoc now (as_putter v) (GetsFit rule.reader writer rule.put rule.got) neither
      (each_set views p (as_getter v) (GetsFit rule.reader writer rule.put rule.got)
      (λ _. record { one_pass = mine.one_pass; knows_got = mine.knows_got; knows_joined = none_joined rule.writer rule.put p theirs.one_pass _ v.joined mine.knows_joined })
      (λ q u apart is gets. one_getter _ _ _ _ p q v u mine (rule.getters q u is gets) apart));
}
  where
    now : List End
    now = slice_set views p (as_getter v)

    writer : Option ℕ
    writer = some (length now)

    mine : IsGetter rule.reader rule.writer rule.put rule.got p v
    mine = rule.getters p v at gets_may

    theirs : IsPutter rule.writer rule.put p v
    theirs = rule.putters p v at puts_may

-- a step behind which the pass knows the same of what was put and got
pub stays : (board : TableId) (p : ℕ) (v w : End) → w.puts ≡ v.puts → w.put ≡ v.put → w.gets ≡ v.gets → w.got ≡ v.got → w.joined ≡ v.joined
    → Forks (IsHandedOver board) p v w idle
stays board p v w puts put gets got joined items views rule at = record {
  reader = rule.reader;
  writer = rule.writer;
  put = rule.put;
  got = rule.got;
  in_all = rule.in_all;
  sound = rule.sound;
  putters = each_snoc (slice_set views p w) idle (PutsFit rule.writer rule.put) neither
      (each_set views p w (PutsFit rule.writer rule.put)
      (λ may. let mine = rule.putters p v at (sym puts ∙ may) in record { one_pass = mine.one_pass; knows_put = put ∙ mine.knows_put })
      (λ q u _ is. rule.putters q u is));
  getters = each_snoc (slice_set views p w) idle (GetsFit rule.reader rule.writer rule.put rule.got) neither
      (each_set views p w (GetsFit rule.reader rule.writer rule.put rule.got)
      (λ may. let mine = rule.getters p v at (sym gets ∙ may) in record {
        one_pass = mine.one_pass;
        knows_got = got ∙ mine.knows_got;
        knows_joined = subst (λ j. IfSome j (λ all. (rule.writer ≡ none) × (all ≡ rule.put))) (sym joined) mine.knows_joined;
      })
      (λ q u _ is. rule.getters q u is));
}

pub releases : (board : TableId) (p : ℕ) (v : End) (other : ℕ) (o : End) → v.gets ≡ true → o.puts ≡ true → Merges (IsHandedOver board) p v other o (joining v o) idle
releases board p v other o may puts_may items views rule at apart there = record {
  reader = rule.reader;
  writer = none;
  put = rule.put;
  got = rule.got;
  in_all = rule.in_all;
  sound = rule.sound;
  putters = each_set now other idle (PutsFit none rule.put) neither
      (λ q u away is. each_set views p (joining v o) (λ i w. i ≢ other → PutsFit none rule.put i w) (λ _. neither)
      (λ i w _ is away puts. one_putter _ _ other i o w theirs (rule.putters i w is puts) away) q u is away);
  getters = each_set now other idle (GetsFit rule.reader none rule.put rule.got) neither
      (λ q u _ is. each_set views p (joining v o) (GetsFit rule.reader none rule.put rule.got)
      (λ _. record { one_pass = mine.one_pass; knows_got = mine.knows_got; knows_joined = (refl, theirs.knows_put) })
      (λ i w apart is gets. one_getter _ _ _ _ p i v w mine (rule.getters i w is gets) apart) q u is);
}
  where
    now : List End
    now = slice_set views p (joining v o)

    mine : IsGetter rule.reader rule.writer rule.put rule.got p v
    mine = rule.getters p v at may

    theirs : IsPutter rule.writer rule.put other o
    theirs = rule.putters other o (was views p other (joining v o) o apart there) puts_may

pub meets : (board : TableId) (p : ℕ) (v : End) (other : ℕ) (o : End) → v.gets ≡ true → o.puts ≡ true → Merges (IsHandedOver board) p v other o (both v o) idle
meets board p v other o may puts_may items views rule at apart there = record {
  reader = rule.reader;
  writer = some p;
  put = rule.put;
  got = rule.got;
  in_all = rule.in_all;
  sound = rule.sound;
  putters = each_set now other idle (PutsFit (some p) rule.put) neither
      (λ q u away is. each_set views p (both v o) (λ i w. i ≢ other → PutsFit (some p) rule.put i w) (λ _ _. record { one_pass = refl; knows_put = theirs.knows_put })
      (λ i w _ is away puts. one_putter _ _ other i o w theirs (rule.putters i w is puts) away) q u is away);
  getters = each_set now other idle (GetsFit rule.reader (some p) rule.put rule.got) neither
      (λ q u _ is. each_set views p (both v o) (GetsFit rule.reader (some p) rule.put rule.got)
      (λ _. record { one_pass = mine.one_pass; knows_got = mine.knows_got; knows_joined = none_joined rule.writer rule.put other theirs.one_pass _ v.joined mine.knows_joined })
      (λ i w apart is gets. one_getter _ _ _ _ p i v w mine (rule.getters i w is gets) apart) q u is);
}
  where
    now : List End
    now = slice_set views p (both v o)

    mine : IsGetter rule.reader rule.writer rule.put rule.got p v
    mine = rule.getters p v at may

    theirs : IsPutter rule.writer rule.put other o
    theirs = rule.putters other o (was views p other (both v o) o apart there) puts_may

pub all_got : (writer : Option ℕ) (put got : List Note) → got ≡ put → (joined : Maybe (List Note)) → IfSome joined (λ all. (writer ≡ none) × (all ≡ put)) → IfSome joined (λ all. got ≡ all)
all_got writer put got e None knows = tt
all_got writer put got e (Some all) knows = e ∙ sym knows.1

-- what an empty mailbox tells the one who gets
pub tells : (board : TableId) (p : Getting) → WasEmpty board p → IfSome p.joined (λ put. p.got ≡ put)
tells board p was_empty =
    let moment = was_empty.2 in
    let rule = moment.kept in
    let mine = rule.getters moment.pass (getter p.got p.joined p.empties) moment.is_view refl in
    let all : p.got ≡ rule.put = sym (rule.in_all ∙ (λ j. sym mine.knows_got j ++ none_held was_empty.0 was_empty.1 j) ∙ append-nil p.got) in
    all_got rule.writer rule.put p.got all p.joined mine.knows_joined

-- what a look of both ends tells
pub compares : (board : TableId) (count : ℕ) (p : Putting) (g : Getting) (v : End) → v ≡ both (getter g.got g.joined g.empties) (putter p.put p.fulls)
    → Held count (Moment (IsHandedOver board) v) → Holds p g count
compares board count p g v is held =
    let moment = held.2 in
    let rule = moment.kept in
    let putter_is = rule.putters moment.pass v moment.is_view (ap (λ (w : End). w.puts) is) in
    let getter_is = rule.getters moment.pass v moment.is_view (ap (λ (w : End). w.gets) is) in
    record {
      items = held.0;
      counted = held.1;
      in_order = ap (λ (w : End). w.put) (sym is) ∙ putter_is.knows_put ∙ rule.in_all ∙ (λ i. sym getter_is.knows_got i ++ held.0) ∙ ap (λ (w : End). w.got ++ held.0) is;
    }
