-- What each kind of step leaves of a publish at quality of service 2, in numbers.
use Rattle.std.proofs.Common.{◌≡◌, ℕ, ◌+◌, ◌≤◌, Bool, true, false, List, [], ◌∷◌, ◌++◌, count_by, refl, sym, ap, ◌∙◌, arith}
use Rattle.std.specs.Prelude.{◌&&◌, ◌==◌}
use Rattle.std.proofs.lemmas.Bool.{and_parts, eqb-true, eq-eqb}
use Rattle.agent_table.proofs.Counts.{count_append, is_command, opened}
use Rattle.agent_table.specs.Deliveries.{publishes, is_exactly_once, is_among}
use Rattle.agent_journal.specs.Readings.{Pending}
use Rattle.mqtt_packet.specs.declared.packet.Packet.{Packet}
use Rattle.mqtt_packet.specs.declared.packet.Packet.TheVariants as p
use Rattle.session_world.specs.World.{Rising, Falling}
use Rattle.once_laws.specs.Followed.{is_of, comes_from}
use Rattle.once_laws.specs.Counted.{digit, is_second, is_ours, publishes_second, releases, rises_second, rises_release, falls_receive, falls_complete, brings, IsTidy, IsCounted}
use Rattle.once_laws.proofs.Parts.{digit_most, counted, weaker}

pub second_of : (n : ℕ) (commands : List Pending) → count_by (is_second n) commands ≤ count_by (is_of n) commands
second_of n commands = weaker (is_second n) (is_of n) commands (λ command e. (and_parts (command.id == n) (publishes is_exactly_once command.request) e).0)

pub ours_second : (t q n : ℕ) (commands : List Pending) → count_by (is_ours t q n) commands ≤ count_by (is_second n) commands
ours_second t q n commands = weaker (is_ours t q n) (is_second n) commands (λ command e. (and_parts (is_second n command) (command.task == t && command.seq == q) e).0)

pub brought_second : (t q n : ℕ) (up : List Rising) → count_by (brings t q n) up ≤ count_by (rises_second n) up
brought_second t q n up = weaker (brings t q n) (rises_second n) up (λ x e. (and_parts (rises_second n x) (comes_from t q x.origin) e).0)

-- a packet is of one kind
pub apart : (n : ℕ) (packet : Packet) → digit (publishes_second n packet) + digit (releases n packet) ≤ 1
apart n (p.Publish dup qos retain topic id payload) = omega (arith, digit_most (publishes_second n (p.Publish dup qos retain topic id payload)))
apart n (p.PubRel id) = omega (arith, digit_most (id == n))
apart n p.PingReq = omega arith
apart n p.PingResp = omega arith
apart n p.Disconnect = omega arith
apart n (p.Connect a b d e f g) = omega arith
apart n (p.ConnAck a b) = omega arith
apart n (p.PubAck a) = omega arith
apart n (p.PubRec a) = omega arith
apart n (p.PubComp a) = omega arith
apart n (p.Subscribe a b) = omega arith
apart n (p.SubAck a b) = omega arith
apart n (p.Unsubscribe a b) = omega arith
apart n (p.UnsubAck a) = omega arith

-- a command of one identifier isn't one of another
pub ours_differ : (t q n m : ℕ) (commands : List Pending) → (n == m) ≡ false → count_by (is_ours t q n) commands + count_by (is_ours t q m) commands ≤ opened t q commands
ours_differ t q n m [] differ = omega arith
ours_differ t q n m (command ∷ commands) differ =
    omega (
      arith,
      ours_differ t q n m commands differ,
      counted (is_ours t q n) command commands,
      counted (is_ours t q m) command commands,
      counted (is_command t q) command commands,
      one_of_two (command.id == n) (command.id == m) (publishes is_exactly_once command.request) (is_command t q command)
          (λ first second. absurd (cc (sym differ ∙ eq-eqb n m (sym (eqb-true command.id n first) ∙ eqb-true command.id m second)))),
    )
  where
    one_of_two : (a b k y : Bool) → (a ≡ true → b ≡ true → ⊥) → digit ((a && k) && y) + digit ((b && k) && y) ≤ digit y
    one_of_two true true k y differ = absurd (differ refl refl)
    one_of_two true false true true differ = omega arith
    one_of_two true false true false differ = omega arith
    one_of_two true false false y differ = omega arith
    one_of_two false true true true differ = omega arith
    one_of_two false true true false differ = omega arith
    one_of_two false true false y differ = omega arith
    one_of_two false false k y differ = omega arith

-- ---- Entries

-- What an entry leaves of the commands and the released of an identifier, which hears so many PUBRECs and PUBCOMPs and
-- sends so many PUBRELs.
pub record IsTold (t q n : ℕ) (commands left : List Pending) (released behind : List ℕ) (receives completes frees : ℕ) : Type 0 where
  pub all : count_by (is_of n) left ≤ count_by (is_of n) commands
  pub ours : count_by (is_ours t q n) left ≤ count_by (is_ours t q n) commands
  -- what ends of ours ends of all
  pub removed : count_by (is_ours t q n) commands + count_by (is_second n) left ≤ count_by (is_ours t q n) left + count_by (is_second n) commands
  pub fewer : count_by (is_second n) left ≤ count_by (is_second n) commands
  pub received : count_by (is_second n) commands + digit (is_among behind n) ≤ count_by (is_second n) left + digit (is_among released n) + receives
  pub answered : frees ≤ receives
  pub freed : frees ≤ digit (is_among behind n)
  -- one that stays open stays released
  pub keeps : digit (is_among released n) + count_by (is_second n) left ≤ digit (is_among behind n) + 1
  pub completed : count_by (is_second n) commands ≤ count_by (is_second n) left + completes

-- what it hears, and sends
pub record IsNext (n : ℕ) (more : List Rising) (down rest : List Falling) (receives completes frees : ℕ) : Type 0 where
  pub second : count_by (rises_second n) more ≡ 0
  pub release : count_by (rises_release n) more ≡ frees
  pub receive : count_by (falls_receive n) down ≡ receives + count_by (falls_receive n) rest
  pub complete : count_by (falls_complete n) down ≡ completes + count_by (falls_complete n) rest
  pub apart : receives + completes ≤ 1

pub told_tidy : (t q n : ℕ) (commands left : List Pending) (released behind received : List ℕ) (up more : List Rising) (down rest : List Falling) (receives completes frees : ℕ)
    → IsTidy n commands released received up down → IsTold t q n commands left released behind receives completes frees → IsNext n more down rest receives completes frees
    → IsTidy n left behind received (up ++ more) rest
told_tidy t q n commands left released behind received up more down rest receives completes frees h e x =
    let seconds = count_append (rises_second n) up more in
    let frees_is = count_append (rises_release n) up more in
    let second = second_of n commands in
    record {
      alone = omega (arith, h.alone, e.all);
      two = omega (arith, h.two, e.received, x.receive, x.second, seconds);
      freed = omega (arith, h.freed, h.two, h.alone, second, e.answered, e.freed, e.keeps, e.completed, x.receive, x.complete, x.release, x.apart, frees_is);
      known = omega (arith, h.known, h.left, h.alone, second, e.completed, x.complete);
      entered = omega (arith, h.entered, x.receive);
      left = omega (arith, h.left, x.complete);
    }

pub told_counted : (t q n : ℕ) (commands left : List Pending) (released behind received : List ℕ) (up more : List Rising) (down rest : List Falling) (receives completes frees times : ℕ) → times ≤ 1
    → IsTidy n commands released received up down → IsCounted t q n commands released received up times → IsTold t q n commands left released behind receives completes frees
    → IsNext n more down rest receives completes frees → IsCounted t q n left behind received (up ++ more) times
told_counted t q n commands left released behind received up more down rest receives completes frees times most h o e x =
    let seconds = count_append (rises_second n) up more in
    let brought = count_append (brings t q n) up more in
    let none = brought_second t q n more in
    let second = second_of n commands in
    let ours = ours_second t q n left in
    record {
      brought = omega (arith, o.brought, o.own, h.two, h.freed, h.alone, second, e.ours, e.removed, e.fewer, e.received, e.keeps, e.completed, x.receive, x.complete, x.second, none, brought, brought_second t q n up);
      own = omega (arith, o.own, h.two, h.freed, h.alone, second, e.ours, e.removed, e.fewer, e.completed, ours, x.complete, x.second, seconds, brought);
      counted = omega (arith, most, o.counted, e.ours, e.fewer, e.completed, e.keeps, h.two, h.freed, h.alone, second, ours, e.received, x.complete, x.receive, e.all);
      heard = omega (arith, o.heard, e.ours);
      passed = omega (arith, o.passed, o.heard, e.ours, e.received, e.fewer, h.entered, h.two, x.receive);
    }

-- ---- The broker

-- What the broker answers to the first packet on the way up: how many PUBRECs and PUBCOMPs, which identifiers it has
-- received then, and whether it passed a message on.
pub record IsReplied (n : ℕ) (packet : Packet) (received then : List ℕ) (receives completes passed : ℕ) : Type 0 where
  pub receive : receives ≤ digit (publishes_second n packet)
  pub complete : completes ≤ digit (releases n packet)
  pub more : digit (is_among then n) ≤ digit (is_among received n) + digit (publishes_second n packet)
  pub entered : receives ≤ digit (is_among then n)
  pub less : digit (is_among received n) ≤ digit (is_among then n) + digit (releases n packet)
  pub left : completes + digit (is_among then n) ≤ 1
  -- a PUBLISH is passed on exactly where its identifier wasn't received, and it is then
  pub anew : digit (publishes_second n packet) + passed + digit (is_among received n) ≤ 2
  pub enters : digit (is_among then n) ≤ digit (is_among received n) + passed
  pub is_in : digit (publishes_second n packet) + passed ≤ 1 + digit (is_among then n)

pub replied_tidy : (n : ℕ) (commands : List Pending) (released received then : List ℕ) (x : Rising) (rest : List Rising) (down more : List Falling) (passed : ℕ)
    → IsTidy n commands released received (x ∷ rest) down → IsReplied n x.packet received then (count_by (falls_receive n) more) (count_by (falls_complete n) more) passed
    → IsTidy n commands released then rest (down ++ more)
replied_tidy n commands released received then x rest down more passed h e =
    let second = counted (rises_second n) x rest in
    let release = counted (rises_release n) x rest in
    let receive = count_append (falls_receive n) down more in
    let complete = count_append (falls_complete n) down more in
    let few = second_of n commands in
    record {
      alone = h.alone;
      two = omega (arith, h.two, e.receive, second, receive);
      freed = omega (arith, h.freed, e.complete, release, complete);
      known = omega (arith, h.known, h.two, e.more, e.left, second);
      entered = omega (arith, h.entered, h.two, h.freed, h.alone, few, e.receive, e.entered, e.less, second, release, receive, apart n x.packet);
      left = omega (arith, h.left, h.two, h.freed, h.alone, few, e.complete, e.left, e.more, second, release, complete, apart n x.packet);
    }

-- The message of command q of task t isn't the one that comes.
pub replied_other : (t q n : ℕ) (commands : List Pending) (released received then : List ℕ) (x : Rising) (rest : List Rising) (down : List Falling) (receives completes passed times : ℕ) → times ≤ 1
    → comes_from t q x.origin ≡ false → IsTidy n commands released received (x ∷ rest) down → IsCounted t q n commands released received (x ∷ rest) times
    → IsReplied n x.packet received then receives completes passed → IsCounted t q n commands released then rest times
replied_other t q n commands released received then x rest down receives completes passed times most other h o e =
    let second = counted (rises_second n) x rest in
    let release = counted (rises_release n) x rest in
    let brought = counted (brings t q n) x rest in
    let none : digit (brings t q n x) ≡ 0 = ap (λ b. digit (rises_second n x && b)) other ∙ and_none (rises_second n x) in
    let few = second_of n commands in
    let ours = ours_second t q n commands in
    let less = brought_second t q n rest in
    record {
      brought = omega (arith, o.brought, brought);
      own = omega (arith, o.own, second, brought, none);
      counted = omega (arith, most, o.counted, e.less, release, h.freed, h.alone, few, ours);
      heard = omega (arith, o.heard, o.own, e.more, e.left, second, brought, none, less, h.alone, few);
      passed = o.passed;
    }
  where
    and_none : (b : Bool) → digit (b && false) ≡ 0
    and_none true = refl
    and_none false = refl

-- It is, and has identifier n.
pub record IsPassed (t q n : ℕ) (commands : List Pending) (released then : List ℕ) (rest : List Rising) (times : ℕ) : Type 0 where
  pub most : times ≤ 1
  pub ours : count_by (is_ours t q n) commands ≡ 1
  pub counted : IsCounted t q n commands released then rest times

pub replied_own : (t q n : ℕ) (commands : List Pending) (released received then : List ℕ) (x : Rising) (rest : List Rising) (down : List Falling) (receives completes passed times : ℕ)
    → brings t q n x ≡ true → rises_second n x ≡ true → IsTidy n commands released received (x ∷ rest) down → IsCounted t q n commands released received (x ∷ rest) times
    → IsReplied n x.packet received then receives completes passed → IsPassed t q n commands released then rest (times + passed)
replied_own t q n commands released received then x rest down receives completes passed times its is h o e =
    let second = counted (rises_second n) x rest in
    let release = counted (rises_release n) x rest in
    let brought = counted (brings t q n) x rest in
    let one = ap digit its in
    let here = ap digit is in
    let few = second_of n commands in
    let ours = ours_second t q n commands in
    let is_ours : count_by (is_ours t q n) commands ≡ 1 = omega (arith, o.brought, brought, one, ours, few, h.alone) in
    record {
      most = omega (arith, is_ours, o.counted, e.anew, here, h.two, second, few, h.alone);
      ours = is_ours;
      counted = record {
        brought = omega (arith, o.brought, brought);
        own = omega (arith, o.own, second, brought, one, here);
        counted = omega (arith, is_ours, o.counted, o.heard, e.anew, e.is_in, e.less, here, h.two, second, few, h.alone, apart n x.packet);
        heard = omega (arith, is_ours, o.heard, o.counted, e.enters, h.two, here, second, few, h.alone);
        passed = omega (arith, is_ours, h.two, here, second, few, h.alone);
      };
    }

-- It is, and has another identifier.
pub replied_elsewhere : (t q n m : ℕ) (commands : List Pending) (released received then : List ℕ) (x : Rising) (rest : List Rising) (down : List Falling) (receives completes passed times : ℕ) → (n == m) ≡ false
    → opened t q commands ≤ 1 → times + passed ≤ 1 → count_by (is_ours t q m) commands ≡ 1 → IsTidy n commands released received (x ∷ rest) down → IsCounted t q n commands released received (x ∷ rest) times
    → IsReplied n x.packet received then receives completes passed → rises_second n x ≡ false → IsCounted t q n commands released then rest (times + passed)
replied_elsewhere t q n m commands released received then x rest down receives completes passed times differ once most there h o e not =
    let second = counted (rises_second n) x rest in
    let brought = counted (brings t q n) x rest in
    let none = ap digit not in
    let ours = ours_differ t q n m commands differ in
    let less = brought_second t q n (x ∷ rest) in
    let here : digit (brings t q n x) ≡ 0 = ap (λ b. digit (b && comes_from t q x.origin)) not in
    record {
      brought = omega (arith, o.brought, brought);
      own = omega (arith, o.own, second, brought, none, here);
      counted = omega (arith, most, ours, once, there);
      heard = omega (arith, e.left, ours, once, there);
      passed = omega (arith, o.passed, ours, once, there, digit_most (is_among released n));
    }

-- ---- A Take

pub record IsOpened (t q n : ℕ) (commands new : List Pending) (more : List Rising) (adds : ℕ) : Type 0 where
  pub all : count_by (is_of n) new ≤ count_by (is_of n) commands + adds
  pub free : count_by (is_of n) commands + adds ≤ 1
  pub second : count_by (is_second n) new ≡ count_by (is_second n) commands + count_by (rises_second n) more
  pub ours : count_by (is_ours t q n) new ≡ count_by (is_ours t q n) commands + count_by (brings t q n) more
  pub few : count_by (rises_second n) more ≤ adds

-- which of the released identifiers stay, of these commands
pub record IsRest (n : ℕ) (commands : List Pending) (ids rest : List ℕ) : Type 0 where
  pub less : digit (is_among rest n) ≤ digit (is_among ids n)
  pub most : digit (is_among rest n) ≤ count_by (is_second n) commands
  pub keeps : digit (is_among ids n) + count_by (is_second n) commands ≤ digit (is_among rest n) + 1

pub opened_tidy : (t q n : ℕ) (commands new : List Pending) (released behind received : List ℕ) (up more : List Rising) (down : List Falling) (adds : ℕ) → IsTidy n commands released received up down
    → IsOpened t q n commands new more adds → count_by (rises_release n) more ≡ 0 → IsRest n new released behind → IsTidy n new behind received (up ++ more) down
opened_tidy t q n commands new released behind received up more down adds h e silent r =
    let second = count_append (rises_second n) up more in
    let release = count_append (rises_release n) up more in
    record {
      alone = omega (arith, e.all, e.free);
      two = omega (arith, h.two, e.second, r.less, second);
      freed = omega (arith, h.freed, h.two, e.second, r.keeps, silent, release);
      known = omega (arith, h.known, e.second);
      entered = h.entered;
      left = h.left;
    }

pub opened_counted : (t q n : ℕ) (commands new : List Pending) (released behind received : List ℕ) (up more : List Rising) (down : List Falling) (adds times : ℕ) → times ≤ 1
    → times + count_by (brings t q n) more ≤ 1 → IsTidy n commands released received up down → IsCounted t q n commands released received up times → IsOpened t q n commands new more adds
    → IsRest n new released behind → IsCounted t q n new behind received (up ++ more) times
opened_counted t q n commands new released behind received up more down adds times most unborn h o e r =
    let second = count_append (rises_second n) up more in
    let brought = count_append (brings t q n) up more in
    let few = second_of n commands in
    let ours = ours_second t q n commands in
    let less = brought_second t q n more in
    record {
      brought = omega (arith, o.brought, e.ours, brought);
      own = omega (arith, o.own, e.ours, e.second, second, brought);
      counted = omega (arith, o.counted, e.ours, e.free, e.few, unborn, few, ours, less, h.two, e.second, r.keeps);
      heard = omega (arith, o.heard, e.ours, e.free, e.few, few, ours, less, h.known);
      passed = omega (arith, o.passed, e.ours, e.free, e.few, few, ours, less, h.two, r.less);
    }

-- ---- A connection that breaks, and one that goes on with the session

pub emptied_tidy : (n : ℕ) (commands new : List Pending) (released behind received : List ℕ) (up : List Rising) (down : List Falling) → IsTidy n commands released received up down
    → count_by (is_of n) new ≤ count_by (is_of n) commands → count_by (is_second n) new ≡ count_by (is_second n) commands → IsRest n new released behind → IsTidy n new behind received [] []
emptied_tidy n commands new released behind received up down h all second r = record {
  alone = omega (arith, h.alone, all);
  two = omega (arith, r.most);
  freed = omega arith;
  known = omega (arith, h.known, second);
  entered = omega arith;
  left = omega (arith, digit_most (is_among received n));
}

pub emptied_counted : (t q n : ℕ) (commands new : List Pending) (released behind received : List ℕ) (up : List Rising) (down : List Falling) (times : ℕ) → IsTidy n commands released received up down
    → IsCounted t q n commands released received up times → count_by (is_second n) new ≡ count_by (is_second n) commands → count_by (is_ours t q n) new ≡ count_by (is_ours t q n) commands → IsRest n new released behind
    → IsCounted t q n new behind received [] times
emptied_counted t q n commands new released behind received up down times h o second ours r = record {
  brought = omega arith;
  own = omega (arith, ours_second t q n new);
  counted = omega (arith, o.counted, ours, second, h.two, r.keeps);
  heard = omega (arith, o.heard, ours);
  passed = omega (arith, o.passed, ours, r.less);
}

pub resumed_tidy : (n : ℕ) (commands : List Pending) (released behind received : List ℕ) (up more : List Rising) (down rest : List Falling) → IsTidy n commands released received up down
    → count_by (rises_second n) up ≡ 0 → count_by (rises_release n) up ≡ 0 → count_by (falls_receive n) rest ≡ 0 → count_by (falls_complete n) rest ≡ 0
    → count_by (rises_second n) more + digit (is_among released n) ≤ count_by (is_second n) commands → count_by (rises_release n) more ≤ digit (is_among released n) → IsRest n commands released behind
    → IsTidy n commands behind received (up ++ more) rest
resumed_tidy n commands released behind received up more down rest h second release receive complete sent freed r =
    let seconds = count_append (rises_second n) up more in
    let releases_is = count_append (rises_release n) up more in
    record {
      alone = h.alone;
      two = omega (arith, second, receive, sent, r.less, seconds);
      freed = omega (arith, release, complete, sent, freed, r.keeps, releases_is);
      known = h.known;
      entered = omega (arith, receive);
      left = omega (arith, complete, digit_most (is_among received n));
    }

pub resumed_counted : (t q n : ℕ) (commands : List Pending) (released behind received : List ℕ) (up more : List Rising) (down : List Falling) (times : ℕ) → IsTidy n commands released received up down
    → IsCounted t q n commands released received up times → count_by (rises_second n) up ≡ 0 → count_by (brings t q n) more ≤ count_by (is_ours t q n) commands
    → count_by (rises_second n) more + count_by (is_ours t q n) commands ≤ count_by (brings t q n) more + count_by (is_second n) commands → IsRest n commands released behind
    → IsCounted t q n commands behind received (up ++ more) times
resumed_counted t q n commands released behind received up more down times h o second brought own r =
    let seconds = count_append (rises_second n) up more in
    let brought_is = count_append (brings t q n) up more in
    let none = brought_second t q n up in
    record {
      brought = omega (arith, second, none, brought, brought_is);
      own = omega (arith, second, none, own, seconds, brought_is);
      counted = omega (arith, o.counted, h.two, r.keeps);
      heard = o.heard;
      passed = omega (arith, o.passed, r.less);
    }
