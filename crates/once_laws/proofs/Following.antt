-- What each kind of step leaves of a followed publish, in numbers.
use Rattle.std.proofs.Common.{◌≡◌, ℕ, ◌+◌, ◌≤◌, List, [], ◌∷◌, ◌++◌, count_by, arith}
use Rattle.std.specs.Prelude.{◌&&◌, ◌==◌}
use Rattle.std.proofs.lemmas.Bool.{and_parts}
use Rattle.agent_table.proofs.Counts.{count_append}
use Rattle.agent_table.specs.Deliveries.{publishes, is_at_least_once}
use Rattle.agent_journal.specs.Readings.{Pending}
use Rattle.session_world.specs.World.{Rising, Falling}
use Rattle.once_laws.specs.Followed.{is_of, is_first, is_mine, rises_first, falls_back, carries, IsFollowed}
use Rattle.once_laws.proofs.Parts.{digit, digit_most, counted, weaker}

pub first_of : (n : ℕ) (commands : List Pending) → count_by (is_first n) commands ≤ count_by (is_of n) commands
first_of n commands = weaker (is_first n) (is_of n) commands (λ command e. (and_parts (command.id == n) (publishes is_at_least_once command.request) e).0)

pub mine_first : (t q n : ℕ) (commands : List Pending) → count_by (is_mine t q n) commands ≤ count_by (is_first n) commands
mine_first t q n commands = weaker (is_mine t q n) (is_first n) commands (λ command e. (and_parts (is_first n command) (command.task == t && command.seq == q) e).0)

pub carried_first : (t q n : ℕ) (up : List Rising) → count_by (carries t q n) up ≤ count_by (rises_first n) up
carried_first t q n up = weaker (carries t q n) (rises_first n) up (λ x e. (and_parts (rises_first n x) _ e).0)

-- ---- Entries

-- What an entry leaves of the commands of an identifier: of `acks` PUBACKs that it hears.
pub record IsLeft (t q n : ℕ) (commands left : List Pending) (acks : ℕ) : Type 0 where
  pub all : count_by (is_of n) left ≤ count_by (is_of n) commands
  pub mine : count_by (is_mine t q n) left ≤ count_by (is_mine t q n) commands
  pub first : count_by (is_first n) commands ≤ count_by (is_first n) left + acks

-- an entry that publishes nothing
pub entered : (t q n : ℕ) (commands left : List Pending) (up more : List Rising) (down rest : List Falling) (times acks : ℕ) → IsFollowed t q n commands up down times → IsLeft t q n commands left acks
    → count_by (falls_back n) down ≡ acks + count_by (falls_back n) rest → count_by (rises_first n) more ≡ 0 → IsFollowed t q n left (up ++ more) rest times
entered t q n commands left up more down rest times acks h e down_is none =
    let firsts = count_append (rises_first n) up more in
    let carried = count_append (carries t q n) up more in
    record {
      alone = omega (arith, h.alone, e.all);
      one = omega (arith, h.one, e.first, down_is, none, firsts);
      own = omega (arith, h.alone, h.one, h.own, e.mine, e.first, mine_first t q n left, first_of n commands, down_is, none, firsts, carried);
      heard = omega (arith, h.heard, e.mine, down_is);
    }

-- a packet that is passed over
pub dropped : (t q n : ℕ) (commands : List Pending) (up : List Rising) (x : Falling) (rest : List Falling) (times : ℕ) → IsFollowed t q n commands up (x ∷ rest) times → IsFollowed t q n commands up rest times
dropped t q n commands up x rest times h =
    let falls = counted (falls_back n) x rest in
    record { alone = h.alone; one = omega (arith, h.one, falls); own = h.own; heard = omega (arith, h.heard, falls) }

-- an entry that finds nothing of the publish in both lists, and sends open publishes again
pub resumed : (t q n : ℕ) (commands left : List Pending) (up more : List Rising) (down : List Falling) (times : ℕ) → count_by (is_of n) commands ≤ 1 → count_by (is_of n) left ≤ count_by (is_of n) commands
    → count_by (rises_first n) up ≡ 0 → count_by (falls_back n) down ≡ 0 → count_by (rises_first n) more ≤ count_by (is_first n) left
    → count_by (rises_first n) more + count_by (is_mine t q n) left ≤ count_by (carries t q n) more + count_by (is_first n) left → IsFollowed t q n left (up ++ more) down times
resumed t q n commands left up more down times alone fewer none silent most own =
    let firsts = count_append (rises_first n) up more in
    let carried = count_append (carries t q n) up more in
    record {
      alone = omega (arith, alone, fewer);
      one = omega (arith, most, none, silent, firsts);
      own = omega (arith, own, none, firsts, carried);
      heard = omega (arith, alone, fewer, silent, mine_first t q n left, first_of n left);
    }

-- an entry that empties both lists
pub emptied : (t q n : ℕ) (commands left : List Pending) (times : ℕ) → count_by (is_of n) commands ≤ 1 → count_by (is_of n) left ≤ count_by (is_of n) commands → IsFollowed t q n left [] [] times
emptied t q n commands left times alone fewer = record {
  alone = omega (arith, alone, fewer);
  one = omega arith;
  own = omega (arith, mine_first t q n left);
  heard = omega (arith, alone, fewer, mine_first t q n left, first_of n left);
}

-- What a Take adds: so many commands of the identifier, where there was none, with their PUBLISHes.
pub record IsAdded (t q n : ℕ) (commands new : List Pending) (more : List Rising) (adds : ℕ) : Type 0 where
  pub all : count_by (is_of n) new ≤ count_by (is_of n) commands + adds
  pub free : count_by (is_of n) commands + adds ≤ 1
  pub first : count_by (is_first n) commands + count_by (rises_first n) more ≤ count_by (is_first n) new
  pub mine : count_by (is_mine t q n) new ≤ count_by (is_mine t q n) commands + count_by (carries t q n) more
  pub few : count_by (carries t q n) more ≤ adds

pub added : (t q n : ℕ) (commands new : List Pending) (up more : List Rising) (down : List Falling) (times adds : ℕ) → IsFollowed t q n commands up down times → IsAdded t q n commands new more adds
    → IsFollowed t q n new (up ++ more) down times
added t q n commands new up more down times adds h e =
    let firsts = count_append (rises_first n) up more in
    let carried = count_append (carries t q n) up more in
    record {
      alone = omega (arith, e.all, e.free);
      one = omega (arith, h.one, e.first, firsts);
      own = omega (arith, h.own, e.first, e.mine, firsts, carried);
      heard = omega (arith, h.one, h.heard, e.free, e.mine, e.few, first_of n commands, mine_first t q n commands);
    }

-- ---- The broker

-- The broker hears the first packet on the way up: a PUBACK is its answer to a PUBLISH that is passed on.
pub heard : (t q n : ℕ) (commands : List Pending) (x : Rising) (rest : List Rising) (down more : List Falling) (times passed : ℕ) → IsFollowed t q n commands (x ∷ rest) down times
    → count_by (falls_back n) more ≤ digit (rises_first n x) → (count_by (falls_back n) more + digit (carries t q n x) ≤ passed + 1) → IsFollowed t q n commands rest (down ++ more) (times + passed)
heard t q n commands x rest down more times passed h few on =
    let first = counted (rises_first n) x rest in
    let carried = counted (carries t q n) x rest in
    let falls = count_append (falls_back n) down more in
    let less = carried_first t q n rest in
    let here = carried_first t q n (x ∷ []) in
    let one_first = counted (rises_first n) x [] in
    let one_carried = counted (carries t q n) x [] in
    record {
      alone = h.alone;
      one = omega (arith, h.one, few, first, falls);
      own = omega (arith, h.own, first, carried, here, one_first, one_carried);
      heard = omega (arith, h.alone, h.one, h.own, h.heard, few, on, first, carried, falls, less, first_of n commands, mine_first t q n commands, digit_most (rises_first n x), digit_most (carries t q n x));
    }

-- The broker's other packets are none of its answers.
pub published : (t q n : ℕ) (commands : List Pending) (up : List Rising) (down more : List Falling) (times passed : ℕ) → IsFollowed t q n commands up down times → count_by (falls_back n) more ≡ 0
    → IsFollowed t q n commands up (down ++ more) (times + passed)
published t q n commands up down more times passed h none =
    let falls = count_append (falls_back n) down more in
    record { alone = h.alone; one = omega (arith, h.one, none, falls); own = h.own; heard = omega (arith, h.heard, none, falls) }
