-- A publish at quality of service 2 is passed on at most once, and one that is done was passed on once.
use Rattle.std.proofs.Common.{◌≡◌, ◌+◌, ◌≤◌, Bool, true, false, cond, List, [], refl, arith}
use Rattle.std.specs.Prelude.{nat_le}
use Rattle.agent_journal.specs.declared.setup.Setup.{Setup}
use Rattle.agent_journal.specs.Setups.{is_client}
use Rattle.mqtt_packet.specs.declared.packet.Packet.TheVariants as p
use Rattle.agent_table.specs.Laws.{HasIdentifiers}
use Rattle.agent_table.specs.Sizes.{Sizes}
use Rattle.session_world.specs.declared.event.Event.{Event}
use Rattle.session_world.specs.Playing as playing
use Rattle.session_world.specs.Ready.{IsReady}
use Rattle.session_world.specs.Setups.{dev, usual}
use Rattle.session_world.specs.World.{World, entries, nothing}
use Rattle.session_world.proofs.Steady.{ready_played, ready_first, dev_is_client}
use Rattle.once_laws.specs.Laws.{PassedOnOnce}
use Rattle.once_laws.specs.Once.{times}
use Rattle.once_laws.proofs.ArrivingSeconds.{arrives}
use Rattle.once_laws.proofs.Balance.{Keeps}
use Rattle.once_laws.proofs.BreakingSeconds.{breaks, opens, is_due}
use Rattle.once_laws.proofs.HearingSeconds.{hears, publishes_own}
use Rattle.once_laws.proofs.Settled as settling
use Rattle.once_laws.proofs.TakingSeconds.{takes}
use Rattle.once_laws.proofs.Walking.{IsCarried, carried}

module _ (s : Setup) (l : Sizes) where
  holds_first : Keeps s l nothing
  holds_first = record {
    legal = tt;
    most = λ t q taken. omega arith;
    unborn = λ t q few. refl;
    labelled = tt;
    settled = λ t q done. absurd (cc done);
    commands = [];
    released = [];
    balanced = record {
      single = λ i j. omega arith;
      tidy = λ n. record { alone = omega arith; two = omega arith; freed = omega arith; known = omega arith; entered = omega arith; left = omega arith };
      counts = λ t q n taken. absurd (cc taken);
    };
    now = λ on. (refl, refl);
    quiet = λ begins n. record { second = refl; release = refl; receive = refl; complete = refl };
    at_home = record { home = tt; connects = tt; known = λ not_first. absurd (first_is s.wipe not_first); present = tt; one = λ on. omega arith };
  }
    where
      first_is : (b : Bool) → nat_le 0 (cond b 1 0) ≡ false → ⊥
      first_is true e = cc e
      first_is false e = cc e

  counts : (w : World) → Keeps s l w → Keeps s l (record w { events = w.events + 1 })
  counts w h = record {
    legal = h.legal;
    most = h.most;
    unborn = h.unborn;
    labelled = h.labelled;
    settled = h.settled;
    commands = h.commands;
    released = h.released;
    balanced = record { single = h.balanced.single; tidy = h.balanced.tidy; counts = h.balanced.counts };
    now = h.now;
    quiet = h.quiet;
    at_home = record { home = h.at_home.home; connects = h.at_home.connects; known = h.at_home.known; present = h.at_home.present; one = h.at_home.one };
  }

  is_carried : HasIdentifiers l → s.wipe ≡ false → IsCarried s l (IsReady s l) (Keeps s l)
  is_carried free wipe = record {
    takes = λ w at request up ready. takes s l w at request free up;
    comes = λ w x rest is ready. hears s l w x rest is;
    arrives = λ w at x rest there is ready. arrives s l w at x rest there is;
    breaks = λ w at there ready. breaks s l w at;
    opens = λ w at down ready. opens s l w at wipe (ready.steady.gone down);
    publishes = λ w qos ready. publishes_own s l w qos;
    is_due = λ w at cause due ready. is_due s l w at cause due;
    counts = counts;
  }

  pub always : HasIdentifiers l → is_client s.client ≡ true → s.wipe ≡ false → (events : List Event) → Keeps s l (playing.all_played s l events nothing)
  always free client wipe events =
      carried s l (IsReady s l) (Keeps s l) (is_carried free wipe) (λ w event ready. ready_played s l w event client wipe ready) events nothing (ready_first s l) holds_first

pub passed_on_once : PassedOnOnce
passed_on_once events =
    let h = always dev usual (omega arith) dev_is_client refl events in
    let w = playing.all_played dev usual events nothing in
    record {
      most = h.most;
      done = λ t q taken done.
          let some : 1 ≤ times t q w = settling.settled_done settling.is_second (λ id. p.PubComp id) settling.other_second settling.by_pubcomp dev usual (entries w) t q (times t q w) h.legal (h.settled t q) taken done in
          omega (arith, some, h.most t q taken);
    }
