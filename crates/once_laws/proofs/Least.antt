-- A publish at quality of service 1 that is done was passed on at least once.
use Rattle.std.proofs.Common.{List, arith}
use Rattle.mqtt_packet.specs.declared.packet.Packet.TheVariants as p
use Rattle.agent_journal.specs.declared.setup.Setup.{Setup}
use Rattle.agent_table.specs.Laws.{HasIdentifiers}
use Rattle.agent_table.specs.Sizes.{Sizes}
use Rattle.session_world.specs.declared.event.Event.{Event}
use Rattle.session_world.specs.Playing as playing
use Rattle.session_world.specs.Setups.{dev, usual}
use Rattle.session_world.specs.World.{entries, nothing}
use Rattle.once_laws.specs.Laws.{DoneWerePassedOn}
use Rattle.once_laws.specs.Once.{times}
use Rattle.once_laws.proofs.Settled as settling
use Rattle.once_laws.proofs.TakenRows.{taken}
use Rattle.once_laws.proofs.Walking.{IsCarried, carried}
use Rattle.once_laws.proofs.Holding.{Holds, holds_first}
use Rattle.once_laws.proofs.Taking.{takes}
use Rattle.once_laws.proofs.Arriving.{arrives}
use Rattle.once_laws.proofs.Breaking.{breaks, opens, is_due}
use Rattle.once_laws.proofs.Hearing.{hears, publishes, counts}

module _ (s : Setup) (l : Sizes) where
  -- ---- Every list of events

  is_carried : HasIdentifiers l → IsCarried s l (λ w. Unit {0}) (Holds s l)
  is_carried free = record {
    takes = λ w at request up none. takes s l w at request free up;
    comes = λ w x rest is none. hears s l w x rest is;
    arrives = λ w at x rest there is none. arrives s l w at x rest there is;
    breaks = λ w at there none. breaks s l w at;
    opens = λ w at down none. opens s l w at;
    publishes = λ w qos none. publishes s l w qos;
    is_due = λ w at cause due none. is_due s l w at cause due;
    counts = counts s l;
  }

  pub always : HasIdentifiers l → (events : List Event) → Holds s l (playing.all_played s l events nothing)
  always free events = carried s l (λ w. Unit {0}) (Holds s l) (is_carried free) (λ w event none. tt) events nothing tt (holds_first s l)

pub done_were_passed_on : DoneWerePassedOn
done_were_passed_on events t q taken done =
    let h = always dev usual (omega arith) events in
    let w = playing.all_played dev usual events nothing in
    settling.settled_done settling.is_first (λ id. p.PubAck id) settling.other_first settling.by_puback dev usual (entries w) t q (times t q w) h.legal (h.settled t q) taken done
