-- The worked lists of events, by computation.
use Rattle.std.proofs.Common.{refl, arith}
use Rattle.std.specs.Str as str
use lib.Utf8 as utf8
use Rattle.mqtt_packet.specs.Spelling as spelling
use Rattle.topic_filter.specs.Fitting as fitting
use Rattle.topic_filter.specs.Texts as texts
use Rattle.agent_journal.specs.Requests as requests
use Rattle.agent_table.specs.Arrivals as arrivals
use Rattle.agent_table.specs.Breaks as breaks
use Rattle.agent_table.specs.Identifiers as identifiers
use Rattle.agent_table.specs.Table as table
use Rattle.agent_table.specs.Takes as takes
use Rattle.once_laws.specs.Worked.{PassedOn, PassedOnTwice, ToldFirst}

pub passed_on : PassedOn
unfolding spelling.groups str.is_utf8 str.chars utf8.encode texts.is_name texts.is_filter fitting.fits table.row_of requests.is_valid identifiers.fresh arrivals.arrived_row arrivals.connack_row arrivals.publish_row arrivals.puback_row arrivals.pubrec_row arrivals.pubcomp_row takes.take_row takes.may_take takes.publish_row breaks.opened_row breaks.fault_row
passed_on = record {
  taken = refl;
  before = refl;
  behind = refl;
  done = refl;
  not_again = λ once. let most = once.most 0 0 refl in absurd (omega (arith, most));
  not_never = λ once. let none = once.done 0 0 refl refl in absurd (omega (arith, none));
}

pub passed_on_twice : PassedOnTwice
unfolding spelling.groups str.is_utf8 str.chars utf8.encode texts.is_name texts.is_filter fitting.fits table.row_of requests.is_valid identifiers.fresh arrivals.arrived_row arrivals.connack_row arrivals.publish_row arrivals.puback_row arrivals.pubrec_row arrivals.pubcomp_row takes.take_row takes.may_take takes.publish_row breaks.opened_row breaks.fault_row
passed_on_twice = record { taken = refl; done = refl; twice = refl; not_never = λ once. let some = once 0 0 refl refl in absurd (omega (arith, some)) }

pub told_first : ToldFirst
unfolding spelling.groups str.is_utf8 str.chars utf8.encode texts.is_name texts.is_filter fitting.fits table.row_of requests.is_valid identifiers.fresh arrivals.arrived_row arrivals.connack_row arrivals.publish_row arrivals.puback_row arrivals.pubrec_row arrivals.pubcomp_row arrivals.suback_row takes.take_row takes.may_take takes.publish_row takes.subscribe_row breaks.opened_row breaks.fault_row
told_first = record { two = (_, _, refl, refl); first = (refl, (refl, tt)); not_twice = λ once. cc once.1.0; copied = refl; is_kept = refl }
