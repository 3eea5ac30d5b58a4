-- The worked journals of times, by computation.
use Rattle.std.proofs.Common.{refl}
use Rattle.std.specs.Str as str
use lib.Utf8 as utf8
use Rattle.mqtt_packet.specs.Spelling as spelling
use Rattle.topic_filter.specs.Fitting as fitting
use Rattle.topic_filter.specs.Texts as texts
use Rattle.agent_table.specs.Arrivals as arrivals
use Rattle.agent_table.specs.Breaks as breaks
use Rattle.agent_table.specs.Identifiers as identifiers
use Rattle.agent_journal.specs.Requests as requests
use Rattle.agent_table.specs.Table as table
use Rattle.agent_table.specs.Takes as takes
use Rattle.agent_table.specs.WorkedTimes.{TimesAreLegal}

pub times_are_legal : TimesAreLegal
unfolding spelling.groups str.is_utf8 str.chars utf8.encode texts.is_name texts.is_filter fitting.fits table.row_of requests.is_valid identifiers.fresh arrivals.arrived_row arrivals.connack_row arrivals.publish_row
    arrivals.puback_row arrivals.pubrec_row arrivals.pubcomp_row arrivals.suback_row arrivals.unsuback_row breaks.opened_row breaks.end_row breaks.idle_row breaks.tick_row breaks.keep_alive_row breaks.gave_up_row breaks.in_full_row breaks.finish_row takes.take_row takes.may_take
    takes.publish_row takes.subscribe_row takes.unsubscribe_row
times_are_legal = record {
  ticked_legal = (refl, (refl, (refl, tt)));
  ticked_early = λ h. absurd (cc h.0);
  due = refl;
  not_due = refl;
  idle_opening_legal = (refl, (refl, tt));
  idle_open_legal = (refl, (refl, (refl, (refl, tt))));
  idle_without_a_command = λ h. absurd (cc h.0);
  link_lost_legal = (refl, (refl, (refl, (refl, (refl, tt)))));
  subscribe_waits = λ h. absurd (cc h.0);
  publish_lost = λ h. absurd (cc h.0);
}
