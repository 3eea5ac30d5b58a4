-- The worked journals of routes and of two tasks, by computation.
use Rattle.std.proofs.Common.{refl}
use Rattle.std.specs.Str as str
use lib.Utf8 as utf8
use Rattle.mqtt_packet.specs.Spelling as spelling
use Rattle.topic_filter.specs.Fitting as fitting
use Rattle.topic_filter.specs.Texts as texts
use Rattle.agent_table.specs.Arrivals as arrivals
use Rattle.agent_table.specs.Breaks as breaks
use Rattle.agent_table.specs.Identifiers as identifiers
use Rattle.agent_journal.specs.Requests as requests
use Rattle.agent_table.specs.Table as table
use Rattle.agent_table.specs.Takes as takes
use Rattle.agent_table.specs.WorkedRoutes.{PairsAreLegal, SharedAreLegal}

pub pairs_are_legal : PairsAreLegal
unfolding spelling.groups str.is_utf8 str.chars utf8.encode texts.is_name texts.is_filter fitting.fits table.row_of requests.is_valid identifiers.fresh arrivals.arrived_row arrivals.connack_row arrivals.publish_row
    arrivals.puback_row arrivals.pubrec_row arrivals.pubcomp_row arrivals.suback_row arrivals.unsuback_row breaks.opened_row breaks.end_row breaks.idle_row breaks.tick_row breaks.finish_row takes.take_row takes.may_take
    takes.publish_row takes.subscribe_row takes.unsubscribe_row
pairs_are_legal = record {
  passed_legal = (refl, (refl, (refl, (refl, (refl, (refl, (refl, tt)))))));
  passed_to_one = λ h. absurd (cc h.0);
  passed_in_another_order = λ h. absurd (cc h.0);
  unsubscribed_legal = (refl, (refl, (refl, (refl, (refl, (refl, (refl, tt)))))));
  unsubscribed_for_both = λ h. absurd (cc h.0);
  left_legal = (refl, (refl, (refl, (refl, (refl, (refl, (refl, (refl, tt))))))));
  passed_though_left = λ h. absurd (cc h.0);
}

pub shared_are_legal : SharedAreLegal
unfolding spelling.groups str.is_utf8 str.chars utf8.encode texts.is_name texts.is_filter fitting.fits table.row_of requests.is_valid identifiers.fresh arrivals.arrived_row arrivals.connack_row arrivals.publish_row
    arrivals.puback_row arrivals.pubrec_row arrivals.pubcomp_row arrivals.suback_row arrivals.unsuback_row breaks.opened_row breaks.end_row breaks.idle_row breaks.tick_row breaks.finish_row takes.take_row takes.may_take
    takes.publish_row takes.subscribe_row takes.unsubscribe_row
shared_are_legal = record {
  partly_legal = (refl, (refl, (refl, (refl, (refl, (refl, (refl, (refl, (refl, tt)))))))));
  wholly_sent = λ h. absurd (cc h.1.1.0);
  route_kept = λ h. absurd (cc h.0);
  no_route_legal = (refl, (refl, (refl, tt)));
  sent_without_room = λ h. absurd (cc h.0);
  repeated_legal = (refl, (refl, (refl, tt)));
}
