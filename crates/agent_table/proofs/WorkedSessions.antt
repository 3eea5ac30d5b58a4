-- The worked journals of sessions and room, by computation.
use Rattle.std.proofs.Common.{refl}
use Rattle.std.specs.Str as str
use lib.Utf8 as utf8
use Rattle.mqtt_packet.specs.Spelling as spelling
use Rattle.topic_filter.specs.Fitting as fitting
use Rattle.topic_filter.specs.Texts as texts
use Rattle.agent_table.specs.Arrivals as arrivals
use Rattle.agent_table.specs.Breaks as breaks
use Rattle.agent_table.specs.Identifiers as identifiers
use Rattle.agent_journal.specs.Requests as requests
use Rattle.agent_table.specs.Table as table
use Rattle.agent_table.specs.Takes as takes
use Rattle.agent_table.specs.WorkedSessions.{SessionsAreLegal, RoomsAreLegal, IdentifiersWrap}

pub sessions_are_legal : SessionsAreLegal
unfolding spelling.groups str.is_utf8 str.chars utf8.encode texts.is_name texts.is_filter fitting.fits table.row_of requests.is_valid identifiers.fresh arrivals.arrived_row arrivals.connack_row arrivals.publish_row
    arrivals.puback_row arrivals.pubrec_row arrivals.pubcomp_row arrivals.suback_row arrivals.unsuback_row breaks.opened_row breaks.end_row breaks.idle_row breaks.tick_row breaks.finish_row takes.take_row takes.may_take
    takes.publish_row takes.subscribe_row takes.unsubscribe_row
sessions_are_legal = record {
  wiped_legal = (refl, (refl, (refl, (refl, (refl, (refl, tt))))));
  wiped_of_a_session_legal = (refl, (refl, (refl, (refl, (refl, (refl, tt))))));
  not_wiped = λ h. absurd (cc h.1.1.1.1.0);
  wiped_twice = λ h. absurd (cc h.1.1.1.0);
  held_legal = (refl, (refl, tt));
  taken_over = λ h. absurd (cc h.0);
  wiped_and_held_legal = (refl, (refl, (refl, (refl, tt))));
  taken_over_behind_wiping = λ h. absurd (cc h.0);
}

pub rooms_are_legal : RoomsAreLegal
unfolding spelling.groups str.is_utf8 str.chars utf8.encode texts.is_name texts.is_filter fitting.fits table.row_of requests.is_valid identifiers.fresh arrivals.arrived_row arrivals.connack_row arrivals.publish_row
    arrivals.puback_row arrivals.pubrec_row arrivals.pubcomp_row arrivals.suback_row arrivals.unsuback_row breaks.opened_row breaks.end_row breaks.idle_row breaks.tick_row breaks.finish_row takes.take_row takes.may_take
    takes.publish_row takes.subscribe_row takes.unsubscribe_row
rooms_are_legal = record {
  no_room_legal = (refl, (refl, (refl, (refl, (refl, tt)))));
  sent_without_room = λ h. absurd (cc h.0);
  ordered_legal = (refl, (refl, (refl, (refl, (refl, (refl, (refl, (refl, (refl, (refl, (refl, tt)))))))))));
  ordered_by_number = λ h. absurd (cc h.0);
  publishes_before_releases = λ h. absurd (cc h.0);
  none_received = (refl, (refl, (refl, (refl, (refl, (refl, (refl, tt)))))));
  another_received = (refl, (refl, (refl, (refl, (refl, (refl, (refl, (refl, tt))))))));
  done_unreceived = λ h. absurd (cc h.0);
  done_by_another = λ h. absurd (cc h.0);
}

pub identifiers_wrap : IdentifiersWrap
unfolding identifiers.fresh
identifiers_wrap = record { first = refl; last = refl; wrapped = refl; past_used = refl; past_the_last = refl }
