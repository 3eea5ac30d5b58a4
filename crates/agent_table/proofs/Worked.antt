-- The worked journals, by computation.
use Rattle.std.proofs.Common.{refl}
use Rattle.std.specs.Str as str
use lib.Utf8 as utf8
use Rattle.mqtt_packet.specs.Spelling as spelling
use Rattle.topic_filter.specs.Fitting as fitting
use Rattle.topic_filter.specs.Texts as texts
use Rattle.agent_table.specs.Arrivals as arrivals
use Rattle.agent_table.specs.Breaks as breaks
use Rattle.agent_table.specs.Identifiers as identifiers
use Rattle.agent_journal.specs.Requests as requests
use Rattle.agent_table.specs.Table as table
use Rattle.agent_table.specs.Takes as takes
use Rattle.agent_table.specs.Worked.{FirstsAreLegal, DeliveriesAreLegal, MessagesAreLegal, RenewalsAreLegal, EndsAreLegal}

pub firsts_are_legal : FirstsAreLegal
unfolding spelling.groups str.is_utf8 str.chars utf8.encode texts.is_name table.row_of requests.is_valid arrivals.arrived_row arrivals.connack_row breaks.opened_row breaks.finish_row takes.take_row takes.may_take takes.publish_row
firsts_are_legal = record {
  published_legal = (refl, (refl, (refl, (refl, (refl, tt)))));
  never_done = λ h. absurd (cc h.1.1.0);
  refused_legal = (refl, (refl, (refl, (refl, tt))));
  not_closed = λ h. absurd (cc h.1.1.0);
}

pub deliveries_are_legal : DeliveriesAreLegal
unfolding spelling.groups str.is_utf8 str.chars utf8.encode texts.is_name table.row_of requests.is_valid identifiers.fresh arrivals.arrived_row arrivals.connack_row arrivals.puback_row arrivals.pubrec_row arrivals.pubcomp_row
    breaks.opened_row breaks.end_row breaks.finish_row takes.take_row takes.may_take takes.publish_row
deliveries_are_legal = record {
  resumed_legal = (refl, (refl, (refl, (refl, (refl, (refl, (refl, (refl, (refl, tt)))))))));
  resumed_without_dup = λ h. absurd (cc h.1.1.1.0);
  lost_legal = (refl, (refl, (refl, (refl, (refl, (refl, (refl, (refl, tt))))))));
  lost_as_done = λ h. absurd (cc h.1.1.0);
  released_legal = (refl, (refl, (refl, (refl, (refl, (refl, (refl, (refl, (refl, (refl, tt))))))))));
  published_again = λ h. absurd (cc h.1.1.1.0);
  acknowledged_legal = (refl, (refl, (refl, (refl, (refl, (refl, (refl, (refl, tt))))))));
  done_at_pubrec = λ h. absurd (cc h.1.1.1.0);
}

pub messages_are_legal : MessagesAreLegal
unfolding spelling.groups str.is_utf8 str.chars utf8.encode texts.is_name texts.is_filter fitting.fits table.row_of requests.is_valid identifiers.fresh arrivals.arrived_row arrivals.connack_row arrivals.publish_row
    arrivals.suback_row breaks.opened_row breaks.in_full_row breaks.gave_up_row breaks.finish_row takes.take_row takes.may_take takes.subscribe_row
messages_are_legal = record {
  passed_legal = (refl, (refl, (refl, (refl, (refl, (refl, (refl, (refl, (refl, tt)))))))));
  passed_twice = λ h. absurd (cc h.1.1.1.0);
  wrong_legal = (refl, (refl, (refl, (refl, tt))));
  granted_nevertheless = λ h. absurd (cc h.0);
  spilled_legal = (refl, (refl, (refl, (refl, (refl, (refl, (refl, tt)))))));
  received_without_room = λ h. absurd (cc h.1.1.0);
}

pub renewals_are_legal : RenewalsAreLegal
unfolding spelling.groups str.is_utf8 str.chars utf8.encode texts.is_name texts.is_filter fitting.fits table.row_of requests.is_valid identifiers.fresh arrivals.arrived_row arrivals.connack_row arrivals.publish_row
    arrivals.suback_row breaks.opened_row breaks.end_row breaks.finish_row takes.take_row takes.may_take takes.subscribe_row
renewals_are_legal = record {
  once = (refl, (refl, (refl, (refl, (refl, (refl, (refl, (refl, (refl, (refl, (refl, tt)))))))))));
  forgotten = λ h. absurd (cc h.1.1.0);
  twice = (refl, (refl, (refl, (refl, (refl, (refl, (refl, (refl, (refl, (refl, (refl, (refl, (refl, (refl, tt))))))))))))));
  left_out = λ h. absurd (cc h.1.1.1.1.0);
  refused_legal = (refl, (refl, (refl, (refl, (refl, (refl, (refl, (refl, (refl, (refl, (refl, tt)))))))))));
  passed_though_refused = λ h. absurd (cc h.1.1.0);
}

pub ends_are_legal : EndsAreLegal
unfolding spelling.groups str.is_utf8 str.chars utf8.encode texts.is_name table.row_of requests.is_valid identifiers.fresh arrivals.arrived_row arrivals.connack_row breaks.opened_row breaks.keep_alive_row breaks.tick_row
    breaks.gave_up_row breaks.finish_row takes.take_row takes.may_take takes.publish_row takes.disconnect_row
ends_are_legal = record {
  terminated_legal = (refl, (refl, (refl, (refl, (refl, (refl, tt))))));
  left_open = λ h. absurd (cc h.1.1.0);
  quiet_legal = (refl, (refl, (refl, (refl, (refl, (refl, tt))))));
  too_early = λ h. absurd (cc h.1.1.0);
}
