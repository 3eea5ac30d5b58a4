-- The worked lists of events, by computation.
use Rattle.std.proofs.Common.{refl}
use Rattle.std.specs.Str as str
use lib.Utf8 as utf8
use Rattle.mqtt_packet.specs.Spelling as spelling
use Rattle.topic_filter.specs.Fitting as fitting
use Rattle.topic_filter.specs.Texts as texts
use Rattle.agent_journal.specs.Requests as requests
use Rattle.agent_table.specs.Arrivals as arrivals
use Rattle.agent_table.specs.Breaks as breaks
use Rattle.agent_table.specs.Identifiers as identifiers
use Rattle.agent_table.specs.Table as table
use Rattle.agent_table.specs.Takes as takes
use Rattle.session_world.specs.Generating as generating
use Rattle.session_world.specs.Worked.{PassedOnce, BeginsEmpty, ToldOnce}

pub passed_once : PassedOnce
unfolding spelling.groups str.is_utf8 str.chars utf8.encode texts.is_name texts.is_filter fitting.fits table.row_of requests.is_valid identifiers.fresh arrivals.arrived_row arrivals.connack_row arrivals.publish_row arrivals.puback_row arrivals.pubrec_row arrivals.pubcomp_row takes.take_row takes.may_take takes.publish_row breaks.opened_row breaks.fault_row
passed_once = record { origins = refl; totals = refl; skipped = refl }

pub begins_empty : BeginsEmpty
unfolding spelling.groups str.is_utf8 str.chars utf8.encode texts.is_name texts.is_filter fitting.fits table.row_of requests.is_valid identifiers.fresh arrivals.arrived_row arrivals.connack_row arrivals.suback_row takes.take_row takes.may_take takes.subscribe_row breaks.opened_row generating.drawn
begins_empty = record { totals = refl }

pub told_once : ToldOnce
unfolding spelling.groups str.is_utf8 str.chars utf8.encode texts.is_name texts.is_filter fitting.fits table.row_of requests.is_valid identifiers.fresh arrivals.arrived_row arrivals.connack_row arrivals.publish_row arrivals.puback_row arrivals.pubrec_row arrivals.pubcomp_row arrivals.suback_row takes.take_row takes.may_take takes.publish_row takes.subscribe_row breaks.opened_row breaks.fault_row
told_once = record { totals = refl }
