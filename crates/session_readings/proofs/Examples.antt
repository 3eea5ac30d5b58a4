-- Worked journals compute.
use Rattle.std.proofs.Common.{refl}
use Rattle.std.specs.Str as str
use lib.Utf8 as utf8
use Rattle.mqtt_packet.specs.Spelling as spelling
use Rattle.topic_filter.specs.Texts as texts
use Rattle.agent_journal.specs.Requests as requests
use Rattle.agent_table.specs.Arrivals as arrivals
use Rattle.agent_table.specs.Breaks as breaks
use Rattle.agent_table.specs.Identifiers as identifiers
use Rattle.agent_table.specs.Table as table
use Rattle.agent_table.specs.Takes as takes
use Rattle.session_text.specs.Spelling as text
use Rattle.session_readings.specs.Worked.{FirstIsSaved, ReleasedIsSaved, JournalsAreSaved}

first_is_saved : FirstIsSaved
unfolding text.byte text.flag text.number32 text.number64
first_is_saved = refl

released_is_saved : ReleasedIsSaved
unfolding spelling.groups str.is_utf8 str.chars utf8.encode texts.is_name table.row_of requests.is_valid identifiers.fresh arrivals.arrived_row arrivals.connack_row arrivals.pubrec_row breaks.opened_row takes.take_row takes.may_take takes.publish_row text.byte text.flag text.number32 text.number64
released_is_saved = refl

pub journals_are_saved : JournalsAreSaved
journals_are_saved = (first_is_saved, released_is_saved)
