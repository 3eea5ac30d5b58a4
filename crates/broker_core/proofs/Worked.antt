-- The worked exchange, by computation.
use Rattle.std.proofs.Common.{refl}
use Rattle.std.specs.Str as str
use lib.Utf8 as utf8
use Rattle.mqtt_packet.specs.Spelling as spelling
use Rattle.topic_filter.specs.Fitting as fitting
use Rattle.topic_filter.specs.Texts as texts
use Rattle.agent_table.specs.Identifiers as identifiers
use Rattle.broker_core.specs.Worked.{IsPassedOnce}

pub is_passed_once : IsPassedOnce
unfolding spelling.groups str.is_utf8 str.chars utf8.encode texts.is_name texts.is_filter fitting.fits identifiers.fresh
is_passed_once = record {
  possible = ((tt, refl), ((tt, refl), ((tt, refl), ((tt, refl), ((tt, refl), ((tt, refl), (refl, tt)))))));
  accepts = (refl, refl);
  grants = (refl, refl);
  passes = (refl, refl);
  answers = (refl, refl);
  releases = (refl, refl);
  closes = (refl, refl);
  passed = refl;
}
