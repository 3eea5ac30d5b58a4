-- The worked example, by computation.
use Rattle.std.proofs.Common.{refl}
use Rattle.std.specs.Fmt as fmt
use Rattle.hex.specs.Hex as hex
use Rattle.mqtt_packet.specs.Spelling as spelling
use Rattle.journal_text.specs.Texts as texts
use Rattle.journal_text.specs.Printed.{ExampleIsPrinted}

pub example_is_printed : ExampleIsPrinted
unfolding spelling.groups texts.entry_text hex.encode_with fmt.digits
example_is_printed = refl
