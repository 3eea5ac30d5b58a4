-- The agent of the world: one task, whose connection is opened again as often as it breaks.
use Rattle.std.specs.Prelude.{false, [], codes}
use Rattle.agent_journal.specs.declared.setup.Setup.{Setup}
use Rattle.agent_table.specs.Sizes.{Sizes}

abbrev pub dev : Setup
dev = record { to = []; client = codes "dev"; keep_alive = 60; reopen = 4294967294; wipe = false; tasks = 1 }

abbrev pub usual : Sizes
usual = record { acks = 20; inbound = 20; routes = 32 }
