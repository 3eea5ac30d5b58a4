use Rattle.std.proofs.Common.{arith, refl}
use Rattle.command_words.specs.Commands.{fetch_of}
use Rattle.command_words.proofs.commands.fetch.Goals as goal

pub returns-clause-words : goal.returns-clause-words
unfolding fetch_of
returns-clause-words c =
    rw (c.in_ok-to.ensures.text, c.in_ok-client.ensures.text, c.in_ok-thing.ensures.text, c.in_ok-keep_alive.ensures, c.in_ok-reopen.ensures.number, c.in_ok-block.ensures.power, c.in_ok-tries.ensures.number, c.is_given.ensures, c.is_given-2.ensures) refl

-- 4,096 bytes are a block
pub power_or-requires : goal.power_or-requires
unfolding lib.Count.ones
power_or-requires c = record { power = refl; large = omega arith; small = omega arith }
