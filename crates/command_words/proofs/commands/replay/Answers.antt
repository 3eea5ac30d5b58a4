use Rattle.std.proofs.Common.{refl}
use Rattle.command_words.specs.Commands.{replay_of}
use Rattle.command_words.proofs.commands.replay.Goals as goal

pub returns-clause-words : goal.returns-clause-words
unfolding replay_of
returns-clause-words c =
    rw (c.in_ok-client.ensures.text, c.in_ok-keep_alive.ensures, c.in_ok-reopen.ensures.number, c.in_ok-tick.ensures.number, c.in_ok-size.ensures, c.in_ok-thing.ensures.text, c.in_ok-to.ensures, c.is_given.ensures) refl
