use Rattle.std.proofs.Common.{refl}
use Rattle.command_words.specs.Commands.{share_of}
use Rattle.command_words.proofs.commands.share.Goals as goal

pub returns-clause-words : goal.returns-clause-words
unfolding share_of
returns-clause-words c =
    rw (c.in_ok-to.ensures.text, c.in_ok-client.ensures.text, c.in_ok-keep_alive.ensures, c.in_ok-reopen.ensures.number, c.in_ok-size.ensures, c.in_ok-thing.ensures.text, c.is_given.ensures) refl
