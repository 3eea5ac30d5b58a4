use Rattle.command_words.specs.Given.{rows_seen}
use Rattle.command_words.proofs.Told.{unfair_refused, words_read, words_refused}
use Rattle.command_words.proofs.matches.options_of.Goals as goal

pub returns-then-not-are_fair : goal.returns-then-not-are_fair
returns-then-not-are_fair c = unfair_refused (rows_seen c.args.rows.now) c.args.words.now c.are_fair.result c.requires.names c.if-not-are_fair.true c.are_fair.ensures

pub returns-in_ok-options_found-in-Ok : goal.returns-in_ok-options_found-in-Ok
returns-in_ok-options_found-in-Ok c =
    words_read c.args.name.now (rows_seen c.args.rows.now) _ c.args.words.now c.are_fair.result c.in-Ok.matches _ c.in_ok-command.ensures c.if-not-are_fair.false c.are_fair.ensures
    c.in-Ok.ensures.matches c.in-Ok.ensures.kinds c.in_ok-options_found-in-Ok.ensures c.requires.sound

pub returns-in-Err : goal.returns-in-Err
returns-in-Err c =
    words_refused c.args.name.now (rows_seen c.args.rows.now) _ c.args.words.now c.are_fair.result c.in-Err.error c.fault_of.result c.in_ok-command.ensures c.if-not-are_fair.false c.are_fair.ensures
    c.in-Err.ensures.kinds c.fault_of.ensures.memory
