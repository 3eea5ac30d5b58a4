use Rattle.std.proofs.Common.{arith}
use Rattle.replay_agent.specs.Runs.{sizes_of}
use Rattle.replay_agent.proofs.Starts.{Begins, start_sound, start_steady, start_asks, start_few, ending_is, has_ending, printable}
use Rattle.replay_agent.proofs.replayed.replay.Goals as goal

pub run-requires : goal.run-requires
run-requires g c =
    let setup = c.args.setup in
    let sizes = sizes_of g.row.ACKS g.row.IN g.row.ROUTES in
    let h : Begins setup sizes c.args.tick c.args.tape c.in-Ok.core c.new-run.result =
    record {
      setup_is = c.in-Ok.ensures.setup;
      begins = c.in-Ok.ensures.begins;
      stands = c.in-Ok.ensures.stands;
      journal = c.new-run.ensures.journal;
      link = c.new-run.ensures.link;
      clock = c.new-run.ensures.clock;
      stream = c.new-run.ensures.stream;
      fresh_is = c.new-run.ensures.fresh;
      counts = c.new-run.ensures.counts;
      nothing = c.new-run.ensures.nothing;
    }
    in (
      omega arith,
      (
        start_sound setup sizes c.args.tick c.args.tape c.in-Ok.core c.new-run.result h c.requires.client,
        (
          start_steady setup sizes c.args.tick c.args.tape c.in-Ok.core c.new-run.result h c.args.script.now.lines c.requires.one_task,
          (
            start_asks setup sizes c.args.tick c.args.tape c.in-Ok.core c.new-run.result h c.args.script.now.lines c.requires.lines,
            start_few setup sizes c.args.tick c.args.tape c.in-Ok.core c.new-run.result h c.args.script.now.lines c.requires.few,
          ),
        ),
      ),
    )

pub unreachable-requires : goal.unreachable-requires
unreachable-requires g c = has_ending c.run.new.core c.run.new.self c.args.script.now.lines c.in_ok-run.ensures.sound c.in_ok-run.ensures.ended c.in-None.is

pub returns-clause-sound : goal.returns-clause-sound
returns-clause-sound g c = printable c.run.new.core c.run.new.self c.in_ok-run.ensures.sound

pub returns-clause-ending : goal.returns-clause-ending
returns-clause-ending g c =
    let setup = c.args.setup in
    let sizes = sizes_of g.row.ACKS g.row.IN g.row.ROUTES in
    let h : Begins setup sizes c.args.tick c.args.tape c.in-Ok.core c.new-run.result =
    record {
      setup_is = c.in-Ok.ensures.setup;
      begins = c.in-Ok.ensures.begins;
      stands = c.in-Ok.ensures.stands;
      journal = c.new-run.ensures.journal;
      link = c.new-run.ensures.link;
      clock = c.new-run.ensures.clock;
      stream = c.new-run.ensures.stream;
      fresh_is = c.new-run.ensures.fresh;
      counts = c.new-run.ensures.counts;
      nothing = c.new-run.ensures.nothing;
    }
    in
    ending_is setup sizes c.args.tick c.args.tape c.in-Ok.core c.new-run.result h c.args.script.now.lines c.run.new.core c.run.new.self c.in-Some.ending c.in_ok-run.ensures.finished c.in_ok-run.ensures.sound c.in-Some.is
