use Rattle.replay_run.proofs.Printed.{prints_replay}
use Rattle.replay_run.proofs.command.replay_command.Goals as goal

pub returns-clause-history : goal.returns-clause-history
returns-clause-history g c = λ ran. prints_replay c.args.words.now c.replay_source.result _ _ _ _ _ _ _ _ c.replay_source.ensures.ends ran
