use Rattle.replay_rounds.proofs.AskedAll.{replays_take_all}
use Rattle.replay_rounds.proofs.laws.replays_take_all.Goals as goal

pub returns : goal.returns
returns c = replays_take_all
