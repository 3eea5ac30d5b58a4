use Rattle.replay_rounds.proofs.Histories.{replays_are_histories}
use Rattle.replay_rounds.proofs.laws.replays_are_histories.Goals as goal

pub returns : goal.returns
returns c = replays_are_histories
