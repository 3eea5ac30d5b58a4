use Rattle.replay_rounds.proofs.Fronts.{replays_hear_their_tape}
use Rattle.replay_rounds.proofs.laws.replays_hear_their_tape.Goals as goal

pub returns : goal.returns
returns c = replays_hear_their_tape
