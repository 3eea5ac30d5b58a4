use Rattle.image_store.proofs.Putting.{again_stands}
use Rattle.image_store.proofs.laws.again_stands.Goals as goal

pub returns : goal.returns
returns c = again_stands
