use Rattle.image_store.proofs.Putting.{put_stands}
use Rattle.image_store.proofs.laws.put_stands.Goals as goal

pub returns : goal.returns
returns c = put_stands
