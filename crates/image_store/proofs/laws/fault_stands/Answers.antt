use Rattle.image_store.proofs.Putting.{fault_stands}
use Rattle.image_store.proofs.laws.fault_stands.Goals as goal

pub returns : goal.returns
returns c = fault_stands
