use Rattle.broker_core.proofs.InWindow as windows
use Rattle.broker_core.proofs.laws.clients_differ.Goals as goal

pub returns : goal.returns
returns c past possible client = windows.clients_differ past possible client
