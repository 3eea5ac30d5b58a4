use Rattle.disk_slots.proofs.Frames.{frame_put}
use Rattle.disk_slots.proofs.frame.put_text.Goals as goal

pub returns-clause-front : goal.returns-clause-front
returns-clause-front c = frame_put c.args.text.now c.args.frame.now.items _ _ _ c.requires.0 c.to_be_bytes.ensures c.put.ensures c.put-2.ensures
