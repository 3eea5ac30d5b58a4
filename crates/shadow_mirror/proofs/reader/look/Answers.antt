use Rattle.std.proofs.Common.{refl}
use Rattle.shadow_mirror.proofs.Sights.{sights}
use Rattle.shadow_mirror.proofs.reader.look.Goals as goal

pub enter_as-requires : goal.enter_as-requires
enter_as-requires c x = sights _ _ x x refl
