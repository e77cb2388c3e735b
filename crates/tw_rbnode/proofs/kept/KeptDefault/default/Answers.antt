use Rattle.std.proofs.Common.{refl, replicate}
use Rattle.tw_rbnode.proofs.kept.KeptDefault.default.Goals as goal

pub from_bytes-requires : goal.from_bytes-requires
from_bytes-requires c = (replicate 16 97, refl, refl)
