use Rattle.std.proofs.Common.{refl}
use Rattle.tw_cache.proofs.CachedLaws.{one-value}
use Rattle.tw_cache.proofs.cached.Cached.inner_mut.Goals as goal

pub returns : goal.returns
returns g c = ((refl, λ w. one-value w _ _ _ _ search), record { value = refl; writes_back = tt })
