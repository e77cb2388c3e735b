-- The order of keys is a total order.
use Rattle.std.proofs.Common.{◌≡◌, refl}
use Rattle.std.specs.declared.cmp.Ordering.TheVariants.{Greater}
use Rattle.std.specs.Cmp.{IsTotalOrder, then_total, on_total, nat_cmp_total}
use Rattle.std.proofs.lemmas.Cmp.{nat_list_cmp_total}
use Rattle.tw_base.specs.declared.history.thread.Key.{Key}
use Rattle.tw_base.specs.history.Entries.{key_cmp, KeyBelow}

pub key_cmp_total : IsTotalOrder key_cmp
key_cmp_total = then_total (on_total (λ (k : Key). k.from) nat_list_cmp_total)
    (on_total (λ (k : Key). k.step) nat_cmp_total)

pub KeyBelow-trans : (a b c : Key) → KeyBelow a b → KeyBelow b c → KeyBelow a c
KeyBelow-trans a b c p q = key_cmp_total.trans a b c p q

-- a key is not below itself, or below one that is below it
pub KeyBelow-irrefl : (a : Key) → KeyBelow a a → ⊥
KeyBelow-irrefl a p = let turned = key_cmp_total.antisymm a a in cc

pub KeyBelow-turned : (a b : Key) → key_cmp a b ≡ Greater → KeyBelow b a
KeyBelow-turned a b p = let turned = key_cmp_total.antisymm b a in rw (turned) (rw p refl)
