-- Keys of one service and of two, in their order.
use Rattle.std.proofs.Common.{◌≡◌, ℕ, ◌<◌, List, refl, sym, ap, ◌∙◌, arith}
use Rattle.std.specs.declared.cmp.Ordering.{Ordering}
use Rattle.std.specs.declared.cmp.Ordering.TheVariants.{Less, Equal, Greater}
use Rattle.std.specs.Cmp.Lexicographic.{slice_cmp}
use Rattle.std.specs.FinMap.{nat_cmp-IsAntisymmetric, slice_cmp-IsAntisymmetric}
use Rattle.std.specs.Ordering.{nat_cmp, ordering_reverse, ordering_then}
use Rattle.std.proofs.lemmas.Cmp.{nat_list_cmp_total}
use Rattle.tw_base.specs.declared.history.thread.Key.{Key}
use Rattle.tw_base.specs.history.Entries.{KeyBelow}

same_name : (from : List ℕ) → slice_cmp nat_cmp from from ≡ Equal
same_name from = by (slice_cmp nat_cmp from from) refl
  where
    by : (o : Ordering) → slice_cmp nat_cmp from from ≡ o → slice_cmp nat_cmp from from ≡ Equal
    by Less is = absurd (let turned = nat_list_cmp_total.antisymm from from in cc)
    by Equal is = is
    by Greater is = absurd (let turned = nat_list_cmp_total.antisymm from from in cc)

nat_less : (a b : ℕ) → a < b → nat_cmp a b ≡ Less
nat_less a b l = grind arith

less_nat : (a b : ℕ) → nat_cmp a b ≡ Less → a < b
less_nat a b l = grind arith

abbrev pub key : (from : List ℕ) (step : ℕ) → Key
key from step = record { from = from; step = step }

-- of one service the key of the lower step is below
pub step-below : (from : List ℕ) (a b : ℕ) → a < b → KeyBelow (key from a) (key from b)
step-below from a b l = rw (same_name from) (nat_less a b l)

pub below-step : (from : List ℕ) (a b : ℕ) → KeyBelow (key from a) (key from b) → a < b
below-step from a b l = less_nat a b (ap (λ (o : Ordering). ordering_then o (nat_cmp a b)) (sym (same_name from)) ∙ l)

-- what lies between two keys of one service is of it
pub between : (from other : List ℕ) (a b c : ℕ) → KeyBelow (key from a) (key other b) → KeyBelow (key other b)
    (key from c) → other ≡ from
between from other a b c low high = by (slice_cmp nat_cmp from other) refl low
  where
    turned : slice_cmp nat_cmp other from ≡ ordering_reverse (slice_cmp nat_cmp from other)
    turned = nat_list_cmp_total.antisymm other from

    by : (o : Ordering) → slice_cmp nat_cmp from other ≡ o → ordering_then o (nat_cmp a b) ≡ Less → other ≡ from
    by Less is l = absurd (let over : Greater ≡ Less = ap (λ (o : Ordering). ordering_then o (nat_cmp b c))
        (sym (turned ∙ ap ordering_reverse is)) ∙ high in cc)
    by Equal is l = sym (slice_cmp-IsAntisymmetric nat_cmp-IsAntisymmetric from other is)
    by Greater is l = absurd (cc)
