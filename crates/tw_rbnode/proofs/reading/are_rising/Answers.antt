use Rattle.std.proofs.Common.{◌≡◌, ◌+◌, ◌-◌, ℕ, suc, ap, sym, ◌∙◌, arith, subst, take, slice_get, true}
use Rattle.std.specs.Prelude.{Some}
use Rattle.std.specs.Ordering.{is_lt}
use Rattle.tw_base.specs.history.Entries.{KeyBelow, key_cmp, key_of}
use Rattle.tw_base.specs.history.Tree.{IsRising}
use Rattle.tw_base.proofs.lemmas.history.KeyTests.{below-lt}
use Rattle.tw_rbnode.proofs.Rising.{rise-more, rising-next}
use Rattle.tw_rbnode.proofs.reading.are_rising.Goals as goal

pub returns-then-not-is_below : goal.returns-then-not-is_below
returns-then-not-is_below c =
    let i = c.loop-index.index in
    let next : slice_get c.args.entries.now (suc (c.loop-index.index - 1)) ≡ Some c.entry_of-own.result =
    ap (slice_get c.args.entries.now) (let e : suc (c.loop-index.index - 1) ≡ c.loop-index.index = omega arith in e)
    ∙ c.entry_of-own.ensures in (
      (λ no. cc),
      (λ rising. absurd (
          let less : KeyBelow (key_of c.entry_of-before.result) (key_of c.entry_of-own.result) =
          rising-next c.args.entries.now (i - 1) c.entry_of-before.result c.entry_of-own.result rising
          c.entry_of-before.ensures next in
          let keys : is_lt (key_cmp c.entry_key.result c.entry_key-in-loop-index.result) ≡ is_lt
          (key_cmp (key_of c.entry_of-before.result) (key_of c.entry_of-own.result)) =
          λ j. is_lt (key_cmp (c.entry_key.ensures j) (c.entry_key-in-loop-index.ensures j)) in
          let found : c.is_below.result ≡ true = c.is_below.ensures ∙ keys ∙ ap is_lt less in
          let test = c.if-not-is_below.ensures in
          let no = c.if-not-is_below.true in
          grind arith)),
    )

pub loop-index-preserved : goal.loop-index-preserved
loop-index-preserved c =
    let i = c.loop-index.index in
    let next : slice_get c.args.entries.now (suc (c.loop-index.index - 1)) ≡ Some c.entry_of-own.result =
    ap (slice_get c.args.entries.now) (let e : suc (c.loop-index.index - 1) ≡ c.loop-index.index = omega arith in e)
    ∙ c.entry_of-own.ensures in
    let test = c.if-not-is_below.ensures in
    let no = c.if-not-is_below.false in
    let found : c.is_below.result ≡ true = grind arith in
    let keys : is_lt (key_cmp c.entry_key.result c.entry_key-in-loop-index.result) ≡ is_lt
    (key_cmp (key_of c.entry_of-before.result) (key_of c.entry_of-own.result)) =
    λ j. is_lt (key_cmp (c.entry_key.ensures j) (c.entry_key-in-loop-index.ensures j)) in
    let less : KeyBelow (key_of c.entry_of-before.result) (key_of c.entry_of-own.result) =
    below-lt (key_of c.entry_of-before.result) (key_of c.entry_of-own.result) (sym keys ∙ sym c.is_below.ensures
    ∙ found) in
    let so_far : IsRising (take (suc (c.loop-index.index - 1)) c.args.entries.now) =
    subst (λ (n : ℕ). IsRising (take n c.args.entries.now)) (let e : c.loop-index.index ≡ suc (c.loop-index.index - 1) =
    omega arith in e) c.loop-index.invariant in
    subst (λ (n : ℕ). IsRising (take n c.args.entries.now)) (let e : suc (suc (c.loop-index.index - 1))
    ≡ c.loop-index.index + 1 = omega arith in e)
    (rise-more c.args.entries.now (i - 1) c.entry_of-before.result c.entry_of-own.result so_far
    c.entry_of-before.ensures next less)
