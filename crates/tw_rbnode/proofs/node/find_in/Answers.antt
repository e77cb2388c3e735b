use Rattle.std.proofs.Common.{◌≡◌, ◌+◌, ◌-◌, ℕ, suc, take, sym, ap, ◌∙◌, subst, arith}
use Rattle.std.specs.Prelude.{slice_get, Some}
use Rattle.tw_base.specs.history.Entries.{KeyBelow, key_cmp, key_of}
use Rattle.tw_base.specs.kinds.Lists.{Each}
use Rattle.tw_base.proofs.lemmas.history.Keys.{KeyBelow-turned}
use Rattle.tw_rbnode.proofs.Rising.{Each-one_more, above_rest, read-get}
use Rattle.tw_rbnode.proofs.node.find_in.Goals.{After-compare_keys}
use Rattle.tw_rbnode.proofs.node.find_in.Goals as goal

-- the entry at the place, and how the key compares with its key
compared : (c : After-compare_keys) → let item = c.index-entries-place.result in
    (slice_get c.args.entries.now c.loop-place.place ≡ Some item)
    × (key_cmp c.args.key.now (key_of item) ≡ c.compare_keys.result)
compared c =
    let own = ap key_of (sym c.kept.view_is) ∙ sym c.entry_key.ensures in (
      read-get c.args.entries.now c.loop-place.place _ c.loop-place-test.true c.index-entries-place.is,
      ap (key_cmp c.args.key.now) own ∙ sym c.compare_keys.ensures,
    )

pub returns-in-Less : goal.returns-in-Less
returns-in-Less c =
    let here = compared (goal.at.returns-in-Less c).After-compare_keys in
    record {
      there = omega (arith, c.loop-place-test.true);
      above = c.loop-place.invariant;
      below = above_rest c.args.entries.now c.loop-place.place c.index-entries-place.result c.args.key.now
          c.requires.rising here.0 (here.1 ∙ c.in-Less.is);
    }

pub returns-in-Equal : goal.returns-in-Equal
returns-in-Equal c =
    let item = c.index-entries-place.result in
    let here = compared (goal.at.returns-in-Equal c).After-compare_keys in
    record {
      entry = item;
      counted = omega arith;
      there = subst (λ (n : ℕ). slice_get c.args.entries.now n ≡ Some item)
          (let e : c.loop-place.place ≡ c.loop-place.place + 1 - 1 = omega arith in e) here.0;
      key_is = here.1 ∙ c.in-Equal.is;
    }

pub loop-place-preserved : goal.loop-place-preserved
loop-place-preserved c =
    let item = c.index-entries-place.result in
    let here = compared (goal.at.loop-place-preserved c).After-compare_keys in
    let less = KeyBelow-turned c.args.key.now (key_of item) (here.1 ∙ c.in-Greater.is) in
    subst (λ (n : ℕ). Each (λ e. KeyBelow (key_of e) c.args.key.now) (take n c.args.entries.now))
    (let e : suc c.loop-place.place ≡ c.loop-place.place + 1 = omega arith in e)
    (Each-one_more (λ e. KeyBelow (key_of e) c.args.key.now) c.args.entries.now c.loop-place.place item
    c.loop-place.invariant here.0 less)
