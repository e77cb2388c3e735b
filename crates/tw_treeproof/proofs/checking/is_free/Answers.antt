use Rattle.std.proofs.Common.{sym, ◌∙◌}
use Rattle.tw_treeproof.proofs.Climbs.{all_free, frees, none_before, not_free}
use Rattle.tw_treeproof.proofs.checking.is_free.Goals as goal

pub loop-ancestor-init : goal.loop-ancestor-init
loop-ancestor-init c = none_before c.args.ask.now c.args.ancestors.now

pub returns-then-meets : goal.returns-then-meets
returns-then-meets c = (
  λ no. let h = no in cc,
  λ all.
      absurd (not_free c.args.ask.now c.args.ancestors.now c.loop-ancestor.ancestor-index c.ancestor-item.result
      c.loop-ancestor-test.true c.ancestor-item.is c.loop-ancestor.invariant
      (λ free. let no = sym (sym c.meets.ensures ∙ c.if-meets.true) ∙ free in cc) all),
)

pub loop-ancestor-preserved : goal.loop-ancestor-preserved
loop-ancestor-preserved c =
    frees c.args.ask.now c.args.ancestors.now c.loop-ancestor.ancestor-index c.ancestor-item.result
    c.loop-ancestor-test.true c.ancestor-item.is c.loop-ancestor.invariant
    (sym c.meets.ensures ∙ c.if-meets.false)

pub returns : goal.returns
returns c = (
  λ yes. all_free c.args.ask.now c.args.ancestors.now c.loop-ancestor.ancestor-index c.loop-ancestor-test.false
      c.loop-ancestor.invariant,
  λ all. cc,
)
