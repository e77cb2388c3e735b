use Rattle.std.proofs.Common.{◌≡◌, ◌+◌, ◌≤◌, List, ◌∙◌, arith, subst, sym}
use Rattle.std.specs.Prelude.{reverse}
use Rattle.tw_base.specs.declared.kinds.limits.TheConstants.{LAST_STEP}
use Rattle.tw_chain.specs.declared.proof.HopPart.{HopPart}
use Rattle.tw_chain.specs.declared.proof.Tail.{Tail}
use Rattle.tw_verifier.specs.declared.chain.Chain.{Chain}
use Rattle.tw_verifier.specs.Chaining.{closed}
use Rattle.tw_verifier.proofs.ChainRuns.{AreLeft, closes, left, some, within}
use Rattle.tw_verifier.proofs.whole.with_hops.Goals as goal

pub with_hop-requires-clause-step : goal.with_hop-requires-clause-step
with_hop-requires-clause-step g c = (within c.loop-hop.chain c.loop-hop.left.items c.pop.new.self.items c.in-Some.hop
    c.in-Some.ensures.items c.loop-hop.invariant.2).0

pub with_hop-requires-clause-bind : goal.with_hop-requires-clause-bind
with_hop-requires-clause-bind g c = (within c.loop-hop.chain c.loop-hop.left.items c.pop.new.self.items c.in-Some.hop
    c.in-Some.ensures.items c.loop-hop.invariant.2).1

pub loop-hop-preserved : goal.loop-hop-preserved
loop-hop-preserved g c =
    let dig = g.H.Hasher.dig in
    let anchors = c.args.anchors.now in
    let before : Chain = c.loop-hop.chain in
    let old : List HopPart = c.loop-hop.left.items in
    let new : List HopPart = c.pop.new.self.items in
    let hop : HopPart = c.in-Some.hop in
    let is = c.in-Some.ensures.items in
    let fits = c.loop-hop.invariant.2 in
    let more = some before old new hop is fits in
    let Keeps : Chain → Type 0 = λ chain. (chain.part + chain.more ≤ 65) × (chain.known.step ≤ LAST_STEP)
    × AreLeft chain.more (reverse new) × ((tail : Tail) → closed dig anchors chain (reverse new) tail
    ≡ closed dig anchors c.args.chain c.args.hops tail) in
    subst Keeps (sym c.in_ok-chain.ensures) (
      omega (arith, c.loop-hop.invariant.0, more),
      (within before old new hop is fits).0,
      left before old new hop is fits,
      λ tail. sym (closes before old new hop is fits dig anchors tail) ∙ c.loop-hop.invariant.3 tail,
    )
