use Rattle.std.proofs.Common.{◌≡◌, ◌+◌, ◌≤◌, ◌∙◌, sym, ap, subst}
use Rattle.tw_base.specs.declared.kinds.limits.TheConstants.{LAST_STEP}
use Rattle.tw_verifier.specs.declared.chain.Chain.{Chain}
use Rattle.tw_verifier.specs.Chaining.{behind_chain}
use Rattle.tw_verifier.proofs.StageForms.{begun-fits, begun-rest}
use Rattle.tw_verifier.proofs.following.behind_start.Goals as goal

pub invariant_of-behind_chain : goal.invariant_of-behind_chain
invariant_of-behind_chain g c =
    let fits = begun-fits g.H.Hasher.dig c.args.anchors.now c.begin-chain.result c.args.head.part c.args.event
    c.args.hops.count c.args.before c.begin-chain.ensures c.args.hops.few c.args.head.step_within in
    let same : c.begin-chain.result ≡ c.in_ok-chain.chain.value = sym c.in_ok-chain.ensures.ok in
    record {
      parts = subst (λ (x : Chain). x.part + x.more ≤ 65) same fits.0;
      known = subst (λ (x : Chain). x.known.step ≤ LAST_STEP) same fits.1;
    }

pub returns : goal.returns
returns g c =
    c.behind_chain.ensures g.H.Hasher.dig c.args.anchors.now ∙ ap (behind_chain g.H.Hasher.dig c.args.anchors.now)
    c.in_ok-chain.ensures.ok
    ∙ begun-rest g.H.Hasher.dig c.args.anchors.now c.begin-chain.result c.args.head.part c.args.event c.args.hops.count
    c.args.before c.begin-chain.ensures
