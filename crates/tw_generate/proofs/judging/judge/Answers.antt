use Rattle.std.proofs.Common.{◌≡◌, List, ℕ, subst, true}
use Rattle.tw_base.specs.declared.history.thread.Thread.{Thread}
use Rattle.tw_chain.specs.Reasons.{IsVerdict}
use Rattle.tw_chain.specs.declared.verdict.Verdict.{Verdict}
use Rattle.tw_generate.proofs.Results.{accepted-only}
use Rattle.tw_generate.proofs.judging.judge.Goals as goal

-- a verdict on the same bytes, under the same anchors
on_these : (dig : List ℕ → List ℕ) (anchors heads : List Thread) (bytes proof : List ℕ) (verdict : Verdict)
    → anchors ≡ heads → bytes ≡ proof → IsVerdict dig anchors true bytes verdict → IsVerdict dig heads true proof verdict
on_these dig anchors heads bytes proof verdict one two is =
    subst (λ (b : List ℕ). IsVerdict dig heads true b verdict) two
    (subst (λ (hs : List Thread). IsVerdict dig hs true bytes verdict) one is)

pub hops_of-requires : goal.hops_of-requires
hops_of-requires g c =
    let dig = g.H.Hasher.dig in
    accepted-only dig c.args.heads.now true c.args.proof.now c.requires.0 c.in_ok-verdict.verdict c.requires.1
    (on_these dig _ c.args.heads.now _ c.args.proof.now c.in_ok-verdict.verdict c.as_slice-2.ensures c.as_slice.ensures
    c.in_ok-verdict.ensures.verdict)

pub returns : goal.returns
returns g c =
    let dig = g.H.Hasher.dig in
    let told = c.hops_of.ensures in (
      told.0,
      subst (λ (v : Verdict). IsVerdict dig c.args.heads.now true c.args.proof.now v) told.1
          (on_these dig _ c.args.heads.now _ c.args.proof.now c.in_ok-verdict.verdict c.as_slice-2.ensures
          c.as_slice.ensures c.in_ok-verdict.ensures.verdict),
      told.2,
    )
