use Rattle.std.proofs.Common.{◌≡◌, ◌-◌, sym, subst, arith}
use Rattle.std.specs.Prelude.{IfOk}
use Rattle.tw_base.specs.format.Formats.{Format}
use Rattle.tw_skipproof.specs.Codecs.{opening_codec}
use Rattle.tw_verifier.specs.declared.judgement.Judgement.{Judgement}
use Rattle.tw_verifier.specs.Stages.{behind_before, rest}
use Rattle.tw_verifier.proofs.StageForms.{optional-none, optional-some}
use Rattle.tw_verifier.proofs.following.behind_seconded.Goals as goal

pub returns-then-hops-gt0 : goal.returns-then-hops-gt0
returns-then-hops-gt0 g c =
    sym (optional-some c.args.hops.count (opening_codec 0 (c.args.head.part.step - 1)) (behind_before g.H.Hasher.dig
    c.args.anchors.now c.args.head.part c.args.event c.args.hops.count) (omega (arith, c.if-hops-gt0.true)))

pub returns : goal.returns
returns g c =
    let P : Format Judgement → Type 0 = λ f. IfOk c.behind_start.result (λ stage. rest g.H.Hasher.dig c.args.anchors.now
    stage ≡ f) in
    subst P (sym (optional-none c.args.hops.count (opening_codec 0 (c.args.head.part.step - 1))
    (behind_before g.H.Hasher.dig c.args.anchors.now c.args.head.part c.args.event c.args.hops.count)
    (omega (arith, c.if-hops-gt0.false)))) c.behind_start.ensures
