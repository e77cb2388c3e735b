use Rattle.std.proofs.Common.{◌≡◌, sym, subst, arith}
use Rattle.std.specs.Prelude.{IfOk}
use Rattle.tw_base.specs.format.Formats.{Format}
use Rattle.tw_verifier.specs.declared.judgement.Judgement.{Judgement}
use Rattle.tw_verifier.specs.Stages.{behind_path, rest}
use Rattle.tw_verifier.proofs.StageForms.{path-more, path-none}
use Rattle.tw_verifier.proofs.following.along_path.Goals as goal

pub returns-then-at-to : goal.returns-then-at-to
returns-then-at-to g c = sym (path-more c.args.links c.args.at c.args.to (behind_path g.H.Hasher.dig c.args.anchors.now
    c.args.way) (omega (arith, c.if-at-to.true)))

pub returns : goal.returns
returns g c =
    let P : Format Judgement → Type 0 = λ f. IfOk c.behind_path.result (λ stage. rest g.H.Hasher.dig c.args.anchors.now
    stage ≡ f) in
    subst P (sym (path-none c.args.links c.args.at c.args.to (behind_path g.H.Hasher.dig c.args.anchors.now c.args.way)
    (omega (arith, c.if-at-to.false)))) c.behind_path.ensures
