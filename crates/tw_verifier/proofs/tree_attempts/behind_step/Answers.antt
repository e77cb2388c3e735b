use Rattle.std.proofs.Common.{◌≡◌, ℕ, List, ◌∙◌, ap, subst}
use Rattle.std.specs.Prelude.{IfOk}
use Rattle.tw_base.specs.format.Formats.{Format}
use Rattle.tw_skipproof.specs.declared.path.Link.{Link}
use Rattle.tw_verifier.specs.declared.chain.Chain.{Chain}
use Rattle.tw_verifier.specs.declared.judgement.Judgement.{Judgement}
use Rattle.tw_verifier.specs.Stages.{behind_links_of, behind_path, path_of, rest}
use Rattle.tw_verifier.proofs.tree_attempts.behind_step.Goals as goal

pub returns : goal.returns
returns g c =
    let chain = c.args.onward.chain.value in
    let P : Format Judgement → Type 0 = λ f. IfOk c.along_path.result (λ stage. rest g.H.Hasher.dig c.args.anchors.now
    stage ≡ f) in
    subst P (ap (λ (s : ℕ). path_of c.new.result s c.args.step (behind_path g.H.Hasher.dig c.args.anchors.now
    c.way_down-way.result)) (ap (λ (x : Chain). x.known.step) c.deref.ensures)
    ∙ (λ k. path_of c.new.result chain.known.step c.args.step (λ links. c.way_down-way.ensures g.H.Hasher.dig
    c.args.anchors.now links k))
    ∙ ap (λ (ls : List Link). path_of ls chain.known.step c.args.step (behind_links_of g.H.Hasher.dig c.args.anchors.now
    chain c.args.step)) c.new.ensures) c.along_path.ensures
