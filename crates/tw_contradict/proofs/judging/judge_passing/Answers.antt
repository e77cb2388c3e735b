use Rattle.std.proofs.Common.{◌≡◌, sym, subst, ◌∙◌}
use Rattle.std.specs.Prelude.{Some}
use Rattle.tw_contradict.specs.ArchiveFiles.{line_of_archive}
use Rattle.tw_contradict.specs.Verdicts.{Says}
use Rattle.tw_contradict.proofs.Judgements.{answer-checks, line-held, opening-is, says-of}
use Rattle.tw_contradict.proofs.judging.judge_passing.Goals as goal

pub returns-in-Some : goal.returns-in-Some
returns-in-Some g c = λ bytes is_file.
    let passes = c.requires.passes in
    let held : line_of_archive c.args.anchors.now c.args.proof.now ≡ Some c.in-Some.line =
    sym c.find_anchor.ensures ∙ c.in-Some.is in
    subst (Says g.H.Hasher.dig c.args.anchors.now bytes)
    (sym (c.facts_of.ensures (opening-is g.H.Hasher.dig c.args.anchors.now c.args.proof.now passes c.in-Some.line held)
    (answer-checks g.H.Hasher.dig c.args.anchors.now c.args.proof.now passes)))
    (says-of g.H.Hasher.dig c.args.anchors.now c.args.proof.now passes bytes c.in-Some.line is_file held)

pub returns-in-None : goal.returns-in-None
returns-in-None g c = λ bytes is_file.
    absurd (line-held g.H.Hasher.dig c.args.anchors.now c.args.proof.now c.requires.passes
    (sym c.find_anchor.ensures ∙ c.in-None.is))
