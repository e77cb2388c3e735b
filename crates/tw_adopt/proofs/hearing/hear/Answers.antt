use Rattle.std.proofs.Common.{List, ℕ, ap, sym, ◌∙◌, subst}
use Rattle.tw_adopt.specs.Hearing.{IsHeard, heard_of}
use Rattle.tw_adopt.proofs.HearingLaws.{verdict-heard}
use Rattle.tw_adopt.proofs.hearing.hear.Goals as goal

pub returns : goal.returns
returns g c =
    subst (λ r. IsHeard g.H.Hasher.dig c.args.anchors.now c.args.history.now c.args.number c.args.bytes.now r)
    (sym (c.heard_of.ensures ∙ ap (λ (name : List ℕ). heard_of c.args.number name c.in_ok-verdict.verdict)
    c.service.ensures))
    (verdict-heard g.H.Hasher.dig c.args.anchors.now c.args.history.now c.args.number c.args.bytes.now
    c.in_ok-verdict.verdict c.in_ok-verdict.ensures.verdict)
