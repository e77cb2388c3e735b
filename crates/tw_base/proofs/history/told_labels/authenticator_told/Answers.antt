use Rattle.std.proofs.Common.{◌≡◌, ℕ, List, ◌∷◌, ◌++◌, length, ap, ◌∙◌}
use Rattle.std.specs.Int.{w64, to_be_bytes}
use Rattle.std.proofs.lemmas.List.{take_all}
use Rattle.tw_base.specs.kinds.Texts.{authenticator_text, joined}
use Rattle.tw_base.proofs.lemmas.kinds.HandedTexts.{hands-text}
use Rattle.tw_base.proofs.history.told_labels.authenticator_told.Goals as goal

pub returns-clause-took : goal.returns-clause-took
unfolding authenticator_text
returns-clause-took g c =
    let text : c.as_slice.result.now ≡ authenticator_text c.args.step c.args.labels.now =
    c.as_slice.ensures.value ∙ c.loop-label.invariant.0
    ∙ ap (λ (ls : List (List ℕ)). 0x12 ∷ (to_be_bytes w64 c.args.step ++ length c.args.labels.now ∷ joined ls))
    (take_all c.loop-label.label-index c.args.labels.now c.loop-label-test.false) in
    hands-text g.T.Transcript.took _ _ _ _ text c.digest.ensures.took
