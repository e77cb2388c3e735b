use Rattle.std.proofs.Common.{◌≡◌, ℕ, List, [], ◌∷◌, ◌++◌, ap, ◌∙◌, append_assoc, take, drop}
use Rattle.tw_base.specs.kinds.Texts.{authenticator_text}
use Rattle.tw_base.proofs.lemmas.kinds.HandedTexts.{hands-same, hands-then}
use Rattle.tw_skipproof.specs.Paths.{climb_link_text, with_label}
use Rattle.tw_skipproof.proofs.climbing.link_authenticator.Goals as goal

pub returns-clause-took : goal.returns-clause-took
returns-clause-took g c =
    let dig = g.T.Transcript.dig in
    let link = c.args.link.now in
    let text : List ℕ = climb_link_text dig link c.args.step c.args.level c.args.below.now in
    let lower : c.split_at.result.0.now ≡ take c.args.level link.others = c.split_at.ensures.front
    ∙ ap (take c.args.level) c.as_slice.ensures.value in
    let upper : c.split_at.result.1.now ≡ drop c.args.level link.others = c.split_at.ensures.back
    ∙ ap (drop c.args.level) c.as_slice.ensures.value in
    let front : c.put.new.list.items ≡ take c.args.level link.others = c.put.ensures.items
    ∙ (λ k. c.new-labels.ensures k ++ lower k) in
    let labels : c.as_slice-2.result.now ≡ with_label link.others c.args.level (dig text) =
    c.as_slice-2.ensures.value ∙ c.put-2.ensures.items
    ∙ (λ k. (c.push.ensures.items ∙ (λ j. front j ++ c.link_label_told-label.ensures.label j ∷ [])) k ++ upper k)
    ∙ append_assoc (take c.args.level link.others) (dig text ∷ []) (drop c.args.level link.others) in
    hands-same g.T.Transcript.took _ _ _ _ (ap (λ (ls : List (List ℕ)). text ∷ authenticator_text c.args.step ls ∷ [])
    labels)
    (hands-then g.T.Transcript.took _ _ _ _ _ c.link_label_told-label.ensures.took c.authenticator_told.ensures.took)
