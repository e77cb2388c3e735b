use Rattle.std.proofs.Common.{◌≡◌, ℕ, List, [], ◌∷◌, ◌++◌, ap, ◌∙◌}
use Rattle.tw_base.specs.kinds.Texts.{authenticator_text, link_text, step_datum_text}
use Rattle.tw_base.proofs.lemmas.kinds.HandedTexts.{hands-same, hands-then}
use Rattle.tw_skipproof.specs.Openings.{opening_texts}
use Rattle.tw_skipproof.proofs.opening.opening_auth_told.Goals as goal

pub returns-clause-took : goal.returns-clause-took
unfolding opening_texts
returns-clause-took g c =
    let dig = g.T.Transcript.dig in
    let o = c.args.opening.now in
    let datum : List ℕ = step_datum_text o.event_root o.archive_root o.count o.time in
    let label : c.link_label_told-first.result ≡ dig (link_text c.args.step 0 (dig datum) o.prev) =
    c.link_label_told-first.ensures.label ∙ ap (λ d. dig (link_text c.args.step 0 d o.prev))
    c.step_datum_told-datum.ensures.label in
    let labels : c.as_slice-2.result.now ≡ dig (link_text c.args.step 0 (dig datum) o.prev) ∷ o.others =
    c.as_slice-2.ensures.value ∙ c.put.ensures.items
    ∙ (λ k. (c.push.ensures.items ∙ ap (λ (w : List (List ℕ)). w ++ c.link_label_told-first.result ∷ [])
    c.new-labels.ensures) k ++ c.as_slice.ensures.value k)
    ∙ ap (λ l. l ∷ o.others) label in
    hands-same g.T.Transcript.took _ _ _ _
    (λ k. datum ∷ link_text c.args.step 0 (c.step_datum_told-datum.ensures.label k) o.prev ∷ authenticator_text
    c.args.step (labels k) ∷ [])
    (hands-then g.T.Transcript.took _ _ _ _ _
    (hands-then g.T.Transcript.took _ _ _ _ _ c.step_datum_told-datum.ensures.took c.link_label_told-first.ensures.took)
    c.authenticator_told.ensures.took)
