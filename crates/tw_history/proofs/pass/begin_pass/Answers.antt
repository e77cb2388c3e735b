use Rattle.std.proofs.Common.{replicate, ◌++◌, ◌∷◌, [], ap, ◌∙◌}
use Rattle.tw_base.specs.history.History.{History}
use Rattle.tw_base.specs.kinds.Texts.{empty_tree_text, genesis_text}
use Rattle.tw_base.proofs.lemmas.kinds.HandedTexts.{hands-same, hands-then}
use Rattle.tw_history.proofs.Passes.{HasPassed-none, texts-none}
use Rattle.tw_history.proofs.pass.begin_pass.Goals as goal

pub returns : goal.returns
returns g c = record {
  passed =
      HasPassed-none g.T.Transcript.dig c.args.history.now (record { tree_labels = c.push.new.self; latest = _ })
      (c.in_ok-push.ensures.ok ∙ (λ k. c.in_ok-tree_labels.ensures k ++ c.empty_tree_told.ensures.label k ∷ []))
      (ap (replicate 40) (c.genesis_told-latest.ensures.label
      ∙ ap (λ (h : History). g.T.Transcript.dig (genesis_text h.name)) c.history.view_is));
  took =
      hands-same g.T.Transcript.took _ _ _ _
      (ap (λ (h : History). genesis_text h.name ∷ empty_tree_text ∷ []) c.history.view_is ∙ texts-none
      g.T.Transcript.dig c.args.history.now)
      (hands-then g.T.Transcript.took _ _ _ _ _ c.genesis_told-latest.ensures.took c.empty_tree_told.ensures.took);
}
