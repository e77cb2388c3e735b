use Rattle.std.proofs.Common.{◌≡◌, ℕ, List, ◌+◌, ◌-◌, ◌^◌, ◌++◌, ◌∷◌, [], length, get_or, ap, sym, ◌∙◌, arith}
use Rattle.tw_base.specs.kinds.Texts.{link_text}
use Rattle.tw_base.proofs.lemmas.kinds.HandedTexts.{hands-none, hands-same, hands-text, hands-then}
use Rattle.tw_history.specs.Links.{AreReached}
use Rattle.tw_history.proofs.LinkLabels.{labels_below-more, labels_below-none, link_texts-more, link_texts-none}
use Rattle.tw_history.proofs.links.link_labels.Goals as goal

pub loop-level-init : goal.loop-level-init
loop-level-init g c = record {
  made = λ earlier reached. c.new-labels.ensures ∙ sym (labels_below-none g.T.Transcript.dig c.args.datum.now earlier
      c.args.step);
  count = ap length c.new-labels.ensures;
  took = λ earlier reached.
      hands-same g.T.Transcript.took _ _ _ _ (link_texts-none g.T.Transcript.dig c.args.datum.now earlier c.args.step)
      (hands-none g.T.Transcript.took c.args.texts.now);
}

pub loop-level-preserved : goal.loop-level-preserved
loop-level-preserved g c =
    let below : (earlier : List (List ℕ)) → AreReached c.args.step earlier c.args.latest.now → c.at_level.result.now
    ≡ get_or earlier (c.args.step - 2 ^ c.loop-level.level) [] =
    λ earlier reached. c.at_level.ensures ∙ reached c.loop-level.level (omega arith) in
    record {
      made = λ earlier reached.
          c.push.ensures.items
          ∙ (λ k. c.loop-level.invariant.made earlier reached k ++ (c.link_label_told-label.ensures.label
          ∙ ap (λ b. g.T.Transcript.dig (link_text c.args.step c.loop-level.level c.args.datum.now b))
          (below earlier reached)) k ∷ [])
          ∙ sym (labels_below-more g.T.Transcript.dig c.args.datum.now earlier c.args.step c.loop-level.level);
      count = c.push.ensures.len ∙ ap (λ n. n + 1) c.loop-level.invariant.count;
      took = λ earlier reached.
          hands-same g.T.Transcript.took _ _ _ _ (link_texts-more g.T.Transcript.dig c.args.datum.now earlier
          c.args.step c.loop-level.level)
          (hands-then g.T.Transcript.took _ _ _ _ _ (c.loop-level.invariant.took earlier reached)
          (hands-text g.T.Transcript.took _ _ _ _ (ap (link_text c.args.step c.loop-level.level c.args.datum.now)
          (below earlier reached)) c.link_label_told-label.ensures.took));
    }
