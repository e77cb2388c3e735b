use Rattle.std.proofs.Common.{◌+◌, [], ◌∷◌, ◌++◌, arith, ap, refl, sym, ◌∙◌, append_assoc, drop}
use Rattle.std.proofs.lemmas.List.{append-nil}
use Rattle.tw_base.proofs.lemmas.kinds.HandedTexts.{hands-none, hands-same, hands-then}
use Rattle.tw_base.specs.history.Ways.{climb_texts, is_left, over_text}
use Rattle.tw_treeproof.proofs.ClimbTexts.{ancestors-end, ancestors-step}
use Rattle.tw_treeproof.proofs.Climbs.{begins, climbed_all, climbs}
use Rattle.tw_treeproof.proofs.checking.climb_tree.Goals as goal

pub loop-ancestor-init : goal.loop-ancestor-init
loop-ancestor-init g c = record {
  climbing = begins g.T.Transcript.dig c.args.ask.now c.args.ancestors.now c.args.place;
  first = [];
  took = hands-none g.T.Transcript.took c.args.texts.now;
  rest = refl;
}

pub loop-ancestor-preserved : goal.loop-ancestor-preserved
loop-ancestor-preserved g c =
    let dig = g.T.Transcript.dig in
    let left = is_left c.args.ask.now in
    let first = c.loop-ancestor.invariant.first in
    let text = over_text left c.ancestor-item.result c.loop-ancestor.label in
    let step = ancestors-step dig left c.args.ancestors.now c.loop-ancestor.ancestor-index c.ancestor-item.result
    c.loop-ancestor.label c.loop-ancestor-test.true c.ancestor-item.is in
    record {
      climbing = climbs dig c.args.ask.now c.args.ancestors.now c.args.place c.loop-ancestor.ancestor-index
          c.loop-ancestor.label c.ancestor-item.result c.loop-ancestor-test.true c.ancestor-item.is
          c.loop-ancestor.invariant.climbing c.label_over-above.result c.label_over-above.ensures.other
          c.label_over-above.ensures.fits c.label_over-above.ensures.label;
      first = first ++ text ∷ [];
      took = hands-then g.T.Transcript.took _ _ _ _ _ c.loop-ancestor.invariant.took c.label_over-above.ensures.took;
      rest =
          append_assoc first (text ∷ [])
          (climb_texts dig left (drop (c.loop-ancestor.ancestor-index + 1) c.args.ancestors.now)
          c.label_over-above.result)
          ∙ ap (λ r. first ++ text ∷ climb_texts dig left (drop (c.loop-ancestor.ancestor-index + 1)
          c.args.ancestors.now) r) c.label_over-above.ensures.label
          ∙ ap (λ ts. first ++ ts) (sym step)
          ∙ c.loop-ancestor.invariant.rest;
    }

pub returns : goal.returns
returns g c =
    let all = climbed_all g.T.Transcript.dig c.args.ask.now c.args.ancestors.now c.args.place
    c.loop-ancestor.ancestor-index c.loop-ancestor.label c.loop-ancestor-test.false c.loop-ancestor.invariant.climbing
    in
    record {
      label = all.0;
      took = hands-same g.T.Transcript.took _ _ _ _
          (sym (append-nil c.loop-ancestor.invariant.first)
          ∙ ap (λ ts. c.loop-ancestor.invariant.first ++ ts)
          (sym (ancestors-end g.T.Transcript.dig (is_left c.args.ask.now) c.args.ancestors.now
          c.loop-ancestor.ancestor-index c.loop-ancestor.label (omega arith)))
          ∙ c.loop-ancestor.invariant.rest)
          c.loop-ancestor.invariant.took;
      sizes = all.1;
    }
