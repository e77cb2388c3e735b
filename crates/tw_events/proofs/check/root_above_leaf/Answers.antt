use Rattle.std.proofs.Common.{◌+◌, [], ◌∷◌, ◌++◌, arith, ap, sym, ◌∙◌, append_assoc, drop, reverse}
use Rattle.std.proofs.lemmas.List.{append-nil}
use Rattle.tw_base.specs.events.AuditPath.{node_text_beside, node_texts_above, root_above}
use Rattle.tw_base.proofs.lemmas.kinds.HandedTexts.{hands-same, hands-then}
use Rattle.tw_events.proofs.NodeTexts.{nodes-end, nodes-step}
use Rattle.tw_events.proofs.Steps.{root_above-end, root_above-step}
use Rattle.tw_events.proofs.check.root_above_leaf.Goals as goal

pub loop-label-preserved : goal.loop-label-preserved
loop-label-preserved g c =
    let dig = g.T.Transcript.dig in
    let first = c.loop-label.invariant.first in
    let text = node_text_beside c.in-Some.side c.label-item.result c.loop-label.reached in
    let root = root_above-step dig c.loop-label.sides.items c.pop.new.self.items c.in-Some.side c.args.path.now
    c.loop-label.label-index c.label-item.result c.loop-label.reached
    c.in-Some.ensures.items c.loop-label-test.true c.label-item.is in
    let step = nodes-step dig c.loop-label.sides.items c.pop.new.self.items c.in-Some.side c.args.path.now
    c.loop-label.label-index c.label-item.result c.loop-label.reached
    c.in-Some.ensures.items c.loop-label-test.true c.label-item.is in
    record {
      left = omega (arith, c.in-Some.ensures.len);
      same = ap (root_above dig (reverse c.pop.new.self.items) (drop (c.loop-label.label-index + 1) c.args.path.now))
          c.node_above-above.ensures.label
          ∙ sym root ∙ c.loop-label.invariant.same;
      first = first ++ text ∷ [];
      took = hands-then g.T.Transcript.took _ _ _ _ _ c.loop-label.invariant.took c.node_above-above.ensures.took;
      rest =
          append_assoc first (text ∷ []) (node_texts_above dig (reverse c.pop.new.self.items)
          (drop (c.loop-label.label-index + 1) c.args.path.now) c.node_above-above.result)
          ∙ ap (λ r. first ++ text ∷ node_texts_above dig (reverse c.pop.new.self.items)
          (drop (c.loop-label.label-index + 1) c.args.path.now) r) c.node_above-above.ensures.label
          ∙ ap (λ ts. first ++ ts) (sym step)
          ∙ c.loop-label.invariant.rest;
    }

pub returns-clause-root : goal.returns-clause-root
returns-clause-root g c =
    sym (root_above-end g.T.Transcript.dig (reverse c.loop-label.sides.items) c.args.path.now c.loop-label.label-index
    c.loop-label.reached (omega arith))
    ∙ c.loop-label.invariant.same

pub returns-clause-took : goal.returns-clause-took
returns-clause-took g c =
    hands-same g.T.Transcript.took _ _ _ _
    (sym (append-nil c.loop-label.invariant.first)
    ∙ ap (λ ts. c.loop-label.invariant.first ++ ts)
    (sym (nodes-end g.T.Transcript.dig (reverse c.loop-label.sides.items) c.args.path.now c.loop-label.label-index
    c.loop-label.reached (omega arith)))
    ∙ c.loop-label.invariant.rest)
    c.loop-label.invariant.took
