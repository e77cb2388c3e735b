use Rattle.std.proofs.Common.{◌≡◌, ℕ, ◌+◌, List, ◌++◌, length, drop, reverse}
use Rattle.tw_base.specs.events.AuditPath.{node_texts_above, root_above}
use Rattle.tw_base.specs.kinds.Handing.{Hands}
use Rattle.tw_events.proofs.check.root_above_leaf.Given as goal

abbrev pub invariant-loop-label : goal.invariant-loop-label
invariant-loop-label g l = record {
  left : length l.sides.items + l.label-index ≡ length l.fn.sides.items;
  same : root_above g.T.Transcript.dig (reverse l.sides.items) (drop l.label-index l.path) l.reached
      ≡ root_above g.T.Transcript.dig (reverse l.fn.sides.items) l.path l.fn.leaf;
  first : List (List ℕ);
  took : Hands g.T.Transcript.took l.initial.texts l.texts first;
  rest : first ++ node_texts_above g.T.Transcript.dig (reverse l.sides.items) (drop l.label-index l.path) l.reached
      ≡ node_texts_above g.T.Transcript.dig (reverse l.fn.sides.items) l.path l.fn.leaf;
}
