use Rattle.std.proofs.Common.{◌≡◌, ℕ, List, ◌++◌, drop}
use Rattle.tw_base.specs.kinds.Handing.{Hands}
use Rattle.tw_base.specs.history.Ways.{climb_texts, is_left}
use Rattle.tw_treeproof.proofs.Climbs.{Climbing}
use Rattle.tw_treeproof.proofs.checking.climb_tree.Given as goal

abbrev pub invariant-loop-ancestor : goal.invariant-loop-ancestor
invariant-loop-ancestor g l = record {
  climbing : Climbing g.T.Transcript.dig l.ask l.ancestors l.fn.place l.ancestor-index l.label;
  first : List (List ℕ);
  took : Hands g.T.Transcript.took l.initial.texts l.texts first;
  rest : first ++ climb_texts g.T.Transcript.dig (is_left l.ask) (drop l.ancestor-index l.ancestors) l.label
      ≡ climb_texts g.T.Transcript.dig (is_left l.ask) l.ancestors l.fn.place;
}
