use Rattle.std.proofs.Common.{◌≤◌}
use Rattle.tw_disk.specs.Answers.{ReadSoFar}
use Rattle.tw_skipproof.specs.Paths.{greedy_steps}
use Rattle.tw_skiplist.specs.Walks.{collect_along, collected}
use Rattle.tw_skiplist.proofs.Shapes.{ShapesTo}
use Rattle.tw_skiplist.proofs.collecting.collect.Given as goal

abbrev pub invariant-loop-at : goal.invariant-loop-at
invariant-loop-at g l = record {
  reads : ReadSoFar g.P.Pages.view g.P.Pages.same l.initial.pages l.pages (λ ps. collected g.H.Hasher.dig ps l.first
      l.from l.to)
      (λ ps. collect_along g.H.Hasher.dig ps l.to (greedy_steps l.at l.to) l.links l.last);
  shapes : ShapesTo l.links l.from l.at l.to;
  low : l.to ≤ l.at;
  high : l.at ≤ l.from;
}

abbrev pub decreases-loop-at : goal.decreases-loop-at
decreases-loop-at g l = l.at
