use Rattle.std.proofs.Common.{◌≤◌}
use Rattle.tw_disk.specs.Answers.{ReadSoFar}
use Rattle.tw_skiplist.specs.Walks.{walk}
use Rattle.tw_skiplist.proofs.walking.descend.Given as goal

abbrev pub invariant-loop-at : goal.invariant-loop-at
invariant-loop-at g l = record {
  reads : ReadSoFar g.P.Pages.view g.P.Pages.same l.initial.pages l.pages (λ ps. walk ps l.first l.from l.to)
      (λ ps. walk ps l.link l.at l.to);
  low : l.to ≤ l.at;
  high : l.at ≤ l.from;
}

abbrev pub decreases-loop-at : goal.decreases-loop-at
decreases-loop-at g l = l.at
