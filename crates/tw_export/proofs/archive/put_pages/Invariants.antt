use Rattle.std.proofs.Common.{◌≡◌, ℕ, ◌+◌, ◌≤◌, drop, length}
use Rattle.tw_export.specs.NodeNumbers.{with_pages}
use Rattle.tw_export.specs.Told.{numbers_in}
use Rattle.tw_export.proofs.archive.put_pages.Given as goal

abbrev pub invariant-loop-left : goal.invariant-loop-left
invariant-loop-left l = record {
  within : l.left ≤ length l.nodes;
  put : (page : ℕ) → numbers_in l.numbers page ≡ with_pages (numbers_in l.initial.numbers) (l.before + l.left)
      (drop l.left l.nodes) page;
}

abbrev pub decreases-loop-left : goal.decreases-loop-left
decreases-loop-left l = l.left
