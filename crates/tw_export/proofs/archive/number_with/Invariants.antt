use Rattle.std.proofs.Common.{◌≡◌, ◌+◌, drop}
use Rattle.tw_export.specs.NodeNumbers.{with_pages}
use Rattle.tw_export.specs.Told.{numbers_in}
use Rattle.tw_export.proofs.archive.number_with.Given as goal

abbrev pub invariant-loop-node : goal.invariant-loop-node
invariant-loop-node l = record {
  here : l.number ≡ l.before + l.node-index;
  rest : with_pages (numbers_in l.numbers) l.before l.nodes l.page ≡ with_pages (numbers_in l.numbers) l.number
      (drop l.node-index l.nodes) l.page;
}
