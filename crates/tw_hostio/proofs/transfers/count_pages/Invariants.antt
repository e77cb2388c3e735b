use Rattle.tw_hostio.specs.PageFile.{MayRead, IsSameFile}
use Rattle.tw_hostio.proofs.transfers.count_pages.Given as goal

abbrev pub invariant-loop : goal.invariant-loop
invariant-loop g l = record {
  locked : MayRead (g.F.PageFile.view l.file).stage;
  same : IsSameFile (g.F.PageFile.view l.fn.file) (g.F.PageFile.view l.file);
}
