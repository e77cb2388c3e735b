use Rattle.std.proofs.Common.{◌≡◌, ◌≤◌, length}
use Rattle.std.specs.Prelude.{IfSome}
use Rattle.tw_base.specs.declared.kinds.limits.TheConstants.{PAGE_SIZE}
use Rattle.tw_hostio.specs.PageFile.{MayRead, IsSameFile}
use Rattle.tw_hostio.proofs.ReadLaws.{IsRead}
use Rattle.tw_hostio.proofs.transfers.read_page.Given as goal

abbrev pub invariant-loop : goal.invariant-loop
invariant-loop g l = record {
  locked : MayRead (g.F.PageFile.view l.file).stage;
  size : length l.into ≡ PAGE_SIZE;
  within : l.done ≤ PAGE_SIZE;
  same : IsSameFile (g.F.PageFile.view l.fn.file) (g.F.PageFile.view l.file);
  read : IfSome (g.F.PageFile.view l.fn.file).bytes (λ bytes. IsRead bytes l.at l.done l.into);
}
