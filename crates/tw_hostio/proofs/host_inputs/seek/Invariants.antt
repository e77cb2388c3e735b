use Rattle.std.proofs.Common.{◌≡◌}
use Rattle.tw_hostio.specs.InputFile.{IsFileOpen, StandsStill}
use Rattle.tw_hostio.proofs.host_inputs.seek.Given as goal

abbrev pub invariant-loop : goal.invariant-loop
invariant-loop g l = record {
  is_open : IsFileOpen (g.F.InputFile.stands l.file);
  kept : g.F.InputFile.told l.file ≡ g.F.InputFile.told l.fn.file;
  still : StandsStill (g.F.InputFile.stands l.fn.file) (g.F.InputFile.stands l.file);
}
