use Rattle.std.proofs.Common.{◌≡◌, ◌≤◌, take}
use Rattle.std.specs.Option.{option_map}
use Rattle.tw_base.specs.declared.kinds.limits.TheConstants.{PAGE_SIZE}
use Rattle.tw_hostio.specs.FileBytes.{put_bytes}
use Rattle.tw_hostio.specs.PageFile.{MayWrite, FollowsByWrite, FileTimeGoesOn}
use Rattle.tw_hostio.proofs.transfers.write_page.Given as goal

abbrev pub invariant-loop : goal.invariant-loop
invariant-loop g l = record {
  named : MayWrite (g.F.PageFile.view l.file).stage;
  within : l.done ≤ PAGE_SIZE;
  written : (g.F.PageFile.view l.file).bytes ≡ option_map (put_bytes l.at (take l.done l.from)) (g.F.PageFile.view l.fn.file).bytes;
  crash : FollowsByWrite l.at PAGE_SIZE (g.F.PageFile.view l.fn.file).may_leave (g.F.PageFile.view l.file).may_leave;
  time : FileTimeGoesOn (g.F.PageFile.view l.fn.file) (g.F.PageFile.view l.file);
}
