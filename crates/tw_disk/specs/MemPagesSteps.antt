-- The number of pages in memory. These lemmas stand in specs/ since the laws of an impl cite them.
use Rattle.std.specs.Prelude.{◌≡◌, ◌≤◌, length, drop, ◌+◌, Some}
use Rattle.std.proofs.Common.{arith, ap, length-drop}
use Rattle.tw_disk.specs.Image.{Image}

pub told_used : (all pages : Image) → 4 ≤ length all → Some (drop 4 all) ≡ Some pages → length all ≡ 4 + length pages
told_used all pages le is = let same : drop 4 all ≡ pages = cc in omega (arith, le, ap length same, length-drop 4 all)
