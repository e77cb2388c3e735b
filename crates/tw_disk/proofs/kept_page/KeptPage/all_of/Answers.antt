use Rattle.std.proofs.Common.{◌-◌, ◌++◌, ℕ, List, length, replicate, ap}
use Rattle.tw_disk.proofs.kept_page.KeptPage.all_of.Goals as goal

pub returns : goal.returns
returns c = ap (λ (front : List ℕ). front ++ replicate (4096 - length front) c.args.byte) c.new.ensures.items
