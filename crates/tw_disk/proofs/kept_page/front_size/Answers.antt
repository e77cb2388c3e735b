use Rattle.std.proofs.Common.{arith}
use Rattle.std.proofs.lemmas.List.{drop_all}
use Rattle.tw_disk.proofs.kept_page.front_size.Goals as goal

pub zeros_from-size-requires : goal.zeros_from-size-requires
zeros_from-size-requires c =
    record {
      some = omega arith;
      few = omega arith;
      within = omega arith;
      zeros = drop_all 4096 c.args.page.now (omega arith);
    }
