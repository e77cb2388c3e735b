use Rattle.std.proofs.Common.{◌+◌, ◌≤◌, arith, rules}
use Rattle.tw_rbnode.proofs.NodeCodecs.{child-lawful, slot-lawful}
use Rattle.tw_rbnode.proofs.reading.take_held.Goals as goal

pub take_many-requires : goal.take_many-requires
take_many-requires c = (search rules, (search rules, (c.requires.few, slot-lawful)))

pub take_many-requires-2 : goal.take_many-requires-2
take_many-requires-2 c =
    let few : c.args.count + 1 ≤ 25 = omega arith in
    (search rules, (search rules, (few, child-lawful)))
