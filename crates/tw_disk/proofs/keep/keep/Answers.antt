use Rattle.std.proofs.Common.{sym}
use Rattle.tw_disk.proofs.KeepingLaws.{adds-put, room-put}
use Rattle.tw_disk.proofs.keep.keep.Goals as goal

pub returns-in-Ok-clause-adds : goal.returns-in-Ok-clause-adds
returns-in-Ok-clause-adds c = rw (sym c.in-Ok.ensures.ok) (adds-put c.args.kept.now c.put-replaced.new.self c.args.number
    c.in-Ok.copy c.put-replaced.result c.put-replaced.ensures.entries c.put-replaced.ensures.err)

pub returns-in-Ok-clause-room : goal.returns-in-Ok-clause-room
returns-in-Ok-clause-room c = room-put c.args.kept.now c.put-replaced.new.self c.args.number c.in-Ok.copy
    c.put-replaced.result c.put-replaced.ensures.entries c.put-replaced.ensures.err
