use Rattle.tw_hostio.proofs.DiskLaws.{told_counted, counted_now}
use Rattle.tw_hostio.proofs.file_disk.FileDiskDisk.pages.Goals as goal

pub returns-in-Some-clause-told : goal.returns-in-Some-clause-told
returns-in-Some-clause-told g c =
    told_counted (g.F.PageFile.view c.args.self.now.file).bytes c.args.self.now.count c.args.self.now.in_doubt c.in-Some.count c.in-Some.is c.if-self.false c.args.self.now.counted

pub returns-in-Ok-clause-told : goal.returns-in-Ok-clause-told
returns-in-Ok-clause-told g c =
    counted_now (g.F.PageFile.view c.args.self.now.file).bytes (g.F.PageFile.view c.pages_of.new.file).bytes c.in-Ok.count c.pages_of.ensures.same.bytes c.in-Ok.ensures.count
