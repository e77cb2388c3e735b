use Rattle.std.proofs.Common.{inr, rules}
use Rattle.tw_hostio.proofs.DiskLaws.{joins_place, puts_page, tears_page, grown_told, count_torn, keeps_room, counted_after, disk_crash}
use Rattle.tw_hostio.proofs.file_disk.FileDiskDisk.write.Goals as goal

pub write_to-requires : goal.write_to-requires
write_to-requires g c = joins_place (g.F.PageFile.view c.args.self.now.file).bytes c.args.self.now.count c.args.page c.requires

pub invariant_of-self : goal.invariant_of-self
invariant_of-self g c =
    let old = (g.F.PageFile.view c.args.self.now.file).bytes in
    let joins = joins_place old c.args.self.now.count c.args.page c.requires in
    record {
      counted = rw c.count_after-self.ensures (counted_after old (g.F.PageFile.view c.write_to.new.file).bytes c.args.self.now.count c.args.self.now.in_doubt c.args.page c.args.from.now (search rules) joins c.in-Ok.ensures.written c.args.self.now.counted);
    }

pub returns-in-Ok-clause-written : goal.returns-in-Ok-clause-written
returns-in-Ok-clause-written g c =
    let old = (g.F.PageFile.view c.args.self.now.file).bytes in
    puts_page old (g.F.PageFile.view c.write_to.new.file).bytes c.args.page c.args.from.now (search rules) (joins_place old c.args.self.now.count c.args.page c.requires) c.in-Ok.ensures.written

pub returns-in-Ok-clause-torn : goal.returns-in-Ok-clause-torn
returns-in-Ok-clause-torn g c =
    tears_page (g.F.PageFile.view c.args.self.now.file).bytes (g.F.PageFile.view c.write_to.new.file).bytes c.args.page c.write_to.ensures.torn

pub returns-in-Ok-clause-grown : goal.returns-in-Ok-clause-grown
returns-in-Ok-clause-grown g c =
    let old = (g.F.PageFile.view c.args.self.now.file).bytes in
    rw c.count_after-self.ensures (grown_told old (g.F.PageFile.view c.write_to.new.file).bytes c.args.self.now.count c.args.page c.args.from.now (search rules) (joins_place old c.args.self.now.count c.args.page c.requires) c.in-Ok.ensures.written)

pub returns-in-Ok-clause-count : goal.returns-in-Ok-clause-count
returns-in-Ok-clause-count g c = inr (returns-in-Ok-clause-grown g c)

pub returns-in-Ok-clause-room : goal.returns-in-Ok-clause-room
returns-in-Ok-clause-room g c = keeps_room c.args.page _ _ (returns-in-Ok-clause-count g c)

pub returns-in-Ok-clause-crash : goal.returns-in-Ok-clause-crash
returns-in-Ok-clause-crash g c = disk_crash c.args.page _ _ c.write_to.ensures.crash

pub returns-in-Err-clause-torn : goal.returns-in-Err-clause-torn
returns-in-Err-clause-torn g c =
    tears_page (g.F.PageFile.view c.args.self.now.file).bytes (g.F.PageFile.view c.write_to.new.file).bytes c.args.page c.write_to.ensures.torn

pub returns-in-Err-clause-count : goal.returns-in-Err-clause-count
returns-in-Err-clause-count g c =
    count_torn (g.F.PageFile.view c.args.self.now.file).bytes (g.F.PageFile.view c.write_to.new.file).bytes c.args.self.now.count c.args.page c.requires c.write_to.ensures.torn

pub returns-in-Err-clause-room : goal.returns-in-Err-clause-room
returns-in-Err-clause-room g c = keeps_room c.args.page _ _ (returns-in-Err-clause-count g c)

pub returns-in-Err-clause-crash : goal.returns-in-Err-clause-crash
returns-in-Err-clause-crash g c = disk_crash c.args.page _ _ c.write_to.ensures.crash
