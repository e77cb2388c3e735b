use Rattle.tw_hostio.proofs.DiskLaws.{gives_page}
use Rattle.tw_hostio.proofs.file_disk.FileDiskDisk.read.Goals as goal

pub returns-in-Ok-clause-bytes : goal.returns-in-Ok-clause-bytes
returns-in-Ok-clause-bytes g c = gives_page (g.F.PageFile.view c.args.self.now.file).bytes c.args.page _ c.in-Ok.ensures.bytes
