use Rattle.sha2.specs.Sha256.{sha256}
use Rattle.tw_disk.specs.MemDisk.{mem_disk_view}
use Rattle.tw_generate.proofs.Results.{held}
use Rattle.tw_generate.proofs.generating.closed.Goals as goal

pub returns-clause-disks : goal.returns-clause-disks
returns-clause-disks c = λ t plays. (
  held sha256 mem_disk_view c.args.services.alpha _ t.alpha plays.0.0 (c.close.ensures.stands t.alpha plays.0.0),
  held sha256 mem_disk_view c.args.services.beta _ t.beta plays.1.0 (c.close-2.ensures.stands t.beta plays.1.0),
  held sha256 mem_disk_view c.args.services.gamma _ t.gamma plays.2.0 (c.close-3.ensures.stands t.gamma plays.2.0),
)
