use Rattle.tw_base.proofs.lemmas.format.PutLaws.{put-whole}
use Rattle.tw_tmap.specs.MapFiles.{high_codec}
use Rattle.tw_tmap.proofs.MapCodec.{high-lawful}
use Rattle.tw_tmap.proofs.writing.write_high.Goals as goal

pub returns-clause-spelled : goal.returns-clause-spelled
returns-clause-spelled c = λ fits. (put-whole high_codec high-lawful c.args.file.now _ _ c.new-bytes.ensures
    (c.in_ok-put_high.ensures, fits)).1
