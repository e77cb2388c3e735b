use Rattle.tw_base.proofs.lemmas.format.PutLaws.{put-whole}
use Rattle.tw_tmap.specs.MapFiles.{low_codec}
use Rattle.tw_tmap.proofs.MapCodec.{low-lawful}
use Rattle.tw_tmap.proofs.writing.write_low.Goals as goal

pub returns-clause-spelled : goal.returns-clause-spelled
returns-clause-spelled c = λ fits. (put-whole low_codec low-lawful c.args.file.now _ _ c.new-bytes.ensures
    (c.in_ok-put_low.ensures, fits)).1
