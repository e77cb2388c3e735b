use Rattle.tw_base.specs.format.Codecs.{each}
use Rattle.tw_base.proofs.lemmas.format.PutLaws.{put-whole}
use Rattle.tw_skipproof.specs.Codecs.{path_bytes, path_codec}
use Rattle.tw_skipproof.proofs.LawfulCodecs.{path-fits, path-lawful}
use Rattle.tw_skipproof.proofs.writing.write_path.Goals as goal

pub returns-clause-spelled : goal.returns-clause-spelled
unfolding path_bytes path_codec each
returns-clause-spelled c = λ from to shape. rw (← c.as_slice.ensures)
    (put-whole (path_codec from to) (path-lawful from to) c.as_slice.result.now _ _ c.new-bytes.ensures (
      c.in_ok-put_links.ensures.ok,
      path-fits c.as_slice.result.now from to c.in_ok-put_links.ensures.fits (rw c.as_slice.ensures shape),
    )).1
