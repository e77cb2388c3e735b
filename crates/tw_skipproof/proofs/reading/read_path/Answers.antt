use Rattle.tw_base.proofs.lemmas.format.TakeLaws.{takes-whole}
use Rattle.tw_skipproof.specs.declared.path.Path.{Path}
use Rattle.tw_skipproof.specs.Codecs.{path_codec}
use Rattle.tw_skipproof.proofs.LawfulCodecs.{path-lawful}
use Rattle.tw_skipproof.proofs.reading.read_path.Goals as goal

pub returns : goal.returns
returns c = takes-whole (path_codec c.args.from c.args.to) (path-lawful c.args.from c.args.to) (λ (p : Path). p.links)
    c.args.bytes.now _ _ _ c.take_path-read.ensures c.whole_to.ensures
