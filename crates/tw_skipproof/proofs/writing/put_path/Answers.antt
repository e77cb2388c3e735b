use Rattle.std.proofs.Common.{List, subst}
use Rattle.tw_base.specs.format.Codecs.{each}
use Rattle.tw_base.specs.kinds.Lists.{Each}
use Rattle.tw_skipproof.specs.Codecs.{path_codec}
use Rattle.tw_skipproof.specs.declared.path.Link.{Link}
use Rattle.tw_skipproof.specs.Spelling.{FitsAsLink}
use Rattle.tw_skipproof.proofs.LawfulCodecs.{path-fits}
use Rattle.tw_skipproof.proofs.writing.put_path.Goals as goal

pub returns-clause-fits : goal.returns-clause-fits
unfolding path_codec each
returns-clause-fits c = λ from to shape.
    let Q : List Link → Type 0 = Each FitsAsLink in
    path-fits c.args.path.now.links from to (subst Q c.as_slice.ensures c.in_ok-put_links.ensures.fits) shape
