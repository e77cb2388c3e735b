use Rattle.std.proofs.Common.{List, subst}
use Rattle.tw_base.specs.format.Codecs.{name_codec}
use Rattle.tw_base.specs.kinds.Lists.{Each}
use Rattle.tw_skipproof.specs.declared.path.Link.{Link}
use Rattle.tw_skipproof.specs.Spelling.{FitsAsLink}
use Rattle.tw_skipproof.proofs.LawfulCodecs.{part-fits}
use Rattle.tw_skipproof.proofs.writing.put_part.Goals as goal

pub returns-clause-fits : goal.returns-clause-fits
unfolding name_codec
returns-clause-fits c =
    let Q : List Link → Type 0 = Each FitsAsLink in
    part-fits c.args.part.now c.in_ok-put_name.ensures.puts.1
    (subst Q c.as_slice.ensures c.in_ok-put_links.ensures.fits) c.in_ok-put_opening.ensures.fits
