use Rattle.std.proofs.Common.{length, ap, ◌∙◌}
use Rattle.tw_base.specs.kinds.Levels.{top_level}
use Rattle.tw_skipproof.specs.declared.path.Link.{Link}
use Rattle.tw_skiplist.specs.Records.{page_datum}
use Rattle.tw_skiplist.proofs.Recording.{length-other_labels}
use Rattle.tw_skiplist.proofs.collecting.hop_at.Goals as goal

pub returns-clause-others : goal.returns-clause-others
returns-clause-others g c =
    let dig = g.H.Hasher.dig in
    let page = c.in_ok-page.page in
    ap (λ (l : Link). length l.others) c.in_ok-link.ensures
    ∙ length-other_labels dig c.args.at (page_datum dig page.fields) page.links.items c.args.level (top_level c.args.at)
    c.in_ok-page.ensures.link_count c.requires.level
