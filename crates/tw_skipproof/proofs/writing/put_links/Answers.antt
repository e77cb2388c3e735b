use Rattle.tw_base.proofs.lemmas.format.PutLaws.{put-all, put-more, put-none}
use Rattle.tw_base.specs.format.Codecs.{each}
use Rattle.tw_skipproof.specs.Codecs.{link_bytes, path_bytes, path_codec}
use Rattle.tw_skipproof.specs.Spelling.{FitsAsLink}
use Rattle.tw_skipproof.proofs.writing.put_links.Goals as goal

pub loop-link-init : goal.loop-link-init
loop-link-init c = put-none link_bytes FitsAsLink c.args.into.now c.args.links.now

pub loop-link-preserved : goal.loop-link-preserved
loop-link-preserved c =
    put-more link_bytes FitsAsLink c.args.into.now c.loop-link.into _ c.args.links.now c.loop-link.link-index
    c.link-item.result c.loop-link-test.true c.link-item.is
    c.loop-link.invariant c.in_ok-put_link.ensures.ok c.in_ok-put_link.ensures.fits

pub returns : goal.returns
unfolding path_bytes path_codec each
returns c =
    let all = put-all link_bytes FitsAsLink c.args.into.now c.loop-link.into c.args.links.now c.loop-link.link-index
    c.loop-link-test.false c.loop-link.invariant in
    record { ok = all.0; fits = all.1 }
