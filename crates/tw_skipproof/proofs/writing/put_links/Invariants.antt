use Rattle.tw_base.proofs.lemmas.format.PutLaws.{ManyPut}
use Rattle.tw_skipproof.specs.Codecs.{link_bytes}
use Rattle.tw_skipproof.specs.Spelling.{FitsAsLink}
use Rattle.tw_skipproof.proofs.writing.put_links.Given as goal

abbrev pub invariant-loop-link : goal.invariant-loop-link
invariant-loop-link l = ManyPut link_bytes FitsAsLink l.initial.into l.into l.links l.link-index
