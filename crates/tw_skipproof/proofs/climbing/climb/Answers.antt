use Rattle.tw_skipproof.proofs.PathBinding.{climb_from}
use Rattle.tw_skipproof.proofs.climbing.climb.Goals as goal

pub returns-clause-binds : goal.returns-clause-binds
returns-clause-binds g c =
    rw (← c.as_slice.ensures)
    (climb_from g.H.Hasher.dig g.met.H.Hasher.size g.met.H.Hasher.bytes c.as_slice.result.now c.args.from c.args.to
    c.args.bottom.now c.see_digest.ensures.1 c.climb_links.result c.climb_links.ensures.answer
    c.climb_links.ensures.sizes)
