use Rattle.std.proofs.Common.{◌≡◌, sym, subst, ◌∙◌}
use Rattle.tw_evidence.specs.Binding.{IsForked}
use Rattle.tw_evidence.proofs.checking.conflict_verdict.Goals as goal

pub returns-clause-forked : goal.returns-clause-forked
returns-clause-forked g c = λ f is.
    let same : c.fork_of.result ≡ f = cc in
    subst (IsForked g.H.Hasher.dig c.args.evidence.now) (sym c.fork_of.ensures ∙ same)
    (c.link_climbs.ensures.forked c.if-not-link_climbs.false (sym c.conflicts.ensures ∙ c.if-not-conflicts.false))
