use Rattle.std.proofs.Common.{◌≡◌, List, [], ◌∷◌, ◌∙◌, refl}
use Rattle.std.specs.Prelude.{None}
use Rattle.tw_chain.specs.declared.proof.Proof.TheVariants.{Exists}
use Rattle.tw_chain.specs.Checks.{Check, checks, under_anchor}
use Rattle.tw_chain.specs.Checks.Check.{EventOf}
use Rattle.tw_chain.specs.Finding.{found_in}
use Rattle.tw_chain.proofs.FoundSteps.{found-onto}
use Rattle.tw_verifier.proofs.judgement.Judgement.of_event.Goals as goal

pub returns : goal.returns
returns g c =
    let shown : List Check = EventOf 0 c.args.proof.at.opening c.args.proof.event ∷ [] in
    let found : c.with_event-found.result ≡ found_in g.H.Hasher.dig c.args.anchors.now (checks (Exists c.args.proof)) =
    c.with_event-found.ensures c.args.anchors.now
    ∙ found-onto g.H.Hasher.dig c.args.anchors.now None c.under_anchor-found.result (under_anchor 0 c.args.proof.at)
    shown c.under_anchor-found.ensures in
    rw (c.without_hops.ensures, found, c.seen.ensures) refl
