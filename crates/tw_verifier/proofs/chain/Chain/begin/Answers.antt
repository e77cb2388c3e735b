use Rattle.std.proofs.Common.{◌≡◌, ◌-◌, List, [], ◌∷◌, ◌++◌, ◌∙◌, refl, subst}
use Rattle.std.specs.Prelude.{None}
use Rattle.tw_base.specs.declared.history.thread.Thread.{Thread}
use Rattle.tw_chain.specs.Finding.{found_in, reason_with}
use Rattle.tw_chain.specs.Checks.{Check, opening_checks, under_anchor}
use Rattle.tw_chain.specs.Checks.Check.{EventOf}
use Rattle.tw_chain.proofs.FoundSteps.{found-onto}
use Rattle.tw_verifier.proofs.chain.Chain.begin.Goals as goal

pub returns : goal.returns
returns g c = λ hop_list tail is.
    let known : Thread =
    record { from = c.args.head.service; step = c.args.head.step - 1; auth = c.args.head.opening.prev } in
    let at : List Check = under_anchor 0 c.args.head in
    let shown : List Check = EventOf 0 c.args.head.opening c.args.event ∷ [] in
    let opening : List Check = opening_checks 0 known c.args.before in
    let last : c.with_opening-found.result ≡ reason_with g.H.Hasher.dig c.args.anchors.now c.with_event-found.result
    opening =
    subst (λ (t : Thread). c.with_opening-found.result ≡ reason_with g.H.Hasher.dig c.args.anchors.now
    c.with_event-found.result (opening_checks 0 t c.args.before))
    c.start-known.ensures (c.with_opening-found.ensures c.args.anchors.now) in
    let found : c.with_opening-found.result ≡ found_in g.H.Hasher.dig c.args.anchors.now (at ++ (shown ++ opening)) =
    last
    ∙ found-onto g.H.Hasher.dig c.args.anchors.now c.under_anchor-found.result c.with_event-found.result shown opening
    (c.with_event-found.ensures c.args.anchors.now)
    ∙ found-onto g.H.Hasher.dig c.args.anchors.now None c.under_anchor-found.result at (shown ++ opening)
    c.under_anchor-found.ensures in
    rw (found, c.start-known.ensures, c.new.ensures, c.new-2.ensures, c.seen.ensures, is) refl
