use Rattle.std.proofs.Common.{◌≡◌, ◌≤◌, ◌-◌, ◌++◌, ap, sym, subst, arith}
use Rattle.std.specs.List.{flat_map}
use Rattle.tw_base.specs.declared.kinds.limits.TheConstants.{LAST_STEP}
use Rattle.tw_base.specs.events.AuditPath.{audit_texts}
use Rattle.tw_base.specs.kinds.Lists.{Each}
use Rattle.tw_skipproof.specs.Acceptance.{part_texts}
use Rattle.tw_skipproof.specs.Paths.{HasShape}
use Rattle.tw_chain.specs.Checks.{end_of_order}
use Rattle.tw_base.proofs.lemmas.kinds.HandedTexts.{hands-same, hands-then}
use Rattle.tw_audit.specs.PieceTexts.{hop_texts, opened_texts}
use Rattle.tw_audit.specs.Shapes.{IsHopShaped}
use Rattle.tw_audit.proofs.CheckTexts.{texts-precedes}
use Rattle.tw_audit.proofs.ShapeLaws.{chain-shapes}
use Rattle.tw_audit.proofs.proofs.hash_precedence.Goals as goal

pub hash_hops-requires : goal.hash_hops-requires
hash_hops-requires g c = subst (Each IsHopShaped) (sym c.as_slice.ensures)
    (chain-shapes c.args.proof.now c.requires).hops

pub hash_part-requires-clause-labels : goal.hash_part-requires-clause-labels
hash_part-requires-clause-labels g c = (chain-shapes c.args.proof.now c.requires).tail.labels

pub hash_part-requires-clause-shape : goal.hash_part-requires-clause-shape
hash_part-requires-clause-shape g c =
    let p = c.args.proof.now in
    subst (λ n. HasShape p.tail.path.links n p.tail.step) (sym c.end_step.ensures)
    (chain-shapes p c.requires).tail.links.shape

pub hash_part-requires-clause-top : goal.hash_part-requires-clause-top
hash_part-requires-clause-top g c = subst (λ n. n ≤ LAST_STEP) (sym c.end_step.ensures)
    (chain-shapes c.args.proof.now c.requires).tail.links.from_within

pub root_over_told-requires-clause-inside : goal.root_over_told-requires-clause-inside
root_over_told-requires-clause-inside g c = (chain-shapes c.args.proof.now c.requires).first.inside

pub root_over_told-requires-clause-few : goal.root_over_told-requires-clause-few
root_over_told-requires-clause-few g c = (chain-shapes c.args.proof.now c.requires).first.few

pub root_over_told-requires-clause-small : goal.root_over_told-requires-clause-small
root_over_told-requires-clause-small g c = (chain-shapes c.args.proof.now c.requires).first.small

pub root_over_told-requires-clause-path : goal.root_over_told-requires-clause-path
root_over_told-requires-clause-path g c = (chain-shapes c.args.proof.now c.requires).first.path

pub returns : goal.returns
returns g c =
    let dig = g.T.Transcript.dig in
    let p = c.args.proof.now in
    let end = c.end_step.ensures in
    let before : c.saturating_sub.result ≡ p.head.step - 1 = omega (arith, c.saturating_sub.ensures) in
    hands-same g.T.Transcript.took _ _ _ _ (texts-precedes dig p)
    (hands-then g.T.Transcript.took _ _ _ _ _
    (hands-then g.T.Transcript.took _ _ _ _ _
    (hands-then g.T.Transcript.took _ _ _ _ _ c.hash_seen.ensures
    (hands-same g.T.Transcript.took _ _ _ _ (ap (λ n. opened_texts dig n p.before) before) c.hash_opened.ensures))
    (hands-same g.T.Transcript.took _ _ _ _ (ap (flat_map (hop_texts dig)) c.as_slice.ensures) c.hash_hops.ensures))
    (hands-same g.T.Transcript.took _ _ _ _
    (ap (λ n. part_texts dig
    (record {
      service = (end_of_order p).from;
      step = p.tail.step;
      top = n;
      path = p.tail.path;
      opening = p.tail.opening;
    })
    ++ audit_texts dig p.tail.opening.count p.tail.event.index p.tail.event.event p.tail.event.path) end)
    (hands-then g.T.Transcript.took _ _ _ _ _ (c.hash_part.ensures (end_of_order p).from)
    c.root_over_told.ensures.took)))
