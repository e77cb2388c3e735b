use Rattle.std.proofs.Common.{◌++◌, ap, ◌∙◌, append_assoc}
use Rattle.std.specs.List.{flat_map}
use Rattle.std.specs.Option.{option_to_list}
use Rattle.std.proofs.lemmas.Result.{on_ok_weaker}
use Rattle.tw_base.specs.history.Anchors.{anchor_of}
use Rattle.tw_audit.specs.HopHeld.{held_of_hop}
use Rattle.tw_audit.proofs.CheckTexts.{held-precedes}
use Rattle.tw_audit.proofs.held.add_chain.Goals as goal

pub returns : goal.returns
returns c =
    let p = c.args.proof.now in
    let anchors = c.args.anchors.now in
    on_ok_weaker c.add_hops.result (λ added.
    added ∙ (λ k. c.in_ok-add_anchor.ensures k ++ flat_map (held_of_hop anchors) (c.as_slice.ensures k))
    ∙ append_assoc c.args.threads.now (option_to_list (anchor_of anchors p.head.service p.head.top))
    (flat_map (held_of_hop anchors) p.hops)
    ∙ ap (λ ts. c.args.threads.now ++ ts) (held-precedes anchors p)) c.add_hops.ensures
