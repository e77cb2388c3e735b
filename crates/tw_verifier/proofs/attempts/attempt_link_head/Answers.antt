use Rattle.std.proofs.Common.{ℕ, List, [], ◌∙◌, refl, sym, ap}
use Rattle.tw_base.specs.format.Formats.{Format}
use Rattle.tw_pieces.proofs.SegmentLaws.{attempts-ended, attempts-missed}
use Rattle.tw_skipproof.specs.declared.path.Link.{Link}
use Rattle.tw_verifier.specs.declared.judgement.Judgement.{Judgement}
use Rattle.tw_chain.specs.declared.proof.Proof.TheVariants.{Linked}
use Rattle.tw_verifier.specs.declared.stage.Linking.{Linking}
use Rattle.tw_verifier.specs.declared.stage.Stage.TheVariants.{LinkHead}
use Rattle.tw_verifier.specs.declared.stage.Way.TheVariants.{Link as OfLink}
use Rattle.tw_verifier.specs.Stages.{behind_path, judged_stage, link_head, path_of, rest}
use Rattle.tw_verifier.proofs.StageLaws.{head-lawful, head-nothing, path-goes}
use Rattle.tw_verifier.proofs.attempts.attempt_link_head.Goals as goal

pub returns-in_ok-next-in-Ok : goal.returns-in_ok-next-in-Ok
returns-in_ok-next-in-Ok g c =
    let l = c.in-Ok.linking in
    attempts-ended (rest g.H.Hasher.dig c.args.anchors.now) link_head head-lawful
    (λ (t : List ℕ × (ℕ × (ℕ × List ℕ))). path_of [] t.1.1.0 t.1.0 (λ links.
    judged_stage g.H.Hasher.dig c.args.anchors.now
    (Linked (record { service = t.0; step = t.1.0; top = t.1.1.0; auth = t.1.1.1; path = record { links = links } }))))
    head-nothing LinkHead c.in_ok-next-in-Ok.next c.args.held.now c.take_link_head.new.at
    (l.service, (l.step, (l.top, l.auth))) refl
    (sym (c.in_ok-next-in-Ok.ensures ∙ ap (λ (ls : List Link). path_of ls l.top l.step
    (behind_path g.H.Hasher.dig c.args.anchors.now (OfLink l))) c.new-links.ensures)) c.in-Ok.ensures.0

pub returns-in-Err : goal.returns-in-Err
returns-in-Err g c =
    attempts-missed (rest g.H.Hasher.dig c.args.anchors.now) link_head head-lawful
    (λ (t : List ℕ × (ℕ × (ℕ × List ℕ))). path_of [] t.1.1.0 t.1.0 (λ links.
    judged_stage g.H.Hasher.dig c.args.anchors.now
    (Linked (record { service = t.0; step = t.1.0; top = t.1.1.0; auth = t.1.1.1; path = record { links = links } }))))
    (λ t fits. path-goes [] t.1.1.0 t.1.0 _ (λ links. tt)) (λ (l : Linking). (l.service, (l.step, (l.top, l.auth))))
    LinkHead c.args.held.now c.take_link_head.new.at c.in-Err.fault
    c.missed.result refl c.in-Err.ensures c.missed.ensures
