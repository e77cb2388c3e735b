use Rattle.std.proofs.Common.{ℕ, List, ◌∙◌, refl, sym, ap}
use Rattle.tw_pieces.proofs.SegmentLaws.{attempts-ended, attempts-missed}
use Rattle.tw_skipproof.specs.declared.path.Link.{Link}
use Rattle.tw_verifier.specs.declared.stage.Stage.TheVariants.{Head}
use Rattle.tw_verifier.specs.declared.stage.Under.{Under}
use Rattle.tw_verifier.specs.declared.stage.Way.TheVariants.{Part}
use Rattle.tw_verifier.specs.Stages.{behind_part, behind_path, least_of, part_head, part_stage, path_of, rest}
use Rattle.tw_verifier.proofs.StageLaws.{goal-part-goes, part-lawful, part-nothing}
use Rattle.tw_verifier.proofs.attempts.attempt_head.Goals as goal

pub returns-in_ok-next-in-Ok : goal.returns-in_ok-next-in-Ok
returns-in_ok-next-in-Ok g c =
    let u = c.in-Ok.under in
    let to = c.args.goal in
    attempts-ended (rest g.H.Hasher.dig c.args.anchors.now) part_head part-lawful
    (λ (t : List ℕ × (ℕ × ℕ)). part_stage (least_of to) (behind_part g.H.Hasher.dig c.args.anchors.now to) t.0 t.1.0
    t.1.1) part-nothing (Head to) c.in_ok-next-in-Ok.next c.args.held.now
    c.take_part_head.new.at (u.service, (u.step, u.top)) refl
    (sym (c.in_ok-next-in-Ok.ensures ∙ ap (λ (ls : List Link). path_of ls u.top u.step
    (behind_path g.H.Hasher.dig c.args.anchors.now (Part to u))) c.new-links.ensures)) c.in-Ok.ensures.0

pub returns-in-Err : goal.returns-in-Err
returns-in-Err g c =
    let to = c.args.goal in
    attempts-missed (rest g.H.Hasher.dig c.args.anchors.now) part_head part-lawful
    (λ (t : List ℕ × (ℕ × ℕ)). part_stage (least_of to) (behind_part g.H.Hasher.dig c.args.anchors.now to) t.0 t.1.0
    t.1.1)
    (λ t fits. goal-part-goes g.H.Hasher.dig c.args.anchors.now to t.0 t.1.0 t.1.1)
    (λ (u : Under). (u.service, (u.step, u.top))) (Head to) c.args.held.now c.take_part_head.new.at c.in-Err.fault
    c.missed.result refl c.in-Err.ensures c.missed.ensures
