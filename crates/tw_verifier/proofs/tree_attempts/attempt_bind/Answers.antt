use Rattle.std.proofs.Common.{ℕ, List, [], ◌∙◌, refl, sym, ap}
use Rattle.tw_base.specs.declared.kinds.limits.TheConstants.{LAST_STEP}
use Rattle.tw_base.specs.format.Codecs.{number_codec}
use Rattle.tw_pieces.proofs.SegmentLaws.{attempts-ended, attempts-missed}
use Rattle.tw_skipproof.specs.declared.path.Link.{Link}
use Rattle.tw_verifier.specs.declared.stage.Stage.TheVariants.{Bind}
use Rattle.tw_verifier.specs.Stages.{behind_link, path_of, rest}
use Rattle.tw_verifier.proofs.StageLaws.{bind-goes, bind-lawful, step-nothing}
use Rattle.tw_verifier.proofs.tree_attempts.attempt_bind.Goals as goal

pub returns-in_ok-next-in-Ok : goal.returns-in_ok-next-in-Ok
returns-in_ok-next-in-Ok g c =
    let h = c.args.hop in
    let chain = h.further.onward.chain.value in
    let step = h.entry.thread.step in
    attempts-ended (rest g.H.Hasher.dig c.args.anchors.now) (number_codec 8 0 LAST_STEP) bind-lawful
    (λ (bind : ℕ). path_of [] bind step (behind_link g.H.Hasher.dig c.args.anchors.now chain h.entry c.args.shown bind))
    (step-nothing 0 LAST_STEP) (Bind h c.args.shown) c.in_ok-next-in-Ok.next c.args.held.now
    c.take_number.new.at c.in-Ok.bind refl
    (sym (c.in_ok-next-in-Ok.ensures ∙ ap (λ (ls : List Link). path_of ls c.in-Ok.bind step
    (behind_link g.H.Hasher.dig c.args.anchors.now chain h.entry c.args.shown c.in-Ok.bind)) c.new.ensures))
    c.in-Ok.ensures.takes.0

pub returns-in-Err : goal.returns-in-Err
returns-in-Err g c =
    let h = c.args.hop in
    let chain = h.further.onward.chain.value in
    attempts-missed (rest g.H.Hasher.dig c.args.anchors.now) (number_codec 8 0 LAST_STEP) bind-lawful
    (λ (bind : ℕ). path_of [] bind h.entry.thread.step (behind_link g.H.Hasher.dig c.args.anchors.now chain h.entry
    c.args.shown bind))
    (λ bind fits. bind-goes g.H.Hasher.dig c.args.anchors.now chain h.entry c.args.shown bind) (λ n. n)
    (Bind h c.args.shown) c.args.held.now c.take_number.new.at c.in-Err.fault
    c.missed.result refl c.in-Err.ensures.takes c.missed.ensures
