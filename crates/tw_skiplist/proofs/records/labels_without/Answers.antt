use Rattle.std.proofs.Common.{◌++◌, ◌∷◌, [], ◌∙◌}
use Rattle.std.specs.Prelude.{◌==◌, if◌then◌else◌}
use Rattle.tw_base.specs.kinds.Texts.{link_text}
use Rattle.tw_steppage.specs.StepPages.{link_at_level}
use Rattle.tw_skiplist.proofs.Recording.{page_labels-none, page_labels-more}
use Rattle.tw_skiplist.proofs.records.labels_without.Goals as goal

pub loop-level-init : goal.loop-level-init
loop-level-init g c = c.in_ok-labels.ensures ∙ page_labels-none g.H.Hasher.dig c.args.step c.args.datum.now
    c.args.links.now c.args.without

pub loop-level-preserved : goal.loop-level-preserved
loop-level-preserved g c =
    let dig = g.H.Hasher.dig in
    let level = c.loop-level.level in
    c.in_ok-push_other.ensures
    ∙ (λ j. if level == c.args.without then c.loop-level.invariant j else c.loop-level.invariant j ++ dig
    (link_text c.args.step level c.args.datum.now (link_at_level c.args.links.now level).auth) ∷ [])
    ∙ page_labels-more dig c.args.step c.args.datum.now c.args.links.now level c.args.without
