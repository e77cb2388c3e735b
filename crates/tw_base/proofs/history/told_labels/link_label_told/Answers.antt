use Rattle.std.proofs.Common.{◌≡◌, rules}
use Rattle.tw_base.specs.kinds.Texts.{link_text}
use Rattle.tw_base.proofs.lemmas.kinds.HandedTexts.{hands-text}
use Rattle.tw_base.proofs.history.told_labels.link_label_told.Goals as goal

pub returns-clause-took : goal.returns-clause-took
unfolding link_text
returns-clause-took g c =
    let text : c.as_slice.result.now ≡ link_text c.args.step c.args.level c.args.datum.now c.args.below.now =
    search rules in
    hands-text _ _ _ _ _ text c.digest.ensures.took
