use Rattle.std.proofs.Common.{◌<◌, length, arith, sym, ◌∙◌}
use Rattle.tw_base.specs.kinds.Levels.{top_level}
use Rattle.tw_base.proofs.lemmas.kinds.Levels.{top_level-below}
use Rattle.tw_base.proofs.lemmas.kinds.HandedTexts.{hands-none, hands-same, hands-then}
use Rattle.tw_skipproof.proofs.Hops.{empty_path, longer_path}
use Rattle.tw_skipproof.proofs.PathTexts.{longer_path_texts, no_path_texts}
use Rattle.tw_skipproof.proofs.climbing.+climb_links.Goals as goal

pub link_authenticator-requires-clause-count : goal.link_authenticator-requires-clause-count
link_authenticator-requires-clause-count g t c =
    let small : top_level c.args.from < 40 = top_level-below c.args.from (omega (arith, c.requires)) in
    let count : length c.in-Some.link.now.others < 40 = omega arith in
    count

pub returns-then-from-to-clause-answer : goal.returns-then-from-to-clause-answer
returns-then-from-to-clause-answer g t c =
    empty_path g.T.Transcript.dig c.args.links.now c.args.from c.args.to c.args.bottom.now c.in-None.ensures.cases
    c.if-from-to.true

pub returns-in-Some-climb_links-clause-answer : goal.returns-in-Some-climb_links-clause-answer
returns-in-Some-climb_links-clause-answer g t c =
    longer_path g.T.Transcript.dig c.args.links.now c.in-Some.rest.now c.in-Some.link.now c.args.from c.args.to
    c.level_of_hop-level.result c.power_of_two.result
    c.args.bottom.now c.in-Some-climb_links.below c.link_authenticator.result
    c.in-Some.ensures.cases.0 c.if-from-to-2.false (sym c.len.ensures ∙ c.if-len-top_level.false
    ∙ c.top_level.ensures.value) c.level_of_hop-level.ensures.level c.power_of_two.ensures
    c.in-Some-climb_links.ensures.answer.0 c.in-Some-climb_links.ensures.answer.1 c.link_authenticator.ensures.value

pub returns-then-from-to-clause-took : goal.returns-then-from-to-clause-took
returns-then-from-to-clause-took g t c =
    hands-same g.T.Transcript.took _ _ _ _ (no_path_texts g.T.Transcript.dig c.args.links.now c.args.from c.args.to
    c.args.bottom.now c.in-None.ensures.cases)
    (hands-none g.T.Transcript.took c.args.texts.now)

pub returns-in-Some-climb_links-clause-took : goal.returns-in-Some-climb_links-clause-took
returns-in-Some-climb_links-clause-took g t c =
    hands-same g.T.Transcript.took _ _ _ _
    (longer_path_texts g.T.Transcript.dig c.args.links.now c.in-Some.rest.now c.in-Some.link.now c.args.from c.args.to
    c.level_of_hop-level.result c.power_of_two.result
    c.args.bottom.now c.in-Some-climb_links.below c.in-Some.ensures.cases.0 c.level_of_hop-level.ensures.level
    c.power_of_two.ensures c.in-Some-climb_links.ensures.answer.1)
    (hands-then g.T.Transcript.took _ _ _ _ _ c.in-Some-climb_links.ensures.took c.link_authenticator.ensures.took)
