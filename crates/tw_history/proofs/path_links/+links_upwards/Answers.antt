use Rattle.std.proofs.Common.{◌≡◌, ◌-◌, ◌+◌, ◌<◌, ap, sym, ◌∙◌, arith}
use Rattle.tw_base.specs.events.EventTree.{event_root}
use Rattle.tw_base.specs.kinds.Levels.{top_level}
use Rattle.tw_base.proofs.lemmas.kinds.Levels.{top_level-below}
use Rattle.tw_skipproof.proofs.Hops.{hop_level-le}
use Rattle.tw_history.proofs.Passes.{IsOfStep-count}
use Rattle.tw_history.proofs.path_links.+links_upwards.Goals as goal

pub power_of_two-requires : goal.power_of_two-requires
power_of_two-requires g t c =
    let small : top_level c.args.from < 40 = top_level-below c.args.from (omega arith) in
    omega (arith, small, hop_level-le c.args.from c.args.to, c.next_hop-level.ensures.level)

pub pass_step-requires-clause-event_root : goal.pass_step-requires-clause-event_root
pass_step-requires-clause-event_root g t c = c.root_of_events-event_root.ensures.root ∙ ap (event_root g.H.Hasher.dig)
    (sym c.content_behind.ensures.events)

pub link_at-requires : goal.link_at-requires
link_at-requires g t c =
    let same : c.args.from - 1 + 1 ≡ c.args.from = omega arith in
    let count = IsOfStep-count g.H.Hasher.dig c.args.history.now c.args.from (c.args.from - 1 + 1) c.in_ok-passed.passed
    same c.in_ok-passed.ensures.step in
    omega (arith, count, hop_level-le c.args.from c.args.to, c.next_hop-level.ensures.level)
