use Rattle.tw_generate.specs.Schedules.{no_steps}
use Rattle.tw_generate.proofs.generating.played.Goals as goal

pub returns : goal.returns
returns c =
    let played = c.in_ok-play.ensures no_steps c.in_ok-services.ensures in
    (played.0, ((played.2.alpha, played.2.beta, played.2.gamma), (c.requires, played.1)))

pub play-requires : goal.play-requires
play-requires c = (
  no_steps,
  c.in_ok-services.ensures,
  c.generate_laws.ensures.goes c.args.number c.args.rounds c.requires,
)
