use Rattle.std.proofs.Common.{◌∙◌}
use Rattle.tw_generate.proofs.generating.generate_within.Goals as goal

pub returns : goal.returns
returns c =
    let played = c.in_ok-services.ensures in
    let told = c.in_ok-text.ensures played.0 played.1.0 in
    let held = c.closed.ensures.disks played.0 told.0 in
    record {
      histories = played.0;
      leads = played.1.1.1;
      told = told.1.0;
      is_told = told.1.1;
      text_is = c.closed.ensures.text ∙ told.1.2;
      held_alpha = held.0;
      held_beta = held.1;
      held_gamma = held.2;
    }

pub summed-requires : goal.summed-requires
summed-requires c = let played = c.in_ok-services.ensures in (c.args.number, played.0, played.1)
