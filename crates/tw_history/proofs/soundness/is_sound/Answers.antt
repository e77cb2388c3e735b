use Rattle.tw_base.specs.history.Sound.{IsSound}
use Rattle.tw_history.proofs.RulesJudged.{ok-told, sound_history}
use Rattle.tw_history.proofs.soundness.is_sound.Goals as goal

pub returns : goal.returns
returns c = record {
  sound = ok-told c.judge_steps.result _ (IsSound c.args.history.now) _
      (sound_history c.args.history.now c.history.inside.name c.history.inside.steps c.history.inside.nodes
      c.history.view_is c.history.invariant c.see_name.ensures)
      c.judge_steps.ensures;
}
