use Rattle.std.proofs.Common.{arith, sym, ◌∙◌}
use Rattle.std.proofs.lemmas.List.{length-map}
use Rattle.tw_base.specs.format.Codecs.{many, number_codec}
use Rattle.tw_history.specs.Tables.{node_of, step_of}
use Rattle.tw_history.proofs.FileFits.{step-fits}
use Rattle.tw_history.proofs.WritingLaws.{step_put}
use Rattle.tw_history.proofs.writing.put_step.Goals as goal

pub returns : goal.returns
unfolding number_codec many
returns c = (
  step_put (step_of c.args.step.now c.args.fresh.now) c.args.into.now _ _ _ _ c.args.step.now.fresh
      (sym (length-map c.args.fresh.now node_of ∙ c.requires.counted))
      c.in_ok-put_recorded.ensures.0 c.in_ok-put_number.ensures.puts.0 c.in_ok-put_nodes.ensures.0
      c.in_ok-put_number-2.ensures.puts.0,
  step-fits (step_of c.args.step.now c.args.fresh.now)
      (omega (arith, length-map c.args.fresh.now node_of, c.requires.counted)) (omega arith)
      c.in_ok-put_recorded.ensures.1 c.in_ok-put_nodes.ensures.1.1,
)
