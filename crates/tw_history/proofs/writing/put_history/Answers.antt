use Rattle.std.proofs.Common.{List, ◌++◌, ◌∙◌, ap, flat_map, length, subst, sym, arith}
use Rattle.tw_base.specs.format.Codecs.{behind, by_kind, counted, many, name_codec, number_codec, pair, seen}
use Rattle.tw_base.specs.format.Fields.{number_bytes}
use Rattle.tw_base.specs.history.HistoryCodec.{history_codec, history_magic, step_codec}
use Rattle.tw_base.specs.kinds.Lists.{Each}
use Rattle.tw_history.specs.declared.step.Node.{Node}
use Rattle.tw_history.specs.declared.step.Step.{Step}
use Rattle.tw_history.specs.HistoryOf.{history_of_table}
use Rattle.tw_history.specs.Tables.{steps_of_table}
use Rattle.tw_history.specs.WritingSteps.{front_codec}
use Rattle.tw_history.proofs.FileFits.{history-fits}
use Rattle.tw_history.proofs.TableLaws.{length-steps_of_table}
use Rattle.tw_history.proofs.WritingLaws.{front_put}
use Rattle.tw_history.proofs.writing.put_history.Goals as goal

pub returns : goal.returns
unfolding front_codec history_codec seen behind pair counted by_kind many number_codec name_codec
returns c =
    let inside = c.history.inside in
    let P : List Step → Type 0 = λ ss. Each step_codec.Fits (steps_of_table ss c.as_slice-2.result.now) in
    let Q : List Node → Type 0 = λ ns. Each step_codec.Fits (steps_of_table c.history.inside.steps ns) in
    rw (← c.history.view_is) (
      (front_put c.args.into.now history_magic inside.name (number_bytes 8 c.len.result)
          (flat_map step_codec.write (steps_of_table c.as_slice.result.now c.as_slice-2.result.now)) _ _
          c.in_ok-put_file_front.ensures.0 c.in_ok-put_steps.ensures.0
          ∙ ap (λ n. c.args.into.now
          ++ (history_magic ++ (inside.name ++ (number_bytes 8 n ++ flat_map step_codec.write
          (steps_of_table c.as_slice.result.now c.as_slice-2.result.now)))))
          (c.len.ensures ∙ sym (length-steps_of_table inside.steps inside.nodes))
          ∙ (λ k. c.args.into.now
          ++ (history_magic ++ (inside.name ++ (number_bytes 8 (length (steps_of_table inside.steps inside.nodes))
          ++ flat_map step_codec.write (steps_of_table (c.as_slice.ensures k) (c.as_slice-2.ensures k))))))),
      (history-fits (history_of_table c.history.inside)
          (omega (arith, c.history.invariant.few, length-steps_of_table c.history.inside.steps c.history.inside.nodes))
          c.in_ok-put_file_front.ensures.1.0
          (subst Q c.as_slice-2.ensures (subst P c.as_slice.ensures c.in_ok-put_steps.ensures.1.1))),
    )
