use Rattle.std.proofs.Common.{ℕ, List, length, ap, inr, refl, sym, subst, ◌∙◌}
use Rattle.tw_judge.specs.Forks.{IsForkTold}
use Rattle.tw_text.specs.declared.fault.CommandFault.TheVariants.{NoMemory}
use Rattle.timeweave_c.specs.Answers.{anchors_name}
use Rattle.timeweave_c.specs.Buffers.{put_in}
use Rattle.timeweave_c.proofs.WithoutMemory.{without_memory}
use Rattle.timeweave_c.proofs.exports.timeweave_checkfork.Goals as goal

pub returns-in-Ok : goal.returns-in-Ok
returns-in-Ok c = record {
  text = c.in-Ok.told.text;
  told =
      subst (λ (status : ℕ). IsForkTold anchors_name c.args.evidence.now c.args.anchors.now status c.in-Ok.told.text)
      (sym c.tell.ensures.status) c.in-Ok.ensures;
  size_is = c.tell.ensures.size ∙ ap length c.as_slice.ensures;
  after_is = c.tell.ensures.text ∙ ap (λ (text : List ℕ). put_in text c.args.out.now) c.as_slice.ensures;
}

pub returns-in-Err : goal.returns-in-Err
returns-in-Err c =
    without_memory
    (inr (record { fault = NoMemory; unjudged = tt; status_is = c.tell_no_memory.ensures.status; text_is = refl }))
    c.tell_no_memory.ensures.size c.tell_no_memory.ensures.text
