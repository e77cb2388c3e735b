use Rattle.std.proofs.Common.{ℕ, List, length, ap, inr, refl, sym, subst, ◌∙◌}
use Rattle.tw_judge.specs.Receivers.{IsReceiverTold}
use Rattle.tw_text.specs.declared.fault.CommandFault.TheVariants as fault
use Rattle.timeweave_c.specs.Answers.{anchors_name}
use Rattle.timeweave_c.specs.Buffers.{put_in}
use Rattle.timeweave_c.proofs.WithoutMemory.{without_memory}
use Rattle.timeweave_c.proofs.exports.timeweave_receiver.Goals as goal

pub returns-in-Err : goal.returns-in-Err
returns-in-Err c =
    let told = c.tell_no_memory.ensures in
    without_memory (inr (record { fault = fault.NoMemory; unjudged = tt; status_is = told.status; text_is = refl }))
    told.size told.text

pub returns-in-Ok : goal.returns-in-Ok
returns-in-Ok c =
    let text : List ℕ = c.in-Ok.told.text in
    record {
      text = text;
      size_is = c.tell.ensures.size ∙ ap length c.as_slice.ensures;
      told =
          subst (λ (status : ℕ). IsReceiverTold anchors_name c.args.evidence.now c.args.anchors.now c.args.link.now status
          text) (sym c.tell.ensures.status) c.in-Ok.ensures;
      after_is = c.tell.ensures.text ∙ ap (λ (told : List ℕ). put_in told c.args.out.now) c.as_slice.ensures;
    }
