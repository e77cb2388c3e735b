use Rattle.std.proofs.Common.{refl, inl, inr}
use Rattle.tw_text.specs.declared.fault.CommandFault.TheVariants.{Unreadable}
use Rattle.tw_text.specs.declared.refusal.BadInput.TheVariants.{BadByte}
use Rattle.tw_judge.proofs.maps.judge_low.Goals as goal

pub returns-in_ok-tell_byte-in-Err-Malformed : goal.returns-in_ok-tell_byte-in-Err-Malformed
returns-in_ok-tell_byte-in-Err-Malformed c =
    inr (record {
      fault = Unreadable (BadByte c.args.low_file.now c.in-Err-Malformed.place);
      unjudged = inl (refl, (rw c.in-Err-Malformed.field-0-is at c.in-Err-Malformed.ensures.read));
      status_is = c.in_ok-tell_byte-in-Err-Malformed.ensures.status;
      text_is = c.in_ok-tell_byte-in-Err-Malformed.ensures.text;
    })
