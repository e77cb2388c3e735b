use Rattle.std.proofs.Common.{refl, inl, inr}
use Rattle.tw_text.specs.declared.fault.CommandFault.TheVariants.{Unreadable}
use Rattle.tw_text.specs.declared.refusal.BadInput.TheVariants.{BadByte}
use Rattle.tw_judge.proofs.maps.judge_high.Goals as goal

pub returns-in_ok-tell_byte-in-Err-Malformed : goal.returns-in_ok-tell_byte-in-Err-Malformed
returns-in_ok-tell_byte-in-Err-Malformed c low_bytes low_name low_spelled =
    inr (record {
      fault = Unreadable (BadByte c.args.high_file.now c.in-Err-Malformed.place);
      unjudged =
          inr (inl (
            (c.args.low.now, low_spelled),
            (refl, (rw c.in-Err-Malformed.field-0-is at c.in-Err-Malformed.ensures.read)),
          ));
      status_is = c.in_ok-tell_byte-in-Err-Malformed.ensures.status;
      text_is = c.in_ok-tell_byte-in-Err-Malformed.ensures.text;
    })
