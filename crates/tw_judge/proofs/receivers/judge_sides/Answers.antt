use Rattle.std.specs.Prelude.{Ok, Err}
use Rattle.tw_judge.proofs.receivers.judge_sides.Goals as goal

pub returns-in_ok-tell_verdict-in-Ok : goal.returns-in_ok-tell_verdict-in-Ok
returns-in_ok-tell_verdict-in-Ok c = record {
  verdict = Ok c.in-Ok.verdict;
  judged = c.in-Ok.ensures;
  status_is = c.in_ok-tell_verdict-in-Ok.ensures.status;
  text_is = c.in_ok-tell_verdict-in-Ok.ensures.text;
}

pub returns-in_ok-tell_malformed-in-Err-Malformed : goal.returns-in_ok-tell_malformed-in-Err-Malformed
returns-in_ok-tell_malformed-in-Err-Malformed c = record {
  verdict = Err c.in-Err-Malformed.place;
  judged = (rw c.in-Err-Malformed.field-0-is at c.in-Err-Malformed.ensures);
  status_is = c.in_ok-tell_malformed-in-Err-Malformed.ensures.status;
  text_is = c.in_ok-tell_malformed-in-Err-Malformed.ensures.text;
}
