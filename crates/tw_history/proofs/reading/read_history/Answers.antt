use Rattle.std.proofs.Common.{arith}
use Rattle.tw_history.proofs.Judging.{judged_read}
use Rattle.tw_history.proofs.reading.read_history.Goals as goal

pub returns-in-Ok : goal.returns-in-Ok
returns-in-Ok c =
    record {
      read = judged_read c.args.bytes.now c.in-Ok.history c.judged_sound.result (omega arith) c.in-Ok.ensures
          c.judged_sound.ensures;
    }
