use Rattle.std.proofs.lemmas.Result.{err_from_is_err_and}
use Rattle.std.specs.Prelude.{is_some}
use Rattle.tw_base.specs.format.Codecs.{flag_codec, written}
use Rattle.tw_base.proofs.lemmas.format.TakeLaws.{takes-kind, takes-no_kind}
use Rattle.tw_skipproof.specs.Codecs.{count_codec, counted_with}
use Rattle.tw_skipproof.proofs.LawfulCodecs.{count-kind}
use Rattle.tw_skipproof.proofs.reading.take_count.Goals as goal

pub returns-in_err-timed-clause-takes : goal.returns-in_err-timed-clause-takes
unfolding count_codec written
returns-in_err-timed-clause-takes c =
    let p = err_from_is_err_and c.from_residual.result c.from_residual.ensures.1 in
    rw (p.1, p.2)
    (takes-no_kind (λ r. is_some r.1) flag_codec (counted_with c.args.least) (λ r. r) c.args.bytes.now c.args.at.now
    c.take_flag.new.at c.take_flag.new.at _ c.in_err-timed.ensures)

pub returns-clause-takes : goal.returns-clause-takes
unfolding count_codec written
returns-clause-takes c =
    let flag = c.in_ok-timed.ensures in
    takes-kind (λ r. is_some r.1) flag_codec (counted_with c.args.least) (λ r. r) c.args.bytes.now c.args.at.now
    c.take_flag.new.at c.take_counted.new.at c.in_ok-timed.timed c.take_counted.result
    flag.0 flag.1 (λ r fits. count-kind c.args.least c.in_ok-timed.timed r fits) c.take_counted.ensures.takes
