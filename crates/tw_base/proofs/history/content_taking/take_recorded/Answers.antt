use Rattle.std.proofs.lemmas.Result.{err_from_is_err_and}
use Rattle.tw_base.specs.format.Codecs.{number_codec}
use Rattle.tw_base.specs.history.HistoryCodec.{kind_of, of_kind, recorded_codec}
use Rattle.tw_base.proofs.lemmas.history.HistoryCodecLaws.{kinds}
use Rattle.tw_base.proofs.lemmas.format.TakeLaws.{takes-kind, takes-no_kind}
use Rattle.tw_base.proofs.history.content_taking.take_recorded.Goals as goal

pub returns-in_err-kind : goal.returns-in_err-kind
unfolding recorded_codec
returns-in_err-kind c =
    let p = err_from_is_err_and c.from_residual.result c.from_residual.ensures.1 in
    rw (p.1, p.2)
    (takes-no_kind (λ r. kind_of r.0 r.1) (number_codec 1 1 4) of_kind (λ r. r) c.args.bytes.now c.args.at.now
    c.take_number.new.at c.take_number.new.at _ c.in_err-kind.ensures.takes)

pub returns : goal.returns
unfolding recorded_codec
returns c =
    let kind = c.in_ok-kind.ensures.takes in
    takes-kind (λ r. kind_of r.0 r.1) (number_codec 1 1 4) of_kind (λ r. r) c.args.bytes.now c.args.at.now
    c.take_number.new.at c.take_of_kind.new.at c.in_ok-kind.kind c.take_of_kind.result
    kind.0 kind.1 (λ r fits. kinds c.in_ok-kind.kind r kind.1 fits) c.take_of_kind.ensures
