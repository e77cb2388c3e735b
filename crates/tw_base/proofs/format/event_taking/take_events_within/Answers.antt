use Rattle.std.proofs.lemmas.Result.{err_from_is_err_and}
use Rattle.tw_base.specs.format.Codecs.{sized_codec}
use Rattle.tw_base.proofs.lemmas.format.TakeLaws.{takes-counted, takes-no_count}
use Rattle.tw_base.proofs.format.event_taking.take_events_within.Goals as goal

pub returns-in_err-count : goal.returns-in_err-count
returns-in_err-count c =
    let p = err_from_is_err_and c.from_residual.result c.from_residual.ensures.1 in
    rw (p.1, p.2)
    (takes-no_count (sized_codec 4 0 c.args.most_bytes) (λ events. events) 4 0 c.args.most_events c.args.bytes.now
    c.args.at.now c.take_number.new.at c.take_number.new.at _ c.in_err-count.ensures.takes)

pub returns : goal.returns
returns c =
    let number = c.in_ok-count.ensures.takes in
    takes-counted (sized_codec 4 0 c.args.most_bytes) (λ events. events) 4 0 c.args.most_events c.args.bytes.now
    c.args.at.now c.take_number.new.at c.take_event_list.new.at c.in_ok-count.count c.take_event_list.result number.0
    number.1
    c.take_event_list.ensures
