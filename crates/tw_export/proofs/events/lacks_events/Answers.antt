use Rattle.std.proofs.Common.{◌∙◌, arith, sym}
use Rattle.tw_export.proofs.CopyLaws.{lacks-bad, not-some, some-count}
use Rattle.tw_export.proofs.events.lacks_events.Goals as goal

pub returns : goal.returns
returns c = λ yes dig ps so_far.
    let r = c.args.recorded.now in
    lacks-bad dig ps so_far r (not-some r.fields.received (sym c.is_some.ensures ∙ c.if-is_some.false))
    (omega (arith, c.if-fields-gt0.false)) (some-count r.fields.count c.if-fields-eq0.false)
