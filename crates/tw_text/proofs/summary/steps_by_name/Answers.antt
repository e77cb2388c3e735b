use Rattle.std.proofs.Common.{◌+◌, ◌≤◌, ◌∙◌, length, drop, sym, ap, arith}
use Rattle.std.proofs.lemmas.List.{at_drop_all}
use Rattle.serde_json.specs.Data.{Members}
use Rattle.serde_json.specs.View.{members_view}
use Rattle.tw_text.specs.Summaries.{with_services}
use Rattle.tw_text.proofs.SummaryLaws.{with_services-drop, with_services-nil}
use Rattle.tw_text.proofs.summary.steps_by_name.Goals as goal

pub loop-service-preserved : goal.loop-service-preserved
loop-service-preserved c =
    let services = c.args.services.now in
    let i = c.loop-service.service-index in
    let service = c.service-item.result in
    ap (λ (ms : Members). with_services ms (drop (i + 1) services)) c.in_ok-put_steps.ensures
    ∙ sym (with_services-drop (members_view c.loop-service.named.entries) services i service c.loop-service-test.true
    (sym c.service-item.is))
    ∙ c.loop-service.invariant

pub returns : goal.returns
returns c =
    let services = c.args.services.now in
    let i = c.loop-service.service-index in
    let named = members_view c.loop-service.named.entries in
    let done : length services ≤ i = omega (arith, c.loop-service-test.false) in
    sym (at_drop_all (with_services named) services i done ∙ with_services-nil named) ∙ c.loop-service.invariant
