use Rattle.std.proofs.lemmas.Result.{err_from_is_err_and}
use Rattle.std.proofs.Common.{List, ℕ}
use Rattle.tw_base.specs.format.Codecs.{number_codec}
use Rattle.tw_base.proofs.lemmas.format.TakeLaws.{takes-kind, takes-no_kind}
use Rattle.tw_steppage.specs.declared.fields.StepFields.{StepFields}
use Rattle.tw_steppage.specs.declared.link.StepRef.{StepRef}
use Rattle.tw_steppage.specs.declared.page.StepPage.{StepPage}
use Rattle.tw_steppage.specs.StepBytes.{field_codec, fields_kind, step_body_codec}
use Rattle.tw_steppage.proofs.StepCodecs.{kinds}
use Rattle.tw_steppage.proofs.page.take_kinds.Goals as goal

abbrev parts : StepPage → StepFields × List StepRef
parts p = (p.fields, p.links.items)

abbrev kind_in : StepFields × List StepRef → ℕ
kind_in p = fields_kind p.0

pub returns-in_err-kind-clause-takes : goal.returns-in_err-kind-clause-takes
unfolding field_codec
returns-in_err-kind-clause-takes c =
    let p = err_from_is_err_and c.from_residual.result c.from_residual.ensures.1 in
    rw (p.1, p.2)
    (takes-no_kind kind_in (number_codec 1 1 4) (step_body_codec c.args.step) parts c.args.bytes.now c.args.at.now
    c.take_number.new.at c.take_number.new.at _ c.in_err-kind.ensures.takes)

pub returns-clause-takes : goal.returns-clause-takes
unfolding field_codec
returns-clause-takes c =
    let kind = c.in_ok-kind.ensures.takes in
    takes-kind kind_in (number_codec 1 1 4) (step_body_codec c.args.step) parts c.args.bytes.now c.args.at.now
    c.take_number.new.at c.take_body.new.at c.in_ok-kind.kind c.take_body.result
    kind.0 kind.1 (λ r fits. kinds c.args.step c.in_ok-kind.kind r kind.1 fits) c.take_body.ensures.takes
