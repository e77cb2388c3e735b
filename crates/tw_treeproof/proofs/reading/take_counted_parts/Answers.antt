use Rattle.std.proofs.Common.{length}
use Rattle.std.proofs.lemmas.Result.{err_from_is_err_and}
use Rattle.tw_base.specs.format.Codecs.{number_codec}
use Rattle.tw_base.proofs.lemmas.format.TakeLaws.{takes-kind, takes-no_kind}
use Rattle.tw_treeproof.specs.declared.limits.TheConstants.{MOST_ABOVE_ENTRY}
use Rattle.tw_treeproof.specs.Codecs.{PresentParts, parts_codec}
use Rattle.tw_treeproof.proofs.LawfulCodecs.{parts-count}
use Rattle.tw_treeproof.proofs.reading.take_counted_parts.Goals as goal

pub returns-in_err-count : goal.returns-in_err-count
returns-in_err-count c =
    let p = err_from_is_err_and c.from_residual.result c.from_residual.ensures.1 in
    rw (p.1, p.2) (takes-no_kind (λ (t : PresentParts). length t.1.1) (number_codec 1 0 MOST_ABOVE_ENTRY) parts_codec
    (λ (t : PresentParts). t) c.args.bytes.now c.args.at.now c.take_number.new.at c.take_number.new.at _
    c.in_err-count.ensures.takes)

pub returns : goal.returns
returns c =
    let number = c.in_ok-count.ensures.takes in
    takes-kind (λ (t : PresentParts). length t.1.1) (number_codec 1 0 MOST_ABOVE_ENTRY) parts_codec
    (λ (t : PresentParts). t) c.args.bytes.now c.args.at.now c.take_number.new.at c.take_parts.new.at
    c.in_ok-count.count c.take_parts.result
    number.0 number.1 (λ t fits. parts-count c.in_ok-count.count t fits) c.take_parts.ensures
