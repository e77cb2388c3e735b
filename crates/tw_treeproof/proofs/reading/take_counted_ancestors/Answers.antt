use Rattle.std.proofs.Common.{List}
use Rattle.std.proofs.lemmas.Result.{err_from_is_err_and}
use Rattle.tw_base.specs.declared.history.tree_proof.Ancestor.{Ancestor}
use Rattle.tw_base.proofs.lemmas.format.TakeLaws.{takes-counted, takes-no_count}
use Rattle.tw_treeproof.specs.declared.limits.TheConstants.{MOST_ABOVE_PLACE}
use Rattle.tw_treeproof.specs.Codecs.{ancestor_codec}
use Rattle.tw_treeproof.proofs.reading.take_counted_ancestors.Goals as goal

pub returns-in_err-count : goal.returns-in_err-count
returns-in_err-count c =
    let p = err_from_is_err_and c.from_residual.result c.from_residual.ensures.1 in
    rw (p.1, p.2) (takes-no_count ancestor_codec (λ (up : List Ancestor). up) 1 0 MOST_ABOVE_PLACE c.args.bytes.now
    c.args.at.now c.take_number.new.at c.take_number.new.at _ c.in_err-count.ensures.takes)

pub returns : goal.returns
returns c =
    let number = c.in_ok-count.ensures.takes in
    takes-counted ancestor_codec (λ (up : List Ancestor). up) 1 0 MOST_ABOVE_PLACE c.args.bytes.now c.args.at.now
    c.take_number.new.at c.take_ancestors.new.at c.in_ok-count.count c.take_ancestors.result number.0 number.1
    c.take_ancestors.ensures
