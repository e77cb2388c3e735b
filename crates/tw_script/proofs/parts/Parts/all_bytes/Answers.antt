use Rattle.std.proofs.Common.{ℕ, List}
use Rattle.std.proofs.lemmas.Result.{err_from_is_err_and}
use Rattle.tw_script.specs.LineWords.{bytes_value}
use Rattle.tw_script.proofs.ValueLaws.{all-taken, more-taken, stop-taken}
use Rattle.tw_script.proofs.parts.Parts.all_bytes.Goals as goal

pub returns-in_err-bytes_of : goal.returns-in_err-bytes_of
returns-in_err-bytes_of c =
    let p = err_from_is_err_and c.from_residual.result c.from_residual.ensures.1 in
    rw (p.1, p.2)
    (stop-taken bytes_value c.loop-word.invariant c.in-Some.ensures (λ (bytes : List ℕ). bytes)
    (λ (events : List (List ℕ)). events) _ c.in_err-bytes_of.ensures)

pub loop-word-preserved : goal.loop-word-preserved
loop-word-preserved c =
    rw c.in_ok-push.ensures.ok (more-taken bytes_value c.loop-word.invariant c.in-Some.ensures
    c.in_ok-bytes_of.field-0 c.in_ok-bytes_of.ensures)

pub returns : goal.returns
returns c = all-taken bytes_value c.loop-word.invariant c.in_default.ensures
