use Rattle.std.proofs.lemmas.Result.{err_from_is_err_and}
use Rattle.tw_base.proofs.lemmas.format.TakeLaws.{takes-kind, takes-no_kind}
use Rattle.tw_chain.specs.Proofs.{body_of_kind, kind_codec, kinds_codec, proof_kind}
use Rattle.tw_chain.proofs.ProofCodec.{kinds}
use Rattle.tw_chain.proofs.reading.take_by_kind.Goals as goal

pub returns-in_err-kind : goal.returns-in_err-kind
unfolding kinds_codec
returns-in_err-kind c =
    let p = err_from_is_err_and c.from_residual.result c.from_residual.ensures.1 in
    rw (p.1, p.2)
    (takes-no_kind proof_kind kind_codec body_of_kind (λ p. p) c.args.bytes.now c.args.at.now c.take_kind.new.at
    c.take_kind.new.at _ c.in_err-kind.ensures)

pub returns : goal.returns
unfolding kinds_codec
returns c =
    let kind = c.in_ok-kind.ensures in
    takes-kind proof_kind kind_codec body_of_kind (λ p. p) c.args.bytes.now c.args.at.now c.take_kind.new.at
    c.take_of_kind.new.at c.in_ok-kind.kind c.take_of_kind.result
    kind.0 kind.1 (λ p fits. kinds c.in_ok-kind.kind p kind.1 fits) c.take_of_kind.ensures
