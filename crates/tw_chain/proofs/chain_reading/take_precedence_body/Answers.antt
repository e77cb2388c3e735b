use Rattle.std.proofs.Common.{length}
use Rattle.std.proofs.lemmas.Result.{err_from_is_err_and}
use Rattle.tw_base.specs.declared.kinds.limits.TheConstants.{MOST_HOPS}
use Rattle.tw_base.specs.format.Codecs.{number_codec}
use Rattle.tw_base.proofs.lemmas.format.TakeLaws.{takes-kind, takes-no_kind}
use Rattle.tw_chain.specs.declared.proof.PrecedenceProof.{PrecedenceProof}
use Rattle.tw_chain.specs.Proofs.{hops_codec, precedence_body}
use Rattle.tw_chain.proofs.ProofCodec.{hops-count}
use Rattle.tw_chain.proofs.chain_reading.take_precedence_body.Goals as goal

pub returns-in_err-count : goal.returns-in_err-count
unfolding precedence_body
returns-in_err-count c =
    let p = err_from_is_err_and c.from_residual.result c.from_residual.ensures.1 in
    rw (p.1, p.2)
    (takes-no_kind (λ (p : PrecedenceProof). length p.hops) (number_codec 1 0 MOST_HOPS) hops_codec (λ p. p)
    c.args.bytes.now c.args.at.now c.take_number.new.at c.take_number.new.at _
    c.in_err-count.ensures.takes)

pub returns : goal.returns
unfolding precedence_body
returns c =
    let count = c.in_ok-count.ensures.takes in
    takes-kind (λ (p : PrecedenceProof). length p.hops) (number_codec 1 0 MOST_HOPS) hops_codec (λ p. p)
    c.args.bytes.now c.args.at.now c.take_number.new.at c.take_with_hops.new.at c.in_ok-count.count
    c.take_with_hops.result count.0 count.1 (λ p fits. hops-count c.in_ok-count.count p fits) c.take_with_hops.ensures
