use Rattle.std.proofs.Common.{sym, ap, arith}
use Rattle.tw_verifier.specs.declared.chain.Chain.{Chain}
use Rattle.tw_verifier.proofs.StageForms.{chain-entry, chain-tail}
use Rattle.tw_verifier.proofs.following.behind_chain.Goals as goal

pub returns-then-deref-gt0 : goal.returns-then-deref-gt0
returns-then-deref-gt0 c = λ dig anchors. sym (chain-entry dig anchors c.args.onward.chain.value
    (omega (arith, c.if-deref-gt0.true, ap (λ (x : Chain). x.more) c.deref.ensures)))

pub returns : goal.returns
returns c = λ dig anchors. sym (chain-tail dig anchors c.args.onward.chain.value
    (omega (arith, c.if-deref-gt0.false, ap (λ (x : Chain). x.more) c.deref.ensures)))
