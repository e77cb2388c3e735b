use Rattle.std.proofs.Common.{ap, arith, subst, sym, ◌∙◌}
use Rattle.tw_base.specs.format.Codecs.{EachFits}
use Rattle.tw_chain.specs.Proofs.{following, hop_bytes, hop_codec}
use Rattle.tw_verifier.specs.declared.chain.Chain.{Chain}
use Rattle.tw_verifier.specs.Chaining.{closed}
use Rattle.tw_verifier.proofs.HeadStep.{judgement-chain}
use Rattle.tw_verifier.proofs.ProofRanges.{precedence-range}
use Rattle.tw_verifier.proofs.whole.judge_precedence.Goals as goal

pub overflow_cast-count : goal.overflow_cast-count
overflow_cast-count g c = omega (arith, (precedence-range c.args.proof c.requires).few, c.len-count.ensures)

pub begin-chain-requires-clause-above : goal.begin-chain-requires-clause-above
begin-chain-requires-clause-above g c = (precedence-range c.args.proof c.requires).above

pub begin-chain-requires-clause-step : goal.begin-chain-requires-clause-step
begin-chain-requires-clause-step g c = (precedence-range c.args.proof c.requires).head.step

pub begin-chain-requires-clause-top : goal.begin-chain-requires-clause-top
begin-chain-requires-clause-top g c = (precedence-range c.args.proof c.requires).head.top

pub begin-chain-requires-clause-few : goal.begin-chain-requires-clause-few
begin-chain-requires-clause-few g c = (precedence-range c.args.proof c.requires).head.count

pub begin-chain-requires-clause-small : goal.begin-chain-requires-clause-small
begin-chain-requires-clause-small g c = (precedence-range c.args.proof c.requires).event

pub with_hops-requires-clause-parts : goal.with_hops-requires-clause-parts
with_hops-requires-clause-parts g c =
    let is = c.begin-chain.ensures c.args.proof.hops c.args.proof.tail (sym c.len-count.ensures) in
    let few = (precedence-range c.args.proof c.requires).few in
    omega (arith, few, ap (λ (x : Chain). x.part) is, ap (λ (x : Chain). x.more) is)

pub with_hops-requires-clause-known : goal.with_hops-requires-clause-known
with_hops-requires-clause-known g c =
    let is = c.begin-chain.ensures c.args.proof.hops c.args.proof.tail (sym c.len-count.ensures) in
    let step = (precedence-range c.args.proof c.requires).head.step in
    omega (arith, step, ap (λ (x : Chain). x.known.step) is)

pub with_hops-requires-clause-fits : goal.with_hops-requires-clause-fits
with_hops-requires-clause-fits g c =
    let is = c.begin-chain.ensures c.args.proof.hops c.args.proof.tail (sym c.len-count.ensures) in
    subst (λ n. EachFits hop_bytes hop_codec (following n) c.args.proof.hops) (sym (ap (λ (x : Chain). x.more) is))
    (precedence-range c.args.proof c.requires).hops

pub close-requires-clause-step : goal.close-requires-clause-step
close-requires-clause-step g c = (precedence-range c.args.proof c.requires).step

pub close-requires-clause-few : goal.close-requires-clause-few
close-requires-clause-few g c = (precedence-range c.args.proof c.requires).count

pub close-requires-clause-small : goal.close-requires-clause-small
close-requires-clause-small g c = (precedence-range c.args.proof c.requires).first

pub returns : goal.returns
returns g c =
    let dig = g.H.Hasher.dig in
    let anchors = c.args.anchors.now in
    let is = c.begin-chain.ensures c.args.proof.hops c.args.proof.tail (sym c.len-count.ensures) in
    c.close.ensures anchors ∙ c.in_ok-chain.ensures.closes c.args.proof.tail
    ∙ ap (λ (x : Chain). closed dig anchors x c.args.proof.hops c.args.proof.tail) is
    ∙ sym (judgement-chain dig anchors c.args.proof)
