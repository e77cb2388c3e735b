use Rattle.std.proofs.Common.{◌≡◌, ◌-◌, sym, ap, subst, arith}
use Rattle.std.specs.Prelude.{IfOk, Option}
use Rattle.tw_base.specs.format.Formats.{Format}
use Rattle.tw_skipproof.specs.declared.opening.Opening.{Opening}
use Rattle.tw_skipproof.specs.Codecs.{opening_codec}
use Rattle.tw_verifier.specs.declared.chain.Chain.{Chain}
use Rattle.tw_verifier.specs.declared.judgement.Judgement.{Judgement}
use Rattle.tw_verifier.specs.Chaining.{behind_chain}
use Rattle.tw_verifier.specs.Stages.{chain_with, rest}
use Rattle.tw_verifier.proofs.StageForms.{optional-none, optional-some}
use Rattle.tw_verifier.proofs.following.behind_link.Goals as goal

pub returns-then-deref-gt1 : goal.returns-then-deref-gt1
returns-then-deref-gt1 g c =
    let b = c.args.bound in
    let chain = b.hop.further.onward.chain.value in
    sym (optional-some (chain.more - 1) (opening_codec 0 b.hop.entry.thread.step)
    (λ (o : Option Opening). behind_chain g.H.Hasher.dig c.args.anchors.now (chain_with g.H.Hasher.dig
    c.args.anchors.now chain b.hop.entry b.shown b.bind c.args.links o))
    (omega (arith, c.if-deref-gt1.true, ap (λ (x : Chain). x.more) c.deref.ensures)))

pub returns : goal.returns
returns g c =
    let b = c.args.bound in
    let chain = b.hop.further.onward.chain.value in
    let P : Format Judgement → Type 0 = λ f. IfOk c.behind_hop.result (λ stage. rest g.H.Hasher.dig c.args.anchors.now
    stage ≡ f) in
    subst P (sym (optional-none (chain.more - 1) (opening_codec 0 b.hop.entry.thread.step)
    (λ (o : Option Opening). behind_chain g.H.Hasher.dig c.args.anchors.now (chain_with g.H.Hasher.dig
    c.args.anchors.now chain b.hop.entry b.shown b.bind c.args.links o))
    (omega (arith, c.if-deref-gt1.false, ap (λ (x : Chain). x.more) c.deref.ensures))))
    c.behind_hop.ensures
