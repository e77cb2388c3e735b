use Rattle.std.proofs.Common.{◌++◌}
use Rattle.std.proofs.lemmas.Result.{IfOk-weaker}
use Rattle.tw_base.specs.history.Family.{family_texts}
use Rattle.tw_chain.specs.Accepting.{proof_texts}
use Rattle.tw_audit.specs.KeyLists.{is_among_keys}
use Rattle.tw_audit.proofs.Doubtful.{clash_pair-none-kept}
use Rattle.tw_audit.proofs.KeyLaws.{covers-within, none-among, turned-within}
use Rattle.tw_audit.proofs.holding.pair_of.Goals as goal

pub returns-then-is_empty : goal.returns-then-is_empty
returns-then-is_empty g c = λ took.
    let family = family_texts g.H.Hasher.dig c.args.histories.now in
    let own = proof_texts g.H.Hasher.dig c.args.proof.now in
    clash_pair-none-kept g.H.Hasher.dig (is_among_keys c.in_ok-repeated.repeated) (family ++ own)
    (none-among c.in_ok-repeated.repeated (c.is_empty.ensures.0 c.if-is_empty.true))
    (covers-within g.H.Hasher.dig (family ++ own) (own ++ family) c.in_ok-repeated.repeated (turned-within family own)
    (c.in_ok-repeated.ensures g.H.Hasher.dig (own ++ family) took))

pub returns : goal.returns
returns g c =
    IfOk-weaker c.pair_among.result _ _ (λ pair is took.
    let family = family_texts g.H.Hasher.dig c.args.histories.now in
    let own = proof_texts g.H.Hasher.dig c.args.proof.now in
    is c.in_ok-repeated.repeated (covers-within g.H.Hasher.dig (family ++ own) (own ++ family) c.in_ok-repeated.repeated (turned-within family own)
    (c.in_ok-repeated.ensures g.H.Hasher.dig (own ++ family) took))
    c.new-finder.ensures) c.pair_among.ensures
