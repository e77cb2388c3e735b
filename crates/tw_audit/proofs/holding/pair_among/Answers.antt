use Rattle.std.proofs.Common.{◌++◌, append_assoc, subst}
use Rattle.std.proofs.lemmas.Result.{IfOk-weaker}
use Rattle.tw_base.specs.history.Family.{family_texts}
use Rattle.tw_chain.specs.Accepting.{proof_texts}
use Rattle.tw_audit.specs.Auditing.{audited_texts}
use Rattle.tw_audit.specs.KeyLists.{key_front}
use Rattle.tw_audit.specs.Tables.{TookBehind}
use Rattle.tw_audit.proofs.holding.pair_among.Goals as goal

pub returns-in-Ok : goal.returns-in-Ok
returns-in-Ok g c =
    IfOk-weaker c.into_pair.result _ _ (λ pair is repeated covered took.
    let front = key_front repeated in
    let family = family_texts g.H.Hasher.dig c.args.histories.now in
    let own = proof_texts g.H.Hasher.dig c.args.proof.now in
    is repeated (audited_texts g.H.Hasher.dig c.args.histories.now c.args.proof.now) covered
    (subst (TookBehind g.H.Hasher.dig c.hash_proof.new.texts.repeated c.hash_proof.new.texts.table)
    (append_assoc front family own)
    (c.hash_proof.ensures.behind (front ++ family) (c.in-Ok.ensures.took.behind front took)))) c.into_pair.ensures.pair
