use Rattle.std.proofs.Common.{List, subst, ap, ◌∙◌}
use Rattle.std.specs.Prelude.{Ok, Result}
use Rattle.tw_chain.specs.declared.proof.Proof.{Proof}
use Rattle.tw_join.specs.Joining.{Joins, joined_proof}
use Rattle.tw_join.specs.Joining.Taken.{Nothing}
use Rattle.tw_join.specs.declared.joining.JoinFault.{JoinFault}
use Rattle.tw_generate.proofs.Results.{if-ok, joined-only}
use Rattle.tw_generate.proofs.claiming.joined_bytes.Goals as goal

pub returns : goal.returns
returns c =
    let proof = c.in_ok-proof.proof in
    if-ok c.write_proof-written.result (λ bytes is. (
      proof,
      subst (λ (ps : List Proof). Joins ps (Ok proof)) c.as_slice.ensures
          (subst (λ (r : Result Proof JoinFault). Joins c.as_slice.result.now r) c.in_ok-proof.ensures.value c.join.ensures),
      is,
    )) c.write_proof-written.ensures.bytes

pub whole_of-requires : goal.whole_of-requires
whole_of-requires c =
    joined-only c.as_slice.result.now c.requires.0 c.join.result
    (ap (joined_proof Nothing 1) c.as_slice.ensures ∙ c.requires.1) c.join.ensures
