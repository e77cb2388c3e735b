use Rattle.std.proofs.Common.{List, ℕ, subst, sym}
use Rattle.tw_base.specs.format.Formats.{Spells}
use Rattle.tw_chain.specs.Proofs.{proof_layout}
use Rattle.tw_chain.specs.declared.proof.Proof.{Proof}
use Rattle.tw_generate.proofs.Results.{if-ok, read-is, read-only}
use Rattle.tw_generate.proofs.claiming.proof_of.Goals as goal

pub read_whole-requires : goal.read_whole-requires
read_whole-requires c =
    read-only (λ (p : Proof). p) proof_layout c.as_slice.result.now c.requires.0 c.read_proof.result
    (subst (λ (bytes : List ℕ). Spells proof_layout bytes c.requires.0) (sym c.as_slice.ensures) c.requires.1)
    c.read_proof.ensures

pub returns : goal.returns
returns c = if-ok c.read_whole.result
    (λ p is. subst (λ (bytes : List ℕ). Spells proof_layout bytes p) c.as_slice.ensures
    (read-is (λ (q : Proof). q) proof_layout c.as_slice.result.now p c.read_proof.result is c.read_proof.ensures))
    c.read_whole.ensures.value
