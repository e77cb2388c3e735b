-- The files that were looked at are these proofs, or one of them was not made.
use Rattle.std.proofs.Common.{ℕ, ◌<◌, List, [], ◌∷◌, ◌++◌, length, get_or, ap, sym, ◌∙◌, subst, arith}
use Rattle.std.specs.Prelude.{Some}
use Rattle.std.proofs.lemmas.List.{take_all}
use Rattle.tw_base.specs.format.Formats.{Spells}
use Rattle.tw_chain.specs.Proofs.{proof_layout}
use Rattle.tw_chain.specs.declared.proof.Proof.{Proof}
use Rattle.tw_world.specs.Players.{IsProofText}
use Rattle.tw_world.specs.Runs.{AreFiles, AreProofs}
use Rattle.tw_world.proofs.Filed.{filed-at, files-next, files-without, proofs-more}
use Rattle.tw_world.proofs.Follows.{file-there, file-within}
use Rattle.tw_world.proofs.GivenProofs.{filed-text}
use Rattle.tw_world.proofs.ToldLines.{numbered-at}
use Rattle.tw_world.proofs.player.Player.proofs.Goals as goal

pub returns-in-None : goal.returns-in-None
returns-in-None c w f filed =
    let old = c.args.self.now in
    let numbers = c.args.numbers.now in
    let index = c.index_of-index.result in
    let at = c.index_of-index.ensures in
    let within : index < length old.files.items = omega (arith, at.0, c.len.ensures, old.files.ok.0) in
    let there = file-there old w index c.index.result.now f.files within c.index.ensures ∙ ap Some c.in-None.is in
    files-without w numbers c.loop-number.number-index 0 c.loop-number-test.true
    (numbered-at w.files index (get_or numbers c.loop-number.number-index 0) at.1 ∙ there) filed

pub loop-number-preserved : goal.loop-number-preserved
loop-number-preserved c w same =
    let old = c.args.self.now in
    let numbers = c.args.numbers.now in
    let index = c.index_of-index.result in
    let at = c.index_of-index.ensures in
    let within : index < length old.files.items = omega (arith, at.0, c.len.ensures, old.files.ok.0) in
    let bytes : List ℕ = c.in-Some.bytes in
    let there = file-there old w index c.index.result.now same within c.index.ensures ∙ ap Some c.in-Some.is in
    let sofar = c.loop-number.invariant w same in
    let proof : Proof = c.in_ok-proof-in-Some.proof in
    let spells : Spells proof_layout bytes proof = subst (λ b. Spells proof_layout b proof) c.as_slice.ensures
    c.in_ok-proof-in-Some.ensures in (
      sofar.0 ++ Some bytes ∷ [],
      files-next w numbers c.loop-number.number-index 0 sofar.0 (Some bytes) c.loop-number-test.true sofar.1
          (numbered-at w.files index (get_or numbers c.loop-number.number-index 0) at.1 ∙ there),
      subst (λ (ps : List Proof). AreProofs (sofar.0 ++ Some bytes ∷ []) ps) (sym c.in_ok-push-in-Some.ensures.ok)
          (proofs-more sofar.0 c.loop-number.proofs bytes proof sofar.2 spells),
    )

pub returns : goal.returns
returns c w f filed =
    let sofar = c.loop-number.invariant w f.files in (
      sofar.0,
      subst (λ ns. AreFiles w ns sofar.0) (take_all c.loop-number.number-index c.args.numbers.now
          c.loop-number-test.false) sofar.1,
      sofar.2,
    )

pub index_of-index-requires : goal.index_of-index-requires
index_of-index-requires c =
    let can = c.requires in
    let old = c.args.self.now in
    let there = filed-at can.0 c.args.numbers.now c.loop-number.number-index 0 c.loop-number-test.true can.2 in
    let within = file-within old can.0 (get_or c.args.numbers.now c.loop-number.number-index 0) can.1 there in
    (within.0, omega (arith, within.1, c.len.ensures, old.files.ok.0))

pub proof_of-requires : goal.proof_of-requires
proof_of-requires c =
    let old = c.args.self.now in
    let index = c.index_of-index.result in
    let at = c.index_of-index.ensures in
    let within : index < length old.files.items = omega (arith, at.0, c.len.ensures, old.files.ok.0) in
    subst IsProofText (sym c.as_slice.ensures)
    (filed-text old index c.index.result.now c.in-Some.bytes c.requires.1.proofs within c.index.ensures c.in-Some.is)
