use Rattle.std.proofs.Common.{◌<◌, List, length, ap, refl, sym, ◌∙◌, subst, arith}
use Rattle.std.specs.Prelude.{Some, false}
use Rattle.sha2.specs.Sha256.{sha256}
use Rattle.tw_base.specs.declared.history.thread.Thread.{Thread}
use Rattle.tw_chain.specs.Reasons.{IsVerdict}
use Rattle.tw_script.specs.declared.line.Line.TheVariants.{Verify}
use Rattle.tw_world.specs.Hosts.{claims_none}
use Rattle.tw_world.specs.Runs.{IsLineTold}
use Rattle.tw_world.specs.Worlds.{after_line}
use Rattle.tw_world.specs.declared.told.Answer.{Answer}
use Rattle.tw_world.specs.declared.told.Told.TheVariants.{Plain}
use Rattle.tw_world.proofs.Follows.{file-there, file-within, later}
use Rattle.tw_world.proofs.ToldLines.{told-verified}
use Rattle.tw_world.proofs.player.Player.verify.Goals as goal

pub returns : goal.returns
returns c w f may =
    let old = c.args.self.now in
    let index = c.index_of-index.result in
    let number = c.args.number in
    let at = c.index_of-index.ensures in
    let within : index < length old.files.items = omega (arith, at.0, c.len.ensures, old.files.ok.0) in
    let bytes = c.in-Some.bytes in
    let judged = c.in_ok-answer.ensures in
    let there = file-there old w index c.index.result.now f.files within c.index.ensures ∙ ap Some c.in-Some.is in
    let is : IsVerdict sha256 w.anchors false bytes judged.0 =
    subst (λ b. IsVerdict sha256 w.anchors false b judged.0) c.as_slice.ensures
    (subst (λ (held : List Thread). IsVerdict sha256 held false c.as_slice.result.now judged.0)
    (c.deref.ensures.value ∙ f.anchors) judged.1) in
    let told : IsLineTold sha256 claims_none w (Verify number) (Plain c.in_ok-answer.answer) (after_line w) =
    subst (λ (a : Answer). IsLineTold sha256 claims_none w (Verify number) (Plain a) (after_line w)) (sym judged.2)
    (told-verified w number index bytes judged.0 at.1 there is) in
    (after_line w, told, later old w f, refl)

pub index_of-index-requires : goal.index_of-index-requires
index_of-index-requires c =
    let can = c.requires in
    let old = c.args.self.now in
    let within = file-within old can.0 c.args.number can.1 can.2 in
    (within.0, omega (arith, within.1, c.len.ensures, old.files.ok.0))
