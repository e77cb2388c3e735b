use Rattle.std.proofs.Common.{◌∙◌, ◌++◌, ◌∷◌, [], subst, sym}
use Rattle.tw_filecmd.specs.Parts.{ArePartsRead}
use Rattle.tw_filecmd.proofs.PartFiles.{is_no_proof, is_proof, read-more, read-none, read-told}
use Rattle.tw_filecmd.proofs.parts.Parts.add.Goals as goal

pub returns-then-is_some : goal.returns-then-is_some
returns-then-is_some c told files there read are =
    read-told told files c.args.self.now.proofs c.args.self.now.bad c.args.file.now
    (sym c.is_some.ensures ∙ c.if-is_some.true) there are

pub returns-in_ok-keep-in-Ok : goal.returns-in_ok-keep-in-Ok
returns-in_ok-keep-in-Ok c told files there read are =
    subst (λ bad. ArePartsRead told (files ++ c.args.file.now ∷ []) c.keep.new.self.proofs bad)
    (sym c.in_ok-keep-in-Ok.ensures.bad) (
    read-more told files c.args.self.now.proofs c.keep.new.self.proofs c.args.self.now.bad c.args.file.now
    c.in-Ok.proof (sym c.is_some.ensures ∙ c.if-is_some.false) c.in_ok-keep-in-Ok.ensures.room
    c.in_ok-keep-in-Ok.ensures.full
    (is_proof told c.args.file.now c.args.bytes.now there read c.in-Ok.proof c.in-Ok.ensures) are
    )

pub returns-in_ok-bad_byte-in-Err-Malformed : goal.returns-in_ok-bad_byte-in-Err-Malformed
returns-in_ok-bad_byte-in-Err-Malformed c told files there read are =
    read-none told files c.args.self.now.proofs c.args.self.now.bad c.args.file.now c.in-Err-Malformed.place
    c.in_ok-bad_byte-in-Err-Malformed.field-0 (sym c.is_some.ensures ∙ c.if-is_some.false)
    (let reads = rw c.in-Err-Malformed.field-0-is at c.in-Err-Malformed.ensures in
    is_no_proof told c.args.file.now c.args.bytes.now there read c.in-Err-Malformed.place reads.0 reads.1)
    c.in_ok-bad_byte-in-Err-Malformed.ensures are
