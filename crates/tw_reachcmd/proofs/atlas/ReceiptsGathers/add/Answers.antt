use Rattle.std.proofs.Common.{◌∙◌, sym}
use Rattle.tw_reachcmd.proofs.ReceiptFiles.{receipts_added, receipts_bad, receipts_behind}
use Rattle.tw_reachcmd.proofs.atlas.ReceiptsGathers.add.Goals as goal

pub returns-then-is_some-clause-read : goal.returns-then-is_some-clause-read
returns-then-is_some-clause-read c told files read are =
    receipts_behind told files c.args.file.now c.args.bytes.now read c.args.self.now.hops c.args.self.now.bad
    (sym c.is_some.ensures ∙ c.if-is_some.true) are

pub returns-in-Ok-clause-read : goal.returns-in-Ok-clause-read
returns-in-Ok-clause-read c told files read are =
    receipts_added told files c.args.file.now c.args.bytes.now read c.args.self.now.hops c.add_hops.new.hops
    c.args.self.now.bad
    (sym c.is_some.ensures ∙ c.if-is_some.false) c.in-Ok.ensures.adds are

pub returns-in_ok-bad_byte-in-Err-Malformed-clause-read : goal.returns-in_ok-bad_byte-in-Err-Malformed-clause-read
returns-in_ok-bad_byte-in-Err-Malformed-clause-read c told files read are =
    receipts_bad told files c.args.file.now c.args.bytes.now read c.args.self.now.hops c.add_hops.new.hops
    c.args.self.now.bad c.in-Err-Malformed.place
    c.in_ok-bad_byte-in-Err-Malformed.field-0 (sym c.is_some.ensures ∙ c.if-is_some.false)
    (rw c.in-Err-Malformed.field-0-is at c.in-Err-Malformed.ensures.adds) c.in_ok-bad_byte-in-Err-Malformed.ensures are
