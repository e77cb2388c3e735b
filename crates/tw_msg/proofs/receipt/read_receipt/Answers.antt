use Rattle.std.proofs.Common.{subst}
use Rattle.std.specs.Prelude.{Ok, Err}
use Rattle.tw_base.specs.declared.kinds.failure.ReadFault.{ReadFault}
use Rattle.tw_base.specs.format.Formats.{ReadsAs}
use Rattle.tw_base.proofs.lemmas.format.TakeLaws.{takes-whole}
use Rattle.tw_msg.specs.declared.receipt.Receipt.{Receipt}
use Rattle.tw_msg.specs.Receipts.{receipt_codec, receipt_layout}
use Rattle.tw_msg.proofs.ReceiptCodec.{receipt-lawful}
use Rattle.tw_msg.proofs.receipt.read_receipt.Goals as goal

pub returns-in-Ok-clause-read : goal.returns-in-Ok-clause-read
returns-in-Ok-clause-read c =
    takes-whole receipt_codec receipt-lawful (λ r. r) c.args.bytes.now _ _ (Ok c.in-Ok.receipt)
    c.take_receipt-read.ensures.takes c.in-Ok.ensures

pub returns-in-Err-Malformed-clause-malformed : goal.returns-in-Err-Malformed-clause-malformed
returns-in-Err-Malformed-clause-malformed c =
    let told = c.in-Err-Malformed in
    subst (λ (fault : ReadFault). ReadsAs (λ (r : Receipt). r) receipt_layout c.args.bytes.now (Err fault))
    told.field-0-is
    (takes-whole receipt_codec receipt-lawful (λ r. r) c.args.bytes.now _ _ (Err told.field-0)
    c.take_receipt-read.ensures.takes told.ensures)
