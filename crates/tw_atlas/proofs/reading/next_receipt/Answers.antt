use Rattle.tw_base.proofs.lemmas.format.TakeLaws.{takes-front}
use Rattle.tw_msg.specs.Receipts.{receipt_codec}
use Rattle.tw_msg.specs.declared.receipt.Receipt.{Receipt}
use Rattle.tw_msg.proofs.ReceiptCodec.{receipt-lawful}
use Rattle.tw_atlas.proofs.reading.next_receipt.Goals as goal

pub returns-clause-reads : goal.returns-clause-reads
returns-clause-reads c =
    takes-front receipt_codec receipt-lawful (λ (r : Receipt). r) c.args.bytes.now c.take_receipt-read.new.at
    c.take_receipt-read.result c.front_to.result
    c.take_receipt-read.ensures.takes c.front_to.ensures
