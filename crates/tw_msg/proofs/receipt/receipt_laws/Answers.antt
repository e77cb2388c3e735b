use Rattle.std.proofs.Common.{length, ap, ◌∙◌}
use Rattle.tw_base.proofs.lemmas.format.CodecLaws.{spelled-fits, unambiguous, written-as}
use Rattle.tw_msg.specs.Receipts.{receipt_codec}
use Rattle.tw_msg.proofs.ReceiptCodec.{receipt-fits, receipt-lawful, receipt-size, receipt-within}
use Rattle.tw_msg.proofs.receipt.receipt_laws.Goals as goal

pub returns-clause-once : goal.returns-clause-once
returns-clause-once c = unambiguous receipt_codec receipt-lawful

pub returns-clause-shape : goal.returns-clause-shape
returns-clause-shape c = λ bytes r s. receipt-within r (spelled-fits receipt_codec receipt-lawful bytes r s)

pub returns-clause-word : goal.returns-clause-word
returns-clause-word c = λ r by thread. receipt-lawful.spells r (receipt-fits r by thread)

pub returns-clause-size : goal.returns-clause-size
returns-clause-size c = λ bytes r s.
    ap length (written-as receipt_codec receipt-lawful bytes r s) ∙ receipt-size r
    (spelled-fits receipt_codec receipt-lawful bytes r s)
