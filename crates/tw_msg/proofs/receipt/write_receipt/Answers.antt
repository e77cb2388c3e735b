use Rattle.std.proofs.Common.{ℕ, List, subst, sym}
use Rattle.tw_base.specs.format.Formats.{Spells}
use Rattle.tw_msg.specs.Receipts.{receipt_layout}
use Rattle.tw_msg.proofs.ReceiptCodec.{receipt-lawful}
use Rattle.tw_msg.proofs.receipt.write_receipt.Goals as goal

pub returns-clause-spelled : goal.returns-clause-spelled
returns-clause-spelled c = λ by thread.
    subst (λ (bytes : List ℕ). Spells receipt_layout bytes c.args.receipt.now) (sym c.written_receipt.ensures.bytes)
    (receipt-lawful.spells c.args.receipt.now (c.written_receipt.ensures.fits by thread))
