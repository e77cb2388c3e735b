-- The codec of receipts is lawful; which receipts fit it, and the size of their bytes.
use Rattle.std.proofs.Common.{◌≡◌, ◌++◌, length, arith}
use Rattle.std.proofs.lemmas.List.{length-append}
use Rattle.tw_base.specs.format.Codecs.{behind, pair, seen}
use Rattle.tw_base.specs.history.HistoryCodec.{thread_codec}
use Rattle.tw_base.specs.history.Limits.{IsThread}
use Rattle.tw_base.proofs.lemmas.format.CodecLaws.{Lawful, lawful}
use Rattle.tw_base.proofs.lemmas.history.HistoryCodecLaws.{thread-lawful}
use Rattle.tw_msg.specs.declared.receipt.Receipt.{Receipt}
use Rattle.tw_msg.specs.Receipts.{receipt_codec, receipt_magic}
use Rattle.tw_msg.proofs.ThreadBytes.{thread-fits, thread-size, thread-within}

pub receipt-lawful : Lawful receipt_codec
unfolding receipt_codec
receipt-lawful = search (lawful, thread-lawful) depth 20

pub receipt-within : (r : Receipt) → receipt_codec.Fits r → IsThread r.by × IsThread r.thread
unfolding receipt_codec seen behind pair
receipt-within r fits = (thread-within r.by fits.0, thread-within r.thread fits.1)

pub receipt-fits : (r : Receipt) → IsThread r.by → IsThread r.thread → receipt_codec.Fits r
unfolding receipt_codec seen behind pair
receipt-fits r by thread = (thread-fits r.by by, thread-fits r.thread thread)

pub receipt-size : (r : Receipt) → receipt_codec.Fits r → length (receipt_codec.write r) ≡ 116
unfolding receipt_codec seen behind pair
receipt-size r fits =
    let by = thread_codec.write r.by in
    let thread = thread_codec.write r.thread in
    omega (
      arith,
      thread-size r.by fits.0,
      thread-size r.thread fits.1,
      length-append receipt_magic (by ++ thread),
      length-append by thread,
    )
