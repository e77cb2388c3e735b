-- Receipts, by which a service tells that a step of it archived a thread.
use Rattle.std.specs.Prelude.{ℕ, List, [], ◌∷◌}
use Rattle.tw_base.specs.format.Codecs.{Codec, behind, pair, seen}
use Rattle.tw_base.specs.format.Formats.{Format}
use Rattle.tw_base.specs.history.HistoryCodec.{thread_codec}
use Rattle.tw_msg.specs.declared.receipt.Receipt.{Receipt}

-- the four bytes TWR1
abbrev pub receipt_magic : List ℕ
receipt_magic = 0x54 ∷ 0x57 ∷ 0x52 ∷ 0x31 ∷ []

-- the magic; the recorder, its step that archived the thread and its authenticator there; and the thread
unfoldable pub receipt_codec : Codec Receipt
receipt_codec = seen (λ t. record { by = t.0; thread = t.1 }) (λ r. (r.by, r.thread)) (behind receipt_magic (pair thread_codec (λ by. thread_codec)))

abbrev pub receipt_layout : Format Receipt
receipt_layout = receipt_codec.format

abbrev pub receipt_bytes : Receipt → List ℕ
receipt_bytes = receipt_codec.write
