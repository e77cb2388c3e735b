-- The codec of an archive's entries is lawful; what fits it, and the size of its words.
use Rattle.std.proofs.Common.{◌<◌, ◌≤◌, arith}
use Rattle.tw_base.specs.declared.kinds.limits.TheConstants.{LAST_STEP}
use Rattle.tw_base.specs.declared.history.thread.Entry.{Entry}
use Rattle.tw_base.specs.format.Codecs.{bytes_codec, name_codec, number_codec, pair, seen}
use Rattle.tw_base.specs.history.EntryCodec.{entry_codec}
use Rattle.tw_base.specs.history.HistoryCodec.{thread_codec}
use Rattle.tw_base.specs.history.Limits.{IsEntryInRange, IsThread}
use Rattle.tw_base.proofs.lemmas.format.CodecLaws.{Lawful, lawful}
use Rattle.tw_base.proofs.lemmas.format.CodecSizes.{AtMost, at_most-bytes, at_most-name, at_most-number, at_most-pair}
use Rattle.tw_base.proofs.lemmas.format.CodecSizes.{at_most-seen}
use Rattle.tw_base.proofs.lemmas.history.HistoryCodecLaws.{thread-lawful}

pub entry-lawful : Lawful entry_codec
unfolding entry_codec
entry-lawful = search (lawful, thread-lawful) depth 20

thread-most : AtMost thread_codec 56
unfolding thread_codec
thread-most =
    at_most-seen _ _ _ 56 (at_most-pair _ _ 16 40 at_most-name (λ _ _.
    at_most-pair _ _ 8 32 (at_most-number 8 1 LAST_STEP) (λ _ _. at_most-bytes 32)))

pub entry-most : AtMost entry_codec 64
unfolding entry_codec
entry-most = at_most-seen _ _ _ 64 (at_most-pair _ _ 56 8 thread-most (λ _ _. at_most-number 8 1 LAST_STEP))

-- a thread, and a step that may have archived it
pub entry-fits : (e : Entry) → IsThread e.thread → 0 < e.archived → e.archived ≤ LAST_STEP → entry_codec.Fits e
unfolding entry_codec thread_codec seen pair name_codec number_codec bytes_codec
entry-fits e thread low high =
    ((thread.0, ((omega (arith, thread.1), thread.2), (thread.3, thread.4))), (omega (arith, low), high))

-- an entry that has a spelling is within the limits of its steps
pub entry-range : (e : Entry) → entry_codec.Fits e → IsEntryInRange e
unfolding entry_codec thread_codec seen pair number_codec
entry-range e fits = ((omega (arith, fits.0.1.0.0), fits.0.1.0.1), (omega (arith, fits.1.0), fits.1.1))
