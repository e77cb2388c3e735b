-- The bytes of a thread: which threads have them, and how many there are.
use Rattle.std.proofs.Common.{◌≡◌, ◌++◌, length, arith}
use Rattle.std.proofs.lemmas.List.{length-append}
use Rattle.tw_base.specs.declared.history.thread.Thread.{Thread}
use Rattle.tw_base.specs.format.Codecs.{bytes_codec, name_codec, number_codec, pair, seen}
use Rattle.tw_base.specs.format.Fields.{number_bytes}
use Rattle.tw_base.specs.history.HistoryCodec.{thread_codec}
use Rattle.tw_base.specs.history.Limits.{IsThread}
use Rattle.tw_base.proofs.lemmas.format.NumberLaws.{length-number_bytes}
use Rattle.tw_base.proofs.lemmas.kinds.Naming.{IsName-size}

-- a thread has a spelling exactly where it is within its limits
pub thread-within : (t : Thread) → thread_codec.Fits t → IsThread t
unfolding thread_codec seen pair name_codec number_codec bytes_codec
thread-within t fits = (fits.0, omega (arith, fits.1.0.0), fits.1.0.1, fits.1.1.0, fits.1.1.1)

pub thread-fits : (t : Thread) → IsThread t → thread_codec.Fits t
unfolding thread_codec seen pair name_codec number_codec bytes_codec
thread-fits t is = (is.0, ((omega (arith, is.1), is.2), (is.3, is.4)))

pub thread-size : (t : Thread) → thread_codec.Fits t → length (thread_codec.write t) ≡ 56
unfolding thread_codec seen pair name_codec number_codec bytes_codec
thread-size t fits =
    omega (
      arith,
      IsName-size t.from fits.0,
      length-number_bytes 8 t.step,
      fits.1.1.0,
      length-append t.from (number_bytes 8 t.step ++ t.auth),
      length-append (number_bytes 8 t.step) t.auth,
    )
