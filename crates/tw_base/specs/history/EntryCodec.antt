-- The bytes of an archive's entry.
use Rattle.tw_base.specs.declared.kinds.limits.TheConstants.{LAST_STEP}
use Rattle.tw_base.specs.declared.history.thread.Entry.{Entry}
use Rattle.tw_base.specs.format.Codecs.{Codec, number_codec, pair, seen}
use Rattle.tw_base.specs.history.HistoryCodec.{thread_codec}

-- an entry, 64 bytes: a service, one of its steps from 1 on, its authenticator there, and the step from 1 on that archived it
unfoldable pub entry_codec : Codec Entry
entry_codec =
    seen (λ t. record { thread = t.0; archived = t.1 }) (λ e. (e.thread, e.archived))
    (pair thread_codec (λ thread. number_codec 8 1 LAST_STEP))
