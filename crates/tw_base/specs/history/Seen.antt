-- The codecs of threads, entries and contents, with those that they are made of.
use Rattle.tw_base.specs.format.Seen.{choices, fields, records}
use Rattle.tw_base.specs.history.EntryCodec.{entry_codec}
use Rattle.tw_base.specs.history.HistoryCodec.{content_codec, thread_codec}

unfoldable pub threads : Unit {0}
unfolding fields records thread_codec
threads = tt

unfoldable pub entries_seen : Unit {0}
unfolding entry_codec threads
entries_seen = tt

unfoldable pub contents : Unit {0}
unfolding choices content_codec records thread_codec
contents = tt
