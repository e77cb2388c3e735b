-- What stands before the steps of a history's file, what a step of a table is written as, and how many bytes it has.
use Rattle.std.specs.Prelude.{ℕ, ◌+◌, ◌*◌, ◌-◌, ◌^◌, List, length, Bool, true, false}
use Rattle.tw_base.specs.format.Codecs.{Codec, behind, name_codec, number_codec, pair}
use Rattle.tw_base.specs.history.HistoryCodec.{history_magic, recorded_codec}
use Rattle.tw_base.specs.declared.history.content.Content.{Content}
use Rattle.tw_base.specs.declared.history.content.Content.TheVariants.{Events, Received}
use Rattle.tw_history.specs.declared.step.Step.{Step}

-- the magic, the name, and the number of the steps
unfoldable pub front_codec : Codec (List ℕ × ℕ)
front_codec = behind history_magic (pair name_codec (λ name. number_codec 8 0 (256 ^ 8 - 1)))

-- whether a step records events, and not a thread
abbrev pub has_events : Content → Bool
has_events (Events events) = true
has_events (Received t) = false

-- the number of bytes of a step of a table: what it records, its nodes, and their number and the root
abbrev pub step_size : Step → ℕ
step_size s = length (recorded_codec.write (s.time, s.content)) + 16 * s.fresh + 6
