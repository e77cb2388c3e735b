-- Openings and events that come in pieces, by the parts that are waited for.
use Rattle.std.specs.Prelude.{ℕ, ◌-◌, ◌<◌, List, length, Option}
use Rattle.tw_base.specs.declared.kinds.limits.TheConstants.{MOST_EVENT_BYTES}
use Rattle.tw_base.specs.events.AuditPath.{path_length}
use Rattle.tw_base.specs.format.Codecs.{Codec, bytes_codec, digest_codec, labels_codec, number_codec, pair}
use Rattle.tw_base.specs.format.Formats.{Format}
use Rattle.tw_pieces.specs.Resuming.{StaysFront}
use Rattle.tw_skipproof.specs.Codecs.{count_codec}

-- the event root, the archive root, and the count of events with the time
abbrev pub Roots : Type 0
Roots = List ℕ × (List ℕ × (ℕ × Option ℕ))

-- an opening up to its time; behind it stands what a link has, a digest and the labels of the step
unfoldable pub roots_codec : (least : ℕ) → Codec Roots
roots_codec least = pair digest_codec (λ event_root. pair digest_codec (λ archive_root. count_codec least))

-- the index and the size of an event
unfoldable pub sizes_codec : (count : ℕ) → Codec (ℕ × ℕ)
sizes_codec count = pair (number_codec 4 0 (count - 1)) (λ index. number_codec 4 0 MOST_EVENT_BYTES)

-- the event and its path, behind them
unfoldable pub sized_body_codec : (count : ℕ) → ℕ × ℕ → Codec (List ℕ × List (List ℕ))
sized_body_codec count s = pair (bytes_codec s.1) (λ event. labels_codec (path_length count s.0))

module _ {X : Type 0} where
  -- while they are fewer than so many, the bytes are a front, with any bytes behind
  abbrev pub StaysUntil : Format X → (held : List ℕ) (until : ℕ) → Type 0
  StaysUntil f held until = length held < until → StaysFront f held until
