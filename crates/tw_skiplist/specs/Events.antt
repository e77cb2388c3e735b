-- Reading the events of a step from its event pages.
use Rattle.std.specs.Prelude.{ℕ, suc, zero, ◌+◌, ◌-◌, ◌*◌, ◌/◌, ◌&&◌, min, List, [], ◌++◌, length, nat_le, nat_lt, sum_by, Bool, if◌then◌else◌}
use Rattle.tw_base.specs.format.Codecs.{Codec, many, sized_codec}
use Rattle.tw_base.specs.declared.kinds.limits.TheConstants.{MOST_EVENTS, MOST_EVENT_BYTES, MOST_STEP_BYTES}
use Rattle.tw_base.specs.declared.kinds.limits.TheConstants.{PAGE_SIZE}
use Rattle.tw_disk.specs.Image.{Image}
use Rattle.tw_skiplist.specs.declared.info.EventsAt.{EventsAt}
use Rattle.tw_skiplist.specs.declared.info.StepInfo.{StepInfo}
use Rattle.tw_steppage.specs.declared.limits.TheConstants.{MOST_PIECE_BYTES, MOST_STREAM_BYTES}
use Rattle.tw_disk.specs.Found.{Found, when, ◌>>=◌, bytes_in, spelled}
use Rattle.tw_disk.specs.Found.Found.{Is, Bad}
use Rattle.tw_steppage.specs.StepBytes.{piece_codec}

-- how many event pages a stream of this size has
abbrev pub piece_count : (size : ℕ) → ℕ
piece_count size = (size + (MOST_PIECE_BYTES - 1)) / MOST_PIECE_BYTES

-- how many bytes of it the event page of this number has
abbrev pub piece_size : (size number : ℕ) → ℕ
piece_size size number = min (size - MOST_PIECE_BYTES * number) MOST_PIECE_BYTES

module _ (pages : Image) (at : EventsAt) where
  -- the piece of the step's stream that the event page of this number has; the event pages follow one another
  abbrev pub piece_in : (number : ℕ) → Found (List ℕ)
  piece_in number =
      bytes_in pages (at.stream.page + number)
      >>= spelled (at.stream.page + number) PAGE_SIZE (piece_codec at.step number (piece_size at.stream.size number))

  -- the same behind what is before it
  abbrev pub piece_behind : (number : ℕ) → (before : List ℕ) → Found (List ℕ)
  piece_behind number before = piece_in number >>= (λ piece. Is (before ++ piece))

  -- the pieces of so many pages from this one on, behind what is before them
  unfoldable pub pieces_from : (more number : ℕ) → (before : List ℕ) → Found (List ℕ)
  pieces_from zero number before = Is before
  pieces_from (suc more) number before = piece_behind number before >>= pieces_from more (suc number)

  -- all pieces of the stream
  abbrev pub stream_in : Found (List ℕ)
  stream_in = pieces_from (piece_count at.stream.size) 0 []

-- the page that is read last: the step's own where its stream has no bytes
abbrev pub last_event_page : EventsAt → (pieces : ℕ) → ℕ
last_event_page at zero = at.page
last_event_page at (suc number) = at.stream.page + number

-- each event behind its length, which takes four bytes
abbrev pub event_stream_codec : (count : ℕ) → Codec (List (List ℕ))
event_stream_codec count = many count (sized_codec 4 0 MOST_EVENT_BYTES)

-- within the limits of a step
abbrev pub may_be_recorded : List (List ℕ) → Bool
may_be_recorded events = nat_le (length events) MOST_EVENTS && nat_le (sum_by (λ event. length event) events) MOST_STEP_BYTES

-- the events that a stream spells, so many; where it spells none, this page is bad
unfoldable pub events_on : (page count : ℕ) → (stream : List ℕ) → Found (List (List ℕ))
events_on page count stream = spelled page 0 (event_stream_codec count) stream >>= (λ events. when (may_be_recorded events) page events)

-- The events of a step, from its event pages. The step's page is bad where a longer stream is told than any step's, as none from a page
-- is, and the page that is read last where the stream spells no such events.
unfoldable pub events_from : Image → EventsAt → Found (List (List ℕ))
events_from pages at =
    if nat_lt MOST_STREAM_BYTES at.stream.size then Bad at.page
    else (stream_in pages at >>= events_on (last_event_page at (piece_count at.stream.size)) at.count)

-- where an info tells that the step's events stand
abbrev pub events_told : StepInfo → EventsAt
events_told info = record { step = info.step; page = info.page; count = info.count; stream = info.stream }

abbrev pub events_of_info : Image → StepInfo → Found (List (List ℕ))
events_of_info pages info = events_from pages (events_told info)
