-- Steps of the proofs that a step's stream is read from its event pages, and its events where it spells some.
use Rattle.std.specs.Prelude.{◌≡◌, ℕ, ◌+◌, ◌≤◌, List, ◌++◌, length, nat_lt, take, drop, if◌then◌else◌}
use Rattle.std.specs.Int.{to_be_bytes, w32}
use Rattle.tw_base.specs.declared.kinds.limits.TheConstants.{MOST_EVENT_BYTES}
use Rattle.tw_base.specs.history.Limits.{MayRecord}
use Rattle.tw_disk.specs.Found.{Found, ◌>>=◌}
use Rattle.tw_disk.specs.Found.Found.{Is, Bad}
use Rattle.tw_disk.specs.Image.{Image}
use Rattle.tw_skiplist.specs.declared.info.EventsAt.{EventsAt}
use Rattle.tw_skiplist.specs.Events.{events_on, last_event_page, piece_count, pieces_from}
use Rattle.tw_steppage.specs.declared.limits.TheConstants.{MOST_STREAM_BYTES}
use Rattle.tw_steppage.specs.StepBytes.{stream}

-- whether a stream spells so many events; where it spells none, this page is bad
unfoldable pub tested : (page count : ℕ) → (bytes : List ℕ) → Found (Unit {0})
tested page count bytes = events_on page count bytes >>= (λ events. Is tt)

-- the pieces of a step's stream behind what is before them, where it spells its events
unfoldable pub copied : Image → EventsAt → (before : List ℕ) → Found (List ℕ)
copied pages at before =
    if nat_lt MOST_STREAM_BYTES at.stream.size then Bad at.page
    else (pieces_from pages at (piece_count at.stream.size) 0 before
    >>= (λ now. tested (last_event_page at (piece_count at.stream.size)) at.count (drop (length before) now) >>= (λ _. Is now)))

-- the events are spelled by the bytes, as many as the count, within the limits of a step
pub record SpellsEvents (bytes : List ℕ) (count : ℕ) (events : List (List ℕ)) : Type 0 where
  pub stream_is : stream events ≡ bytes
  pub count_is : length events ≡ count
  pub limits : MayRecord events

-- an event of this size, at most that of an event, stands at the place behind its length
pub record HasEventAt (bytes : List ℕ) (at size : ℕ) : Type 0 where
  pub few : size ≤ MOST_EVENT_BYTES
  pub room : at + 4 + size ≤ length bytes
  pub length_is : take 4 (drop at bytes) ≡ to_be_bytes w32 size

abbrev pub IsNoEventAt : (bytes : List ℕ) → (at : ℕ) → Type 0
IsNoEventAt bytes at = (event rest : List ℕ) → drop at bytes ≡ to_be_bytes w32 (length event) ++ (event ++ rest) → length event ≤ MOST_EVENT_BYTES → ⊥
