-- Streams that are copied, without taking their events apart.
use Rattle.std.proofs.Common.{◌≡◌, ℕ, suc, zero, ◌+◌, ◌<◌, ◌≤◌, List, [], ◌∷◌, ◌++◌, length, take, drop, Bool, true}
use Rattle.std.proofs.Common.{false, refl, ap, sym, ◌∙◌, arith, append_assoc, append-nil}
use Rattle.std.specs.Prelude.{None, nat_lt, if◌then◌else◌}
use Rattle.tw_base.specs.declared.history.content.Content.TheVariants.{Events}
use Rattle.tw_base.specs.format.Codecs.{by_kind, counted, number_codec, variant}
use Rattle.tw_base.specs.format.Fields.{number_bytes}
use Rattle.tw_base.specs.history.HistoryCodec.{content_codec}
use Rattle.tw_disk.specs.Found.{Found, ◌>>=◌}
use Rattle.tw_disk.specs.Found.Found.{Is, Bad}
use Rattle.tw_disk.specs.Image.{Image}
use Rattle.tw_steppage.specs.StepBytes.{stream}
use Rattle.tw_steppage.specs.declared.limits.TheConstants.{MOST_STREAM_BYTES}
use Rattle.tw_skiplist.specs.declared.info.EventsAt.{EventsAt}
use Rattle.tw_skiplist.specs.declared.step_records.StepRecord.{StepRecord}
use Rattle.tw_skiplist.specs.Events.{event_stream_codec, events_from, events_on, last_event_page, piece_count, piece_in}
use Rattle.tw_skiplist.specs.Events.{pieces_from, stream_in}
use Rattle.tw_skiplist.specs.ScanSteps.{HasEventAt, SpellsEvents, copied, tested}
use Rattle.tw_skiplist.specs.StepRecords.{content_by, content_of, events_of_record}
use Rattle.tw_skiplist.proofs.EventWords.{found-events, found-none, found-spells, written}
use Rattle.tw_skiplist.proofs.Spelling.{AllShort, more_sizes, more_taken}
use Rattle.tw_skiplist.proofs.Streams.{length-stream}

-- ---- while a stream is tested

-- the bytes before a place spell so many events
pub record SpellsFront (bytes : List ℕ) (at index : ℕ) : Type 0 where
  pub events : List (List ℕ)
  pub so_far : stream events ≡ take at bytes
  pub within : at ≤ length bytes
  pub count : length events ≡ index
  pub sizes : AllShort events

pub no-front : (bytes : List ℕ) → SpellsFront bytes 0 0
no-front bytes = record { events = []; so_far = refl; within = omega arith; count = refl; sizes = tt }

length-push : (es : List (List ℕ)) (e : List ℕ) → length (es ++ e ∷ []) ≡ length es + 1
length-push [] e = refl
length-push (x ∷ es) e = let rest = length-push es e in omega (arith, rest)

pub front-more : (bytes : List ℕ) (at size index : ℕ) (front : SpellsFront bytes at index) → HasEventAt bytes at size
    → SpellsFront bytes (at + (4 + size)) (index + 1)
front-more bytes at size index front has =
    let event : List ℕ = take size (drop (at + 4) bytes) in
    record {
      events = front.events ++ event ∷ [];
      so_far = more_taken bytes at size front.events event front.so_far has refl;
      within = omega (arith, has.room);
      count = omega (arith, length-push front.events event, front.count);
      sizes = more_sizes bytes at size front.events event front.so_far has refl front.sizes;
    }

-- the test was passed
abbrev passed : List (List ℕ) → Found (Unit {0})
passed events = Is tt

module _ (bytes : List ℕ) (count : ℕ) where
  pub tested-events : (events : List (List ℕ)) → SpellsEvents bytes count events → (page : ℕ) → tested page count bytes
      ≡ Is tt
  unfolding tested
  tested-events events s page = ap (λ (f : Found (List (List ℕ))). f >>= passed)
      (found-events bytes count events s page)

  pub tested-none : ((events : List (List ℕ)) → SpellsEvents bytes count events → ⊥) → (page : ℕ)
      → tested page count bytes ≡ Bad page
  unfolding tested
  tested-none none page = ap (λ (f : Found (List (List ℕ))). f >>= passed) (found-none bytes count none page)

-- ---- pieces behind what is before them

pieces-behind : (ps : Image) (at : EventsAt) (more number : ℕ) (before bytes : List ℕ) → pieces_from ps at more number
    (before ++ bytes) ≡ (pieces_from ps at more number bytes >>= (λ s. Is (before ++ s)))
unfolding pieces_from
pieces-behind ps at zero number before bytes = refl
pieces-behind ps at (suc more) number before bytes = by (λ bs. pieces-behind ps at more (suc number) before bs)
    (piece_in ps at number)
  where
    by : ((bs : List ℕ) → pieces_from ps at more (suc number) (before ++ bs) ≡ (pieces_from ps at more (suc number) bs
        >>= (λ s. Is (before ++ s)))) → (f : Found (List ℕ))
        → ((f >>= (λ piece. Is ((before ++ bytes) ++ piece))) >>= pieces_from ps at more (suc number))
        ≡ (((f >>= (λ piece. Is (bytes ++ piece))) >>= pieces_from ps at more (suc number)) >>= (λ s. Is (before ++ s)))
    by rest (Bad page) = refl
    by rest (Is piece) = ap (pieces_from ps at more (suc number)) (append_assoc before bytes piece)
        ∙ rest (bytes ++ piece)

drop-front : (xs ys : List ℕ) → drop (length xs) (xs ++ ys) ≡ ys
drop-front [] ys = refl
drop-front (x ∷ xs) ys = drop-front xs ys

module _ (ps : Image) (at : EventsAt) (before : List ℕ) (F : List (List ℕ) → List ℕ) (same : (events : List (List ℕ))
    → length events ≡ at.count → before ++ stream events ≡ F events) where
  abbrev last : ℕ
  last = last_event_page at (piece_count at.stream.size)

  of-events : (bytes : List ℕ) (f : Found (List (List ℕ))) → events_on last at.count bytes ≡ f
      → ((f >>= passed) >>= (λ _. Is (before ++ bytes))) ≡ (f >>= (λ es. Is (F es)))
  of-events bytes (Bad page) e = refl
  of-events bytes (Is events) e =
      let spells = found-spells bytes at.count events last e in
      ap (λ (t : List ℕ). Is (before ++ t)) (sym spells.0) ∙ ap (λ (t : List ℕ). Is t) (same events spells.1)

  of-stream : (f : Found (List ℕ))
      → ((f >>= (λ s. Is (before ++ s))) >>= (λ now. tested last at.count (drop (length before) now) >>= (λ _. Is now)))
      ≡ ((f >>= events_on last at.count) >>= (λ es. Is (F es)))
  unfolding tested
  of-stream (Bad page) = refl
  of-stream (Is bytes) =
      ap (λ (t : List ℕ). (events_on last at.count t >>= passed) >>= (λ _. Is (before ++ bytes)))
      (drop-front before bytes) ∙ of-events bytes (events_on last at.count bytes) refl

  -- what is copied is made of the events that are found
  pub copied-by : copied ps at before ≡ (events_from ps at >>= (λ events. Is (F events)))
  unfolding copied events_from
  copied-by = by (nat_lt MOST_STREAM_BYTES at.stream.size)
    where
      behind : pieces_from ps at (piece_count at.stream.size) 0 before ≡ (stream_in ps at >>= (λ s. Is (before ++ s)))
      behind = ap (pieces_from ps at (piece_count at.stream.size) 0) (sym (append-nil before)) ∙ pieces-behind ps at
          (piece_count at.stream.size) 0 before []

      by : (b : Bool)
          → (if b then Bad at.page
          else (pieces_from ps at (piece_count at.stream.size) 0 before
          >>= (λ now. tested last at.count (drop (length before) now) >>= (λ _. Is now))))
          ≡ ((if b then Bad at.page else (stream_in ps at >>= events_on last at.count)) >>= (λ events. Is (F events)))
      by true = refl
      by false = ap (λ (f : Found (List ℕ)). f >>= (λ now. tested last at.count (drop (length before) now)
          >>= (λ _. Is now))) behind ∙ of-stream (stream_in ps at)

-- ---- a step's events

content-text : (before : List ℕ) (events : List (List ℕ)) (count : ℕ) → length events ≡ count
    → (before ++ number_bytes 4 count) ++ stream events ≡ before ++ (content_codec true).write (Events events)
unfolding content_codec variant counted by_kind number_codec
content-text before events count is =
    append_assoc before (number_bytes 4 count) (stream events)
    ∙ ap (λ (t : List ℕ). before ++ (number_bytes 4 count ++ t)) (sym (written (length events) events))
    ∙ ap (λ (n : ℕ). before ++ (number_bytes 4 n ++ (event_stream_codec (length events)).write events)) (sym is)

pub content-copied : (ps : Image) (r : StepRecord) (before : List ℕ) → r.fields.received ≡ None
    → copied ps (events_of_record r) (before ++ number_bytes 4 r.fields.count)
    ≡ (content_of ps r >>= (λ c. Is (before ++ (content_codec true).write c)))
unfolding content_of
content-copied ps r before none =
    copied-by ps (events_of_record r) (before ++ number_bytes 4 r.fields.count)
    (λ events. before ++ (content_codec true).write (Events events)) (λ events is. content-text before events
    r.fields.count is)
    ∙ by (events_from ps (events_of_record r))
    ∙ ap (λ (t : _). content_by ps r t >>= (λ c. Is (before ++ (content_codec true).write c))) (sym none)
  where
    by : (f : Found (List (List ℕ))) → (f >>= (λ events. Is (before ++ (content_codec true).write (Events events))))
        ≡ ((f >>= (λ events. Is (Events events))) >>= (λ c. Is (before ++ (content_codec true).write c)))
    by (Bad page) = refl
    by (Is events) = refl

-- where events are counted and the stream has no bytes, none are spelled
pub none-counted : (ps : Image) (at : EventsAt) → at.stream.size ≡ 0 → 0 < at.count → events_from ps at ≡ Bad at.page
unfolding events_from pieces_from
none-counted ps at empty some =
    ap (λ (size : ℕ). if nat_lt MOST_STREAM_BYTES size then Bad at.page else (pieces_from ps at (piece_count size) 0 []
    >>= events_on (last_event_page at (piece_count size)) at.count)) empty
    ∙ found-none [] at.count (λ events spells.
    let size = length-stream events in
    let none : length (stream events) ≡ 0 = ap (λ (t : List ℕ). length t) spells.stream_is in
    let count = spells.count_is in
    omega (arith, size, none, count, some)) at.page
