-- The event pages of a step that the pages keep.
use Rattle.std.proofs.Common.{◌≡◌, ℕ, suc, zero, ◌+◌, ◌-◌, ◌*◌, ◌<◌, ◌≤◌, List, [], ◌∷◌, ◌++◌, length, take, drop, refl}
use Rattle.std.proofs.Common.{ap, sym, ◌∙◌, arith, length-take, length-drop, Bool}
use Rattle.std.specs.Prelude.{if◌then◌else◌}
use Rattle.std.specs.Int.{to_be_bytes, w32}
use Rattle.std.proofs.lemmas.Bool.{le-ltb}
use Rattle.std.proofs.lemmas.List.{take_all}
use Rattle.tw_base.specs.kinds.Bytes.{AreBytes}
use Rattle.tw_base.specs.history.History.{History, events_at}
use Rattle.tw_base.specs.history.Limits.{MayRecord}
use Rattle.tw_base.specs.kinds.Lists.{Each}
use Rattle.tw_base.proofs.lemmas.kinds.ByteLemmas.{AreBytes-append, AreBytes-drop, AreBytes-take}
use Rattle.tw_disk.specs.Image.{Image, page_at}
use Rattle.tw_skiplist.specs.declared.info.EventsAt.{EventsAt}
use Rattle.tw_skiplist.specs.declared.info.StepInfo.{StepInfo}
use Rattle.tw_steppage.specs.declared.limits.TheConstants.{MOST_PIECE_BYTES, MOST_STREAM_BYTES}
use Rattle.tw_skiplist.specs.Events.{events_from, events_of_info, events_on, events_told, last_event_page, piece_count}
use Rattle.tw_skiplist.specs.Events.{piece_in, piece_size, pieces_from, stream_in}
use Rattle.tw_disk.specs.Found.{Found, ◌>>=◌, spelled}
use Rattle.tw_disk.specs.Found.Found.{Is, Bad}
use Rattle.tw_skiplist.specs.Infos.{IsInfoOf}
use Rattle.tw_skiplist.specs.Keeping.{KeepsStream, Place}
use Rattle.tw_steppage.specs.StepBytes.{event_page_bytes, piece, piece_codec, stream}
use Rattle.tw_skiplist.proofs.EventWords.{found-events}
use Rattle.tw_disk.proofs.FoundLaws.{is_on, bytes_in-within}
use Rattle.tw_disk.proofs.SpelledLaws.{page-is}
use Rattle.tw_skiplist.proofs.Growing.{has_bytes}
use Rattle.tw_skiplist.proofs.PieceCounts.{count_all, count_needed}
use Rattle.tw_skiplist.proofs.Spelling.{take_on}
use Rattle.tw_skiplist.proofs.Streams.{length-stream}
use Rattle.tw_steppage.proofs.EventPages.{event_page_of, piece-lawful}

stream_bytes : (events : List (List ℕ)) → Each AreBytes events → AreBytes (stream events)
stream_bytes [] all = tt
stream_bytes (e ∷ es) all = AreBytes-append (to_be_bytes w32 (length e)) (e ++ stream es) (length_bytes (length e))
    (AreBytes-append e (stream es) all.0 (stream_bytes es all.1))
  where
    length_bytes : (n : ℕ) → AreBytes (to_be_bytes w32 n)
    length_bytes n = (omega arith, (omega arith, (omega arith, (omega arith, tt))))

-- the pages keep the events of step i of the history where this tells that they stand
pub record KeepsEvents (ps : Image) (h : History) (i : ℕ) (at : EventsAt) : Type 0 where
  pub step : at.step ≡ i
  pub count : at.count ≡ length (events_at h i)
  pub limits : MayRecord (events_at h i)
  pub page_below : at.page < 4 + length ps
  pub stream_size : at.stream.size ≡ length (stream (events_at h i))
  pub stream : KeepsStream ps i at.stream.page at.page (stream (events_at h i))

module _ (ps : Image) (h : History) (i : ℕ) (at : EventsAt) (is : KeepsEvents ps h i at) where
  abbrev bytes_of : List ℕ
  bytes_of = stream (events_at h i)

  abbrev first : ℕ
  first = at.stream.page

  abbrev size : ℕ
  size = at.stream.size

  -- an event page of the step
  piece_at : (number : ℕ) → MOST_PIECE_BYTES * number < size → piece_in ps at number ≡ Is (piece bytes_of number)
  piece_at number l =
      let less : MOST_PIECE_BYTES * number < length bytes_of = omega (arith, l, is.stream_size) in
      let low = is.stream.low (has_bytes number _ less) in
      let under = is.stream.below number less in
      let own = length-take MOST_PIECE_BYTES (drop (MOST_PIECE_BYTES * number) bytes_of) in
      let rest = length-drop (MOST_PIECE_BYTES * number) bytes_of in
      let all = is.stream_size in
      ap (λ (b : Found (List ℕ)). b >>= spelled (first + number) 4096 (piece_codec at.step number
      (piece_size size number))) (bytes_in-within ps (first + number) (omega (arith, low))
      (omega (arith, under, is.page_below)))
      ∙ page-is (first + number) (piece_codec at.step number (piece_size size number))
      (piece-lawful at.step number (piece_size size number)) (page_at ps (first + number - 4)) (piece bytes_of number)
      (event_page_of at.step number (piece_size size number) (page_at ps (first + number - 4)) (piece bytes_of number)
      (is.stream.pieces number less ∙ ap (λ (k : ℕ). event_page_bytes k number (piece bytes_of number)) (sym is.step)) (
        own ∙ omega (arith, rest, all),
        AreBytes-take MOST_PIECE_BYTES (drop (MOST_PIECE_BYTES * number) bytes_of)
            (AreBytes-drop (MOST_PIECE_BYTES * number) bytes_of (stream_bytes (events_at h i) is.limits.are.bytes)),
      ))

  pieces_are : (more number : ℕ) → number + more ≤ piece_count size
      → pieces_from ps at more number (take (MOST_PIECE_BYTES * number) bytes_of) ≡ Is
      (take (MOST_PIECE_BYTES * (number + more)) bytes_of)
  unfolding pieces_from
  pieces_are zero number l = ap (λ (n : ℕ). Is (take (MOST_PIECE_BYTES * n) bytes_of)) (let e : number ≡ number + 0 =
      omega arith in e)
  pieces_are (suc more) number l =
      let so_far : List ℕ = take (MOST_PIECE_BYTES * number) bytes_of in
      let next : Found (List ℕ) → Found (List ℕ) = λ found. found >>= pieces_from ps at more (suc number) in
      ap next (is_on (piece_in ps at number) (λ p. Is (so_far ++ p)) (piece bytes_of number)
      (piece_at number (count_needed size number (omega (arith, l)))))
      ∙ ap (pieces_from ps at more (suc number)) (
      take_on (MOST_PIECE_BYTES * number) MOST_PIECE_BYTES bytes_of
      ∙ ap (λ (n : ℕ). take n bytes_of) (let e : MOST_PIECE_BYTES * number + MOST_PIECE_BYTES ≡ MOST_PIECE_BYTES * suc
      number = omega arith in e))
      ∙ pieces_are more (suc number) (omega (arith, l))
      ∙ ap (λ (n : ℕ). Is (take (MOST_PIECE_BYTES * n) bytes_of)) (let e : suc number + more ≡ number + suc more =
      omega arith in e)

  -- the events that are found are the history's
  pub events_kept : events_from ps at ≡ Is (events_at h i)
  unfolding events_from
  events_kept =
      let count : ℕ = piece_count size in
      let all = count_all size in
      let long : length bytes_of ≤ MOST_PIECE_BYTES * count = omega (arith, all, is.stream_size) in
      let few : size ≤ MOST_STREAM_BYTES =
      omega (arith, is.stream_size, length-stream (events_at h i), is.limits.are.count, is.limits.fit) in
      let read : Found (List (List ℕ)) = stream_in ps at >>= events_on (last_event_page at count) at.count in
      let all_pieces : stream_in ps at ≡ Is bytes_of =
      pieces_are count 0 (omega arith) ∙ ap (λ (n : ℕ). Is (take (MOST_PIECE_BYTES * n) bytes_of))
      (let e : 0 + count ≡ count = omega arith in e)
      ∙ ap (λ (b : List ℕ). Is b) (take_all (MOST_PIECE_BYTES * count) bytes_of long) in
      ap (λ (b : Bool). if b then Bad at.page else read) (le-ltb MOST_STREAM_BYTES size few)
      ∙ is_on (stream_in ps at) (events_on (last_event_page at count) at.count) bytes_of all_pieces
      ∙ found-events bytes_of at.count (events_at h i)
      (record { stream_is = refl; count_is = sym is.count; limits = is.limits }) (last_event_page at count)

-- so where an info tells it
pub events_are : (dig : List ℕ → List ℕ) (ps : Image) (h : History) (places : List Place) (i : ℕ) (info : StepInfo)
    → IsInfoOf dig ps h places i info → events_of_info ps info ≡ Is (events_at h i)
events_are dig ps h places i info is =
    events_kept ps h i (events_told info)
    (record {
      step = is.step;
      count = is.count;
      limits = is.limits;
      page_below = is.page_below;
      stream_size = is.stream_size;
      stream = is.stream;
    })
