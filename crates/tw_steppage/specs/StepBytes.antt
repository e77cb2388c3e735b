-- The bytes of step pages and event pages. Numbers are big-endian, and unused bytes are zero.
use Rattle.std.specs.Prelude.{ℕ, suc, zero, ◌*◌, List, [], ◌∷◌, ◌++◌, length, take, drop, replicate, Bool, Option, Some, None}
use Rattle.std.specs.Int.{to_be_bytes, w16, w32, w64}
use Rattle.tw_base.specs.declared.history.thread.Thread.{Thread}
use Rattle.tw_base.specs.declared.kinds.limits.TheConstants.{LAST_STEP, MOST_EVENTS}
use Rattle.tw_base.specs.format.Codecs.{Codec, behind, by_kind, bytes_codec, choose, digest_codec, many, name_codec, nothing, number_codec, optional, pair, present, seen}
use Rattle.tw_base.specs.format.PageBytes.{padded, page_number_codec}
use Rattle.tw_base.specs.history.HistoryCodec.{is_of_events, is_timed, time_codec}
use Rattle.tw_base.specs.kinds.Levels.{top_level}
use Rattle.tw_steppage.specs.declared.link.StepRef.{StepRef}
use Rattle.tw_steppage.specs.declared.fields.StepFields.{StepFields}
use Rattle.tw_steppage.specs.declared.fields.StreamRef.{StreamRef}
use Rattle.tw_steppage.specs.declared.limits.TheConstants.{MOST_PIECE_BYTES, MOST_STREAM_BYTES}

-- a link: the page and the authenticator of the step that it leads to
unfoldable pub ref_codec : Codec StepRef
ref_codec = seen (λ t. record { page = t.0; auth = t.1 }) (λ l. (l.page, l.auth)) (pair page_number_codec (λ page. digest_codec))

-- the number of a step's links, and the links from level 0 on
unfoldable pub links_codec : (step : ℕ) → Codec (List StepRef)
links_codec step = behind (suc (top_level step) ∷ []) (many (suc (top_level step)) ref_codec)

-- ---- the kinds of step pages

-- 1 for events, 2 for a thread; 3 and 4 for these with a time
abbrev pub kind_by : (time : Option ℕ) → (received : Option Thread) → ℕ
kind_by None None = 1
kind_by None (Some thread) = 2
kind_by (Some time) None = 3
kind_by (Some time) (Some thread) = 4

abbrev pub fields_kind : StepFields → ℕ
fields_kind f = kind_by f.time f.received

-- the stream of a step without events, which has no page
abbrev pub no_stream : StreamRef
no_stream = record { page = 0; size = 0 }

-- of events their number (at most 1,024), the length of their stream and its first page; of a thread 16 zeros
unfoldable pub counts_codec : (is_events : Bool) → Codec (ℕ × StreamRef)
counts_codec is_events =
    choose is_events
    (seen (λ t. (t.0, record { page = t.1.1; size = t.1.0 })) (λ c. (c.0, (c.1.size, c.1.page)))
    (pair (number_codec 4 0 MOST_EVENTS) (λ count. pair (number_codec 4 0 MOST_STREAM_BYTES) (λ size. page_number_codec))))
    (behind (replicate 16 0) (nothing (0, no_stream)))

-- a received thread, of any step that a field has room for
unfoldable pub page_thread_codec : Codec Thread
page_thread_codec =
    seen (λ t. record { from = t.0; step = t.1.0; auth = t.1.1 }) (λ t. (t.from, (t.step, t.auth)))
    (pair name_codec (λ from. pair (number_codec 8 0 LAST_STEP) (λ step. digest_codec)))

-- of events 56 zeros, else the received thread
unfoldable pub received_codec : (is_events : Bool) → Codec (Option Thread)
received_codec is_events = choose is_events (behind (replicate 56 0) (nothing None)) (present page_thread_codec)

-- what a step page of a kind has behind the kind: the counts, the root of the events, the label of the archive and the page of its
-- root, the received thread, the authenticator, the links, and the time where the kind has one
unfoldable pub step_body_codec : (step kind : ℕ) → Codec (StepFields × List StepRef)
step_body_codec step kind =
    seen (λ t. (
      record {
        count = t.0.0;
        stream = t.0.1;
        event_root = t.1.0;
        archive = record { page = t.1.1.1.0; label = t.1.1.0 };
        received = t.1.1.1.1.0;
        auth = t.1.1.1.1.1.0;
        time = t.1.1.1.1.1.1.1;
      },
      t.1.1.1.1.1.1.0,
    ))
    (λ p. ((p.0.count, p.0.stream), (p.0.event_root, (p.0.archive.label, (p.0.archive.page, (p.0.received, (p.0.auth, (p.1, p.0.time))))))))
    (pair (counts_codec (is_of_events kind)) (λ counts. pair digest_codec (λ event_root. pair digest_codec (λ label. pair page_number_codec (λ archive.
    pair (received_codec (is_of_events kind)) (λ received. pair digest_codec (λ auth. pair (links_codec step) (λ links. optional (is_timed kind) time_codec))))))))

-- the kind, and what it has
unfoldable pub field_codec : (step : ℕ) → Codec (StepFields × List StepRef)
field_codec step = by_kind (λ p. fields_kind p.0) (number_codec 1 1 4) (step_body_codec step)

-- a step page: 1, the step, its kind, and what the kind has
unfoldable pub paged_codec : (step : ℕ) → Codec (StepFields × List StepRef)
paged_codec step = behind (1 ∷ []) (behind (to_be_bytes w64 step) (field_codec step))

abbrev pub step_page_bytes : (step : ℕ) → StepFields → List StepRef → List ℕ
step_page_bytes step fields links = padded ((paged_codec step).write (fields, links))

-- each event behind its length
abbrev pub stream : List (List ℕ) → List ℕ
stream [] = []
stream (event ∷ events) = to_be_bytes w32 (length event) ++ (event ++ stream events)

-- what the event page of this number, from 0, has of a stream
abbrev pub piece : List ℕ → ℕ → List ℕ
piece bytes number = take MOST_PIECE_BYTES (drop (MOST_PIECE_BYTES * number) bytes)

-- an event page: 2, the step, the number within the step, and so many bytes of the stream
unfoldable pub piece_codec : (step number count : ℕ) → Codec (List ℕ)
piece_codec step number count = behind (2 ∷ []) (behind (to_be_bytes w64 step) (behind (to_be_bytes w16 number) (bytes_codec count)))

unfoldable pub event_page_bytes : (step number : ℕ) → List ℕ → List ℕ
event_page_bytes step number bytes = padded ((piece_codec step number (length bytes)).write bytes)

-- the event pages of the numbers below this count
unfoldable pub event_pages : (step : ℕ) → List ℕ → (count : ℕ) → List (List ℕ)
event_pages step bytes zero = []
event_pages step bytes (suc number) = event_pages step bytes number ++ event_page_bytes step number (piece bytes number) ∷ []
