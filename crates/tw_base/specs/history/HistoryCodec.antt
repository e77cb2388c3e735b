-- The bytes of a history file.
use Rattle.std.specs.Prelude.{ℕ, ◌-◌, ◌^◌, List, [], ◌∷◌, Bool, Option, Some, None, ◌==◌, ◌||◌, nat_le}
use Rattle.tw_base.specs.declared.history.content.Content.{Content}
use Rattle.tw_base.specs.declared.history.content.Content.TheVariants.{Events, Received}
use Rattle.tw_base.specs.declared.kinds.limits.TheConstants.{LAST_STEP, LAST_TIME, MOST_EVENTS, MOST_EVENT_BYTES}
use Rattle.tw_base.specs.declared.history.thread.Thread.{Thread}
use Rattle.tw_base.specs.format.Codecs.{Codec, behind, by_kind, choose, counted, digest_codec, name_codec, number_codec, optional, pair, seen, sized_codec, variant}
use Rattle.tw_base.specs.format.Formats.{Format}
use Rattle.tw_base.specs.history.History.{History, Node, Step}

-- an event behind its length
abbrev pub event_codec : Codec (List ℕ)
event_codec = sized_codec 4 0 MOST_EVENT_BYTES

-- a service, its step, and its authenticator there
unfoldable pub thread_codec : Codec Thread
thread_codec =
    seen (λ t. record { from = t.0; step = t.1.0; auth = t.1.1 }) (λ t. (t.from, (t.step, t.auth)))
    (pair name_codec (λ from. pair (number_codec 8 1 LAST_STEP) (λ step. digest_codec)))

-- a time in seconds
abbrev pub time_codec : Codec ℕ
time_codec = number_codec 8 0 LAST_TIME

abbrev pub events_in : Content → Option (List (List ℕ))
events_in (Events events) = Some events
events_in (Received t) = None

-- the thread that a step received, if it received one
abbrev pub thread_in : Content → Option Thread
thread_in (Events events) = None
thread_in (Received t) = Some t

-- events, their number and each of them; or a thread
unfoldable pub content_codec : (is_events : Bool) → Codec Content
content_codec is_events = choose is_events (variant Events events_in (counted 4 0 MOST_EVENTS event_codec)) (variant Received thread_in thread_codec)

-- 1 for events, 2 for a thread; 3 and 4 for these with a time
abbrev pub kind_of : (time : Option ℕ) → Content → ℕ
kind_of None (Events events) = 1
kind_of None (Received t) = 2
kind_of (Some time) (Events events) = 3
kind_of (Some time) (Received t) = 4

abbrev pub is_timed : (kind : ℕ) → Bool
is_timed kind = nat_le 3 kind

abbrev pub is_of_events : (kind : ℕ) → Bool
is_of_events kind = kind == 1 || kind == 3

-- what a step of this kind has: the time where the kind has one, and the content
abbrev pub of_kind : (kind : ℕ) → Codec (Option ℕ × Content)
of_kind kind = pair (optional (is_timed kind) time_codec) (λ time. content_codec (is_of_events kind))

-- the kind, and what it has
unfoldable pub recorded_codec : Codec (Option ℕ × Content)
recorded_codec = by_kind (λ r. kind_of r.0 r.1) (number_codec 1 1 4) of_kind

unfoldable pub node_codec : Codec Node
node_codec =
    seen (λ t. record { left = t.0; entry = t.1.0; right = t.1.1 }) (λ n. (n.left, (n.entry, n.right)))
    (pair (number_codec 4 0 (2 ^ 32 - 1)) (λ left. pair (number_codec 8 0 (2 ^ 64 - 1)) (λ entry. number_codec 4 0 (2 ^ 32 - 1))))

-- what it records with its time, the number of new nodes and each of them, the root
unfoldable pub step_codec : Codec Step
step_codec =
    seen (λ t. record { content = t.0.1; time = t.0.0; fresh = t.1.0; root = t.1.1 }) (λ s. ((s.time, s.content), (s.fresh, s.root)))
    (pair recorded_codec (λ recorded. pair (counted 2 0 65535 node_codec) (λ fresh. number_codec 4 0 (2 ^ 32 - 1))))

-- the four bytes TWH1
abbrev pub history_magic : List ℕ
history_magic = 0x54 ∷ 0x57 ∷ 0x48 ∷ 0x31 ∷ []

-- the magic, the name, the number of steps and each of them, from step 1 on
unfoldable pub history_codec : Codec History
history_codec =
    seen (λ t. record { name = t.0; steps = t.1 }) (λ h. (h.name, h.steps))
    (behind history_magic (pair name_codec (λ name. counted 8 0 LAST_STEP step_codec)))

-- the layout, and the spelling of a history
abbrev pub history_layout : Format History
history_layout = history_codec.format

abbrev pub history_bytes : History → List ℕ
history_bytes = history_codec.write
