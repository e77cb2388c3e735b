-- The bytes of openings, paths and existence proofs.
use Rattle.std.specs.Prelude.{ℕ, ◌+◌, ◌-◌, ◌^◌, List, [], ◌∷◌, ◌++◌, Bool, Option, Some, None, is_some}
use Rattle.tw_base.specs.declared.kinds.limits.TheConstants.{LAST_STEP, MOST_EVENTS, MOST_EVENT_BYTES}
use Rattle.tw_base.specs.events.AuditPath.{path_length}
use Rattle.tw_base.specs.format.Codecs.{Codec, behind, by_kind, digest_codec, each, flag_codec, labels_codec, name_codec, number_codec, optional, pair, seen, sized_codec, written}
use Rattle.tw_base.specs.format.Fields.{number_bytes}
use Rattle.tw_base.specs.history.HistoryCodec.{time_codec}
use Rattle.tw_base.specs.kinds.Levels.{top_level}
use Rattle.tw_skipproof.specs.declared.opening.Opening.{Opening}
use Rattle.tw_skipproof.specs.declared.path.Link.{Link}
use Rattle.tw_base.specs.declared.events.event_part.EventPart.{EventPart}
use Rattle.tw_skipproof.specs.declared.existence.ExistenceProof.{ExistenceProof}
use Rattle.tw_skipproof.specs.declared.existence.Part.{Part}
use Rattle.tw_skipproof.specs.Paths.{greedy_steps}

-- the count word of an opening and its time: the count of events where it has no time; with a time the count plus 2 ^ 31,
-- and then the time
abbrev pub count_bytes : (count : ℕ) (time : Option ℕ) → List ℕ
count_bytes count None = number_bytes 4 count
count_bytes count (Some time) = number_bytes 4 (count + 2 ^ 31) ++ number_bytes 8 time

-- the count is at least this and at most 1,024, so that the highest bit of the word says whether a time follows
abbrev pub counted_with : (least : ℕ) (timed : Bool) → Codec (ℕ × Option ℕ)
counted_with least timed = pair (number_codec 3 least MOST_EVENTS) (λ count. optional timed time_codec)

abbrev pub flagged_count : (least : ℕ) → Codec (ℕ × Option ℕ)
flagged_count least = by_kind (λ c. is_some c.1) flag_codec (counted_with least)

unfoldable pub count_codec : (least : ℕ) → Codec (ℕ × Option ℕ)
count_codec least = written (λ c. count_bytes c.0 c.1) (flagged_count least)

-- an opening of the step: two digests, the count word and the time, a digest, and the labels of the levels from 1 on
unfoldable pub opening_codec : (least step : ℕ) → Codec Opening
opening_codec least step =
    seen (λ t. record { event_root = t.0; archive_root = t.1.0; count = t.1.1.0.0; time = t.1.1.0.1; prev = t.1.1.1.0; others = t.1.1.1.1 })
    (λ o. (o.event_root, (o.archive_root, ((o.count, o.time), (o.prev, o.others)))))
    (pair digest_codec (λ event_root. pair digest_codec (λ archive_root. pair (count_codec least) (λ count. pair digest_codec (λ prev. labels_codec (top_level step))))))

-- its bytes, which are the same whatever the step
unfoldable pub opening_bytes : Opening → List ℕ
opening_bytes = (opening_codec 0 0).write

-- the record of a link that leaves the step: its datum, and the labels of its other levels
unfoldable pub link_codec : (step : ℕ) → Codec Link
link_codec step = seen (λ t. record { datum = t.0; others = t.1 }) (λ l. (l.datum, l.others)) (pair digest_codec (λ datum. labels_codec (top_level step)))

unfoldable pub link_bytes : Link → List ℕ
link_bytes = (link_codec 0).write

-- a path: one record for each link of the greedy path, from the upper step downwards
unfoldable pub path_codec : (from to : ℕ) → Codec (List Link)
path_codec from to = each link_bytes link_codec (greedy_steps from to)

unfoldable pub path_bytes : List Link → List ℕ
path_bytes = (path_codec 0 0).write

-- a step from 1 on
abbrev pub step_number_codec : Codec ℕ
step_number_codec = number_codec 8 1 LAST_STEP

-- an event under an opening with this count of events: its index, its bytes behind their number, and its audit path
unfoldable pub event_part_codec : (count : ℕ) → Codec EventPart
event_part_codec count =
    seen (λ t. record { index = t.0; event = t.1.0; path = t.1.1 }) (λ e. (e.index, (e.event, e.path)))
    (pair (number_codec 4 0 (count - 1)) (λ index. pair (sized_codec 4 0 MOST_EVENT_BYTES) (λ event. labels_codec (path_length count index))))

-- a step of a service under a later one: service, step, top, the path from top to step, and the opening of the step, which
-- has this many events or more
unfoldable pub part_codec : (least : ℕ) → Codec Part
part_codec least =
    seen (λ t. record { service = t.0; step = t.1.0; top = t.1.1.0; path = record { links = t.1.1.1.0 }; opening = t.1.1.1.1 })
    (λ p. (p.service, (p.step, (p.top, (p.path.links, p.opening)))))
    (pair name_codec (λ service. pair step_number_codec (λ step. pair step_number_codec (λ top. pair (path_codec top step) (λ links. opening_codec least step)))))

-- its bytes, which are the same whatever the least count
unfoldable pub part_bytes : Part → List ℕ
part_bytes = (part_codec 0).write

-- a proof of kind 1 behind its kind: a step with an event or more, and one of its events
unfoldable pub existence_body : Codec ExistenceProof
existence_body =
    seen (λ t. record { at = t.0; event = t.1 }) (λ p. (p.at, p.event)) (pair (part_codec 1) (λ at. event_part_codec at.opening.count))

-- the four bytes TWP1, with which each proof begins, and those with the kind 1
abbrev pub proof_magic : List ℕ
proof_magic = 0x54 ∷ 0x57 ∷ 0x50 ∷ 0x31 ∷ []

abbrev pub existence_magic : List ℕ
existence_magic = proof_magic ++ 1 ∷ []

-- the whole proof: magic and kind, and the rest
unfoldable pub existence_codec : Codec ExistenceProof
existence_codec = behind existence_magic existence_body
