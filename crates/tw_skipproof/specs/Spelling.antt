-- Which openings, links, events and parts of proofs have a spelling.
use Rattle.std.specs.Prelude.{◌≡◌, ℕ, ◌<◌, ◌≤◌, List, length}
use Rattle.tw_base.specs.declared.kinds.limits.TheConstants.{MOST_EVENTS, MOST_EVENT_BYTES}
use Rattle.tw_base.specs.events.AuditPath.{path_length}
use Rattle.tw_base.specs.kinds.Levels.{top_level}
use Rattle.tw_base.specs.history.Limits.{IsTimeWithinLimits}
use Rattle.tw_skipproof.specs.declared.opening.Opening.{Opening}
use Rattle.tw_skipproof.specs.declared.path.Link.{Link}
use Rattle.tw_base.specs.declared.events.event_part.EventPart.{EventPart}
use Rattle.tw_skipproof.specs.declared.existence.Part.{Part}
use Rattle.tw_skipproof.specs.Codecs.{event_part_codec, link_codec, opening_codec, part_codec, path_codec}
use Rattle.tw_skipproof.specs.Existence.{IsPartInRange, IsPartShaped}
use Rattle.tw_skipproof.specs.Paths.{HasShape}

-- it fits wherever its labels are those of the step, and its count and its time are in the range
abbrev pub FitsAsOpening : Opening → Type 0
FitsAsOpening o =
    (least step : ℕ) → length o.others ≡ top_level step → least ≤ o.count → o.count ≤ MOST_EVENTS → IsTimeWithinLimits o.time → (opening_codec least step).Fits o

abbrev pub FitsAsLink : Link → Type 0
FitsAsLink link = (step : ℕ) → length link.others ≡ top_level step → (link_codec step).Fits link

abbrev pub FitsAsEvent : EventPart → Type 0
FitsAsEvent e =
    (count : ℕ) → e.index < count → length e.event ≤ MOST_EVENT_BYTES → length e.path ≡ path_length count e.index → (event_part_codec count).Fits e

abbrev pub FitsAsPath : List Link → Type 0
FitsAsPath links = (from to : ℕ) → HasShape links from to → (path_codec from to).Fits links

abbrev pub FitsAsPart : Part → Type 0
FitsAsPart p = (least : ℕ) → least ≤ p.opening.count → IsPartInRange p → IsPartShaped p → (part_codec least).Fits p
