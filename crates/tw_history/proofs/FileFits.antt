-- Which histories have a file, part by part, and which numbers their files have.
use Rattle.std.proofs.Common.{ℕ, ◌<◌, ◌≤◌, ◌^◌, List, length, refl, arith}
use Rattle.std.specs.Prelude.{Option, Some, None, true, false}
use Rattle.tw_base.specs.declared.history.content.Content.{Content}
use Rattle.tw_base.specs.declared.history.content.Content.TheVariants.{Events, Received}
use Rattle.tw_base.specs.declared.kinds.limits.TheConstants.{LAST_STEP, MOST_EVENTS, MOST_EVENT_BYTES}
use Rattle.tw_base.specs.declared.history.thread.Thread.{Thread}
use Rattle.tw_base.specs.format.Codecs.{HasBytes, behind, by_kind, bytes_codec, variant, counted, many, name_codec}
use Rattle.tw_base.specs.format.Codecs.{nothing, number_codec, pair, present, seen, sized_codec}
use Rattle.tw_base.specs.history.History.{History, Node, Step}
use Rattle.tw_base.specs.history.HistoryCodec.{content_codec, event_codec, history_codec, node_codec, recorded_codec}
use Rattle.tw_base.specs.history.HistoryCodec.{step_codec, thread_codec}
use Rattle.tw_base.specs.history.Limits.{IsTimeWithinLimits}
use Rattle.tw_base.specs.kinds.Lists.{Each}
use Rattle.tw_base.specs.kinds.Names.{IsName}
use Rattle.tw_base.proofs.lemmas.kinds.ListLemmas.{Each-map}
use Rattle.tw_history.specs.FileRanges.{IsNodeInRange}
use Rattle.tw_history.specs.Tables.{IsInRange}
use Rattle.tw_history.specs.WritingSteps.{has_events}

pub events-fit : (events : List (List ℕ)) → length events ≤ MOST_EVENTS → Each event_codec.Fits events
    → (content_codec true).Fits (Events events)
unfolding content_codec by_kind variant counted many number_codec
events-fit events few fit = (refl, ((omega arith, few), (refl, fit)))

pub thread-fits : (t : Thread) → thread_codec.Fits t → (content_codec false).Fits (Received t)
unfolding content_codec variant
thread-fits t fits = (refl, fits)

pub thread-parts : (t : Thread) → 0 < t.step → t.step ≤ LAST_STEP → IsName t.from → HasBytes 32 t.auth
    → thread_codec.Fits t
unfolding number_codec thread_codec seen pair name_codec bytes_codec
thread-parts t low high from auth = (from, ((low, high), auth))

-- what a step records, with its time
pub recorded-fits : (time : Option ℕ) (c : Content) → IsTimeWithinLimits time → (content_codec (has_events c)).Fits c
    → recorded_codec.Fits (time, c)
unfolding recorded_codec by_kind pair nothing number_codec present
recorded-fits None (Events events) within fits = ((omega arith, omega arith), (refl, fits))
recorded-fits None (Received t) within fits = ((omega arith, omega arith), (refl, fits))
recorded-fits (Some time) (Events events) within fits = ((omega arith, omega arith), ((omega arith, within), fits))
recorded-fits (Some time) (Received t) within fits = ((omega arith, omega arith), ((omega arith, within), fits))

content-range : (c : Content) → (content_codec (has_events c)).Fits c → IsInRange c
unfolding content_codec by_kind variant counted many number_codec sized_codec thread_codec seen pair
content-range (Events events) fits = (
  fits.1.0.1,
  Each-map event_codec.Fits (λ event. length event ≤ MOST_EVENT_BYTES) events (λ event is. is.0.1) fits.1.1.1,
)
content-range (Received t) fits = (fits.1.1.0.0, fits.1.1.0.1)

pub recorded-range : (time : Option ℕ) (c : Content) → recorded_codec.Fits (time, c) → IsInRange c × IsTimeWithinLimits
    time
unfolding recorded_codec by_kind pair nothing number_codec present
recorded-range None (Events events) fits = (content-range (Events events) fits.1.1, tt)
recorded-range None (Received t) fits = (content-range (Received t) fits.1.1, tt)
recorded-range (Some time) (Events events) fits = (content-range (Events events) fits.1.1, fits.1.0.1)
recorded-range (Some time) (Received t) fits = (content-range (Received t) fits.1.1, fits.1.0.1)

pub node-fits : (n : Node) → IsNodeInRange n → node_codec.Fits n
unfolding node_codec seen pair number_codec
node-fits n is =
    ((omega arith, omega (arith, is.0)), ((omega arith, omega (arith, is.1)), (omega arith, omega (arith, is.2))))

pub step-fits : (s : Step) → length s.fresh < 2 ^ 16 → s.root < 2 ^ 32 → recorded_codec.Fits (s.time, s.content)
    → Each node_codec.Fits s.fresh → step_codec.Fits s
unfolding step_codec seen pair counted by_kind many number_codec
step-fits s few root recorded fresh =
    (recorded, (((omega arith, omega (arith, few)), (refl, fresh)), (omega arith, omega (arith, root))))

pub history-fits : (h : History) → length h.steps ≤ LAST_STEP → IsName h.name → Each step_codec.Fits h.steps
    → history_codec.Fits h
unfolding history_codec seen behind pair counted by_kind many number_codec name_codec
history-fits h few name steps = (name, ((omega arith, few), (refl, steps)))
