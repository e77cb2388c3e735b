-- What a step of a history is, in pages that keep it.
use Rattle.std.specs.Prelude.{◌≡◌, ℕ, ◌+◌, ◌-◌, ◌<◌, ◌≤◌, List, length, IfSome}
use Rattle.tw_disk.specs.declared.limits.TheConstants.{FIRST_PAGE}
use Rattle.tw_disk.specs.Image.{Image}
use Rattle.tw_base.specs.declared.kinds.limits.TheConstants.{LAST_STEP, MOST_EVENTS}
use Rattle.tw_base.specs.events.EventTree.{event_root}
use Rattle.tw_base.specs.history.History.{History, events_at, step_at, thread_of, time_at}
use Rattle.tw_base.specs.history.Auth.{auth}
use Rattle.tw_skipproof.specs.HistoryProofs.{IsOpeningOf}
use Rattle.tw_skiplist.specs.declared.info.StepInfo.{StepInfo}
use Rattle.tw_base.specs.history.Limits.{IsTimeWithinLimits, MayRecord}
use Rattle.tw_steppage.specs.StepBytes.{stream}
use Rattle.tw_skiplist.specs.Keeping.{KeepsStream, Place, archive_at, link_to, place_of_step}

-- the info is of this step; and over any pages it has at most 1,024 events, and a time and a thread's step of at most 2^40 - 1
abbrev pub IsInfoTold : (step : ℕ) → StepInfo → Type 0
IsInfoTold step info = (info.step ≡ step) × (info.count ≤ MOST_EVENTS) × IsTimeWithinLimits info.time × IfSome info.received (λ t. t.step ≤ LAST_STEP)

-- the info is of this step of the history, which is kept at these places, and the pages keep the step's events where it says
pub record IsInfoOf (dig : List ℕ → List ℕ) (pages : Image) (h : History) (places : List Place) (i : ℕ) (info : StepInfo) : Type 0 where
  pub step : info.step ≡ i
  pub short : i ≤ LAST_STEP
  pub event_root : info.event_root ≡ event_root dig (events_at h i)
  pub count : info.count ≡ length (events_at h i)
  pub time : info.time ≡ time_at h i
  pub archive : info.archive ≡ archive_at dig h places i
  pub received : info.received ≡ thread_of (step_at h i)
  pub auth : info.auth ≡ auth dig h i
  pub opening : IsOpeningOf dig h i info.opening
  pub limits : MayRecord (events_at h i)
  pub page : info.page ≡ (place_of_step places i).page
  pub before : info.before ≡ link_to dig h places (i - 1)
  pub page_below : info.page < FIRST_PAGE + length pages
  pub stream_size : info.stream.size ≡ length (stream (events_at h i))
  pub stream : KeepsStream pages i info.stream.page info.page (stream (events_at h i))
