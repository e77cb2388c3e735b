-- What a step may record: the limits of events, of a received thread and of a time; and the limits of the steps of an entry.
use Rattle.std.specs.Prelude.{◌≡◌, ℕ, ◌<◌, ◌≤◌, List, length, sum_by, Option, IfSome}
use Rattle.tw_base.specs.declared.history.content.Content.{Content}
use Rattle.tw_base.specs.declared.history.content.Content.TheVariants.{Events, Received}
use Rattle.tw_base.specs.declared.kinds.limits.TheConstants.{LAST_STEP, LAST_TIME, MOST_EVENTS, MOST_EVENT_BYTES, MOST_STEP_BYTES}
use Rattle.tw_base.specs.declared.history.thread.Entry.{Entry}
use Rattle.tw_base.specs.declared.history.thread.Thread.{Thread}
use Rattle.tw_base.specs.declared.history.tree_proof.Ancestor.{Ancestor}
use Rattle.tw_base.specs.kinds.Bytes.{AreBytes}
use Rattle.tw_base.specs.kinds.Lists.{Each}
use Rattle.tw_base.specs.kinds.Names.{IsName}

-- a recorded step of a service, with an authenticator there
abbrev pub IsThread : Thread → Type 0
IsThread t = IsName t.from × (0 < t.step) × (t.step ≤ LAST_STEP) × (length t.auth ≡ 32) × AreBytes t.auth

-- at most 1,024 events, each of at most 1,024 bytes
pub record AreEvents (events : List (List ℕ)) : Type 0 where
  pub count : length events ≤ MOST_EVENTS
  pub sizes : Each (λ event. length event ≤ MOST_EVENT_BYTES) events
  pub bytes : Each AreBytes events

-- the events have together at most 65,536 bytes
abbrev pub FitTogether : List (List ℕ) → Type 0
FitTogether events = sum_by (λ event. length event) events ≤ MOST_STEP_BYTES

-- a step may record these events
pub record MayRecord (events : List (List ℕ)) : Type 0 where
  pub are : AreEvents events
  pub fit : FitTogether events

-- the limits of a step's content
abbrev pub IsWithinLimits : Content → Type 0
IsWithinLimits (Events events) = AreEvents events
IsWithinLimits (Received t) = IsThread t

-- the limit of a step's time, where it has one
abbrev pub IsTimeWithinLimits : Option ℕ → Type 0
IsTimeWithinLimits time = IfSome time (λ t. t ≤ LAST_TIME)

-- a step from 1 on that a service may have
abbrev pub IsStep : ℕ → Type 0
IsStep step = (0 < step) × (step ≤ LAST_STEP)

-- the step of the entry's thread, and the one that archived it, are such steps
abbrev pub IsEntryInRange : Entry → Type 0
IsEntryInRange e = IsStep e.thread.step × IsStep e.archived

-- so are those of the entry of a node above an asked place
abbrev pub IsAncestorInRange : Ancestor → Type 0
IsAncestorInRange a = IsEntryInRange a.entry
