-- What a claim says of the histories of several services.
use Rattle.std.specs.Prelude.{◌≡◌, ◌≢◌, ℕ, ◌-◌, ◌≤◌, List, [], slice_get, Some, IfSome}
use Rattle.tw_base.specs.declared.history.report.Claim.{Claim}
use Rattle.tw_base.specs.declared.history.report.Claim.TheVariants.{Exists, Precedes, Archived, Absent, Linked}
use Rattle.tw_base.specs.declared.history.report.Hop.{Hop}
use Rattle.tw_base.specs.declared.history.report.Seen.{Seen}
use Rattle.tw_base.specs.declared.history.thread.Entry.{Entry}
use Rattle.tw_base.specs.declared.history.thread.Key.{Key}
use Rattle.tw_base.specs.history.Chains.{LeadsBy}
use Rattle.tw_base.specs.history.Entries.{key_of}
use Rattle.tw_base.specs.history.Family.{HasHistory, HasThread}
use Rattle.tw_base.specs.history.History.{History, entry_at, events_at, received, time_at}
use Rattle.tw_base.specs.kinds.Lists.{Each}

-- the event stands at its place in the history of its service, and its step has the time that is claimed, and none where none is
pub record SeenStands (family : List History) (seen : Seen) : Type 0 where
  pub history : History
  pub has : HasHistory family seen.place.service history
  pub stands : slice_get (events_at history seen.place.step) seen.place.index ≡ Some seen.event
  pub time : time_at history seen.place.step ≡ seen.time

-- the entry's thread was received at its archived step of the service's history, which is at most this step
pub record WasReceived (family : List History) (service : List ℕ) (step : ℕ) (entry : Entry) : Type 0 where
  pub history : History
  pub has : HasHistory family service history
  pub received : entry_at history entry.archived ≡ Some entry
  pub order : entry.archived ≤ step

-- no step of the service's history up to this one received a thread of this key
pub record WasNotReceived (family : List History) (service : List ℕ) (step : ℕ) (key : Key) : Type 0 where
  pub history : History
  pub has : HasHistory family service history
  pub none : Each (λ entry. key_of entry ≢ key) (received history step)

-- both events stand, and the hops lead from the first one's step to the step before the second one's
pub record Precedence (dig : List ℕ → List ℕ) (family : List History) (hops : List Hop) (first second : Seen) : Type 0 where
  pub first_stands : SeenStands family first
  pub second_stands : SeenStands family second
  pub leads : LeadsBy dig family hops (record { from = first.place.service; step = first.place.step })
      (record { from = second.place.service; step = second.place.step - 1 })

-- what a claim says of the family, with the hops that are told beside it, which lead from event to event; the top of a link
-- says nothing by itself
abbrev pub Facts : (List ℕ → List ℕ) → List History → List Hop → Claim → Type 0
Facts dig family hops (Exists seen) = SeenStands family seen
Facts dig family hops (Precedes first second) = Precedence dig family hops first second
Facts dig family hops (Archived service step entry) = WasReceived family service step entry
Facts dig family hops (Absent service step key) = WasNotReceived family service step key
Facts dig family hops (Linked service step top auth) = HasThread dig family (record { from = service; step = step; auth = auth })

-- where an event precedes another without hops, and the steps of both have a time, the first one's isn't above the second one's
abbrev pub TimesRise : List Hop → Claim → Type 0
TimesRise [] (Precedes first second) = IfSome first.time (λ earlier. IfSome second.time (λ later. earlier ≤ later))
TimesRise _ _ = Unit {0}
