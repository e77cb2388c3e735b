-- In which order a world recorded its steps.
use Rattle.std.specs.Prelude.{◌≡◌, ◌≢◌, ℕ, ◌<◌, ◌≤◌, List, [], ◌++◌, length, Option, Some, IsSome, IfSome}
use Rattle.tw_base.specs.declared.history.report.Claim.{Claim}
use Rattle.tw_base.specs.declared.history.report.Claim.TheVariants.{Precedes}
use Rattle.tw_base.specs.declared.history.report.Hop.{Hop}
use Rattle.tw_base.specs.declared.history.thread.Entry.{Entry}
use Rattle.tw_base.specs.declared.history.thread.Key.{Key}
use Rattle.tw_base.specs.declared.history.thread.Place.{Place}
use Rattle.tw_base.specs.declared.history.thread.Thread.{Thread}
use Rattle.tw_base.specs.history.Chains.{LeadsBy}
use Rattle.tw_base.specs.history.Family.{HasHistory, HasThread, family_texts, history_of}
use Rattle.tw_base.specs.history.History.{History, entry_at}
use Rattle.tw_base.specs.kinds.Clash.{OrClash}
use Rattle.tw_base.specs.kinds.Lists.{Each}
use Rattle.tw_chain.specs.Accepting.{claim_of, hops_of, named, proof_texts}
use Rattle.tw_chain.specs.Passing.{anchor_at}
use Rattle.tw_chain.specs.declared.proof.Proof.{Proof}
use Rattle.tw_world.specs.Worlds.{World, born, family}

-- both steps were made, the one before the other
abbrev pub IsEarlier : (one other : Option ℕ) → Type 0
IsEarlier one other = (a : ℕ) × (b : ℕ) × (one ≡ Some a) × (other ≡ Some b) × (a < b)

-- the step of an event's place
abbrev pub place_key : Place → Key
place_key place = record { from = place.service; step = place.step }

module _ (w : World) where
  -- of two steps of a service the one of the lower number was made first
  abbrev pub BirthsRise : Type 0
  BirthsRise =
      (h : History) (i j : ℕ) → HasHistory (family w) h.name h → 1 ≤ i → i < j → j ≤ length h.steps
      → IsEarlier (born w (record { from = h.name; step = i })) (born w (record { from = h.name; step = j }))

  -- each service whose thread a hop of the proof shows is one here
  abbrev pub ServicesAreThere : Proof → Type 0
  ServicesAreThere p = Each (λ (hop : Hop). IsSome (history_of (family w) hop.from)) (hops_of p)

  -- of a claim that an event precedes another: the first was recorded before the second
  abbrev pub IsRecordedInOrder : Claim → Type 0
  IsRecordedInOrder (Precedes first second) = IsEarlier (born w (place_key first.place)) (born w (place_key second.place))
  IsRecordedInOrder _ = ⊥

module _ (dig : List ℕ → List ℕ) where
  -- each thread that one of the histories received of another of them is that one's own
  abbrev pub HasOwnThreads : List History → Type 0
  HasOwnThreads fam =
      (h g : History) (step : ℕ) (e : Entry) → HasHistory fam h.name h → entry_at h step ≡ Some e → HasHistory fam e.thread.from g → HasThread dig fam e.thread

  module _ (w : World) where
    -- each thread that a service received of a service has that service's present authenticator at that step
    abbrev pub ReceivedIsPresent : Type 0
    ReceivedIsPresent = HasOwnThreads (family w)

    -- where hops, at least one, lead from a step of a service to a step of a service, the first was made before the second
    abbrev pub LeadsLater : Type 0
    LeadsLater =
        (hops : List Hop) (start goal : Key) (h : History) → hops ≢ [] → LeadsBy dig (family w) hops start goal → 1 ≤ start.step
        → HasHistory (family w) goal.from h → goal.step ≤ length h.steps → IsEarlier (born w start) (born w goal)

    -- each anchor that is held of those that the proof needs is the present authenticator of a service
    abbrev pub AnchorsArePresent : (anchors : List Thread) → Proof → Type 0
    AnchorsArePresent anchors p = Each (λ (key : Key). IfSome (anchor_at anchors key) (HasThread dig (family w))) (named p)

    -- where the anchors that a proof with hops needs are present authenticators of services, and the services that it shows threads of are
    -- services here, what it claims was recorded in this order, or texts of the services' histories and of the proof clash
    abbrev pub ShowsOrder : (anchors : List Thread) → Proof → Type 0
    ShowsOrder anchors p =
        hops_of p ≢ [] → AnchorsArePresent anchors p → ServicesAreThere w p
        → OrClash dig (family_texts dig (family w) ++ proof_texts dig p) (IsRecordedInOrder w (claim_of p))
