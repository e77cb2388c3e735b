-- Ways from one service's step to another's, by threads that were archived in between.
use Rattle.std.specs.Prelude.{◌≡◌, ℕ, ◌≤◌, List, [], ◌∷◌, length, Some}
use Rattle.tw_base.specs.declared.history.report.Hop.{Hop}
use Rattle.tw_base.specs.declared.history.thread.Key.{Key}
use Rattle.tw_base.specs.history.Auth.{auth}
use Rattle.tw_base.specs.history.Family.{HasHistory}
use Rattle.tw_base.specs.history.History.{History, entry_at}

module _ (dig : List ℕ → List ℕ) (family : List History) where
  -- the hop's archived step, of the history of the service that archived, received the thread of the other service at the
  -- hop's step: the authenticator that the other history has there
  pub record HopStands (hop : Hop) : Type 0 where
    pub source : History
    pub has_source : HasHistory family hop.from source
    pub within : hop.step ≤ length source.steps
    pub archive : History
    pub has_archive : HasHistory family hop.by archive
    pub received : entry_at archive hop.archived ≡ Some (record {
      thread = record { from = hop.from; step = hop.step; auth = auth dig source hop.step };
      archived = hop.archived;
    })

  -- the hops lead from the start to the goal: each hop stands, and begins at the service that the way has come to, at a step
  -- no lower; where no hop is left, the way has come to the goal's service, at a step at most the goal's
  abbrev pub LeadsBy : List Hop → (start goal : Key) → Type 0
  LeadsBy [] start goal = (start.from ≡ goal.from) × (start.step ≤ goal.step)
  LeadsBy (hop ∷ hops) start goal =
      (hop.from ≡ start.from) × (start.step ≤ hop.step) × HopStands hop
      × LeadsBy hops (record { from = hop.by; step = hop.archived }) goal
