-- What a pass over a history keeps of it: its authenticators at the steps asked for.
use Rattle.std.specs.Prelude.{◌≡◌, ℕ, ◌≤◌, List, Option, Some, None, ◌==◌, find, nat_le, if◌then◌else◌}
use Rattle.std.specs.Option.{option_map}
use Rattle.tw_base.specs.history.Auth.{auth}
use Rattle.tw_base.specs.history.History.{History}
use Rattle.tw_base.specs.kinds.Lists.{Each, In}
use Rattle.tw_history.specs.declared.stops.Stop.{Stop}

-- the authenticator that was kept at this step
abbrev pub stopped_at : List Stop → (step : ℕ) → Option (List ℕ)
stopped_at stops step = option_map (λ (s : Stop). s.auth) (find (λ (s : Stop). s.step == step) stops)

-- one was kept at this step
abbrev pub HasStop : List Stop → (step : ℕ) → Type 0
HasStop stops step = (s : Stop) × In s stops × (s.step ≡ step)

module _ (dig : List ℕ → List ℕ) (h : History) where
  -- the history's authenticator of this step, where that isn't behind the last
  abbrev pub auth_to : (last step : ℕ) → Option (List ℕ)
  auth_to last step = if nat_le step last then Some (auth dig h step) else None

  -- of a history that was passed up to this step: each that was kept is the history's, and one was kept for each step asked for
  pub record HasStops (asked : List ℕ) (stops : List Stop) (upto : ℕ) : Type 0 where
    pub own : Each (λ (s : Stop). (s.step ≤ upto) × (s.auth ≡ auth dig h s.step)) stops
    pub all : Each (λ step. step ≤ upto → HasStop stops step) asked
