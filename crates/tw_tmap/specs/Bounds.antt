-- Between which steps of a peer a step of a service lies.
use Rattle.std.specs.Prelude.{◌≡◌, ℕ, ◌-◌, ◌≤◌, List, [], ◌∷◌, length, Option, ◌&&◌, nat_le, max, find, if◌then◌else◌}
use Rattle.std.specs.Option.{option_map}
use Rattle.std.specs.Str.{bytes_eq}
use Rattle.tw_base.specs.declared.history.thread.Entry.{Entry}
use Rattle.tw_base.specs.history.Family.{HasHistory}
use Rattle.tw_base.specs.history.History.{History, received}

-- the greatest step among the threads of this service, 0 where there is none
abbrev pub greatest_step : (from : List ℕ) → List Entry → ℕ
greatest_step from [] = 0
greatest_step from (e ∷ es) = if bytes_eq e.thread.from from then max e.thread.step (greatest_step from es) else greatest_step from es

-- low: the greatest step of the peer in threads that the service received before the step; 0 where there is none
abbrev pub low_bound : History → (step : ℕ) → (peer : List ℕ) → ℕ
low_bound own step peer = greatest_step peer (received own (step - 1))

-- the first of the entries that is of this service and of this step or a later one
abbrev pub first_from : (from : List ℕ) (step : ℕ) → List Entry → Option Entry
first_from from step es = find (λ e. bytes_eq e.thread.from from && nat_le step e.thread.step) es

-- high: the least step of the peer up to this one that received a thread of the service of the step or of a later one, if any did;
-- entries stand in the order of the steps that received them
abbrev pub high_bound : (other : History) → (service : List ℕ) (step upto : ℕ) → Option ℕ
high_bound other service step upto = option_map (λ (e : Entry). e.archived) (first_from service step (received other upto))

-- the service has the step, the peer has a step of this number, and the bounds are those of their histories
pub record IsBetweenSteps (family : List History) (service : List ℕ) (step : ℕ) (peer : List ℕ) (low : ℕ) (high : Option ℕ) (upto : ℕ) : Type 0 where
  pub own : History
  pub has_own : HasHistory family service own
  pub within : step ≤ length own.steps
  pub other : History
  pub has_other : HasHistory family peer other
  pub upto_within : upto ≤ length other.steps
  pub low_is : low ≡ low_bound own step peer
  pub high_is : high ≡ high_bound other service step upto
