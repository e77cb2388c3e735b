-- Services that play histories of a schedule.
use Rattle.std.specs.Prelude.{◌≡◌, ℕ, List, false}
use Rattle.std.specs.Str.{bytes_eq}
use Rattle.tw_base.specs.history.History.{History}
use Rattle.tw_disk.specs.Disk.{DiskView}
use Rattle.tw_service.specs.Serves.{Serves, has_failed}
use Rattle.tw_service.specs.declared.service.Service.{Service}
use Rattle.tw_generate.specs.Schedules.{Hears, LeadTo, ScheduledAct, Trio, alpha_name, beta_name, gamma_name, last_heard}
use Rattle.tw_generate.specs.declared.services.Services.{Services}

-- a history that has heard of another service up to this step goes on from one that has heard the same of all others
pub record HasHeard (from before after : History) (last : ℕ) : Type 0 where
  pub name : after.name ≡ before.name
  pub last_is : last ≡ last_heard after from.name
  pub others : (n : List ℕ) → bytes_eq from.name n ≡ false → last_heard after n ≡ last_heard before n

module _ {D H : Type 0} {g : _} {k : _} (dig : List ℕ → List ℕ) (view : D → DiskView) where
  -- the service serves the history, and no call on it has met a disk fault
  abbrev pub PlaysHistory : Service D H g k → History → Type 0
  PlaysHistory service h = Serves dig view service h × (has_failed service ≡ false)

  -- the last step of the one history was told to the service that played the other one, which has heard of it up to this step
  pub record HasTold (a b : History) (to : Service D H g k) (last : ℕ) : Type 0 where
    pub heard : History
    pub hears : Hears dig a b heard
    pub receiver : PlaysHistory to heard
    pub has_heard : HasHeard a b heard last

-- what a history has heard of two other services, up to these steps
pub record HasHeardOf (own one other : List ℕ) (h : History) (of_one of_other : ℕ) : Type 0 where
  pub name : h.name ≡ own
  pub one_is : of_one ≡ last_heard h one
  pub other_is : of_other ≡ last_heard h other

module _ {D H : Type 0} {g : _} {k : _} (dig : List ℕ → List ℕ) (view : D → DiskView) where
  -- the services play the histories, and what they have heard of one another is told beside them
  pub record ArePlaying (services : Services D H g k) (t : Trio) : Type 0 where
    pub alpha : PlaysHistory dig view services.alpha t.alpha
    pub beta : PlaysHistory dig view services.beta t.beta
    pub gamma : PlaysHistory dig view services.gamma t.gamma
    pub alpha_heard : HasHeardOf alpha_name beta_name gamma_name t.alpha services.heard.alpha_of_beta services.heard.alpha_of_gamma
    pub beta_heard : HasHeardOf beta_name alpha_name gamma_name t.beta services.heard.beta_of_alpha services.heard.beta_of_gamma
    pub gamma_heard : HasHeardOf gamma_name alpha_name beta_name t.gamma services.heard.gamma_of_alpha services.heard.gamma_of_beta

  -- whatever histories the services played, they now play some to which the acts lead
  abbrev pub LeadsByActs : List ScheduledAct → (old new : Services D H g k) → Type 0
  LeadsByActs acts old new = (t : Trio) → ArePlaying old t → (end : Trio) × LeadTo dig acts t end × ArePlaying new end

  -- the services play the histories
  abbrev pub AllPlay : Services D H g k → Trio → Type 0
  AllPlay services t = PlaysHistory dig view services.alpha t.alpha × PlaysHistory dig view services.beta t.beta × PlaysHistory dig view services.gamma t.gamma
