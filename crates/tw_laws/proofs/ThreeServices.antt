-- The members of a world that has the three services.
use Rattle.std.proofs.Common.{◌≡◌, ℕ, List, [], ◌∷◌, ap, ◌∙◌}
use Rattle.std.specs.Prelude.{Option, Some, false, if◌then◌else◌}
use Rattle.std.specs.Str.{bytes_eq}
use Rattle.tw_base.specs.history.History.{History}
use Rattle.tw_base.specs.kinds.Lists.{Each}
use Rattle.tw_generate.specs.Schedules.{Trio, Who, alpha_name, beta_name, gamma_name, trio_history, with_history}
use Rattle.tw_generate.specs.Schedules.Who.{Alpha, Beta, Gamma}
use Rattle.tw_generate.specs.Summing.{trio_family}
use Rattle.tw_world.specs.Worlds.{Member, member_of, put_member}
use Rattle.tw_laws.specs.ScheduledLines.{who_name}

-- for each of them, the places of the lines that made its steps
pub record Births : Type 0 where
  pub alpha : List ℕ
  pub beta : List ℕ
  pub gamma : List ℕ

abbrev pub births_of : Who → Births → List ℕ
births_of Alpha b = b.alpha
births_of Beta b = b.beta
births_of Gamma b = b.gamma

abbrev pub with_births : Who → List ℕ → Births → Births
with_births Alpha births b = record b { alpha = births }
with_births Beta births b = record b { beta = births }
with_births Gamma births b = record b { gamma = births }

-- no crash waits for it
abbrev pub serving : History → (births : List ℕ) → Member
serving h births = record { history = h; births = births; waits = false }

abbrev pub one_of : Who → Trio → Births → Member
one_of who t b = serving (trio_history who t) (births_of who b)

abbrev pub members_of : Trio → Births → List Member
members_of t b = one_of Alpha t b ∷ one_of Beta t b ∷ one_of Gamma t b ∷ []

pub record AreNamed (t : Trio) : Type 0 where
  pub alpha : t.alpha.name ≡ alpha_name
  pub beta : t.beta.name ≡ beta_name
  pub gamma : t.gamma.name ≡ gamma_name

pub named : (who : Who) (t : Trio) → AreNamed t → (trio_history who t).name ≡ who_name who
named Alpha t names = names.alpha
named Beta t names = names.beta
named Gamma t names = names.gamma

pub names-put : (who : Who) (t : Trio) (h : History) → h.name ≡ who_name who → AreNamed t
    → AreNamed (with_history who h t)
names-put Alpha t h is names = record { alpha = is; beta = names.beta; gamma = names.gamma }
names-put Beta t h is names = record { alpha = names.alpha; beta = is; gamma = names.gamma }
names-put Gamma t h is names = record { alpha = names.alpha; beta = names.beta; gamma = is }

pub each-who : (P : History → Type 0) (who : Who) (t : Trio) → Each P (trio_family t) → P (trio_history who t)
each-who P Alpha t all = all.0
each-who P Beta t all = all.1.0
each-who P Gamma t all = all.1.1.0

-- each is found by its name
module _ (t : Trio) (b : Births) (names : AreNamed t) where
  abbrev finds : (m : Member) (rest : List Member) (name own : List ℕ) → Option Member
  finds m rest name own = if bytes_eq own name then Some m else member_of rest name

  pub found : (who : Who) → member_of (members_of t b) (who_name who) ≡ Some (one_of who t b)
  found Alpha = ap (finds (one_of Alpha t b) (one_of Beta t b ∷ one_of Gamma t b ∷ []) alpha_name) names.alpha
  found Beta =
      ap (finds (one_of Alpha t b) (one_of Beta t b ∷ one_of Gamma t b ∷ []) beta_name) names.alpha
      ∙ ap (finds (one_of Beta t b) (one_of Gamma t b ∷ []) beta_name) names.beta
  found Gamma =
      ap (finds (one_of Alpha t b) (one_of Beta t b ∷ one_of Gamma t b ∷ []) gamma_name) names.alpha
      ∙ ap (finds (one_of Beta t b) (one_of Gamma t b ∷ []) gamma_name) names.beta
      ∙ ap (finds (one_of Gamma t b) [] gamma_name) names.gamma

  -- and goes on with a history of its name
  module _ (h : History) (births : List ℕ) where
    abbrev puts : (m : Member) (rest : List Member) (one other : List ℕ) → List Member
    puts m rest one other = if bytes_eq one other then serving h births ∷ rest else m ∷ put_member rest
        (serving h births)

    put-first : (m : Member) (rest : List Member) (one other : List ℕ) → m.history.name ≡ one → h.name ≡ other
        → put_member (m ∷ rest) (serving h births) ≡ puts m rest one other
    put-first m rest one other is own = ap (λ n. puts m rest n h.name) is ∙ ap (puts m rest one) own

    pub put : (who : Who) → h.name ≡ who_name who → put_member (members_of t b) (serving h births) ≡ members_of
        (with_history who h t) (with_births who births b)
    put Alpha own = put-first (one_of Alpha t b) (one_of Beta t b ∷ one_of Gamma t b ∷ []) alpha_name alpha_name
        names.alpha own
    put Beta own =
        put-first (one_of Alpha t b) (one_of Beta t b ∷ one_of Gamma t b ∷ []) alpha_name beta_name names.alpha own
        ∙ ap (λ (ms : List Member). one_of Alpha t b ∷ ms) (put-first (one_of Beta t b) (one_of Gamma t b ∷ [])
        beta_name beta_name names.beta own)
    put Gamma own =
        put-first (one_of Alpha t b) (one_of Beta t b ∷ one_of Gamma t b ∷ []) alpha_name gamma_name names.alpha own
        ∙ ap (λ (ms : List Member). one_of Alpha t b ∷ ms) (put-first (one_of Beta t b) (one_of Gamma t b ∷ [])
        beta_name gamma_name names.beta own)
        ∙ ap (λ (ms : List Member). one_of Alpha t b ∷ one_of Beta t b ∷ ms) (put-first (one_of Gamma t b) [] gamma_name
        gamma_name names.gamma own)
