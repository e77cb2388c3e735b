-- Rings of texts, each of which holds the digest of the next one; and ways that lead back to where they began.
use Rattle.std.specs.Prelude.{◌≡◌, ◌≢◌, ℕ, ◌≤◌, List, [], ◌∷◌, ◌++◌}
use Rattle.tw_base.specs.declared.history.report.Hop.{Hop}
use Rattle.tw_base.specs.declared.history.thread.Key.{Key}
use Rattle.tw_base.specs.history.Chains.{LeadsBy}
use Rattle.tw_base.specs.history.History.{History}
use Rattle.tw_base.specs.kinds.Clash.{Within}

-- the digest stands somewhere in the text
abbrev pub Holds : (text digest : List ℕ) → Type 0
Holds text digest = (before : List ℕ) × (after : List ℕ) × (text ≡ before ++ (digest ++ after))

module _ (dig : List ℕ → List ℕ) where
  -- the text holds the digest of the first one behind it, each of these that of the next, and the last that of the goal; where none
  -- is behind it, it holds that of the goal itself
  abbrev pub HoldInTurn : (text : List ℕ) (behind : List (List ℕ)) (goal : List ℕ) → Type 0
  HoldInTurn text [] goal = Holds text (dig goal)
  HoldInTurn text (next ∷ behind) goal = Holds text (dig next) × HoldInTurn next behind goal

  -- not empty: each text holds the digest of the next one, and the last that of the first
  abbrev pub IsRing : List (List ℕ) → Type 0
  IsRing [] = ⊥
  IsRing (first ∷ behind) = HoldInTurn first behind first

  -- a ring, each text of which is one of these
  pub record HasRing (texts : List (List ℕ)) : Type 0 where
    pub ring : List (List ℕ)
    pub own : Within ring texts
    pub is : IsRing ring

  -- hops, at least one, lead from a step of a service to that step or an earlier one of the same service
  pub record LeadsBack (family : List History) (hops : List Hop) (start goal : Key) : Type 0 where
    pub some : hops ≢ []
    pub leads : LeadsBy dig family hops start goal
    pub service : goal.from ≡ start.from
    pub order : goal.step ≤ start.step
