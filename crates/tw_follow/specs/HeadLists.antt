-- Lists of heads: those of one service, oldest first.
use Rattle.std.specs.Prelude.{◌≡◌, ℕ, ◌<◌, ◌≤◌, List, [], ◌∷◌, ◌++◌, length}
use Rattle.tw_base.specs.declared.history.thread.Thread.{Thread}
use Rattle.tw_base.specs.history.Auth.{auth}
use Rattle.tw_base.specs.history.History.{History}
use Rattle.tw_base.specs.kinds.Lists.{Each}
use Rattle.tw_base.specs.kinds.Names.{IsName}
use Rattle.tw_base.specs.kinds.Texts.{genesis_text}

-- the heads that a follower of this name keeps
pub record Kept : Type 0 where
  pub name : List ℕ
  pub heads : List Thread

-- none yet
abbrev pub no_heads : (name : List ℕ) → Kept
no_heads name = record { name = name; heads = [] }

-- one more, behind the others
abbrev pub with_head : Kept → Thread → Kept
with_head kept head = record { name = kept.name; heads = kept.heads ++ head ∷ [] }

-- the steps rise, and are above this one
abbrev pub RiseAbove : (step : ℕ) → List Thread → Type 0
RiseAbove step [] = Unit {0}
RiseAbove step (head ∷ heads) = (step < head.step) × RiseAbove head.step heads

-- all are threads of the name, with steps from 1 on that rise
pub record AreHeadsRising (kept : Kept) : Type 0 where
  pub named : Each (λ head. head.from ≡ kept.name) kept.heads
  pub rise : RiseAbove 0 kept.heads

-- the last one of these; this thread, where there is none
abbrev pub last_from : Thread → List Thread → Thread
last_from thread [] = thread
last_from thread (head ∷ heads) = last_from head heads

-- The heads of a record with this last one: threads of its service, which has a name, with steps from 1 on that rise, of which it is the
-- last; and none where it is of step 0.
pub record RiseTo (head : Thread) (heads : List Thread) : Type 0 where
  pub name : IsName head.from
  pub rising : AreHeadsRising (record { name = head.from; heads = heads })
  pub none : head.step ≡ 0 → heads ≡ []
  pub last : 0 < head.step → (before : Thread) → last_from before heads ≡ head

module _ (dig : List ℕ → List ℕ) where
  -- step 0 of the name, with its authenticator
  abbrev pub first_thread : (name : List ℕ) → Thread
  first_thread name = record { from = name; step = 0; auth = dig (genesis_text name) }

  -- the last head, and step 0 before the first one
  abbrev pub last_head : Kept → Thread
  last_head kept = last_from (first_thread kept.name) kept.heads

  -- the history has this authenticator at this step
  pub record HasHead (h : History) (head : Thread) : Type 0 where
    pub within : head.step ≤ length h.steps
    pub has : auth dig h head.step ≡ head.auth
