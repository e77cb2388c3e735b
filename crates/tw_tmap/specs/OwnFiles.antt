-- The map files that histories have, and that they are accepted together.
use Rattle.std.specs.Prelude.{◌≡◌, ℕ, ◌-◌, ◌<◌, ◌≤◌, List, length, Some, MatchOption}
use Rattle.tw_base.specs.declared.history.thread.Thread.{Thread}
use Rattle.tw_base.specs.history.Anchors.{anchor_of}
use Rattle.tw_base.specs.history.Auth.{auth}
use Rattle.tw_base.specs.history.History.{History}
use Rattle.tw_base.specs.history.Sound.{IsSound}
use Rattle.tw_base.specs.history.Tree.{tree}
use Rattle.tw_base.specs.history.TreeProofs.{proof_of}
use Rattle.tw_skipproof.specs.HistoryProofs.{IsOpeningOf, IsPartOfHistory}
use Rattle.tw_tmap.specs.declared.map_file.HighFile.{HighFile}
use Rattle.tw_tmap.specs.declared.map_file.LowFile.{LowFile}
use Rattle.tw_tmap.specs.declared.map_verdict.MapVerdict.TheVariants.{Yes}
use Rattle.tw_tmap.specs.Bounds.{high_bound, low_bound}
use Rattle.tw_tmap.specs.Checking.{high_ask, low_ask, low_file_part, map_verdict}

module _ (dig : List ℕ → List ℕ) where
  -- the low file that a history has of a step and a peer, under a top: from step 2 on its part of the step before, and its tree's own
  -- proof
  pub record IsOwnLow (h : History) (step : ℕ) (peer : List ℕ) (top : ℕ) (f : LowFile) : Type 0 where
    pub service : f.service ≡ h.name
    pub at_step : f.step ≡ step
    pub of_peer : f.peer ≡ peer
    pub at_top : f.top ≡ top
    pub shown :
        MatchOption f.shown (step ≡ 1)
        (λ p. (1 < step) × IsPartOfHistory dig h (step - 1) top (low_file_part f p) × (p.shown ≡ proof_of dig (tree h (step - 1)) (low_ask f)))

  -- the high file that a history has of a top, and of a step of the service
  pub record IsOwnHigh (h : History) (top : ℕ) (service : List ℕ) (step : ℕ) (f : HighFile) : Type 0 where
    pub of_peer : f.service ≡ h.name
    pub at_top : f.top ≡ top
    pub of_service : f.peer ≡ service
    pub at_step : f.step ≡ step
    pub opening : IsOpeningOf dig h top f.opening
    pub shown : f.shown ≡ proof_of dig (tree h top) (high_ask f)

  -- the anchor that is held of the history's step has its authenticator
  abbrev pub IsAnchoredAt : List Thread → History → (top : ℕ) → Type 0
  IsAnchoredAt anchors h top = (anchor : Thread) × (anchor_of anchors h.name top ≡ Some anchor) × (anchor.auth ≡ auth dig h top)

  -- a service's low file and its peer's high file for one step are accepted together wherever the anchors of their tops are held, and tell
  -- the bounds of their histories
  abbrev pub OwnAreAccepted : Type 0
  OwnAreAccepted =
      (own other : History) (step top upto : ℕ) (low : LowFile) (high : HighFile) (anchors : List Thread) → IsSound own → IsSound other
      → 0 < step → step ≤ top → top ≤ length own.steps → 0 < upto → upto ≤ length other.steps
      → IsOwnLow own step other.name top low → IsOwnHigh other upto own.name step high → IsAnchoredAt anchors own top → IsAnchoredAt anchors other upto
      → map_verdict dig anchors low high ≡ Yes (low_bound own step other.name) (high_bound other own.name step upto) upto
