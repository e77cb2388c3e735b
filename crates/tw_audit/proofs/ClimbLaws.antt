-- The texts of a step under a top: its opening's, and then its path's.
use Rattle.std.proofs.Common.{◌≡◌, ℕ, List, ◌++◌, ap}
use Rattle.tw_skipproof.specs.declared.opening.Opening.{Opening}
use Rattle.tw_skipproof.specs.declared.path.Path.{Path}
use Rattle.tw_skipproof.specs.Acceptance.{part_texts}
use Rattle.tw_skipproof.specs.Openings.{opening_auth, opening_texts}
use Rattle.tw_skipproof.specs.Paths.{path_texts}

module _ (dig : List ℕ → List ℕ) where
  -- the opening, and the path over what it computes
  pub part-then : (service : List ℕ) (step top : ℕ) (path : Path) (o : Opening) (bottom : List ℕ)
      → bottom ≡ opening_auth dig step o
      → opening_texts dig step o ++ path_texts dig path.links top step bottom
      ≡ part_texts dig (record { service = service; step = step; top = top; path = path; opening = o })
  unfolding part_texts
  part-then service step top path o bottom is = ap (λ b. opening_texts dig step o ++ path_texts dig path.links top step
      b) is
