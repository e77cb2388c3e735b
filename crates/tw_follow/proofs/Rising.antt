-- Heads that are read one below the other rise, over whatever disk.
use Rattle.std.proofs.Common.{◌≡◌, ℕ, ◌<◌, List, [], ◌∷◌}
use Rattle.tw_base.specs.declared.history.thread.Thread.{Thread}
use Rattle.tw_base.specs.kinds.Lists.{Each}
use Rattle.tw_disk.specs.Found.Found.{Is}
use Rattle.tw_disk.specs.Found.{spelled}
use Rattle.tw_disk.proofs.SpelledLaws.{is-spelled}
use Rattle.tw_follow.specs.HeadLists.{RiseAbove, last_from}
use Rattle.tw_follow.specs.HeadPages.{head_codec, head_in}
use Rattle.tw_follow.specs.declared.head_page.HeadPage.{HeadPage}
use Rattle.tw_follow.proofs.Pages.{tested}
use Rattle.tw_follow.proofs.Spelling.{head-lawful, head-step}
use Rattle.std.specs.Prelude.{nat_lt}

-- a head page is of a step from 1 on
pub head-some : (page : ℕ) (bytes : List ℕ) (p : HeadPage) → head_in page bytes ≡ Is p → 0 < p.step
unfolding head_in
head-some page bytes p is =
    head-step p (is-spelled page 4096 head_codec head-lawful bytes p (tested (spelled page 4096 head_codec bytes)
    (λ q. nat_lt q.before page) page p is).0).fits

-- heads, the first of which is of this step, that rise to this one
abbrev pub LedBy : (head : Thread) (step : ℕ) → List Thread → Type 0
LedBy head step [] = ⊥
LedBy head step (t ∷ heads) = (t.step ≡ step) × RiseAbove 0 (t ∷ heads) × Each (λ h. h.from ≡ head.from) (t ∷ heads)
    × (last_from t heads ≡ head)
