-- Heads from a page down.
use Rattle.std.proofs.Common.{◌≡◌, ℕ, suc, zero, ◌<◌, ◌≤◌, List, [], ◌∷◌, ◌++◌, refl, ap, ◌∙◌, arith}
use Rattle.std.specs.Prelude.{reverse}
use Rattle.std.proofs.lemmas.List.{reverse-append}
use Rattle.tw_base.specs.declared.history.thread.Thread.{Thread}
use Rattle.tw_disk.specs.Found.{Found, ◌>>=◌}
use Rattle.tw_disk.specs.Found.Found.{Is, Bad}
use Rattle.tw_disk.specs.Image.{Image}
use Rattle.tw_disk.proofs.FoundLaws.{is_on, same_found}
use Rattle.tw_follow.specs.HeadPages.{earlier_page, head_on, heads_down}
use Rattle.tw_follow.proofs.Pages.{earlier-below, earlier-more, through}

-- two readings that go on alike from what is found
same_next : {X Y : Type 0} (f : Found X) (one other : X → Found Y) → ((x : X) → f ≡ Is x → one x ≡ other x)
    → (f >>= one) ≡ (f >>= other)
same_next (Is x) one other same = same x refl
same_next (Bad page) one other same = refl

module _ (ps : Image) (name : List ℕ) where
  -- the page's own number suffices
  pub enough : (most more page above : ℕ) (heads : List Thread) → page ≤ most → page ≤ more → heads_down most ps name
      page above heads ≡ heads_down more ps name page above heads
  unfolding heads_down
  enough zero zero page above heads low high = refl
  enough zero (suc more) zero above heads low high = refl
  enough zero (suc more) (suc page) above heads low high = absurd (omega (arith, low))
  enough (suc most) zero zero above heads low high = refl
  enough (suc most) zero (suc page) above heads low high = absurd (omega (arith, high))
  enough (suc most) (suc more) zero above heads low high = refl
  enough (suc most) (suc more) (suc page) above heads low high =
      same_next (earlier_page ps (suc page) above) (λ p. heads_down most ps name p.before p.step
      (head_on name p ∷ heads)) (λ p. heads_down more ps name p.before p.step (head_on name p ∷ heads))
      (λ p e. let below = earlier-below ps (suc page) above p e in
      enough most more p.before p.step (head_on name p ∷ heads) (omega (arith, below, low))
      (omega (arith, below, high)))

  -- there is no page
  pub heads-here : (page above : ℕ) (heads : List Thread) → page ≡ 0 → heads_down page ps name page above heads ≡ Is
      heads
  unfolding heads_down
  heads-here zero above heads e = refl
  heads-here (suc page) above heads e = absurd (omega (arith, e))

  -- the head of the page, and those below it
  pub heads-on : (page above : ℕ) (heads : List Thread) → 0 < page
      → heads_down page ps name page above heads
      ≡ (earlier_page ps page above >>= (λ p. heads_down p.before ps name p.before p.step (head_on name p ∷ heads)))
  unfolding heads_down
  heads-on zero above heads some = absurd (omega (arith, some))
  heads-on (suc page) above heads some =
      same_next (earlier_page ps (suc page) above) (λ p. heads_down page ps name p.before p.step
      (head_on name p ∷ heads)) (λ p. heads_down p.before ps name p.before p.step (head_on name p ∷ heads))
      (λ p e. let below = earlier-below ps (suc page) above p e in
      enough page p.before p.before p.step (head_on name p ∷ heads) (omega (arith, below)) (omega arith))

-- one head more, of a list that was read from its end
pub reverse-more : (heads : List Thread) (head : Thread) → reverse (heads ++ head ∷ []) ≡ head ∷ reverse heads
reverse-more heads head = reverse-append heads (head ∷ [])

pub ruleset heads_go_on = (heads-here, heads-on, reverse-more)

-- what is found is found in more pages too, in front of more heads
module _ (ps more : Image) (name : List ℕ) (behind : List Thread) where
  pub heads-wider : (most page above : ℕ) (heads all : List Thread) → heads_down most ps name page above heads ≡ Is all
      → heads_down most (ps ++ more) name page above (heads ++ behind) ≡ Is (all ++ behind)
  unfolding heads_down
  heads-wider zero page above heads all e = ap (λ (hs : List Thread). Is (hs ++ behind)) (same_found heads all e)
  heads-wider (suc most) zero above heads all e = ap (λ (hs : List Thread). Is (hs ++ behind)) (same_found heads all e)
  heads-wider (suc most) (suc page) above heads all e =
      let own = through (earlier_page ps (suc page) above) (λ p. heads_down most ps name p.before p.step
      (head_on name p ∷ heads)) all e in
      is_on (earlier_page (ps ++ more) (suc page) above) (λ p. heads_down most (ps ++ more) name p.before p.step
      (head_on name p ∷ (heads ++ behind))) own.first
      (earlier-more ps more (suc page) above own.first own.is)
      ∙ heads-wider most own.first.before own.first.step (head_on name own.first ∷ heads) all own.then_is
