-- The archive has a root page exactly where a thread was received.
use Rattle.std.proofs.Common.{◌≡◌, ◌≢◌, ◌⊎◌, ℕ, suc, zero, ◌+◌, ◌*◌, ◌^◌, ◌<◌, ◌≤◌, List, length, ap, arith, inl, inr}
use Rattle.std.proofs.lemmas.Bool.{cases_lt}
use Rattle.tw_base.specs.declared.history.root.Root.{Root}
use Rattle.tw_base.specs.history.History.{History, received}
use Rattle.tw_base.specs.history.Sound.{IsSound}
use Rattle.tw_base.specs.history.Tree.{Tree, entries, tree}
use Rattle.tw_disk.specs.Image.{Image}
use Rattle.tw_rbtree.specs.Standing.{HasNamed, IsRootTree, Named, StandsForTree, StandsWith, any_page}
use Rattle.tw_rbtree.proofs.SizeLaws.{root-count}
use Rattle.tw_archive.specs.Archives.{KeepsTrees, named_at}
use Rattle.tw_archive.proofs.SoundNext.{same-length}

power-more : (n : ℕ) → 13 ^ suc n ≡ 13 * 13 ^ n
power-more n = grind arith

power-some : (n : ℕ) → 0 < 13 ^ n
power-some zero = omega arith
power-some (suc n) = let more = power-more n in let some = power-some n in omega (arith, more, some)

module _ (dig : List ℕ → List ℕ) (ps : Image) where
  -- a tree with a page has an entry, and its page is one of the pages
  pub some-entry : (root : Root) (t : Tree) → StandsForTree dig ps root t → root.page ≢ 0 → (0 < length (entries t))
      × (4 ≤ root.page) × (root.page < 4 + length ps)
  some-entry root t stands some = by stands.tree
    where
      by : IsRootTree dig any_page ps root.page t → (0 < length (entries t)) × (4 ≤ root.page)
          × (root.page < 4 + length ps)
      by (inl none) = absurd (some none.0)
      by (inr (level, is)) =
          let many = root-count dig ps level root.page t is in
          let power = power-some level in
          (omega (arith, many, power), is.at.low, is.at.below)

  -- one without a page has none
  no-entry : (root : Root) (t : Tree) → StandsForTree dig ps root t → root.page ≡ 0 → length (entries t) ≡ 0
  no-entry root t stands none = by stands.tree
    where
      by : IsRootTree dig any_page ps root.page t → length (entries t) ≡ 0
      by (inl empty) = ap (λ (x : Tree). length (entries x)) empty.1
      by (inr (level, is)) = let low = is.at.low in absurd (omega (arith, low, none))

  module _ (h : History) (step_page : ℕ → ℕ) (archive : ℕ → Root) (keeps : KeepsTrees dig ps h step_page archive)
      (sound : IsSound h)
      (any : (named : Named) (root : Root) (t : Tree) → StandsWith dig (HasNamed named) ps root t → StandsForTree dig ps
      root t) where
    stands-for : (k : ℕ) → k < length h.steps → StandsForTree dig ps (archive (suc k)) (tree h (suc k))
    stands-for k less = any (named_at dig ps h step_page archive (suc k)) (archive (suc k)) (tree h (suc k))
        (keeps.trees k less).stands

    pub no-page : (k : ℕ) → k ≤ length h.steps → length (received h k) ≡ 0 → (archive k).page ≡ 0
    no-page zero within none = keeps.nowhere
    no-page (suc k) within none = by (cases_lt 0 (archive (suc k)).page)
      where
        by : (0 < (archive (suc k)).page) ⊎ ((archive (suc k)).page ≤ 0) → (archive (suc k)).page ≡ 0
        by (inr low) = omega (arith, low)
        by (inl some) =
            let has = some-entry (archive (suc k)) (tree h (suc k)) (stands-for k within)
            (λ is. absurd (omega (arith, some, is))) in
            let count = same-length h sound (suc k) within in
            absurd (omega (arith, has.0, count, none))

    pub own-page : (k : ℕ) → k ≤ length h.steps → 0 < length (received h k) → (4 ≤ (archive k).page)
        × ((archive k).page < 4 + length ps)
    unfolding received
    own-page zero within some = absurd (omega (arith, some))
    own-page (suc k) within some =
        let count = same-length h sound (suc k) within in
        let not : (archive (suc k)).page ≢ 0 = λ none. (let no = no-entry (archive (suc k)) (tree h (suc k))
        (stands-for k within) none in absurd (omega (arith, no, count, some))) in
        let has = some-entry (archive (suc k)) (tree h (suc k)) (stands-for k within) not in (has.1, has.2)
