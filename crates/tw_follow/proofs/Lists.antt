-- What the heads that are found in pages are.
use Rattle.std.proofs.Common.{◌≡◌, ℕ, suc, zero, ◌<◌, List, [], ◌∷◌, ◌++◌, refl, ap, sym, ◌∙◌, arith, subst, inl, inr}
use Rattle.std.proofs.Common.{◌⊎◌, ⊎_elim}
use Rattle.std.specs.Prelude.{Bool, ◌==◌, if◌then◌else◌}
use Rattle.std.proofs.lemmas.Bool.{ne_eqb}
use Rattle.tw_base.specs.declared.history.thread.Thread.{Thread}
use Rattle.tw_base.specs.kinds.Lists.{Each, In}
use Rattle.tw_base.specs.kinds.Texts.{genesis_text}
use Rattle.tw_disk.specs.Found.{Found, ◌>>=◌}
use Rattle.tw_disk.specs.Found.Found.{Is}
use Rattle.tw_disk.specs.Image.{Image}
use Rattle.tw_disk.proofs.FoundLaws.{same_found}
use Rattle.tw_follow.specs.declared.head_page.HeadPage.{HeadPage}
use Rattle.tw_follow.specs.declared.root.RootRecord.{RootRecord}
use Rattle.tw_follow.specs.HeadLists.{AreHeadsRising, Kept, RiseAbove, first_thread, last_from, last_head}
use Rattle.tw_follow.specs.HeadLists.{with_head}
use Rattle.tw_follow.specs.HeadPages.{earlier_page, found_heads, head_on, heads_below, heads_down, last_head_page}
use Rattle.tw_follow.specs.Roots.{IsBegun}
use Rattle.tw_follow.specs.Stands.{KeepsList}
use Rattle.tw_follow.proofs.Pages.{IsLast, earlier-is, last-is, tells, through}

-- ---- lists

pub last-behind : (t : Thread) (heads : List Thread) (head : Thread) → last_from t (heads ++ head ∷ []) ≡ head
last-behind t [] head = refl
last-behind t (h ∷ heads) head = last-behind h heads head

pub head-with : (dig : List ℕ → List ℕ) (kept : Kept) (head : Thread) → last_head dig (with_head kept head) ≡ head
head-with dig kept head = last-behind (first_thread dig kept.name) kept.heads head

Each-behind : {X : Type 0} (P : X → Type 0) (xs : List X) (x : X) → Each P xs → P x → Each P (xs ++ x ∷ [])
Each-behind P [] x all one = (one, tt)
Each-behind P (y ∷ xs) x all one = (all.0, Each-behind P xs x all.1 one)

rise-behind : (step : ℕ) (t : Thread) (heads : List Thread) (head : Thread) → t.step ≡ step → RiseAbove step heads
    → (last_from t heads).step < head.step → RiseAbove step (heads ++ head ∷ [])
rise-behind step t [] head at rise above = (omega (arith, at, above), tt)
rise-behind step t (h ∷ heads) head at rise above = (rise.0, rise-behind h.step h heads head refl rise.1 above)

-- a later head of the name goes on a list that rises
pub rising-with : (dig : List ℕ → List ℕ) (kept : Kept) (head : Thread) → AreHeadsRising kept → head.from ≡ kept.name
    → (last_head dig kept).step < head.step → AreHeadsRising (with_head kept head)
rising-with dig kept head rising named above = record {
  named = Each-behind (λ h. h.from ≡ kept.name) kept.heads head rising.named named;
  rise = rise-behind 0 (first_thread dig kept.name) kept.heads head refl rising.rise above;
}

-- the last one is one of them, where its step isn't 0
last-in : (t : Thread) (h : Thread) (heads : List Thread) → In (last_from t (h ∷ heads)) (h ∷ heads)
last-in t h [] = inl refl
last-in t h (g ∷ heads) = inr (last-in h g heads)

pub head-in : (dig : List ℕ → List ℕ) (name : List ℕ) (heads : List Thread)
    → 0 < (last_from (first_thread dig name) heads).step → In (last_from (first_thread dig name) heads) heads
head-in dig name [] some = absurd (omega (arith, some))
head-in dig name (h ∷ heads) some = last-in (first_thread dig name) h heads

-- the last one is a thread of the name
last-named : (name : List ℕ) (t : Thread) (heads : List Thread) → t.from ≡ name → Each (λ h. h.from ≡ name) heads
    → (last_from t heads).from ≡ name
last-named name t [] own all = own
last-named name t (h ∷ heads) own all = last-named name h heads all.0 all.1

pub head-named : (dig : List ℕ → List ℕ) (kept : Kept) → AreHeadsRising kept → (last_head dig kept).from ≡ kept.name
head-named dig kept rising = last-named kept.name (first_thread dig kept.name) kept.heads refl rising.named

-- ---- lists found in pages

module _ (ps : Image) (name : List ℕ) where
  -- those found in front of threads of the name that rise from a first one
  down-named : (most page above : ℕ) (heads all : List Thread) → heads_down most ps name page above heads ≡ Is all
      → Each (λ h. h.from ≡ name) heads → Each (λ h. h.from ≡ name) all
  unfolding heads_down
  down-named zero page above heads all e named = subst (Each (λ h. h.from ≡ name)) (same_found heads all e) named
  down-named (suc most) zero above heads all e named = subst (Each (λ h. h.from ≡ name)) (same_found heads all e) named
  down-named (suc most) (suc page) above heads all e named =
      let own = through (earlier_page ps (suc page) above) (λ p. heads_down most ps name p.before p.step
      (head_on name p ∷ heads)) all e in
      down-named most own.first.before own.first.step (head_on name own.first ∷ heads) all own.then_is (refl, named)

  down-rises : (most page : ℕ) (head : Thread) (heads all : List Thread) → heads_down most ps name page head.step
      (head ∷ heads) ≡ Is all → RiseAbove 0 (head ∷ heads) → RiseAbove 0 all
  unfolding heads_down
  down-rises zero page head heads all e rise = subst (RiseAbove 0) (same_found (head ∷ heads) all e) rise
  down-rises (suc most) zero head heads all e rise = subst (RiseAbove 0) (same_found (head ∷ heads) all e) rise
  down-rises (suc most) (suc page) head heads all e rise =
      let own = through (earlier_page ps (suc page) head.step) (λ p. heads_down most ps name p.before p.step
      (head_on name p ∷ head ∷ heads)) all e in
      let earlier = earlier-is ps (suc page) head.step own.first own.is in
      down-rises most own.first.before (head_on name own.first) (head ∷ heads) all own.then_is
      ((tells ps (suc page) own.first earlier.0).some, (earlier.1, rise.1))

  down-last : (most page above : ℕ) (t : Thread) (head : Thread) (heads all : List Thread) → heads_down most ps name
      page above (head ∷ heads) ≡ Is all → last_from t all ≡ last_from head heads
  unfolding heads_down
  down-last zero page above t head heads all e = ap (last_from t) (sym (same_found (head ∷ heads) all e))
  down-last (suc most) zero above t head heads all e = ap (last_from t) (sym (same_found (head ∷ heads) all e))
  down-last (suc most) (suc page) above t head heads all e =
      let own = through (earlier_page ps (suc page) above) (λ p. heads_down most ps name p.before p.step
      (head_on name p ∷ head ∷ heads)) all e in
      down-last most own.first.before own.first.step t (head_on name own.first) (head ∷ heads) all own.then_is

-- ---- the lists of a root record

-- before the first head, or with the page of the last one, and those below it
pub record IsFrom (ps : Image) (r : RootRecord) (all : List Thread) : Type 0 where
  pub page : HeadPage
  pub last : IsLast ps r page
  pub below : heads_below ps page r.head ≡ Is all

module _ (ps : Image) (r : RootRecord) where
  found-at : (step : ℕ) → Found (List Thread)
  found-at step = if step == 0 then Is [] else (last_head_page ps r >>= (λ p. heads_below ps p r.head))

  at-some : (step : ℕ) → 0 < step → found-at step ≡ (last_head_page ps r >>= (λ p. heads_below ps p r.head))
  unfolding found-at
  at-some step some = ap (λ (b : Bool). if b then Is [] else (last_head_page ps r >>= (λ p. heads_below ps p r.head)))
      (ne_eqb step 0 (λ e. omega (arith, e, some)))

  pub found-none : r.head.step ≡ 0 → found_heads ps r ≡ Is []
  unfolding found_heads
  found-none none = ap (λ (n : ℕ). if n == 0 then Is [] else (last_head_page ps r >>= (λ p. heads_below ps p r.head)))
      none

  pub found-some : 0 < r.head.step → found_heads ps r ≡ (last_head_page ps r >>= (λ p. heads_below ps p r.head))
  unfolding found_heads found-at
  found-some some = at-some r.head.step some

  pub found-from : (all : List Thread) → 0 < r.head.step → found_heads ps r ≡ Is all → IsFrom ps r all
  found-from all some e =
      let own = through (last_head_page ps r) (λ p. heads_below ps p r.head) all (sym (found-some some) ∙ e) in
      record { page = own.first; last = last-is ps r own.first own.is; below = own.then_is }

none_or_some : (n : ℕ) → (n ≡ 0) ⊎ (0 < n)
none_or_some zero = inl refl
none_or_some (suc n) = inr (omega arith)

module _ (ps : Image) (r : RootRecord) (kept : Kept) (keeps : KeepsList ps r kept) where
  no_list : r.head.step ≡ 0 → kept.heads ≡ []
  no_list none = same_found kept.heads [] (sym keeps.found ∙ found-none ps r none)

  -- its heads are threads of its name, and rise
  pub kept-rising : AreHeadsRising kept
  kept-rising = ⊎_elim
      (λ none. record {
        named = subst (Each (λ h. h.from ≡ kept.name)) (sym (no_list none)) tt;
        rise = subst (RiseAbove 0) (sym (no_list none)) tt;
      })
      (λ some.
      let from = found-from ps r kept.heads some keeps.found in
      record {
        named = subst (λ (n : List ℕ). Each (λ h. h.from ≡ n) kept.heads) (sym keeps.named)
            (down-named ps r.head.from from.page.before from.page.before from.page.step (r.head ∷ []) kept.heads
            from.below (refl, tt));
        rise = down-rises ps r.head.from from.page.before from.page.before r.head [] kept.heads
            (subst (λ (n : ℕ). heads_down from.page.before ps r.head.from from.page.before n (r.head ∷ []) ≡ Is
            kept.heads) from.last.step from.below)
            (some, tt);
      })
      (none_or_some r.head.step)

  -- its last head is the record's
  pub kept-head : (dig : List ℕ → List ℕ) → IsBegun dig r → last_head dig kept ≡ r.head
  kept-head dig begun = ⊎_elim
      (λ none. ap (last_from (first_thread dig kept.name)) (no_list none)
      ∙ (λ i. record {
        from = keeps.named i;
        step = sym none i;
        auth = (ap (λ (n : List ℕ). dig (genesis_text n)) keeps.named ∙ sym (begun none)) i;
      }))
      (λ some.
      let from = found-from ps r kept.heads some keeps.found in
      down-last ps r.head.from from.page.before from.page.before from.page.step (first_thread dig kept.name) r.head []
      kept.heads from.below)
      (none_or_some r.head.step)

-- pages and a record keep one list at most
pub kept-once : (ps : Image) (r : RootRecord) (kept other : Kept) → KeepsList ps r kept → KeepsList ps r other
    → kept ≡ other
kept-once ps r kept other one two =
    let heads = same_found kept.heads other.heads (sym one.found ∙ two.found) in
    λ i. record { name = (one.named ∙ sym two.named) i; heads = heads i }
