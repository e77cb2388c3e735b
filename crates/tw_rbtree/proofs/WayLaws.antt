-- The way down, page by page.
use Rattle.tw_disk.specs.Image.{Image}
use Rattle.std.proofs.Common.{◌≡◌, ℕ, suc, zero, List, [], ◌∷◌, refl, ap, sym, ◌∙◌, arith, slice_get}
use Rattle.std.specs.Prelude.{◌==◌, Bool, true, false, Option, Some, None, map, slice_index_or, if◌then◌else◌}
use Rattle.std.proofs.lemmas.Option.{none-some, same_Some}
use Rattle.tw_base.specs.declared.history.root.Root.{Root}
use Rattle.tw_base.specs.declared.history.thread.Entry.{Entry}
use Rattle.tw_base.specs.declared.history.tree_proof.Ask.{Ask}
use Rattle.tw_disk.specs.Found.{Found, ◌>>=◌}
use Rattle.tw_disk.specs.Found.Found.{Is, Bad}
use Rattle.tw_disk.proofs.FoundLaws.{in_turn, is_on}
use Rattle.tw_rbnode.specs.declared.child.Child.{Child}
use Rattle.tw_rbnode.specs.declared.node.Found.{Found as Spot}
use Rattle.tw_rbnode.specs.declared.node.Found.TheVariants.{At, Between}
use Rattle.tw_rbnode.specs.Page.{TreePage}
use Rattle.tw_rbtree.specs.declared.seeking.Sought.{Sought}
use Rattle.tw_rbtree.specs.Reading.{child_in, node_in}
use Rattle.tw_rbtree.specs.Ways.{Stop, child_page, end_from, end_of_way, nowhere, seek, stop_in, way, way_end, way_from}
use Rattle.tw_rbtree.specs.Ways.{way_on}

module _ {X Y : Type 0} where
  pub on_each : (one : Found X) (f g : X → Found Y) → ((x : X) → f x ≡ g x) → (one >>= f) ≡ (one >>= g)
  on_each (Is x) f g same = same x
  on_each (Bad page) f g same = refl

children_page-get : (cs : List Child) (place : ℕ) (c : Child) → slice_get cs place ≡ Some c
    → slice_index_or (map (λ (c : Child). c.page) cs) place 0 ≡ c.page
children_page-get [] place c e = absurd (none-some c e)
children_page-get (x ∷ cs) zero c e = ap (λ (y : Child). y.page) (same_Some _ _ e)
children_page-get (x ∷ cs) (suc place) c e = children_page-get cs place c e

pub child_page-get : (p : TreePage) (place : ℕ) (c : Child) → slice_get p.children place ≡ Some c
    → child_page p place ≡ c.page
child_page-get p place c e = children_page-get p.children place c e

module _ (dig : List ℕ → List ℕ) (ps : Image) (ask : Ask) where
  -- what goes on from a page at a place
  abbrev pub into : (below : ℕ) → Sought → (page : ℕ) → Found (List Stop)
  into below s page = child_in dig ps below s.low s.high page >>= way_from dig ps ask below s.low s.high

  module _ (low high : Option Entry) (p : TreePage) where
    abbrev pub sought : Sought
    sought = seek ask 0 low high p.entries

    abbrev pub here : Stop
    here = stop_in dig ps ask low high p

    pub way-at : (level slot : ℕ) → sought.at ≡ At slot → way_from dig ps ask level low high p ≡ Is (here ∷ [])
    unfolding way_from
    way-at zero slot e = refl
    way-at (suc level) slot e = ap (way_on dig ps ask here (into level)) e

    pub way-leaf : (level : ℕ) → level ≡ 0 → way_from dig ps ask level low high p ≡ Is (here ∷ [])
    unfolding way_from
    way-leaf zero e = refl
    way-leaf (suc level) e = absurd (omega (arith, e))

    pub way-goes : (level below place : ℕ) → level ≡ suc below → sought.at ≡ Between place
        → way_from dig ps ask level low high p ≡ (child_in dig ps below sought.low sought.high (child_page p place)
        >>= (λ q. way_from dig ps ask below sought.low sought.high q >>= (λ stops. Is (here ∷ stops))))
    unfolding way_from
    way-goes zero below place l e = absurd (omega (arith, l))
    way-goes (suc n) below place l e =
        let same : n ≡ below = omega (arith, l) in
        ap (λ (m : ℕ). way_from dig ps ask (suc m) low high p) same
        ∙ ap (way_on dig ps ask here (into below)) e
        ∙ in_turn (child_in dig ps below sought.low sought.high (child_page p place))
        (way_from dig ps ask below sought.low sought.high) (λ stops. Is (here ∷ stops))

  -- a way begins in its page
  module _ {Y : Type 0} (f g : List Stop → Found Y) where
    on_stop : (stop : Stop) (to : Sought → (page : ℕ) → Found (List Stop)) (spot : Spot)
        → ((stops : List Stop) → f (stop ∷ stops) ≡ g (stop ∷ stops)) → (way_on dig ps ask stop to spot >>= f)
        ≡ (way_on dig ps ask stop to spot >>= g)
    on_stop stop to (At slot) same = same []
    on_stop stop to (Between place) same =
        let first = to stop.sought (child_page stop.page place) in
        in_turn first (λ stops. Is (stop ∷ stops)) f ∙ on_each first (λ stops. f (stop ∷ stops))
        (λ stops. g (stop ∷ stops)) same ∙ sym (in_turn first (λ stops. Is (stop ∷ stops)) g)

    pub on_way : (level : ℕ) (low high : Option Entry) (p : TreePage)
        → ((stops : List Stop) → f (here low high p ∷ stops) ≡ g (here low high p ∷ stops))
        → (way_from dig ps ask level low high p >>= f) ≡ (way_from dig ps ask level low high p >>= g)
    unfolding way_from
    on_way zero low high p same = same []
    on_way (suc level) low high p same = on_stop (here low high p) (into level) (sought low high p).at same

  pub way-empty : (root : Root) → root.page ≡ 0 → way dig ps ask root ≡ Is []
  unfolding way
  way-empty root e = ap (λ (b : Bool). if b then Is []
      else (node_in dig ps root.page >>= (λ p. way_from dig ps ask p.level None None p)))
      (let t : (root.page == 0) ≡ true = grind arith in t)

  pub way-root : (root : Root) → (root.page ≡ 0 → ⊥)
      → way dig ps ask root ≡ (node_in dig ps root.page >>= (λ p. way_from dig ps ask p.level None None p))
  unfolding way
  way-root root e = ap (λ (b : Bool). if b then Is []
      else (node_in dig ps root.page >>= (λ p. way_from dig ps ask p.level None None p)))
      (let t : (root.page == 0) ≡ false = grind arith in t)

  pub end-empty : (root : Root) → root.page ≡ 0 → way_end dig ps ask root ≡ Is nowhere
  unfolding way_end
  end-empty root e = is_on (way dig ps ask root) (λ stops. Is (end_of_way nowhere stops)) [] (way-empty root e)

  pub end-root : (root : Root) → (root.page ≡ 0 → ⊥) → way_end dig ps ask root
      ≡ (node_in dig ps root.page >>= (λ p. end_from dig ps ask p.level None None p))
  unfolding way_end end_from
  end-root root e =
      ap (λ (found : Found (List Stop)). found >>= (λ stops. Is (end_of_way nowhere stops))) (way-root root e)
      ∙ in_turn (node_in dig ps root.page) (λ p. way_from dig ps ask p.level None None p)
      (λ stops. Is (end_of_way nowhere stops))

-- where the way from a root ends, for the function that goes it
pub ruleset root_ends = (end-empty, end-root)

-- the number of a child's page, for the function that tells it
pub ruleset child_pages = (child_page-get)
