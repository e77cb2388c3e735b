-- A question's way through the tree of one page.
use Rattle.std.proofs.Common.{◌≡◌, ℕ, suc, zero, ◌+◌, ◌*◌, ◌<◌, ◌≤◌, List, [], ◌∷◌, ◌++◌, length, Bool, true, false}
use Rattle.std.proofs.Common.{refl, ap, sym, ◌∙◌, subst, arith, ◌⊎◌, inl, inr, slice_get, append_assoc, append-nil}
use Rattle.std.specs.Prelude.{Option, Some, not, map, slice_index_or}
use Rattle.std.proofs.lemmas.Option.{none-some, same_Some}
use Rattle.std.specs.declared.cmp.Ordering.{Ordering}
use Rattle.std.specs.declared.cmp.Ordering.TheVariants.{Less, Equal, Greater}
use Rattle.std.specs.Ordering.{is_eq, is_lt}
use Rattle.tw_base.specs.declared.history.thread.Entry.{Entry}
use Rattle.tw_base.specs.declared.history.thread.Key.{Key}
use Rattle.tw_base.specs.declared.history.tree_proof.Ancestor.{Ancestor}
use Rattle.tw_base.specs.declared.history.tree_proof.Ask.{Ask}
use Rattle.tw_base.specs.declared.history.tree_proof.Ask.TheVariants.{Present, Absent, Below, Above}
use Rattle.tw_base.specs.declared.history.tree_proof.TreeProof.TheVariants.{Present as OfEntry}
use Rattle.tw_base.specs.history.Auth.{tree_label}
use Rattle.tw_base.specs.history.Entries.{KeyBelow, key_cmp, key_of}
use Rattle.tw_base.specs.kinds.Lists.{Each}
use Rattle.tw_base.specs.history.Tree.{Tree, IsRising, branch}
use Rattle.tw_base.specs.history.Tree.Tree.{Empty as NoEntry, Branch}
use Rattle.tw_base.proofs.lemmas.history.Keys.{KeyBelow-trans, key_cmp_total}
use Rattle.tw_base.proofs.lemmas.history.KeyTests.{NotBelow, eq-below, lt-above, lt-below, not_below}
use Rattle.tw_base.proofs.lemmas.history.KeyTests.NotBelow.{One, Over}
use Rattle.tw_base.specs.history.TreeProofs.{ancestor, place_of_ask, proof_at, way_up}
use Rattle.tw_base.specs.history.Ways.{has_asked_key, is_left}
use Rattle.tw_base.proofs.lemmas.history.Ways.{way-here, way-left, way-right}
use Rattle.tw_rbnode.specs.declared.node.Found.{Found as Spot}
use Rattle.tw_rbnode.specs.declared.node.Found.TheVariants.{At, Between}
use Rattle.tw_rbnode.specs.Shape.{Shape, Empty, Node, size}
use Rattle.tw_rbnode.specs.Trees.{above_at, label_at, mark_of, node_above, sides_at, tree_at}
use Rattle.tw_rbnode.proofs.Descents.{before, not_before, other, same}
use Rattle.tw_rbnode.proofs.TreeLabels.{label-tree}
use Rattle.tw_rbnode.proofs.TreeLists.{get-some}
use Rattle.tw_rbtree.specs.declared.seeking.Sought.{Sought}
use Rattle.tw_rbtree.specs.Ways.{seek}
use Rattle.tw_rbtree.proofs.PageLaws.{IsSpotOf, seek-there}
use Rattle.tw_rbtree.proofs.Weaving.{seek-cons, step_by, met_here, left_here}

-- ---- the mark of a question among rising entries

-- where the way goes dig ps the entry of this index
pub record Guide (ask : Ask) (mark index : ℕ) (e : Entry) : Type 0 where
  pub here : mark ≡ 2 * (index + 1) → has_asked_key ask e ≡ true
  pub left : mark < 2 * (index + 1) → (has_asked_key ask e ≡ false) × (is_left ask e ≡ true)
  pub right : 2 * (index + 1) < mark → (has_asked_key ask e ≡ false) × (is_left ask e ≡ false)

abbrev pub Guides : Ask → (mark base : ℕ) → List Entry → Type 0
Guides ask mark base es = (i : ℕ) (e : Entry) → slice_get es i ≡ Some e → Guide ask mark (base + i) e

abbrev pub GuidesAll : Ask → (mark : ℕ) → List Entry → Type 0
GuidesAll ask mark es = (i : ℕ) (e : Entry) → slice_get es i ≡ Some e → Guide ask mark i e

pub from_first : (ask : Ask) (mark : ℕ) (es : List Entry) → Guides ask mark 0 es → GuidesAll ask mark es
from_first ask mark es guides = λ i e is. subst (λ (n : ℕ). Guide ask mark n e) (let s : 0 + i ≡ i = omega arith in s)
    (guides i e is)

-- a key that isn't above an entry's is below those of later ones
below_later : (key f e : Key) → (is_eq (key_cmp key f) ≡ true) ⊎ (is_lt (key_cmp key f) ≡ true) → KeyBelow f e
    → KeyBelow key e
below_later key f e at less = by (key_cmp key f) refl at
  where
    by : (o : Ordering) → key_cmp key f ≡ o → (is_eq o ≡ true) ⊎ (is_lt o ≡ true) → KeyBelow key e
    by Less is at = KeyBelow-trans key f e is less
    by Equal is at = key_cmp_total.congr key f e is ∙ less
    by Greater is (inl wrong) = cc
    by Greater is (inr wrong) = cc

pub later-left : (ask : Ask) (f e : Entry) → (has_asked_key ask f ≡ true) ⊎ (is_left ask f ≡ true)
    → KeyBelow (key_of f) (key_of e) → (has_asked_key ask e ≡ false) × (is_left ask e ≡ true)
later-left (Present a) f e at less = let under = below_later (key_of a) (key_of f) (key_of e) at less in
    (eq-below (key_of a) (key_of e) under, lt-below (key_of a) (key_of e) under)
later-left (Absent key) f e at less = let under = below_later key (key_of f) (key_of e) at less in
    (eq-below key (key_of e) under, lt-below key (key_of e) under)
later-left (Below key) f e (inl wrong) less = cc
later-left (Below key) f e (inr left) less = by (is_lt (key_cmp (key_of f) key)) refl left
  where
    by : (b : Bool) → is_lt (key_cmp (key_of f) key) ≡ b → not (is_lt (key_cmp (key_of f) key)) ≡ true → (false ≡ false)
        × (not (is_lt (key_cmp (key_of e) key)) ≡ true)
    by true is l = absurd (let no : false ≡ true = sym (ap not is) ∙ l in cc)
    by false is l = (refl, ap not (lt-above (key_of e) key (above (not_below (key_of f) key is))))
      where
        above : NotBelow (key_of f) key → KeyBelow key (key_of e)
        above (One equal) = sym (key_cmp_total.congr (key_of f) key (key_of e) equal) ∙ less
        above (Over more) = KeyBelow-trans key (key_of f) (key_of e) more less
later-left (Above key) f e (inl wrong) less = cc
later-left (Above key) f e (inr left) less = let under = below_later key (key_of f) (key_of e) (inr left) less in
    (refl, lt-below key (key_of e) under)

-- the mark of the place or slot that is sought guides through all entries
module _ (ask : Ask) where
  past_left : (mark index : ℕ) (f e : Entry) → (has_asked_key ask f ≡ true) ⊎ (is_left ask f ≡ true)
      → KeyBelow (key_of f) (key_of e) → mark < 2 * (index + 1) → Guide ask mark index e
  past_left mark index f e at less under =
      let later = later-left ask f e at less in record {
        here = λ is. absurd (omega (arith, is, under));
        left = λ is. later;
        right = λ is. absurd (omega (arith, is, under));
      }

  later_guides : (mark base : ℕ) (f : Entry) (es : List Entry) → (has_asked_key ask f ≡ true) ⊎ (is_left ask f ≡ true)
      → Each (λ e. KeyBelow (key_of f) (key_of e)) es → mark < 2 * (base + 1) → Guides ask mark base es
  later_guides mark base f [] at less under i e is = absurd (none-some e is)
  later_guides mark base f (x ∷ es) at less under zero e is = subst (Guide ask mark (base + 0)) (same_Some _ _ is)
      (past_left mark (base + 0) f x at less.0 (omega (arith, under)))
  later_guides mark base f (x ∷ es) at less under (suc i) e is =
      subst (λ (n : ℕ). Guide ask mark n e) (let s : base + 1 + i ≡ base + suc i = omega arith in s)
      (later_guides mark (base + 1) f es at less.1 (omega (arith, under)) i e is)

  with_first : (mark base : ℕ) (f : Entry) (es : List Entry) → Guide ask mark base f → Guides ask mark (base + 1) es
      → Guides ask mark base (f ∷ es)
  with_first mark base f es first rest zero e is = subst (λ (n : ℕ). Guide ask mark n e) (let s : base ≡ base + 0 =
      omega arith in s) (subst (Guide ask mark base) (same_Some _ _ is) first)
  with_first mark base f es first rest (suc i) e is = subst (λ (n : ℕ). Guide ask mark n e)
      (let s : base + 1 + i ≡ base + suc i = omega arith in s) (rest i e is)

  spot-mark : (base count : ℕ) (spot : Spot) → IsSpotOf base count spot → 2 * base < mark_of spot
  spot-mark base count (At slot) h = omega (arith, h.0)
  spot-mark base count (Between place) h = omega (arith, h.0)

  pub seek-guides : (base : ℕ) (low high : Option Entry) (es : List Entry) → IsRising es
      → Guides ask (mark_of (seek ask base low high es).at) base es
  seek-guides base low high [] rising = λ i e is. absurd (none-some e is)
  seek-guides base low high (f ∷ es) rising =
      subst (λ (s : Sought). Guides ask (mark_of s.at) base (f ∷ es)) (sym (seek-cons ask base low high f es))
      (by (has_asked_key ask f) (is_left ask f) refl refl (seek-guides (base + 1) (Some f) high es rising.1)
      (spot-mark (base + 1) (length es) (seek ask (base + 1) (Some f) high es).at
      (seek-there ask (base + 1) (Some f) high es)))
    where
      rest : Sought
      rest = seek ask (base + 1) (Some f) high es

      by : (meets left : Bool) → has_asked_key ask f ≡ meets → is_left ask f ≡ left → Guides ask (mark_of rest.at)
          (base + 1) es → 2 * (base + 1) < mark_of rest.at
          → Guides ask (mark_of (step_by meets left (met_here ask base low high f es) (left_here ask base low high f es)
          rest).at) base (f ∷ es)
      by true left m l on past =
          with_first (2 * (base + 1)) base f es
          (record { here = λ is. m; left = λ is. absurd (omega (arith, is)); right = λ is. absurd (omega (arith, is)) })
          (later_guides (2 * (base + 1)) (base + 1) f es (inl m) rising.0 (omega arith))
      by false true m l on past =
          with_first (2 * base + 1) base f es
          (record {
            here = λ is. absurd (omega (arith, is));
            left = λ is. (m, l);
            right = λ is. absurd (omega (arith, is));
          })
          (later_guides (2 * base + 1) (base + 1) f es (inr l) rising.0 (omega arith))
      by false false m l on past =
          with_first (mark_of rest.at) base f es
          (record {
            here = λ is. absurd (omega (arith, is, past));
            left = λ is. absurd (omega (arith, is, past));
            right = λ is. (m, l);
          }) on

-- ---- through the page's tree

module _ (dig : List ℕ → List ℕ) (es : List Entry) (trees : List Tree) (ask : Ask) where
  node-tree : (base : ℕ) (red : Bool) (l r : Shape) (e : Entry) → slice_get es (base + size l) ≡ Some e
      → tree_at es trees base (Node red l r) ≡ Branch (tree_at es trees base l) e
      (tree_at es trees (base + size l + 1) r)
  unfolding tree_at
  node-tree base red l r e is =
      ap (λ (o : Option Entry). branch o (tree_at es trees base l) (tree_at es trees (base + size l + 1) r)) is

  leaf-tree : (base : ℕ) → tree_at es trees base Empty ≡ slice_index_or trees base NoEntry
  unfolding tree_at
  leaf-tree base = refl

  module _ (mark base : ℕ) (red : Bool) (l r : Shape) (e : Entry) (is : slice_get es (base + size l) ≡ Some e) where
    node-above : (side : Shape) (n : ℕ) → node_above dig (slice_get es (base + size l))
        (label_at dig es (map (tree_label dig) trees) n side) ≡ ancestor dig e (tree_at es trees n side) ∷ []
    node-above side n =
        ap (λ (o : Option Entry). node_above dig o (label_at dig es (map (tree_label dig) trees) n side)) is
        ∙ ap (λ (d : List ℕ). let up : List Ancestor = record { entry = e; other = d } ∷ [] in up)
        (label-tree dig es trees n side)

    above-at : mark ≡ 2 * (base + size l + 1) → above_at dig es (map (tree_label dig) trees) mark base (Node red l r)
        ≡ []
    unfolding above_at
    above-at h = rw (same mark (2 * (base + size l + 1)) h) refl

    above-left : mark < 2 * (base + size l + 1)
        → above_at dig es (map (tree_label dig) trees) mark base (Node red l r) ≡ above_at dig es
        (map (tree_label dig) trees) mark base l ++ ancestor dig e (tree_at es trees (base + size l + 1) r) ∷ []
    unfolding above_at
    above-left h =
        rw (other mark (2 * (base + size l + 1)) (omega (arith, h))) (rw (before mark (2 * (base + size l + 1)) h)
        (ap (λ (xs : List Ancestor). above_at dig es (map (tree_label dig) trees) mark base l ++ xs)
        (node-above r (base + size l + 1))))

    above-right : 2 * (base + size l + 1) < mark
        → above_at dig es (map (tree_label dig) trees) mark base (Node red l r) ≡ above_at dig es
        (map (tree_label dig) trees) mark (base + size l + 1) r ++ ancestor dig e (tree_at es trees base l) ∷ []
    unfolding above_at
    above-right h =
        rw (other mark (2 * (base + size l + 1)) (omega (arith, h)))
        (rw (not_before mark (2 * (base + size l + 1)) (omega (arith, h)))
        (ap (λ (xs : List Ancestor). above_at dig es (map (tree_label dig) trees) mark (base + size l + 1) r ++ xs)
        (node-above l base)))

  -- the way in a tree ends with these nodes above this place
  abbrev pub Leads : Tree → List Ancestor → Tree → Type 0
  Leads t up place = (way_up dig ask t ≡ up) × (place_of_ask ask t ≡ place)

  leads-as : (t s : Tree) (up : List Ancestor) (place : Tree) → t ≡ s → Leads s up place → Leads t up place
  leads-as t s up place e leads = (ap (way_up dig ask) e ∙ leads.0, ap (place_of_ask ask) e ∙ leads.1)

  -- on to a place of the page
  module _ (place : ℕ) (guides : GuidesAll ask (2 * place + 1) es) where
    abbrev below : Tree
    below = slice_index_or trees place NoEntry

    abbrev up_to : (base : ℕ) → Shape → List Ancestor
    up_to base t = way_up dig ask below ++ above_at dig es (map (tree_label dig) trees) (2 * place + 1) base t

    pub leads-between : (base : ℕ) (t : Shape) → base ≤ place → place ≤ base + size t → base + size t ≤ length es
        → Leads (tree_at es trees base t) (up_to base t) (place_of_ask ask below)
    unfolding above_at
    leads-between base Empty from to room =
        let at : base ≡ place = omega (arith, from, to) in
        leads-as (tree_at es trees base Empty) below (way_up dig ask below ++ []) (place_of_ask ask below)
        (leaf-tree base ∙ ap (λ (n : ℕ). slice_index_or trees n NoEntry) at)
        (sym (append-nil (way_up dig ask below)), refl)
    leads-between base (Node red l r) from to room =
        let here = get-some es trees es (base + size l) (omega (arith, room)) in
        let e = here.0 in
        let guide : Guide ask (2 * place + 1) (base + size l) e = guides (base + size l) e here.1 in
        let cases : (place ≤ base + size l) ⊎ (base + size l < place) = grind arith in
        leads-as (tree_at es trees base (Node red l r)) (Branch (tree_at es trees base l) e
        (tree_at es trees (base + size l + 1) r)) (up_to base (Node red l r)) (place_of_ask ask below)
        (node-tree base red l r e here.1) (
        elim cases [
          | inl near ↦
              let ways = guide.left (omega (arith, near)) in
              let down = way-left dig ask (tree_at es trees base l) e (tree_at es trees (base + size l + 1) r) ways.0
              ways.1 in
              let rest = leads-between base l from near (omega (arith, room)) in (
                down.0 ∙ ap (λ (u : List Ancestor). u ++ ancestor dig e (tree_at es trees (base + size l + 1) r) ∷ [])
                    rest.0
                    ∙ append_assoc (way_up dig ask below) (above_at dig es (map (tree_label dig) trees) (2 * place + 1)
                    base l) (ancestor dig e (tree_at es trees (base + size l + 1) r) ∷ [])
                    ∙ ap (λ (u : List Ancestor). way_up dig ask below ++ u)
                    (sym (above-left (2 * place + 1) base red l r e here.1 (omega (arith, near)))),
                down.1 ∙ rest.1,
              )
          | inr far ↦
              let ways = guide.right (omega (arith, far)) in
              let down = way-right dig ask (tree_at es trees base l) e (tree_at es trees (base + size l + 1) r) ways.0
              ways.1 in
              let rest = leads-between (base + size l + 1) r (omega (arith, far)) (omega (arith, to))
              (omega (arith, room)) in (
                down.0 ∙ ap (λ (u : List Ancestor). u ++ ancestor dig e (tree_at es trees base l) ∷ []) rest.0
                    ∙ append_assoc (way_up dig ask below) (above_at dig es (map (tree_label dig) trees) (2 * place + 1)
                    (base + size l + 1) r) (ancestor dig e (tree_at es trees base l) ∷ [])
                    ∙ ap (λ (u : List Ancestor). way_up dig ask below ++ u)
                    (sym (above-right (2 * place + 1) base red l r e here.1 (omega (arith, far)))),
                down.1 ∙ rest.1,
              )
        ])

  -- to a slot of the page
  module _ (slot : ℕ) (guides : GuidesAll ask (2 * slot) es) where
    abbrev the_sides : (base : ℕ) → Shape → List ℕ × List ℕ
    the_sides base t = sides_at dig es (map (tree_label dig) trees) slot base t

    -- the way ends at a node with these sides
    abbrev pub Meets : Tree → List Ancestor → (List ℕ × List ℕ) → Type 0
    Meets t up sides = (way_up dig ask t ≡ up) × ((above : List Ancestor) → proof_at dig (place_of_ask ask t) above
        ≡ OfEntry sides.0 sides.1 above)

    meets-as : (t s : Tree) (up : List Ancestor) (sides : List ℕ × List ℕ) → t ≡ s → Meets s up sides → Meets t up sides
    meets-as t s up sides e meets = (
      ap (way_up dig ask) e ∙ meets.0,
      λ above. ap (λ (x : Tree). proof_at dig (place_of_ask ask x) above) e ∙ meets.1 above,
    )

    pub leads-slot : (base : ℕ) (t : Shape) → base < slot → slot ≤ base + size t → base + size t ≤ length es
        → Meets (tree_at es trees base t) (above_at dig es (map (tree_label dig) trees) (2 * slot) base t)
        (the_sides base t)
    unfolding sides_at
    leads-slot base Empty from to room = absurd (omega (arith, from, to))
    leads-slot base (Node red l r) from to room =
        let here = get-some es trees es (base + size l) (omega (arith, room)) in
        let e = here.0 in
        let left = tree_at es trees base l in
        let right = tree_at es trees (base + size l + 1) r in
        let guide : Guide ask (2 * slot) (base + size l) e = guides (base + size l) e here.1 in
        let cases : (slot ≡ base + size l + 1) ⊎ (slot < base + size l + 1) ⊎ (base + size l + 1 < slot) =
        grind arith in
        meets-as (tree_at es trees base (Node red l r)) (Branch left e right)
        (above_at dig es (map (tree_label dig) trees) (2 * slot) base (Node red l r)) (the_sides base (Node red l r))
        (node-tree base red l r e here.1) (
        elim cases [
          | inl at ↦
              let down = way-here dig ask left e right (guide.here (omega (arith, at))) in (
                down.0 ∙ sym (above-at (2 * slot) base red l r e here.1 (omega (arith, at))),
                λ above.
                    ap (λ (x : Tree). proof_at dig x above) down.1
                    ∙ (λ i. OfEntry (sym (label-tree dig es trees base l) i)
                    (sym (label-tree dig es trees (base + size l + 1) r) i) above)
                    ∙ sym (ap (λ (s : List ℕ × List ℕ). OfEntry s.0 s.1 above)
                    (rw (same slot (base + size l + 1) at) refl)),
              )
          | inr two ↦ elim two [
            | inl near ↦
                let ways = guide.left (omega (arith, near)) in
                let down = way-left dig ask left e right ways.0 ways.1 in
                let rest = leads-slot base l from (omega (arith, near)) (omega (arith, room)) in
                let sides : the_sides base (Node red l r) ≡ the_sides base l =
                rw (other slot (base + size l + 1) (omega (arith, near))) (rw (before slot (base + size l + 1) near)
                refl) in (
                  down.0 ∙ ap (λ (u : List Ancestor). u ++ ancestor dig e right ∷ []) rest.0
                      ∙ sym (above-left (2 * slot) base red l r e here.1 (omega (arith, near))),
                  λ above. ap (λ (x : Tree). proof_at dig x above) down.1 ∙ rest.1 above
                      ∙ ap (λ (s : List ℕ × List ℕ). OfEntry s.0 s.1 above) (sym sides),
                )
            | inr far ↦
                let ways = guide.right (omega (arith, far)) in
                let down = way-right dig ask left e right ways.0 ways.1 in
                let rest = leads-slot (base + size l + 1) r far (omega (arith, to)) (omega (arith, room)) in
                let sides : the_sides base (Node red l r) ≡ the_sides (base + size l + 1) r =
                rw (other slot (base + size l + 1) (omega (arith, far)))
                (rw (not_before slot (base + size l + 1) (omega (arith, far))) refl) in (
                  down.0 ∙ ap (λ (u : List Ancestor). u ++ ancestor dig e left ∷ []) rest.0
                      ∙ sym (above-right (2 * slot) base red l r e here.1 (omega (arith, far))),
                  λ above. ap (λ (x : Tree). proof_at dig x above) down.1 ∙ rest.1 above
                      ∙ ap (λ (s : List ℕ × List ℕ). OfEntry s.0 s.1 above) (sym sides),
                )
          ]
        ])
