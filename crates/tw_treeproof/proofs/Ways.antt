-- The nodes above the place to which a question leads: their label, and the nearest of them on either side.
use Rattle.std.proofs.Common.{◌≡◌, ℕ, List, [], ◌∷◌, ◌++◌, Bool, true, false, refl, ap, sym, ◌∙◌, subst}
use Rattle.std.specs.Prelude.{Option, Some, None, not, if◌then◌else◌}
use Rattle.std.specs.Option.{option_or}
use Rattle.std.specs.Ordering.{is_lt}
use Rattle.tw_base.specs.declared.history.thread.Entry.{Entry}
use Rattle.tw_base.specs.declared.history.thread.Key.{Key}
use Rattle.tw_base.specs.declared.history.tree_proof.Ancestor.{Ancestor}
use Rattle.tw_base.specs.declared.history.tree_proof.Ask.{Ask}
use Rattle.tw_base.specs.declared.history.tree_proof.Ask.TheVariants.{Below, Above}
use Rattle.tw_base.specs.history.Asking.{first_above, last_below}
use Rattle.tw_base.specs.history.Auth.{tree_label}
use Rattle.tw_base.specs.history.Entries.{entry_text, key_cmp, key_of}
use Rattle.tw_base.specs.kinds.Lists.{Each}
use Rattle.tw_base.specs.history.Tree.{Tree, IsRising, entries}
use Rattle.tw_base.specs.history.Tree.Tree.{Empty, Branch}
use Rattle.tw_base.proofs.lemmas.kinds.ListLemmas.{Each-append}
use Rattle.tw_base.proofs.lemmas.history.Asked.{above-left, above-right, below-left, below-right, cut, or-none}
use Rattle.tw_base.specs.history.TreeProofs.{ancestor, place_of_ask, way_up}
use Rattle.tw_base.specs.history.Ways.{IsNotAsked, climbed_tree, has_asked_key, is_left, nearest_left, nearest_right}
use Rattle.tw_base.specs.history.Ways.{over_text}
use Rattle.tw_base.proofs.lemmas.history.Ways.{way-here, way-left, way-right}

module _ (dig : List ℕ → List ℕ) where
  climb-one : (left : Entry → Bool) (up : List Ancestor) (a : Ancestor) (below : List ℕ) → climbed_tree dig left
      (up ++ a ∷ []) below ≡ dig (over_text left a (climbed_tree dig left up below))
  unfolding climbed_tree
  climb-one left [] a below = refl
  climb-one left (b ∷ up) a below = climb-one left up a (dig (over_text left b below))

  climb-none : (left : Entry → Bool) (below : List ℕ) → climbed_tree dig left [] below ≡ below
  unfolding climbed_tree
  climb-none left below = refl

  label-branch : (l : Tree) (e : Entry) (r : Tree) → dig (entry_text (tree_label dig l) e (tree_label dig r))
      ≡ tree_label dig (Branch l e r)
  unfolding tree_label
  label-branch l e r = refl

  -- the labels lead from the place up to the tree
  pub way-climbs : (ask : Ask) (t : Tree) → climbed_tree dig (is_left ask) (way_up dig ask t)
      (tree_label dig (place_of_ask ask t)) ≡ tree_label dig t
  unfolding climbed_tree way_up place_of_ask tree_label
  way-climbs ask Empty = refl
  way-climbs ask (Branch l e r) = by (has_asked_key ask e) (is_left ask e) refl refl (way-climbs ask l)
      (way-climbs ask r)
    where
      Leads : Tree → Type 0
      Leads t = climbed_tree dig (is_left ask) (way_up dig ask t) (tree_label dig (place_of_ask ask t)) ≡ tree_label
          dig t

      -- along these nodes and from this place
      along : (up : List Ancestor) (place : Tree) → way_up dig ask (Branch l e r) ≡ up → place_of_ask ask (Branch l e r)
          ≡ place
          → climbed_tree dig (is_left ask) up (tree_label dig place) ≡ tree_label dig (Branch l e r)
          → Leads (Branch l e r)
      along up place ways places leads = ap (λ u. climbed_tree dig (is_left ask) u
          (tree_label dig (place_of_ask ask (Branch l e r)))) ways
          ∙ ap (λ p. climbed_tree dig (is_left ask) up (tree_label dig p)) places ∙ leads

      -- past the node, down to that side of it
      past : (s other : Tree) → (way_up dig ask (Branch l e r) ≡ way_up dig ask s ++ ancestor dig e other ∷ [])
          × (place_of_ask ask (Branch l e r) ≡ place_of_ask ask s)
          → dig (over_text (is_left ask) (ancestor dig e other) (tree_label dig s)) ≡ tree_label dig (Branch l e r)
          → Leads s → Leads (Branch l e r)
      past s other down node leads =
          along (way_up dig ask s ++ ancestor dig e other ∷ []) (place_of_ask ask s) down.0 down.1
          (climb-one (is_left ask) (way_up dig ask s) (ancestor dig e other) (tree_label dig (place_of_ask ask s))
          ∙ ap (λ x. dig (over_text (is_left ask) (ancestor dig e other) x)) leads ∙ node)

      by : (meets left : Bool) → has_asked_key ask e ≡ meets → is_left ask e ≡ left → Leads l → Leads r
          → Leads (Branch l e r)
      by true left is way one other = let here = way-here dig ask l e r is in along [] (Branch l e r) here.0 here.1
          (climb-none (is_left ask) (tree_label dig (Branch l e r)))
      by false true is way one other = past l r (way-left dig ask l e r is way)
          (ap (λ b. dig (if b then entry_text (tree_label dig l) e (tree_label dig r) else entry_text (tree_label dig r)
          e (tree_label dig l))) way ∙ label-branch l e r) one
      by false false is way one other = past r l (way-right dig ask l e r is way)
          (ap (λ b. dig (if b then entry_text (tree_label dig r) e (tree_label dig l) else entry_text (tree_label dig l)
          e (tree_label dig r))) way ∙ label-branch l e r) other

  -- no node above the place has the asked key
  pub way-free : (ask : Ask) (t : Tree) → Each (IsNotAsked ask) (way_up dig ask t)
  unfolding way_up
  way-free ask Empty = tt
  way-free ask (Branch l e r) = by (has_asked_key ask e) (is_left ask e) refl refl (way-free ask l) (way-free ask r)
    where
      by : (meets left : Bool) → has_asked_key ask e ≡ meets → is_left ask e ≡ left → Each (IsNotAsked ask)
          (way_up dig ask l) → Each (IsNotAsked ask) (way_up dig ask r) → Each (IsNotAsked ask)
          (way_up dig ask (Branch l e r))
      by true left is way one other = subst (Each (IsNotAsked ask)) (sym (way-here dig ask l e r is).0) tt
      by false true is way one other = subst (Each (IsNotAsked ask)) (sym (way-left dig ask l e r is way).0)
          (Each-append (IsNotAsked ask) (way_up dig ask l) (ancestor dig e r ∷ []) one (is, tt))
      by false false is way one other = subst (Each (IsNotAsked ask)) (sym (way-right dig ask l e r is way).0)
          (Each-append (IsNotAsked ask) (way_up dig ask r) (ancestor dig e l ∷ []) other (is, tt))

  right-one : (left : Entry → Bool) (up : List Ancestor) (a : Ancestor) → nearest_right left (up ++ a ∷ []) ≡ option_or
      (nearest_right left up) (if left a.entry then None else Some a.entry)
  right-one left [] a = refl
  right-one left (b ∷ up) a = by (left b.entry) refl (right-one left up a)
    where
      last : Option Entry
      last = if left a.entry then None else Some a.entry

      by : (c : Bool) → left b.entry ≡ c → nearest_right left (up ++ a ∷ []) ≡ option_or (nearest_right left up)
          (if left a.entry then None else Some a.entry)
          → (if left b.entry then nearest_right left (up ++ a ∷ []) else Some b.entry) ≡ option_or
          (if left b.entry then nearest_right left up else Some b.entry) (if left a.entry then None else Some a.entry)
      by true is rest = ap (λ c. if c then nearest_right left (up ++ a ∷ []) else Some b.entry) is ∙ rest
          ∙ sym (ap (λ c. option_or (if c then nearest_right left up else Some b.entry) last) is)
      by false is rest = ap (λ c. if c then nearest_right left (up ++ a ∷ []) else Some b.entry) is
          ∙ sym (ap (λ c. option_or (if c then nearest_right left up else Some b.entry) last) is)

  left-one : (left : Entry → Bool) (up : List Ancestor) (a : Ancestor) → nearest_left left (up ++ a ∷ []) ≡ option_or
      (nearest_left left up) (if left a.entry then Some a.entry else None)
  left-one left [] a = refl
  left-one left (b ∷ up) a = by (left b.entry) refl (left-one left up a)
    where
      last : Option Entry
      last = if left a.entry then Some a.entry else None

      by : (c : Bool) → left b.entry ≡ c → nearest_left left (up ++ a ∷ []) ≡ option_or (nearest_left left up)
          (if left a.entry then Some a.entry else None)
          → (if left b.entry then Some b.entry else nearest_left left (up ++ a ∷ [])) ≡ option_or
          (if left b.entry then Some b.entry else nearest_left left up) (if left a.entry then Some a.entry else None)
      by true is rest = ap (λ c. if c then Some b.entry else nearest_left left (up ++ a ∷ [])) is
          ∙ sym (ap (λ c. option_or (if c then Some b.entry else nearest_left left up) last) is)
      by false is rest = ap (λ c. if c then Some b.entry else nearest_left left (up ++ a ∷ [])) is ∙ rest
          ∙ sym (ap (λ c. option_or (if c then Some b.entry else nearest_left left up) last) is)

  -- the nearest node at which the way to the key's place goes right has the last entry below the key
  abbrev FindsLast : Key → Tree → Type 0
  FindsLast key t = last_below (entries t) key ≡ nearest_right (is_left (Below key)) (way_up dig (Below key) t)

  -- and the nearest at which it goes left the first entry above it
  abbrev FindsFirst : Key → Tree → Type 0
  FindsFirst key t = first_above (entries t) key ≡ nearest_left (is_left (Above key)) (way_up dig (Above key) t)

  pub last-found : (key : Key) (t : Tree) → IsRising (entries t) → FindsLast key t
  unfolding way_up
  last-found key Empty rising = refl
  last-found key (Branch l e r) rising =
      let parts = cut (entries l) e (entries r) rising in
      by (is_lt (key_cmp (key_of e) key)) refl (last-found key l parts.front_rises) (last-found key r parts.back_rises)
    where
      left : Entry → Bool
      left = is_left (Below key)

      by : (b : Bool) → is_lt (key_cmp (key_of e) key) ≡ b → FindsLast key l → FindsLast key r → FindsLast key
          (Branch l e r)
      by true is one other =
          below-right key (entries l) e (entries r) rising is ∙ ap (λ o. option_or o (Some e)) other
          ∙ sym (ap (λ b. option_or (nearest_right left (way_up dig (Below key) r)) (if not b then None else Some e))
          is)
          ∙ sym (right-one left (way_up dig (Below key) r) (ancestor dig e l))
          ∙ sym (ap (nearest_right left) (way-right dig (Below key) l e r refl (ap not is)).0)
      by false is one other =
          below-left key (entries l) e (entries r) is ∙ one
          ∙ sym (or-none (nearest_right left (way_up dig (Below key) l)))
          ∙ sym (ap (λ b. option_or (nearest_right left (way_up dig (Below key) l)) (if not b then None else Some e))
          is)
          ∙ sym (right-one left (way_up dig (Below key) l) (ancestor dig e r))
          ∙ sym (ap (nearest_right left) (way-left dig (Below key) l e r refl (ap not is)).0)

  pub first-found : (key : Key) (t : Tree) → IsRising (entries t) → FindsFirst key t
  unfolding way_up
  first-found key Empty rising = refl
  first-found key (Branch l e r) rising =
      let parts = cut (entries l) e (entries r) rising in
      by (is_lt (key_cmp key (key_of e))) refl (first-found key l parts.front_rises)
      (first-found key r parts.back_rises)
    where
      left : Entry → Bool
      left = is_left (Above key)

      by : (b : Bool) → is_lt (key_cmp key (key_of e)) ≡ b → FindsFirst key l → FindsFirst key r → FindsFirst key
          (Branch l e r)
      by true is one other =
          above-left key (entries l) e (entries r) is ∙ ap (λ o. option_or o (Some e)) one
          ∙ sym (ap (λ b. option_or (nearest_left left (way_up dig (Above key) l)) (if b then Some e else None)) is)
          ∙ sym (left-one left (way_up dig (Above key) l) (ancestor dig e r))
          ∙ sym (ap (nearest_left left) (way-left dig (Above key) l e r refl is).0)
      by false is one other =
          above-right key (entries l) e (entries r) rising is ∙ other
          ∙ sym (or-none (nearest_left left (way_up dig (Above key) r)))
          ∙ sym (ap (λ b. option_or (nearest_left left (way_up dig (Above key) r)) (if b then Some e else None)) is)
          ∙ sym (left-one left (way_up dig (Above key) r) (ancestor dig e l))
          ∙ sym (ap (nearest_left left) (way-right dig (Above key) l e r refl is).0)
