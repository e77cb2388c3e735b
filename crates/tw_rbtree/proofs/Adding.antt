-- A page with an entry more below it: where the entry goes, and what the page then lists.
use Rattle.std.proofs.Common.{◌≡◌, ℕ, suc, zero, ◌+◌, ◌≤◌, List, [], ◌∷◌, ◌++◌, length, take, drop, Bool, true, false}
use Rattle.std.proofs.Common.{refl, ap, sym, ◌∙◌, subst, arith, append_assoc}
use Rattle.std.specs.Prelude.{◌&&◌, Option, Some, None, slice_index_or}
use Rattle.std.proofs.lemmas.Bool.{and_parts}
use Rattle.std.specs.Ordering.{is_eq, is_lt}
use Rattle.tw_base.specs.declared.history.thread.Entry.{Entry}
use Rattle.tw_base.specs.declared.history.tree_proof.Ask.{Ask}
use Rattle.tw_base.specs.declared.history.tree_proof.Ask.TheVariants.{Absent}
use Rattle.tw_base.specs.history.Asking.{with_entry}
use Rattle.tw_base.specs.history.Entries.{KeyBelow, key_cmp, key_of}
use Rattle.tw_base.specs.kinds.Lists.{Each}
use Rattle.tw_base.specs.history.Tree.{IsRising}
use Rattle.tw_base.proofs.lemmas.history.Keys.{KeyBelow-trans}
use Rattle.tw_base.proofs.lemmas.history.KeyTests.{NotBelow, below-lt, lt-above, lt-below, not_below}
use Rattle.tw_base.proofs.lemmas.history.KeyTests.NotBelow.{One, Over}
use Rattle.tw_base.proofs.lemmas.kinds.ListLemmas.{Each-map}
use Rattle.tw_base.specs.history.Ways.{has_asked_key, is_left}
use Rattle.tw_rbnode.specs.declared.node.Found.TheVariants.{Between}
use Rattle.tw_rbnode.specs.Trees.{woven}
use Rattle.tw_base.proofs.lemmas.history.Asked.{cut}
use Rattle.tw_base.proofs.lemmas.history.Leaves.{with-left, with-right}
use Rattle.tw_rbtree.specs.declared.seeking.Sought.{Sought}
use Rattle.tw_rbtree.specs.Reading.{is_above, is_below, lie_between}
use Rattle.tw_rbtree.specs.Ways.{seek}
use Rattle.tw_rbtree.proofs.PageLaws.{IsSpotOf, seek-there}
use Rattle.tw_rbtree.proofs.Weaving.{LiesBetween, left_here, met_here, no_slot, same_place, seek-cons, seek-nil}
use Rattle.tw_rbtree.proofs.Weaving.{step_by}

-- ---- where an entry goes

pub all-lie : (low high : Option Entry) (es : List Entry) → lie_between low high es ≡ true → Each (LiesBetween low high)
    es
all-lie low high [] h = tt
all-lie low high (e ∷ es) h =
    let parts = and_parts (is_above low e && is_below high e) (lie_between low high es) h in
    let own = and_parts (is_above low e) (is_below high e) parts.0 in ((own.0, own.1), all-lie low high es parts.1)

above-on : (low : Option Entry) (e m : Entry) → is_above low e ≡ true → KeyBelow (key_of e) (key_of m)
    → is_above low m ≡ true
above-on None e m h less = refl
above-on (Some low) e m h less = lt-below (key_of low) (key_of m) (KeyBelow-trans (key_of low) (key_of e) (key_of m)
    (below-lt (key_of low) (key_of e) h) less)

below-on : (high : Option Entry) (e m : Entry) → is_below high e ≡ true → KeyBelow (key_of m) (key_of e)
    → is_below high m ≡ true
below-on None e m h less = refl
below-on (Some high) e m h less = lt-below (key_of m) (key_of high) (KeyBelow-trans (key_of m) (key_of e) (key_of high)
    less (below-lt (key_of e) (key_of high) h))

-- an entry between those on the sides of the way stands at the place to which it leads
pub record Goes (low high : Option Entry) (es : List Entry) (k : ℕ) (m : Entry) : Type 0 where
  pub above : is_above low m ≡ true
  pub below : is_below high m ≡ true
  pub before : Each (λ f. KeyBelow (key_of f) (key_of m)) (take k es)
  pub behind : Each (λ f. KeyBelow (key_of m) (key_of f)) (drop k es)

module _ (ask : Ask) (m : Entry) where
  goes-left : (low high : Option Entry) (e : Entry) (es : List Entry) (k : ℕ) → k ≡ 0 → IsRising (e ∷ es)
      → Each (LiesBetween low high) (e ∷ es) → is_above low m ≡ true → is_below (Some e) m ≡ true
      → Goes low high (e ∷ es) k m
  goes-left low high e es zero z rising lie above below =
      let under : KeyBelow (key_of m) (key_of e) = below-lt (key_of m) (key_of e) below in record {
        above = above;
        below = below-on high e m lie.0.1 under;
        before = tt;
        behind = (
          under,
          Each-map _ (λ f. KeyBelow (key_of m) (key_of f)) es (λ f more. KeyBelow-trans (key_of m) (key_of e) (key_of f)
              under more) rising.0,
        );
      }
  goes-left low high e es (suc k) z rising lie above below = absurd (omega (arith, z))

  goes-none : (low high : Option Entry) (k : ℕ) → k ≡ 0 → is_above low m ≡ true → is_below high m ≡ true
      → Goes low high [] k m
  goes-none low high zero z above below = record { above = above; below = below; before = tt; behind = tt }
  goes-none low high (suc k) z above below = absurd (omega (arith, z))

  pub goes-between : (base : ℕ) (low high : Option Entry) (es : List Entry) (k : ℕ) → IsRising es
      → Each (LiesBetween low high) es → (seek ask base low high es).at ≡ Between (base + k)
      → is_above (seek ask base low high es).low m ≡ true → is_below (seek ask base low high es).high m ≡ true
      → Goes low high es k m
  goes-between base low high [] k rising lie at above below =
      let there = ap (λ (s : Sought). s.at) (sym (seek-nil ask base low high)) ∙ at in
      goes-none low high k (omega (arith, same_place base (base + k) there)) (ap (λ (s : Sought). is_above s.low m)
      (sym (seek-nil ask base low high)) ∙ above)
      (ap (λ (s : Sought). is_below s.high m) (sym (seek-nil ask base low high)) ∙ below)
  goes-between base low high (e ∷ es) k rising lie at above below =
      let same = seek-cons ask base low high e es in
      by (has_asked_key ask e) (is_left ask e) (λ j there. goes-between (base + 1) (Some e) high es j rising.1
      (over es lie.1 rising.0) there)
      (ap (λ (s : Sought). s.at) (sym same) ∙ at) (ap (λ (s : Sought). is_above s.low m) (sym same) ∙ above)
      (ap (λ (s : Sought). is_below s.high m) (sym same) ∙ below)
    where
      rest : Sought
      rest = seek ask (base + 1) (Some e) high es

      over : (xs : List Entry) → Each (LiesBetween low high) xs → Each (λ f. KeyBelow (key_of e) (key_of f)) xs
          → Each (LiesBetween (Some e) high) xs
      over [] lie more = tt
      over (x ∷ xs) lie more = ((lt-below (key_of e) (key_of x) more.0, lie.0.1), over xs lie.1 more.1)

      Rest : Type 0
      Rest = (j : ℕ) → rest.at ≡ Between (base + 1 + j) → is_above rest.low m ≡ true → is_below rest.high m ≡ true
          → Goes (Some e) high es j m

      on : (k : ℕ) → Rest → rest.at ≡ Between (base + k) → is_above rest.low m ≡ true → is_below rest.high m ≡ true
          → Goes low high (e ∷ es) k m
      on zero further there above below =
          let within : IsSpotOf (base + 1) (length es) (Between (base + 0)) = subst (IsSpotOf (base + 1) (length es))
          there (seek-there ask (base + 1) (Some e) high es) in
          absurd (omega (arith, within.0))
      on (suc j) further there above below =
          let g = further j (there ∙ ap (λ (n : ℕ). Between n) (let s : base + suc j ≡ base + 1 + j = omega arith in s))
          above below in
          let more : KeyBelow (key_of e) (key_of m) = below-lt (key_of e) (key_of m) g.above in
          record {
            above = above-on low e m lie.0.0 more;
            below = g.below;
            before = (more, g.before);
            behind = g.behind;
          }

      by : (meets left : Bool) → Rest
          → (step_by meets left (met_here ask base low high e es) (left_here ask base low high e es) rest).at ≡ Between
          (base + k)
          → is_above (step_by meets left (met_here ask base low high e es) (left_here ask base low high e es) rest).low
          m ≡ true
          → is_below (step_by meets left (met_here ask base low high e es) (left_here ask base low high e es) rest).high
          m ≡ true → Goes low high (e ∷ es) k m
      by true left further there above below = no_slot (base + 1) (base + k) there
      by false true further there above below = goes-left low high e es k
          (omega (arith, same_place base (base + k) there)) rising lie above below
      by false false further there above below = on k further there above below

-- the entry itself, whose key is asked for, lies between those on the sides of its way
module _ (entry : Entry) where
  abbrev ask : Ask
  ask = Absent (key_of entry)

  over-entry : (e : Entry) → is_eq (key_cmp (key_of entry) (key_of e)) ≡ false
      → is_lt (key_cmp (key_of entry) (key_of e)) ≡ false → is_above (Some e) entry ≡ true
  over-entry e meets left = by (not_below (key_of entry) (key_of e) left)
    where
      by : NotBelow (key_of entry) (key_of e) → is_above (Some e) entry ≡ true
      by (One equal) = absurd (let wrong : true ≡ false = sym (ap is_eq equal) ∙ meets in cc)
      by (Over more) = lt-below (key_of e) (key_of entry) more

  pub entry-lies : (base : ℕ) (low high : Option Entry) (es : List Entry) (place : ℕ) → is_above low entry ≡ true
      → is_below high entry ≡ true → (seek (Absent (key_of entry)) base low high es).at ≡ Between place
      → (is_above (seek (Absent (key_of entry)) base low high es).low entry ≡ true)
      × (is_below (seek (Absent (key_of entry)) base low high es).high entry ≡ true)
  entry-lies base low high [] place above below at =
      subst (λ (s : Sought). (is_above s.low entry ≡ true) × (is_below s.high entry ≡ true))
      (sym (seek-nil (Absent (key_of entry)) base low high)) (above, below)
  entry-lies base low high (e ∷ es) place above below at =
      let same = seek-cons (Absent (key_of entry)) base low high e es in
      subst (λ (s : Sought). (is_above s.low entry ≡ true) × (is_below s.high entry ≡ true)) (sym same)
      (by (has_asked_key ask e) (is_left ask e) refl refl (λ over there. entry-lies (base + 1) (Some e) high es place
      over below there) (ap (λ (s : Sought). s.at) (sym same) ∙ at))
    where
      rest : Sought
      rest = seek (Absent (key_of entry)) (base + 1) (Some e) high es

      by : (meets left : Bool) → has_asked_key ask e ≡ meets → is_left ask e ≡ left
          → (is_above (Some e) entry ≡ true → rest.at ≡ Between place → (is_above rest.low entry ≡ true)
          × (is_below rest.high entry ≡ true))
          → (step_by meets left (met_here ask base low high e es) (left_here ask base low high e es) rest).at ≡ Between
          place
          → (is_above (step_by meets left (met_here ask base low high e es) (left_here ask base low high e es) rest).low
          entry ≡ true)
          × (is_below (step_by meets left (met_here ask base low high e es) (left_here ask base low high e es)
          rest).high entry ≡ true)
      by true left m l on there = no_slot (base + 1) place there
      by false true m l on there = (above, l)
      by false false m l on there = on (over-entry e m l) there

-- ---- what is then listed

module _ (e : Entry) where
  -- the entry goes into the list of the child at its place
  pub with-child : (k : ℕ) (cs : List (List Entry)) (es : List Entry) → length cs ≡ length es + 1
      → IsRising (woven cs es) → Each (λ f. KeyBelow (key_of f) (key_of e)) (take k es)
      → Each (λ f. KeyBelow (key_of e) (key_of f)) (drop k es) → k ≤ length es
      → with_entry (woven cs es) e ≡ woven ((take k cs ++ with_entry (slice_index_or cs k []) e ∷ []) ++ drop (suc k)
      cs) es
  with-child k [] es count rising before behind room = absurd (omega (arith, count))
  with-child zero (c ∷ cs) [] count rising before behind room = refl
  with-child (suc k) (c ∷ cs) [] count rising before behind room = absurd (omega (arith, room))
  with-child zero (c ∷ cs) (f ∷ es) count rising before behind room = with-left e c f (woven cs es)
      (lt-below (key_of e) (key_of f) behind.0)
  with-child (suc k) (c ∷ cs) (f ∷ es) count rising before behind room =
      let parts = cut c f (woven cs es) rising in
      with-right e c f (woven cs es) parts.lower (lt-above (key_of e) (key_of f) before.0)
      ∙ ap (λ (xs : List Entry). c ++ f ∷ xs) (with-child k cs es (omega (arith, count)) parts.back_rises before.1
      behind (omega (arith, room)))

-- two children with an entry between them list what one in their place does
pub two-children : (k : ℕ) (cs : List (List Entry)) (es : List Entry) (a b : List Entry) (m : Entry)
    → length cs ≡ length es + 1 → k ≤ length es
    → woven ((take k cs ++ a ∷ b ∷ []) ++ drop (suc k) cs) ((take k es ++ m ∷ []) ++ drop k es) ≡ woven
    ((take k cs ++ (a ++ m ∷ b) ∷ []) ++ drop (suc k) cs) es
two-children k [] es a b m count room = absurd (omega (arith, count))
two-children zero (c ∷ []) [] a b m count room = refl
two-children zero (c ∷ d ∷ cs) [] a b m count room = absurd (omega (arith, count))
two-children zero (c ∷ cs) (f ∷ es) a b m count room = sym (append_assoc a (m ∷ b) (f ∷ woven cs es))
two-children (suc k) (c ∷ cs) [] a b m count room = absurd (omega (arith, room))
two-children (suc k) (c ∷ cs) (f ∷ es) a b m count room = ap (λ (xs : List Entry). c ++ f ∷ xs)
    (two-children k cs es a b m (omega (arith, count)) (omega (arith, room)))

-- two pages list what they do together
pub cut-woven : (fs ss : List (List Entry)) (es xs : List Entry) (m : Entry) → length fs ≡ length es + 1
    → woven (fs ++ ss) ((es ++ m ∷ []) ++ xs) ≡ woven fs es ++ m ∷ woven ss xs
cut-woven [] ss es xs m count = absurd (omega (arith, count))
cut-woven (f ∷ []) ss [] xs m count = refl
cut-woven (f ∷ g ∷ fs) ss [] xs m count = absurd (omega (arith, count))
cut-woven (f ∷ fs) ss (e ∷ es) xs m count =
    ap (λ (ys : List Entry). f ++ e ∷ ys) (cut-woven fs ss es xs m (omega (arith, count)))
    ∙ sym (append_assoc f (e ∷ woven fs es) (m ∷ woven ss xs))
