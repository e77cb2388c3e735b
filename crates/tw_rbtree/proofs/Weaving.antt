-- What a question finds in a page's list, which has its entries between those of its children.
use Rattle.std.proofs.Common.{◌≡◌, ℕ, suc, zero, ◌+◌, List, [], ◌∷◌, ◌++◌, length, Bool, true, false, refl, ap, sym}
use Rattle.std.proofs.Common.{◌∙◌, subst, arith}
use Rattle.std.specs.Prelude.{◌&&◌, Option, Some, None, not, slice_index_or, if◌then◌else◌}
use Rattle.std.specs.Option.{option_or}
use Rattle.std.specs.declared.cmp.Ordering.{Ordering}
use Rattle.std.specs.declared.cmp.Ordering.TheVariants.{Less, Equal, Greater}
use Rattle.std.specs.Ordering.{is_eq, is_lt}
use Rattle.tw_base.specs.declared.history.thread.Entry.{Entry}
use Rattle.tw_base.specs.declared.history.thread.Key.{Key}
use Rattle.tw_base.specs.declared.history.tree_proof.Ask.{Ask}
use Rattle.tw_base.specs.declared.history.tree_proof.Ask.TheVariants.{Present, Absent, Below, Above}
use Rattle.tw_base.specs.history.Asking.{entry_with, first_above, last_below}
use Rattle.tw_base.specs.history.Entries.{KeyBelow, key_cmp, key_of}
use Rattle.tw_base.specs.kinds.Lists.{Each}
use Rattle.tw_base.specs.history.Tree.{IsRising}
use Rattle.tw_base.proofs.lemmas.history.KeyTests.{lt-below}
use Rattle.tw_base.proofs.lemmas.kinds.ListLemmas.{Each-parts}
use Rattle.tw_base.specs.history.Ways.{has_asked_key, is_left}
use Rattle.tw_rbnode.specs.declared.node.Found.{Found as Spot}
use Rattle.tw_rbnode.specs.declared.node.Found.TheVariants.{At, Between}
use Rattle.tw_rbnode.specs.Trees.{woven}
use Rattle.tw_base.proofs.lemmas.history.Asked.{above-left, above-right, below-left, below-right, cut, with-equal}
use Rattle.tw_base.proofs.lemmas.history.Asked.{with-less, with-more}
use Rattle.tw_rbtree.specs.declared.seeking.Sought.{Sought}
use Rattle.tw_rbtree.specs.Reading.{is_above, is_below, lie_between}
use Rattle.tw_rbtree.specs.Ways.{seek}
use Rattle.tw_rbtree.proofs.PageLaws.{seek-there, IsSpotOf}

-- one step of a question: it meets the entry, goes left of it, or goes on
abbrev pub step_by : {X : Type 0} → (meets left : Bool) → (met one other : X) → X
step_by meets left met one other = if meets then met else (if left then one else other)

module _ {X : Type 0} where
  -- what stands at the place to which the question leads
  abbrev pub pick : Ask → List Entry → List X → X → X
  pick ask es [] d = d
  pick ask [] (c ∷ cs) d = c
  pick ask (e ∷ es) (c ∷ cs) d = step_by (has_asked_key ask e) (is_left ask e) c c (pick ask es cs d)

module _ (ask : Ask) (base : ℕ) (low high : Option Entry) (e : Entry) (es : List Entry) where
  abbrev pub met_here : Sought
  met_here = record { at = At (base + 1); low = low; met = Some e; high = high }

  abbrev pub left_here : Sought
  left_here = record { at = Between base; low = low; met = None; high = Some e }

  pub seek-cons : seek ask base low high (e ∷ es) ≡ step_by (has_asked_key ask e) (is_left ask e) met_here left_here
      (seek ask (base + 1) (Some e) high es)
  unfolding seek
  seek-cons = refl

pub seek-nil : (ask : Ask) (base : ℕ) (low high : Option Entry) → seek ask base low high []
    ≡ record { at = Between base; low = low; met = None; high = high }
unfolding seek
seek-nil ask base low high = refl

some_or : (o : Option Entry) (e : Entry) (d : Option Entry) → option_or (option_or o (Some e)) d ≡ option_or o (Some e)
some_or None e d = refl
some_or (Some f) e d = refl

-- what the end of a way tells of the entries, beside which these two stand
abbrev pub Tells : Ask → List Entry → (low high : Option Entry) → Sought → Type 0
Tells (Present a) es low high end = entry_with es (key_of a) ≡ end.met
Tells (Absent key) es low high end = entry_with es key ≡ end.met
Tells (Below key) es low high end = option_or (last_below es key) low ≡ end.low
Tells (Above key) es low high end = option_or (first_above es key) high ≡ end.high

-- a step in a page: the end tells of the page's list what it tells of the picked child's, between the entries on its
-- sides
module _ (one : List Entry) (e : Entry) (rest : List Entry) (rising : IsRising (one ++ e ∷ rest))
    (low high : Option Entry) (end : Sought) where
  tells-left : (ask : Ask) → is_left ask e ≡ true → has_asked_key ask e ≡ false → Tells ask one low (Some e) end
      → Tells ask (one ++ e ∷ rest) low high end
  tells-left (Present a) left meets tells = by (key_cmp (key_of a) (key_of e)) refl left
    where
      by : (o : Ordering) → key_cmp (key_of a) (key_of e) ≡ o → is_lt (key_cmp (key_of a) (key_of e)) ≡ true
          → entry_with (one ++ e ∷ rest) (key_of a) ≡ end.met
      by Less is l = with-less (key_of a) one e rest rising is ∙ tells
      by Equal is l = absurd (let no : false ≡ true = sym (ap is_lt is) ∙ l in cc)
      by Greater is l = absurd (let no : false ≡ true = sym (ap is_lt is) ∙ l in cc)
  tells-left (Absent key) left meets tells = by (key_cmp key (key_of e)) refl left
    where
      by : (o : Ordering) → key_cmp key (key_of e) ≡ o → is_lt (key_cmp key (key_of e)) ≡ true
          → entry_with (one ++ e ∷ rest) key ≡ end.met
      by Less is l = with-less key one e rest rising is ∙ tells
      by Equal is l = absurd (let no : false ≡ true = sym (ap is_lt is) ∙ l in cc)
      by Greater is l = absurd (let no : false ≡ true = sym (ap is_lt is) ∙ l in cc)
  tells-left (Below key) left meets tells = by (is_lt (key_cmp (key_of e) key)) refl left
    where
      by : (b : Bool) → is_lt (key_cmp (key_of e) key) ≡ b → not (is_lt (key_cmp (key_of e) key)) ≡ true
          → option_or (last_below (one ++ e ∷ rest) key) low ≡ end.low
      by true is l = absurd (let no : false ≡ true = sym (ap not is) ∙ l in cc)
      by false is l = ap (λ (o : Option Entry). option_or o low) (below-left key one e rest is) ∙ tells
  tells-left (Above key) left meets tells =
      ap (λ (o : Option Entry). option_or o high) (above-left key one e rest left) ∙ some_or (first_above one key) e
      high ∙ tells

  tells-right : (ask : Ask) → is_left ask e ≡ false → has_asked_key ask e ≡ false → Tells ask rest (Some e) high end
      → Tells ask (one ++ e ∷ rest) low high end
  tells-right (Present a) left meets tells = by (key_cmp (key_of a) (key_of e)) refl left meets
    where
      by : (o : Ordering) → key_cmp (key_of a) (key_of e) ≡ o → is_lt (key_cmp (key_of a) (key_of e)) ≡ false
          → is_eq (key_cmp (key_of a) (key_of e)) ≡ false → entry_with (one ++ e ∷ rest) (key_of a) ≡ end.met
      by Less is l m = absurd (let no : true ≡ false = sym (ap is_lt is) ∙ l in cc)
      by Equal is l m = absurd (let no : true ≡ false = sym (ap is_eq is) ∙ m in cc)
      by Greater is l m = with-more (key_of a) one e rest rising is ∙ tells
  tells-right (Absent key) left meets tells = by (key_cmp key (key_of e)) refl left meets
    where
      by : (o : Ordering) → key_cmp key (key_of e) ≡ o → is_lt (key_cmp key (key_of e)) ≡ false
          → is_eq (key_cmp key (key_of e)) ≡ false → entry_with (one ++ e ∷ rest) key ≡ end.met
      by Less is l m = absurd (let no : true ≡ false = sym (ap is_lt is) ∙ l in cc)
      by Equal is l m = absurd (let no : true ≡ false = sym (ap is_eq is) ∙ m in cc)
      by Greater is l m = with-more key one e rest rising is ∙ tells
  tells-right (Below key) left meets tells = by (is_lt (key_cmp (key_of e) key)) refl left
    where
      by : (b : Bool) → is_lt (key_cmp (key_of e) key) ≡ b → not (is_lt (key_cmp (key_of e) key)) ≡ false
          → option_or (last_below (one ++ e ∷ rest) key) low ≡ end.low
      by true is l = ap (λ (o : Option Entry). option_or o low) (below-right key one e rest rising is)
          ∙ some_or (last_below rest key) e low ∙ tells
      by false is l = absurd (let no : true ≡ false = sym (ap not is) ∙ l in cc)
  tells-right (Above key) left meets tells = ap (λ (o : Option Entry). option_or o high)
      (above-right key one e rest rising left) ∙ tells

-- a question that meets an entry has its answer
met-equal : (key : Key) (e : Entry) → is_eq (key_cmp key (key_of e)) ≡ true → key_cmp key (key_of e) ≡ Equal
met-equal key e m = by (key_cmp key (key_of e)) refl m
  where
    by : (o : Ordering) → key_cmp key (key_of e) ≡ o → is_eq o ≡ true → key_cmp key (key_of e) ≡ Equal
    by Less is test = cc
    by Equal is test = is
    by Greater is test = cc

tells-met : (one : List Entry) (e : Entry) (rest : List Entry) → IsRising (one ++ e ∷ rest)
    → (low high low' high' : Option Entry) (at : Spot) (ask : Ask) → has_asked_key ask e ≡ true
    → Tells ask (one ++ e ∷ rest) low high (record { at = at; low = low'; met = Some e; high = high' })
tells-met one e rest rising low high low' high' at (Present a) meets = with-equal (key_of a) one e rest rising
    (met-equal (key_of a) e meets)
tells-met one e rest rising low high low' high' at (Absent key) meets = with-equal key one e rest rising
    (met-equal key e meets)
tells-met one e rest rising low high low' high' at (Below key) meets = absurd (let no : false ≡ true = meets in cc)
tells-met one e rest rising low high low' high' at (Above key) meets = absurd (let no : false ≡ true = meets in cc)

-- the end that a way from the picked child has, or the one in the page
abbrev pub EndsAt : Spot → Ask → (s : Sought) → (picked : List Entry) → Sought → Type 0
EndsAt (At slot) ask s picked end = end ≡ s
EndsAt (Between place) ask s picked end = Tells ask picked s.low s.high end

abbrev pub EndsPage : Ask → (s : Sought) → (picked : List Entry) → Sought → Type 0
EndsPage ask s picked end = EndsAt s.at ask s picked end

rises-rest : (one : List Entry) (e : Entry) (rest : List Entry) → IsRising (one ++ e ∷ rest) → IsRising rest
rises-rest one e rest rising = (cut one e rest rising).back_rises

module _ (ask : Ask) (high : Option Entry) (end : Sought) where
  -- what the end tells of the child it tells of the page
  pub tells-page : (base : ℕ) (low : Option Entry) (cs : List (List Entry)) (es : List Entry) → length cs ≡ length es
      + 1 → IsRising (woven cs es)
      → EndsPage ask (seek ask base low high es) (pick ask es cs []) end → Tells ask (woven cs es) low high end
  tells-page base low [] es count rising ends = absurd (omega (arith, count))
  tells-page base low (c ∷ cs) [] count rising ends = subst (λ (s : Sought). EndsPage ask s c end)
      (seek-nil ask base low high) ends
  tells-page base low (c ∷ cs) (e ∷ es) count rising ends =
      by (tells-page (base + 1) (Some e) cs es (omega (arith, count)) (rises-rest c e (woven cs es) rising))
      (has_asked_key ask e) (is_left ask e) refl refl
      (subst (λ (s : Sought). EndsPage ask s (pick ask (e ∷ es) (c ∷ cs) []) end) (seek-cons ask base low high e es)
      ends)
    where
      rest : Sought
      rest = seek ask (base + 1) (Some e) high es

      Ends : (meets left : Bool) → Type 0
      Ends meets left = EndsPage ask (step_by meets left (met_here ask base low high e es)
          (left_here ask base low high e es) rest) (step_by meets left c c (pick ask es cs [])) end

      by : (EndsPage ask rest (pick ask es cs []) end → Tells ask (woven cs es) (Some e) high end) → (meets left : Bool)
          → has_asked_key ask e ≡ meets → is_left ask e ≡ left
          → Ends (has_asked_key ask e) (is_left ask e) → Tells ask (c ++ e ∷ woven cs es) low high end
      by on true left m l here =
          let met : end ≡ met_here ask base low high e es = subst (λ (b : Bool). Ends b (is_left ask e)) m here in
          subst (Tells ask (c ++ e ∷ woven cs es) low high) (sym met) (tells-met c e (woven cs es) rising low high low
          high (At (base + 1)) ask m)
      by on false true m l here = tells-left c e (woven cs es) rising low high end ask l m
          (subst (Ends false) l (subst (λ (b : Bool). Ends b (is_left ask e)) m here))
      by on false false m l here = tells-right c e (woven cs es) rising low high end ask l m
          (on (subst (Ends false) l (subst (λ (b : Bool). Ends b (is_left ask e)) m here)))

-- ---- what lies between

abbrev pub LiesBetween : (low high : Option Entry) → Entry → Type 0
LiesBetween low high e = (is_above low e ≡ true) × (is_below high e ≡ true)

-- all entries between, one by one
pub between-all : (low high : Option Entry) (es : List Entry) → Each (LiesBetween low high) es → lie_between low high es
    ≡ true
between-all low high [] all = refl
between-all low high (e ∷ es) all =
    ap (λ (b : Bool). (b && is_below high e) && lie_between low high es) all.0.0
    ∙ ap (λ (b : Bool). b && lie_between low high es) all.0.1 ∙ between-all low high es all.1

-- the page's own entries are among the list
pub woven-own : (P : Entry → Type 0) (cs : List (List Entry)) (es : List Entry) → length cs ≡ length es + 1
    → Each P (woven cs es) → Each P es
woven-own P cs [] count all = tt
woven-own P [] (e ∷ es) count all = absurd (omega (arith, count))
woven-own P (c ∷ cs) (e ∷ es) count all = let parts = Each-parts P c (e ∷ woven cs es) all in
    (parts.1.0, woven-own P cs es (omega (arith, count)) parts.1.1)

module _ (ask : Ask) (high : Option Entry) where
  -- the picked child's entries lie between those on the sides of the way, and rise
  pub picked-between : (base : ℕ) (low : Option Entry) (cs : List (List Entry)) (es : List Entry)
      → length cs ≡ length es + 1 → IsRising (woven cs es) → Each (LiesBetween low high) (woven cs es)
      → (place : ℕ) → (seek ask base low high es).at ≡ Between place
      → Each (LiesBetween (seek ask base low high es).low (seek ask base low high es).high) (pick ask es cs [])
      × IsRising (pick ask es cs [])
  picked-between base low [] es count rising all place at = absurd (omega (arith, count))
  picked-between base low (c ∷ cs) [] count rising all place at =
      subst (λ (s : Sought). Each (LiesBetween s.low s.high) c × IsRising c) (sym (seek-nil ask base low high))
      (all, rising)
  picked-between base low (c ∷ cs) (e ∷ es) count rising all place at =
      let parts = cut c e (woven cs es) rising in
      let sides = Each-parts (LiesBetween low high) c (e ∷ woven cs es) all in
      let first : Each (LiesBetween low (Some e)) c = both c sides.0 parts.lower in
      let last : Each (LiesBetween (Some e) high) (woven cs es) = other (woven cs es) sides.1.1 parts.upper in
      subst (λ (s : Sought). Each (LiesBetween s.low s.high) (pick ask (e ∷ es) (c ∷ cs) [])
      × IsRising (pick ask (e ∷ es) (c ∷ cs) [])) (sym (seek-cons ask base low high e es))
      (by (picked-between (base + 1) (Some e) cs es (omega (arith, count)) parts.back_rises last place)
      (has_asked_key ask e) (is_left ask e) (first, parts.front_rises)
      (ap (λ (s : Sought). s.at) (sym (seek-cons ask base low high e es)) ∙ at))
    where
      rest : Sought
      rest = seek ask (base + 1) (Some e) high es

      both : (xs : List Entry) → Each (LiesBetween low high) xs → Each (λ f. KeyBelow (key_of f) (key_of e)) xs
          → Each (LiesBetween low (Some e)) xs
      both [] lie under = tt
      both (x ∷ xs) lie under = ((lie.0.0, lt-below (key_of x) (key_of e) under.0), both xs lie.1 under.1)

      other : (xs : List Entry) → Each (LiesBetween low high) xs → Each (λ f. KeyBelow (key_of e) (key_of f)) xs
          → Each (LiesBetween (Some e) high) xs
      other [] lie over = tt
      other (x ∷ xs) lie over = ((lt-below (key_of e) (key_of x) over.0, lie.0.1), other xs lie.1 over.1)

      by : (rest.at ≡ Between place → Each (LiesBetween rest.low rest.high) (pick ask es cs [])
          × IsRising (pick ask es cs [])) → (meets left : Bool) → Each (LiesBetween low (Some e)) c × IsRising c
          → (step_by meets left (met_here ask base low high e es) (left_here ask base low high e es) rest).at ≡ Between
          place
          → Each (LiesBetween (step_by meets left (met_here ask base low high e es) (left_here ask base low high e es)
          rest).low (step_by meets left (met_here ask base low high e es) (left_here ask base low high e es) rest).high)
          (step_by meets left c c (pick ask es cs [])) × IsRising (step_by meets left c c (pick ask es cs []))
      by on true left first there = cc
      by on false true first there = first
      by on false false first there = on there

-- what is picked stands at the place
place_in : Spot → ℕ
place_in (At slot) = 0
place_in (Between place) = place

pub same_place : (a b : ℕ) → ◌≡◌ {A = Spot} (Between a) (Between b) → a ≡ b
unfolding place_in
same_place a b e = ap place_in e

pub no_slot : {A : Type 0} (slot place : ℕ) → ◌≡◌ {A = Spot} (At slot) (Between place) → A
no_slot slot place e = absurd (let e2 : ◌≡◌ {A = Spot} (At slot) (Between place) = e in cc)

zero_place : {X : Type 0} (c : X) (cs : List X) (d : X) (k : ℕ) → k ≡ 0 → c ≡ slice_index_or (c ∷ cs) k d
zero_place c cs d zero e = refl
zero_place c cs d (suc k) e = absurd (omega (arith, e))

pub picked-at : {X : Type 0} (ask : Ask) (base : ℕ) (low high : Option Entry) (es : List Entry) (cs : List X) (d : X)
    (k : ℕ) → length cs ≡ length es + 1
    → (seek ask base low high es).at ≡ Between (base + k) → pick ask es cs d ≡ slice_index_or cs k d
picked-at ask base low high [] [] d k count at = absurd (omega (arith, count))
picked-at ask base low high (e ∷ es) [] d k count at = absurd (omega (arith, count))
picked-at ask base low high [] (c ∷ cs) d k count at =
    let here : ◌≡◌ {A = Spot} (Between base) (Between (base + k)) = ap (λ (s : Sought). s.at)
    (sym (seek-nil ask base low high)) ∙ at in
    zero_place c cs d k (omega (arith, same_place base (base + k) here))
picked-at ask base low high (e ∷ es) (c ∷ cs) d k count at =
    by (has_asked_key ask e) (is_left ask e) (λ j there. picked-at ask (base + 1) (Some e) high es cs d j
    (omega (arith, count)) there)
    (ap (λ (s : Sought). s.at) (sym (seek-cons ask base low high e es)) ∙ at)
  where
    rest : Sought
    rest = seek ask (base + 1) (Some e) high es

    on : (k : ℕ) → ((j : ℕ) → rest.at ≡ Between (base + 1 + j) → pick ask es cs d ≡ slice_index_or cs j d)
        → rest.at ≡ Between (base + k) → pick ask es cs d ≡ slice_index_or (c ∷ cs) k d
    on zero below there =
        let within : IsSpotOf (base + 1) (length es) (Between (base + 0)) = subst (IsSpotOf (base + 1) (length es))
        there (seek-there ask (base + 1) (Some e) high es) in
        absurd (omega (arith, within.0))
    on (suc j) below there = below j (there ∙ ap (λ (n : ℕ). Between n) (let s : base + suc j ≡ base + 1 + j =
        omega arith in s))

    by : (meets left : Bool) → ((j : ℕ) → rest.at ≡ Between (base + 1 + j) → pick ask es cs d ≡ slice_index_or cs j d)
        → (step_by meets left (met_here ask base low high e es) (left_here ask base low high e es) rest).at ≡ Between
        (base + k) → step_by meets left c c (pick ask es cs d) ≡ slice_index_or (c ∷ cs) k d
    by true left below there = no_slot (base + 1) (base + k) there
    by false true below there = zero_place c cs d k (omega (arith, same_place base (base + k) there))
    by false false below there = on k below there
