-- One page further on a way, and what is found on the whole of it.
use Rattle.std.proofs.Common.{◌≡◌, ℕ, suc, zero, ◌+◌, ◌-◌, List, [], ◌∷◌, ◌++◌, length, Bool, true, false, refl, ap}
use Rattle.std.proofs.Common.{sym, ◌∙◌, subst, arith}
use Rattle.std.specs.Prelude.{◌==◌, ◌&&◌, Option, Some, None, Result, Ok, Err, if◌then◌else◌}
use Rattle.tw_base.specs.declared.history.root.Root.{Root}
use Rattle.tw_base.specs.declared.history.thread.Entry.{Entry}
use Rattle.tw_base.specs.declared.history.thread.Key.{Key}
use Rattle.tw_base.specs.declared.history.tree_proof.Ancestor.{Ancestor}
use Rattle.tw_base.specs.declared.history.tree_proof.Ask.{Ask}
use Rattle.tw_base.specs.declared.history.tree_proof.Ask.TheVariants.{Absent}
use Rattle.tw_base.specs.declared.history.tree_proof.TreeProof.{TreeProof}
use Rattle.tw_base.specs.declared.history.tree_proof.TreeProof.TheVariants.{Gap}
use Rattle.tw_base.specs.history.Ways.{has_asked_key, is_left}
use Rattle.tw_disk.specs.Found.{Found, ◌>>=◌, when}
use Rattle.tw_disk.specs.Found.Found.{Is, Bad}
use Rattle.tw_disk.specs.Image.{Image}
use Rattle.tw_disk.proofs.FoundLaws.{in_turn, is_on, same_found}
use Rattle.tw_rbnode.specs.declared.node.Found.{Found as Spot}
use Rattle.tw_rbnode.specs.declared.node.Found.TheVariants.{At, Between}
use Rattle.tw_rbnode.specs.Answers.{IsThereAsFound}
use Rattle.tw_rbnode.specs.Page.{IsNode, TreePage}
use Rattle.tw_rbnode.specs.Trees.{nodes_above}
use Rattle.tw_rbtree.specs.declared.fault.TreeFault.{TreeFault}
use Rattle.tw_rbtree.specs.declared.fault.TreeFault.TheVariants.{Present}
use Rattle.tw_rbtree.specs.declared.descending.Down.{Down}
use Rattle.tw_rbtree.specs.declared.descending.Down.TheVariants.{Met, Leaf, Child}
use Rattle.tw_rbtree.specs.declared.proving.Shown.{Shown}
use Rattle.tw_rbtree.specs.declared.seeking.Sought.{Sought}
use Rattle.tw_rbtree.specs.Beside.{IsSoughtBy}
use Rattle.tw_rbtree.specs.Downs.{IsSoughtIn}
use Rattle.tw_rbtree.specs.declared.inserting.Grown.{Grown}
use Rattle.tw_rbtree.specs.Growing.{grows_above, grows_from, grows_if, grows_of, all_full, is_full, is_two, leaf_of}
use Rattle.tw_rbtree.specs.Paths.{found_tree_path, proof_in, shown_above, shown_at, shown_from, shown_of, way_nodes}
use Rattle.tw_rbtree.specs.Paths.{way_proof, with_above}
use Rattle.tw_rbtree.specs.Reading.{child_in, fits, node_in}
use Rattle.tw_rbtree.specs.Ways.{Stop, child_page, down_at, down_in, end_from, end_of_way, nowhere, seek, way, way_from}
use Rattle.tw_rbtree.proofs.Besides.{seek-beside}
use Rattle.tw_rbtree.proofs.PageLaws.{IsSpotOf, seek-there}
use Rattle.tw_rbtree.proofs.WayLaws.{here, on_each, on_way, way-at, way-empty, way-goes, way-leaf, way-root}

is_there : (es : List Entry) (spot : Spot) → IsSpotOf 0 (length es) spot → IsThereAsFound es spot
is_there es (At slot) h = (h.0, omega (arith, h.1))
is_there es (Between place) h = omega (arith, h.1)

-- the slot or place to which a question leads is there
pub sought-there : (ask : Ask) (low high : Option Entry) (es : List Entry) (s : Sought) → s ≡ seek ask 0 low high es
    → IsThereAsFound es s.at
sought-there ask low high es s same = is_there es s.at (subst (λ (x : Sought). IsSpotOf 0 (length es) x.at) (sym same)
    (seek-there ask 0 low high es))

pub sought-place : (ask : Ask) (low high : Option Entry) (es : List Entry) (s : Sought) (place : ℕ)
    → s ≡ seek ask 0 low high es → s.at ≡ Between place → IsThereAsFound es (Between place)
sought-place ask low high es s place same at = subst (IsThereAsFound es) at (sought-there ask low high es s same)

pub sought-in : (ask : Ask) (low high : Option Entry) (p : TreePage) (s : Sought) → s ≡ seek ask 0 low high p.entries
    → IsNode p → IsSoughtIn ask low high p s
sought-in ask low high p s same node =
    record {
      here = same;
      node = node;
      there = sought-there ask low high p.entries s same;
      beside = λ beside. subst (IsSoughtBy ask) (sym same) (seek-beside ask 0 low high p.entries beside node.ranges);
    }

pub ruleset spots = (sought-place)

-- ---- what is found on a way, page by page

first_of : (a b c : Bool) → ((a && b) && c) ≡ true → a ≡ true
first_of true b c is = refl
first_of false b c is = is

pub child-level : (dig : List ℕ → List ℕ) (ps : Image) (level : ℕ) (low high : Option Entry) (page : ℕ) (q : TreePage)
    → child_in dig ps level low high page ≡ Is q → q.level ≡ level
unfolding child_in
child-level dig ps level low high page q found = by (node_in dig ps page) found
  where
    test : (p : TreePage) (b : Bool) → fits level low high p ≡ b → when b page p ≡ Is q → q.level ≡ level
    test p false fit is = cc
    test p true fit is = ap (λ (r : TreePage). r.level) (sym (same_found p q is)) ∙ level_is p.level level
        (first_of (p.level == level) _ _ fit)
      where
        level_is : (a b : ℕ) → (a == b) ≡ true → a ≡ b
        level_is a b e = grind arith

    by : (n : Found TreePage) → (n >>= (λ (p : TreePage). when (fits level low high p) page p)) ≡ Is q → q.level ≡ level
    by (Bad b) is = cc
    by (Is p) is = test p (fits level low high p) refl is

module _ (dig : List ℕ → List ℕ) (ps : Image) (ask : Ask) {X : Type 0} (of : List Stop → X) (p : TreePage)
    (met leaf : Sought → X) (above : Sought → X → X) where
  -- on from a page: what its way comes to where it meets the key, where it ends in a leaf, and above what it comes to
  -- further down
  abbrev pub on_down : Down → Found X
  on_down (Met s) = Is (met s)
  on_down (Leaf s place) = Is (leaf s)
  on_down (Child s place q) = (way_from dig ps ask q.level s.low s.high q >>= (λ stops. Is (of stops)))
      >>= (λ x. Is (above s x))

  module _ (low high : Option Entry) where
    abbrev s : Sought
    s = seek ask 0 low high p.entries

    abbrev stop : Stop
    stop = record { page = p; sought = seek ask 0 low high p.entries }

    abbrev value : List Stop → Found X
    value stops = Is (of stops)

    abbrev whole : Found X
    whole = way_from dig ps ask p.level low high p >>= (λ stops. Is (of stops))

    module _ (at_met : (slot : ℕ) → (seek ask 0 low high p.entries).at ≡ At slot → of (stop ∷ []) ≡ met
        (seek ask 0 low high p.entries))
        (at_leaf : (place : ℕ) → (seek ask 0 low high p.entries).at ≡ Between place → of (stop ∷ []) ≡ leaf
        (seek ask 0 low high p.entries))
        (more : (r : Stop) (stops : List Stop) → of (stop ∷ r ∷ stops) ≡ above (seek ask 0 low high p.entries)
        (of (r ∷ stops))) where
      -- into a child of the level one lower
      into_child : (n place : ℕ) (f : Found TreePage) → child_in dig ps n s.low s.high (child_page p place) ≡ f
          → ((f >>= (λ q. way_from dig ps ask n s.low s.high q >>= (λ stops. Is (stop ∷ stops)))) >>= value)
          ≡ ((f >>= (λ q. Is (Child s place q))) >>= on_down)
      into_child n place (Bad page) e = refl
      into_child n place (Is q) e =
          let rest : Found (List Stop) = way_from dig ps ask n s.low s.high q in
          in_turn rest (λ stops. Is (stop ∷ stops)) value
          ∙ on_way dig ps ask (λ stops. Is (of (stop ∷ stops))) (λ stops. Is (above s (of stops))) n s.low s.high q
          (λ stops. ap (λ (x : X). Is x) (more (here dig ps ask s.low s.high q) stops))
          ∙ sym (in_turn rest value (λ x. Is (above s x)))
          ∙ ap (λ (m : ℕ). (way_from dig ps ask m s.low s.high q >>= value) >>= (λ x. Is (above s x)))
          (sym (child-level dig ps n s.low s.high (child_page p place) q e))

      at_place : (place : ℕ) → s.at ≡ Between place → (n : ℕ) → p.level ≡ n
          → whole ≡ (down_at dig ps ask p s (Between place) >>= on_down)
      at_place place at zero level =
          is_on (way_from dig ps ask p.level low high p) value (stop ∷ [])
          (way-leaf dig ps ask low high p p.level level) ∙ ap (λ (x : X). Is x) (at_leaf place at)
          ∙ ap (λ (b : Bool). (if b then Is (Leaf s place) else (child_in dig ps (p.level - 1) s.low s.high
          (child_page p place) >>= (λ q. Is (Child s place q)))) >>= on_down)
          (let t : true ≡ (p.level == 0) = grind arith in t)
      at_place place at (suc n) level =
          ap (λ (w : Found (List Stop)). w >>= value) (way-goes dig ps ask low high p p.level n place level at)
          ∙ into_child n place (child_in dig ps n s.low s.high (child_page p place)) refl
          ∙ ap (λ (m : ℕ). (child_in dig ps m s.low s.high (child_page p place) >>= (λ q. Is (Child s place q)))
          >>= on_down) (let lower : n ≡ p.level - 1 = omega (arith, level) in lower)
          ∙ ap (λ (b : Bool). (if b then Is (Leaf s place) else (child_in dig ps (p.level - 1) s.low s.high
          (child_page p place) >>= (λ q. Is (Child s place q)))) >>= on_down)
          (let t : false ≡ (p.level == 0) = grind arith in t)

      at_spot : (spot : Spot) → s.at ≡ spot → whole ≡ (down_at dig ps ask p s spot >>= on_down)
      at_spot (At slot) at = is_on (way_from dig ps ask p.level low high p) value (stop ∷ [])
          (way-at dig ps ask low high p p.level slot at) ∙ ap (λ (x : X). Is x) (at_met slot at)
      at_spot (Between place) at = at_place place at p.level refl

      pub way-down : (way_from dig ps ask p.level low high p >>= (λ stops. Is (of stops)))
          ≡ (down_in dig ps ask low high p >>= on_down)
      unfolding down_in
      way-down = at_spot s.at refl

-- ---- where it ends

abbrev pub end_on : (dig : List ℕ → List ℕ) (ps : Image) (ask : Ask) → Down → Found Sought
end_on dig ps ask (Met s) = Is s
end_on dig ps ask (Leaf s place) = Is s
end_on dig ps ask (Child s place q) = end_from dig ps ask q.level s.low s.high q

as_is : {X : Type 0} (one : Found X) → (one >>= (λ x. Is x)) ≡ one
as_is (Is x) = refl
as_is (Bad page) = refl

pub end-down : (dig : List ℕ → List ℕ) (ps : Image) (ask : Ask) (low high : Option Entry) (p : TreePage)
    → end_from dig ps ask p.level low high p ≡ (down_in dig ps ask low high p >>= end_on dig ps ask)
unfolding end_from
end-down dig ps ask low high p =
    way-down dig ps ask (end_of_way nowhere) p (λ s. s) (λ s. s) (λ s x. x) low high (λ slot at. refl)
    (λ place at. refl) (λ r stops. refl)
    ∙ on_each (down_in dig ps ask low high p) (on_down dig ps ask (end_of_way nowhere) p (λ s. s) (λ s. s) (λ s x. x))
    (end_on dig ps ask) by
  where
    by : (d : Down) → on_down dig ps ask (end_of_way nowhere) p (λ s. s) (λ s. s) (λ s x. x) d ≡ end_on dig ps ask d
    by (Met s) = refl
    by (Leaf s place) = refl
    by (Child s place q) =
        as_is (way_from dig ps ask q.level s.low s.high q >>= (λ stops. Is (end_of_way nowhere stops)))

pub ruleset ends_down = (end-down)

-- ---- what is shown on it

proof-above : (dig : List ℕ → List ℕ) (stops : List Stop) (up more : List Ancestor) → way_proof dig stops (up ++ more)
    ≡ with_above (way_proof dig stops up) more
unfolding way_proof
proof-above dig [] up more = refl
proof-above dig (s ∷ []) up more = by s.sought.at
  where
    by : (at : Spot) → proof_in dig s.page at (up ++ more) ≡ with_above (proof_in dig s.page at up) more
    by (At slot) = refl
    by (Between place) = refl
proof-above dig (s ∷ r ∷ stops) up more = proof-above dig (r ∷ stops) up more

shown-one : (dig : List ℕ → List ℕ) (s : Stop) → shown_of dig (s ∷ []) ≡ shown_above dig s.page s.sought
    (shown_at dig s.page s.sought)
unfolding way_proof way_nodes
shown-one dig s = ap (λ (proof : TreeProof). record { met = s.sought.met; proof = proof })
    (proof-above dig (s ∷ []) [] (nodes_above dig s.page s.sought.at))

shown-more : (dig : List ℕ → List ℕ) (s r : Stop) (stops : List Stop) → shown_of dig (s ∷ r ∷ stops) ≡ shown_above dig
    s.page s.sought (shown_of dig (r ∷ stops))
unfolding way_proof way_nodes
shown-more dig s r stops =
    ap (λ (proof : TreeProof). record { met = (end_of_way nowhere (r ∷ stops)).met; proof = proof })
    (proof-above dig (r ∷ stops) (way_nodes dig (r ∷ stops)) (nodes_above dig s.page s.sought.at))

abbrev pub shown_on : (dig : List ℕ → List ℕ) (ps : Image) (ask : Ask) → TreePage → Down → Found Shown
shown_on dig ps ask p (Met s) = Is (shown_above dig p s (shown_at dig p s))
shown_on dig ps ask p (Leaf s place) = Is (shown_above dig p s (shown_at dig p s))
shown_on dig ps ask p (Child s place q) = shown_from dig ps ask q.level s.low s.high q
    >>= (λ x. Is (shown_above dig p s x))

pub shown-down : (dig : List ℕ → List ℕ) (ps : Image) (ask : Ask) (low high : Option Entry) (p : TreePage)
    → shown_from dig ps ask p.level low high p ≡ (down_in dig ps ask low high p >>= shown_on dig ps ask p)
unfolding shown_from
shown-down dig ps ask low high p =
    let stop : Stop = record { page = p; sought = seek ask 0 low high p.entries } in
    way-down dig ps ask (shown_of dig) p end end (shown_above dig p) low high (λ slot at. shown-one dig stop)
    (λ place at. shown-one dig stop) (shown-more dig stop)
    ∙ on_each (down_in dig ps ask low high p) (on_down dig ps ask (shown_of dig) p end end (shown_above dig p))
    (shown_on dig ps ask p) by
  where
    end : Sought → Shown
    end s = shown_above dig p s (shown_at dig p s)

    by : (d : Down) → on_down dig ps ask (shown_of dig) p end end (shown_above dig p) d ≡ shown_on dig ps ask p d
    by (Met s) = refl
    by (Leaf s place) = refl
    by (Child s place q) = refl

pub path-empty : (dig : List ℕ → List ℕ) (ps : Image) (ask : Ask) (root : Root) → root.page ≡ 0 → found_tree_path dig ps
    ask root ≡ Is (record { met = None; proof = Gap [] })
unfolding found_tree_path way_proof way_nodes
path-empty dig ps ask root none = is_on (way dig ps ask root) (λ stops. Is (shown_of dig stops)) []
    (way-empty dig ps ask root none)

pub path-root : (dig : List ℕ → List ℕ) (ps : Image) (ask : Ask) (root : Root) → (root.page ≡ 0 → ⊥)
    → found_tree_path dig ps ask root ≡ (node_in dig ps root.page >>= (λ p. shown_from dig ps ask p.level None None p))
unfolding found_tree_path shown_from
path-root dig ps ask root some =
    ap (λ (w : Found (List Stop)). w >>= (λ stops. Is (shown_of dig stops))) (way-root dig ps ask root some)
    ∙ in_turn (node_in dig ps root.page) (λ p. way_from dig ps ask p.level None None p)
    (λ stops. Is (shown_of dig stops))

pub ruleset shown_down = (shown-down, path-empty, path-root)

-- ---- whether an entry more finds room on it

-- it meets an entry exactly at a slot
IsMetAt : Spot → Option Entry → Type 0
IsMetAt (At slot) None = ⊥
IsMetAt (At slot) (Some e) = Unit {0}
IsMetAt (Between place) None = Unit {0}
IsMetAt (Between place) (Some e) = ⊥

seek-met : (ask : Ask) (base : ℕ) (low high : Option Entry) (es : List Entry) → IsMetAt (seek ask base low high es).at
    (seek ask base low high es).met
unfolding seek IsMetAt
seek-met ask base low high [] = tt
seek-met ask base low high (e ∷ es) = by (has_asked_key ask e) (is_left ask e)
    (seek-met ask (base + 1) (Some e) high es)
  where
    rest : Sought
    rest = seek ask (base + 1) (Some e) high es

    ends : (meets left : Bool) → Sought
    ends meets left = if meets then record { at = At (base + 1); low = low; met = Some e; high = high }
        else (if left then record { at = Between base; low = low; met = None; high = Some e } else rest)

    by : (meets left : Bool) → IsMetAt rest.at rest.met → IsMetAt (ends meets left).at (ends meets left).met
    by true left on = tt
    by false true on = tt
    by false false on = on

abbrev pub grows_on : (dig : List ℕ → List ℕ) (ps : Image) (key : Key) → TreePage → Down → Found (Result Bool TreeFault)
grows_on dig ps key p (Met s) = Is (Err Present)
grows_on dig ps key p (Leaf s place) = Is (Ok (is_full p))
grows_on dig ps key p (Child s place q) = grows_from dig ps key q.level s.low s.high q >>= (λ r. Is (grows_above p r))

abbrev grow_result : Bool → Found (Result Bool TreeFault)
grow_result two = Is (Ok two)

module _ (dig : List ℕ → List ℕ) (ps : Image) (key : Key) (low high : Option Entry) (p : TreePage) where
  at_seek : IsMetAt (seek (Absent key) 0 low high p.entries).at (seek (Absent key) 0 low high p.entries).met
  at_seek = seek-met (Absent key) 0 low high p.entries

  met-at : (slot : ℕ) (spot : Spot) (o : Option Entry) (full : Bool) → spot ≡ At slot → IsMetAt spot o
      → grows_if o full ≡ Err Present
  unfolding IsMetAt
  met-at slot (At other) None full at is = absurd is
  met-at slot (At other) (Some e) full at is = refl
  met-at slot (Between place) o full at is = absurd (let wrong : ◌≡◌ {A = Spot} (Between place) (At slot) = at in cc)

  none-at : (place : ℕ) (spot : Spot) (o : Option Entry) (full : Bool) → spot ≡ Between place → IsMetAt spot o
      → grows_if o full ≡ Ok full
  unfolding IsMetAt
  none-at place (At slot) o full at is = absurd (let wrong : ◌≡◌ {A = Spot} (At slot) (Between place) = at in cc)
  none-at place (Between other) None full at is = refl
  none-at place (Between other) (Some e) full at is = absurd is

  more-at : (r : Stop) (stops : List Stop) (o : Option Entry) → grows_if o (all_full (r ∷ stops) && is_full p)
      ≡ grows_above p (grows_if o (all_full (r ∷ stops)))
  more-at r stops None = refl
  more-at r stops (Some e) = refl

  pub grows-down : grows_from dig ps key p.level low high p ≡ (down_in dig ps (Absent key) low high p >>= grows_on dig
      ps key p)
  unfolding grows_from
  grows-down =
      let s = seek (Absent key) 0 low high p.entries in
      way-down dig ps (Absent key) grows_of p (λ s. Err Present) (λ s. Ok (is_full p)) (λ s. grows_above p) low high
      (λ slot at. met-at slot s.at s.met (is_full p) at at_seek) (λ place at. none-at place s.at s.met (is_full p) at
      at_seek) (λ r stops. more-at r stops (end_of_way nowhere (r ∷ stops)).met)
      ∙ on_each (down_in dig ps (Absent key) low high p) (on_down dig ps (Absent key) grows_of p (λ s. Err Present)
      (λ s. Ok (is_full p)) (λ s. grows_above p)) (grows_on dig ps key p) by
    where
      by : (d : Down) → on_down dig ps (Absent key) grows_of p (λ s. Err Present) (λ s. Ok (is_full p))
          (λ s. grows_above p) d ≡ grows_on dig ps key p d
      by (Met s) = refl
      by (Leaf s place) = refl
      by (Child s place q) = refl

  module _ (k : Key) (d : Down) (same : k ≡ key) (found : down_in dig ps (Absent k) low high p ≡ Is d) where
    on_found : (e : Down) → d ≡ e → grows_from dig ps key p.level low high p ≡ grows_on dig ps key p e
    on_found e is = grows-down
        ∙ is_on (down_in dig ps (Absent key) low high p) (grows_on dig ps key p) d
        (subst (λ (x : Key). down_in dig ps (Absent x) low high p ≡ Is d) same found)
        ∙ ap (grows_on dig ps key p) is

    pub grows-met : (s : Sought) → d ≡ Met s → grows_from dig ps key p.level low high p ≡ Is (Err Present)
    grows-met s is = on_found (Met s) is

    pub grows-leaf : (s : Sought) (place : ℕ) (e : Entry) (leaf : Grown) → d ≡ Leaf s place → leaf ≡ leaf_of dig e
        → grows_from dig ps key p.level low high p ≡ Is (Ok (is_two leaf && is_full p))
    grows-leaf s place e leaf is same_leaf = on_found (Leaf s place) is
        ∙ ap (λ (g : Grown). grow_result (is_two g && is_full p)) (sym same_leaf)

    pub grows-child : (s : Sought) (place : ℕ) (q : TreePage) (two : Bool) → d ≡ Child s place q
        → grows_from dig ps key q.level s.low s.high q ≡ Is (Ok two)
        → grows_from dig ps key p.level low high p ≡ Is (Ok (two && is_full p))
    grows-child s place q two is below = on_found (Child s place q) is
        ∙ is_on (grows_from dig ps key q.level s.low s.high q) (λ r. Is (grows_above p r)) (Ok two) below

pub ruleset grows_down = (grows-down)
