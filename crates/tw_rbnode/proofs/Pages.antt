-- Pages of slots.
use Rattle.std.proofs.Common.{◌≡◌, ℕ, suc, zero, ◌+◌, ◌-◌, ◌<◌, ◌≤◌, true, false, List, [], ◌∷◌, ◌++◌, take, drop}
use Rattle.std.proofs.Common.{length, Option, refl, sym, ap, ◌∙◌, subst, arith, nat_eq, get_or, length-append}
use Rattle.std.proofs.Common.{length-take, length-drop}
use Rattle.std.proofs.lemmas.List.{take_all, take-append-drop}
use Rattle.std.proofs.lemmas.Grind.{take_at_read}
use Rattle.tw_rbnode.specs.declared.links.Link.{Link}
use Rattle.tw_base.specs.declared.history.thread.Entry.{Entry}
use Rattle.tw_base.specs.history.Entries.{key_of}
use Rattle.tw_base.specs.kinds.Lists.{Each}
use Rattle.tw_base.specs.history.Tree.{IsRising}
use Rattle.tw_base.specs.history.Limits.{IsEntryInRange}
use Rattle.tw_rbnode.specs.declared.child.Child.{Child}
use Rattle.tw_rbnode.specs.Shape.{Shape, Empty, Node, size, IsEven, IsRedBlack, insert}
use Rattle.tw_rbnode.specs.Slots.{slot_of, At, IsTree}
use Rattle.tw_rbnode.specs.Page.{TreePage, IsBetween, IsNode, shape_of}
use Rattle.tw_rbnode.specs.Answers.{more_children, more_entries}
use Rattle.tw_rbnode.proofs.Rising.{Each-with, Rising-with}
use Rattle.tw_rbnode.proofs.RedBlack.{size_insert, insert_lawful}

not_zero : (n : ℕ) → 0 < n → nat_eq n 0 ≡ false
not_zero n h = grind arith

tree_of_at : (n : ℕ) (f : ℕ → Option Link) (base : ℕ) (t : Shape) → size t < n → At f base t
    → shape_of n f (slot_of base t) ≡ t
unfolding shape_of
tree_of_at zero f base t h at = absurd (omega arith)
tree_of_at (suc n) f base Empty h at = refl
tree_of_at (suc n) f base (Node red l r) h at =
    let some : nat_eq (base + size l + 1) 0 ≡ false = not_zero (base + size l + 1) (omega arith) in
    let here = at.0 in
    let el = tree_of_at n f base l (omega arith) at.1 in
    let er = tree_of_at n f (base + size l + 1) r (omega arith) at.2 in
    rw some (rw here (rw (el, er) refl))

pub tree_of_tree : (f : ℕ → Option Link) (t : Shape) (top : ℕ) → IsTree f 0 t top → size t ≤ 24 → shape_of 25 f top ≡ t
tree_of_tree f t top tree few = ap (shape_of 25 f) tree.top_is ∙ tree_of_at 25 f 0 t (omega arith) tree.at

abbrev pub page_of : ℕ → (ℕ → Option Link) → ℕ → List Entry → List Child → TreePage
page_of level f top entries children =
    record { level = level; shape = shape_of 25 f top; entries = entries; children = children }

pub whole_node : (f : ℕ → Option Link) (t : Shape) (top level : ℕ) (entries : List Entry) (children : List Child)
    → IsTree f 0 t top → size t ≡ length entries →
    length children ≡ length entries + 1 → 0 < length entries → length entries ≤ 24 → IsRedBlack t → level ≤ 10
    → IsRising entries → Each IsEntryInRange entries →
    IsTree f 0 (shape_of 25 f top) top × IsNode (page_of level f top entries children)
whole_node f t top level entries children tree sized places some most law low rising ranges =
    let same : shape_of 25 f top ≡ t = tree_of_tree f t top tree (omega arith) in
    let P : Shape → Type 0 = λ s. IsTree f 0 s top
    × IsNode (record { level = level; shape = s; entries = entries; children = children }) in
    subst P (sym same) (
      tree,
      record {
        sized = sized;
        places = places;
        some = some;
        most = most;
        lawful = law;
        level = low;
        rising = rising;
        ranges = ranges;
      },
    )

-- the page of 12 entries
abbrev pub leaf : Shape
leaf = Node true Empty Empty

abbrev pub left_half : Shape
left_half = Node false (Node false leaf leaf) (Node false leaf Empty)

abbrev pub right_half : Shape
right_half = Node false (Node false leaf Empty) (Node false leaf Empty)

abbrev pub twelve : Shape
twelve = Node false left_half right_half

leaf_even : (h : ℕ) → h ≡ 0 → IsEven h leaf
leaf_even h e = (refl, refl, e, e)

pub twelve_lawful : IsRedBlack twelve
twelve_lawful = (
  refl,
  3,
  (
    2,
    refl,
    (1, refl, (0, refl, leaf_even 0 refl, leaf_even 0 refl), (0, refl, leaf_even 0 refl, refl)),
    (1, refl, (0, refl, leaf_even 0 refl, refl), (0, refl, leaf_even 0 refl, refl)),
  ),
)

pub with_size : (es new : List Entry) (place : ℕ) → place ≤ length es → length (take place es ++ new ++ drop place es)
    ≡ length es + length new
with_size es new place h =
    omega (
      arith,
      length-append (take place es ++ new) (drop place es),
      length-append (take place es) new,
      length-take place es,
      length-drop place es,
    )

pub with_size_children : (cs new : List Child) (place : ℕ) → place < length cs
    → length (take place cs ++ new ++ drop (place + 1) cs) + 1 ≡ length cs + length new
with_size_children cs new place h =
    omega (
      arith,
      length-append (take place cs ++ new) (drop (place + 1) cs),
      length-append (take place cs) new,
      length-take place cs,
      length-drop (place + 1) cs,
    )

pub more_rising : (kept es all : List Entry) (place : ℕ) (e : Entry) → kept ≡ es → all ≡ more_entries es place e
    → IsRising kept → IsBetween es place (key_of e) → IsRising all
more_rising kept es all place e same is rising between = subst IsRising (sym is)
    (Rising-with es place e (subst IsRising same rising) between.above between.below)

pub more_ranges : (kept es all : List Entry) (place : ℕ) (e : Entry) → kept ≡ es → all ≡ more_entries es place e
    → Each IsEntryInRange kept → IsEntryInRange e → Each IsEntryInRange all
more_ranges kept es all place e same is ranges range =
    subst (Each IsEntryInRange) (sym is) (Each-with IsEntryInRange es place (e ∷ [])
    (subst (Each IsEntryInRange) same ranges) (range, tt))

-- the page with one more entry
pub one_more : (f g : ℕ → Option Link) (top new_top level : ℕ) (entries more : List Entry) (children sides : List Child)
    (place : ℕ) (entry : Entry) (left right : Child) →
    IsNode (page_of level f top entries children) → IsEntryInRange entry → IsBetween entries place (key_of entry)
    → length entries < 24 →
    IsTree g 0 (insert place (shape_of 25 f top)) new_top →
    more ≡ more_entries entries place entry → sides ≡ more_children children place left right →
    IsTree g 0 (shape_of 25 g new_top) new_top × IsNode (page_of level g new_top more sides)
one_more f g top new_top level entries more children sides place entry left right node range stands room tree em es =
    let sized : size (shape_of 25 f top) ≡ length entries = node.sized in
    let places : length children ≡ length entries + 1 = node.places in
    let there : place ≤ length entries = stands.there in
    let count : length more ≡ length entries + 1 =
    omega (arith, ap length em, with_size entries (entry ∷ []) place there) in
    let sides_count : length sides ≡ length entries + 2 =
    omega (arith, ap length es, with_size_children children (left ∷ right ∷ []) place (omega arith)) in
    whole_node g (insert place (shape_of 25 f top)) new_top level more sides tree
    (omega (arith, size_insert place (shape_of 25 f top))) (omega arith) (omega arith) (omega arith)
    (insert_lawful place (shape_of 25 f top) node.lawful) node.level
    (subst IsRising (sym em) (Rising-with entries place entry node.rising stands.above stands.below))
    (subst (Each IsEntryInRange) (sym em) (Each-with IsEntryInRange entries place (entry ∷ []) node.ranges (range, tt)))

pub rest_taken : {X : Type 0} (xs : List X) (n : ℕ) → take (length xs - n) (drop n xs) ≡ drop n xs
rest_taken xs n = take_all (length xs - n) (drop n xs) (omega (arith, length-drop n xs))

pub split_entries : (all : List Entry) (d : Entry) → length all ≡ 25 → take 12 all ++ get_or all 12 d ∷ [] ++ take
    (length all - 13) (drop 13 all) ≡ all
split_entries all d count =
    ap (λ xs. take 12 all ++ get_or all 12 d ∷ [] ++ xs) (rest_taken all 13)
    ∙ ap (λ xs. xs ++ drop 13 all) (sym (take_at_read all 12 d (omega arith)).1) ∙ take-append-drop 13 all

pub split_children : (all : List Child) → take 13 all ++ take (length all - 13) (drop 13 all) ≡ all
split_children all = ap (λ xs. take 13 all ++ xs) (rest_taken all 13) ∙ take-append-drop 13 all

pub joined_entries : (all first second : List Entry) (d : Entry) → length all ≡ 25 → first ≡ take 12 all
    → second ≡ take (length all - 13) (drop 13 all) → first ++ get_or all 12 d ∷ [] ++ second ≡ all
joined_entries all first second d count e1 e2 =
    ap (λ xs. xs ++ get_or all 12 d ∷ [] ++ second) e1 ∙ ap (λ xs. take 12 all ++ get_or all 12 d ∷ [] ++ xs) e2
    ∙ split_entries all d count

pub joined_children : (all first second : List Child) → first ≡ take 13 all → second ≡ take (length all - 13)
    (drop 13 all) → first ++ second ≡ all
joined_children all first second e1 e2 = ap (λ xs. xs ++ second) e1 ∙ ap (λ xs. take 13 all ++ xs) e2 ∙ split_children
    all
