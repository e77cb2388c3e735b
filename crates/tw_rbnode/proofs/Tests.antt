-- Whether the fields of bytes are a tree page's is decided by its test.
use Rattle.std.proofs.Common.{◌≡◌, ℕ, suc, zero, ◌+◌, List, [], ◌∷◌, length, Bool, true, false, refl, ap, sym, ◌∙◌}
use Rattle.std.proofs.Common.{subst, arith, slice_get}
use Rattle.std.specs.Prelude.{Decides, ◌==◌, ◌&&◌, ◌||◌, bytes_eq, is_some, map, nat_lt, not, Option, Some, None}
use Rattle.std.specs.Prelude.{MatchOption, if◌then◌else◌}
use Rattle.std.specs.Bool.{beq}
use Rattle.std.specs.Cmp.Lexicographic.{pointwise}
use Rattle.std.specs.declared.cmp.Ordering.{Ordering}
use Rattle.std.specs.declared.cmp.Ordering.TheVariants.{Less, Equal, Greater}
use Rattle.std.specs.Ordering.{is_lt}
use Rattle.std.proofs.lemmas.Bool.{eqb-true, eqb-false}
use Rattle.std.proofs.lemmas.Bool.Decides.{Decides-and, Decides-eqb, Decides-like, Decides-ltb}
use Rattle.std.proofs.lemmas.Slice.Eq.{bytes_eq-Decides, slice_eq-Decides}
use Rattle.tw_base.specs.declared.history.thread.Entry.{Entry}
use Rattle.tw_base.specs.history.Entries.{KeyBelow, key_cmp, key_of}
use Rattle.tw_base.specs.history.Limits.{IsEntryInRange}
use Rattle.tw_base.specs.kinds.Lists.{Each}
use Rattle.tw_base.specs.kinds.Texts.{empty_tree_text}
use Rattle.tw_base.specs.history.Tree.{IsRising}
use Rattle.tw_rbnode.specs.declared.child.Child.{Child}
use Rattle.tw_rbnode.specs.declared.links.Link.{Link}
use Rattle.tw_rbnode.specs.declared.slot.Slot.{Slot}
use Rattle.tw_rbnode.specs.Children.{IsChildAt}
use Rattle.tw_rbnode.specs.NodeBytes.{Held, LiesBelow, MayStand, fields_of, links_of, page_node_codec, slots_with}
use Rattle.tw_rbnode.specs.Page.{TreePage, shape_of}
use Rattle.tw_rbnode.specs.Shape.{Shape, Empty, Node, IsEven, IsRedBlack, is_red, size}
use Rattle.tw_rbnode.specs.Slots.{IsTree, link, slot_of}
use Rattle.tw_rbnode.specs.Tests.{all_are, are_children, are_links_of, are_rising, height_in, height_over, is_child}
use Rattle.tw_rbnode.specs.Tests.{is_link, is_red_black, may_stand, page_of}
use Rattle.tw_rbnode.proofs.HeldPages.{Each-apart, Each-both, map-each, map-size, node-fitting, slots-entries}
use Rattle.tw_rbnode.proofs.HeldPages.{slots-links, slots-whole}
use Rattle.tw_rbnode.proofs.Heights.{even_unique}
use Rattle.tw_rbnode.proofs.LinkLists.{links-at, links-size}
use Rattle.tw_rbnode.proofs.Pages.{tree_of_tree}

all-decides : {X : Type 0} (test : X → Bool) (P : X → Type 0) → ((x : X) → Decides (test x) (P x)) → (xs : List X)
    → Decides (all_are test xs) (Each P xs)
all-decides test P each [] = (λ _. tt, λ _. refl)
all-decides test P each (x ∷ xs) = Decides-and (test x) (all_are test xs) (each x) (all-decides test P each xs)

flag-decides : (a b : Bool) → Decides (beq a b) (a ≡ b)
flag-decides true true = (λ _. refl, λ _. refl)
flag-decides true false = (λ e. cc, λ e. cc)
flag-decides false true = (λ e. cc, λ e. cc)
flag-decides false false = (λ _. refl, λ _. refl)

-- ---- links

link-decides : (x y : Link) → Decides (is_link x y) (x ≡ y)
link-decides x y =
    Decides-like (is_link x y) (λ h i. record { red = h.0 i; left = h.1.0 i; right = h.1.1 i })
    (λ e. (ap (λ (z : Link). z.red) e, (ap (λ (z : Link). z.left) e, ap (λ (z : Link). z.right) e)))
    (Decides-and (beq x.red y.red) ((x.left == y.left) && (x.right == y.right)) (flag-decides x.red y.red)
    (Decides-and (x.left == y.left) (x.right == y.right) (Decides-eqb x.left y.left) (Decides-eqb x.right y.right)))

links-decides : (xs ys : List Link) → Decides (pointwise is_link xs ys) (xs ≡ ys)
links-decides xs ys = slice_eq-Decides link-decides xs ys (pointwise is_link xs ys) refl

-- ---- red and black

abbrev HasHeight : Shape → Option ℕ → Type 0
HasHeight t o = MatchOption o ((h : ℕ) → IsEven h t → ⊥) (λ h. IsEven h t)

height-red : (l r : Shape) → is_red l ≡ false → is_red r ≡ false → (x y : Option ℕ) → HasHeight l x → HasHeight r y
    → HasHeight (Node true l r) (height_over true x y)
height-red l r black other None y one two = λ h even. one h even.2
height-red l r black other (Some a) None one two = λ h even. two h even.3
height-red l r black other (Some a) (Some b) one two = by (a == b) refl
  where
    by : (same : Bool) → (a == b) ≡ same → HasHeight (Node true l r) (if same then Some a else None)
    by true e = (black, other, one, subst (λ (n : ℕ). IsEven n r) (sym (eqb-true a b e)) two)
    by false e = λ h even. eqb-false a b e (even_unique a h l one even.2 ∙ even_unique h b r even.3 two)

height-black : (l r : Shape) (x y : Option ℕ) → HasHeight l x → HasHeight r y → HasHeight (Node false l r)
    (height_over false x y)
height-black l r None y one two = λ h even. one even.0 even.2
height-black l r (Some a) None one two = λ h even. two even.0 even.3
height-black l r (Some a) (Some b) one two = by (a == b) refl
  where
    by : (same : Bool) → (a == b) ≡ same → HasHeight (Node false l r) (if same then Some (a + 1) else None)
    by true e = (a, refl, one, subst (λ (n : ℕ). IsEven n r) (sym (eqb-true a b e)) two)
    by false e = λ h even. eqb-false a b e (even_unique a even.0 l one even.2 ∙ even_unique even.0 b r even.3 two)

height-told : (t : Shape) → HasHeight t (height_in t)
height-told Empty = refl
height-told (Node false l r) = height-black l r (height_in l) (height_in r) (height-told l) (height-told r)
height-told (Node true l r) = by (height-told l) (height-told r) (is_red l) (is_red r) refl refl
  where
    by : HasHeight l (height_in l) → HasHeight r (height_in r) → (a b : Bool) → is_red l ≡ a → is_red r ≡ b
        → HasHeight (Node true l r) (if a || b then None else height_over true (height_in l) (height_in r))
    by one two true b e f = λ h even. (let both : true ≡ false = sym e ∙ even.0 in cc)
    by one two false true e f = λ h even. (let both : true ≡ false = sym f ∙ even.1 in cc)
    by one two false false e f = height-red l r e f (height_in l) (height_in r) one two

red_black-decides : (t : Shape) → Decides (is_red_black t) (IsRedBlack t)
red_black-decides t =
    Decides-like (is_red_black t) (λ h. (h.0, h.1.0, h.1.1)) (λ h. (h.0, (h.1, h.2)))
    (Decides-and (not (is_red t)) (is_some (height_in t)) (black (is_red t)) (some (height_in t) (height-told t)))
  where
    black : (b : Bool) → Decides (not b) (b ≡ false)
    black true = (λ e. cc, λ e. cc)
    black false = (λ _. refl, λ _. refl)

    some : (o : Option ℕ) → HasHeight t o → Decides (is_some o) ((h : ℕ) × IsEven h t)
    some None none = (λ e. cc, λ even. absurd (none even.0 even.1))
    some (Some h) is = (λ _. (h, is), λ _. refl)

-- ---- keys and children

rising-decides : (es : List Entry) → Decides (are_rising es) (IsRising es)
rising-decides [] = (λ _. tt, λ _. refl)
rising-decides (e ∷ es) =
    Decides-and (all_are (λ (f : Entry). is_lt (key_cmp (key_of e) (key_of f))) es) (are_rising es)
    (all-decides (λ (f : Entry). is_lt (key_cmp (key_of e) (key_of f))) (λ (f : Entry). KeyBelow (key_of e) (key_of f))
    (λ f. less (key_cmp (key_of e) (key_of f))) es) (rising-decides es)
  where
    less : (o : Ordering) → Decides (is_lt o) (o ≡ Less)
    less Less = (λ _. refl, λ _. refl)
    less Equal = (λ e. cc, λ e. cc)
    less Greater = (λ e. cc, λ e. cc)

child-decides : (dig : List ℕ → List ℕ) (page level : ℕ) (c : Child) → Decides (is_child dig page level c)
    (IsChildAt dig level c × LiesBelow page level c)
child-decides dig page zero c =
    Decides-like (is_child dig page zero c) (λ h. ((h.0, h.1), tt)) (λ h. (h.0.0, h.0.1))
    (Decides-and (c.page == 0) (bytes_eq c.label (dig empty_tree_text)) (Decides-eqb c.page 0)
    (bytes_eq-Decides c.label (dig empty_tree_text)))
child-decides dig page (suc level) c = Decides-and (nat_lt 0 c.page) (nat_lt c.page page) (Decides-ltb 0 c.page)
    (Decides-ltb c.page page)

-- ---- all of it

module _ (dig : List ℕ → List ℕ) (page : ℕ) where
  -- what the test of some fields says
  abbrev Passes : ℕ × Held → Type 0
  Passes f =
      ((f.1.0 ≡ slot_of 0 (page_of f).shape) × (map (λ (s : Slot). s.link) f.1.1.0 ≡ links_of 0 (page_of f).shape))
      × (IsRedBlack (page_of f).shape
      × (IsRising (page_of f).entries × Each (λ c. IsChildAt dig f.0 c × LiesBelow page f.0 c) f.1.1.1))

  passes : (f : ℕ × Held) → Decides (may_stand dig page f) (Passes f)
  unfolding may_stand
  passes f =
      Decides-and (are_links_of (page_of f).shape f.1)
      (is_red_black (page_of f).shape && (are_rising (page_of f).entries && are_children dig page f.0 f.1.1.1))
      (Decides-and (f.1.0 == slot_of 0 (page_of f).shape) (pointwise is_link (map (λ (s : Slot). s.link) f.1.1.0)
      (links_of 0 (page_of f).shape))
      (Decides-eqb f.1.0 (slot_of 0 (page_of f).shape)) (links-decides (map (λ (s : Slot). s.link) f.1.1.0)
      (links_of 0 (page_of f).shape)))
      (Decides-and (is_red_black (page_of f).shape) (are_rising (page_of f).entries && are_children dig page f.0
      f.1.1.1) (red_black-decides (page_of f).shape)
      (Decides-and (are_rising (page_of f).entries) (are_children dig page f.0 f.1.1.1)
      (rising-decides (page_of f).entries)
      (all-decides (is_child dig page f.0) (λ c. IsChildAt dig f.0 c × LiesBelow page f.0 c)
      (child-decides dig page f.0) f.1.1.1)))

  -- fields that pass are those of their page, and it may stand there
  pub passed-stands : (f : ℕ × Held) → page_node_codec.Fits f → may_stand dig page f ≡ true
      → MayStand dig page (page_of f) × (fields_of (page_of f) ≡ f)
  passed-stands f fits sure =
      let fitting = node-fitting f.0 f.1 fits in
      let test = (passes f).0 sure in
      let parts = Each-apart (IsChildAt dig f.0) (LiesBelow page f.0) f.1.1.1 test.1.1.1 in
      let slots : List Slot = f.1.1.0 in
      let entries_count : length (map (λ (s : Slot). s.entry) slots) ≡ length slots = map-size (λ (s : Slot). s.entry)
      slots in
      let sized : size (page_of f).shape ≡ length slots =
      sym (links-size 0 (page_of f).shape) ∙ ap length (sym test.0.1) ∙ map-size (λ (s : Slot). s.link) slots in (
        record {
          node = record {
            level = fitting.low;
            some = omega (arith, fitting.some, entries_count);
            most = omega (arith, fitting.few, entries_count);
            sized = sized ∙ sym entries_count;
            places = fitting.places ∙ ap (λ (n : ℕ). n + 1) (sym entries_count);
            lawful = test.1.0;
            rising = test.1.1.0;
            ranges = map-each IsEntryInRange slots fitting.ranges;
          };
          children = parts.0;
          below = parts.1;
        },
        (λ i. (
          f.0,
          (
            sym test.0.0 i,
            (
              (ap (λ (xs : List Link). slots_with xs (map (λ (s : Slot). s.entry) slots)) (sym test.0.1) ∙ slots-whole
                  slots) i,
              f.1.1.1,
            ),
          ),
        )),
      )

  -- a page that may stand there is that of its own fields, and they pass
  pub stands-passed : (p : TreePage) → MayStand dig page p → (page_of (fields_of p) ≡ p)
      × (may_stand dig page (fields_of p) ≡ true)
  stands-passed p stands =
      let node = stands.node in
      let count : length (links_of 0 p.shape) ≡ length p.entries = links-size 0 p.shape ∙ node.sized in
      let links : map (λ (s : Slot). s.link) (slots_with (links_of 0 p.shape) p.entries) ≡ links_of 0 p.shape =
      slots-links (links_of 0 p.shape) p.entries count in
      let f : ℕ → Option Link =
      slice_get (link false 0 0 ∷ map (λ (s : Slot). s.link) (slots_with (links_of 0 p.shape) p.entries)) in
      let tree : IsTree f 0 p.shape (slot_of 0 p.shape) = record {
        blank = refl;
        top_is = refl;
        at = links-at f 0 p.shape (λ k l. ap (λ (ys : List Link). slice_get ys k) (sym links)
            ∙ ap f (let s : suc k ≡ 0 + k + 1 = omega arith in s));
      } in
      let shape : shape_of 25 f (slot_of 0 p.shape) ≡ p.shape = tree_of_tree f p.shape (slot_of 0 p.shape) tree
      (omega (arith, node.sized, node.most)) in
      let entries : map (λ (s : Slot). s.entry) (slots_with (links_of 0 p.shape) p.entries) ≡ p.entries =
      slots-entries (links_of 0 p.shape) p.entries count in
      let same : page_of (fields_of p) ≡ p =
      λ i. record { level = p.level; shape = shape i; entries = entries i; children = p.children } in (
        same,
        (passes (fields_of p)).1 (
          (ap (slot_of 0) (sym shape), links ∙ ap (links_of 0) (sym shape)),
          (
            subst IsRedBlack (sym shape) node.lawful,
            (
              subst IsRising (sym entries) node.rising,
              Each-both (IsChildAt dig p.level) (LiesBelow page p.level) p.children stands.children stands.below,
            ),
          ),
        ),
      )
