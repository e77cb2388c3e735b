-- Labels, sides and ways of a tree in slots, from its root down.
use Rattle.std.proofs.Common.{◌≡◌, ◌≢◌, ℕ, suc, zero, ◌+◌, ◌-◌, ◌*◌, ◌<◌, List, [], ◌∷◌, ◌++◌, length, Option}
use Rattle.std.proofs.Common.{Some, refl, sym, ap, ◌∙◌, subst, arith, slice_get, append_assoc}
use Rattle.std.specs.Prelude.{slice_index_or}
use Rattle.tw_base.specs.declared.history.thread.Entry.{Entry}
use Rattle.tw_base.specs.declared.history.tree_proof.Ancestor.{Ancestor}
use Rattle.tw_base.specs.history.Entries.{entry_text}
use Rattle.tw_base.specs.kinds.Texts.{empty_tree_text}
use Rattle.tw_rbnode.specs.declared.child.Child.{Child}
use Rattle.tw_rbnode.specs.declared.links.Link.{Link}
use Rattle.tw_rbnode.specs.Shape.{Shape, Empty, Node, size}
use Rattle.tw_rbnode.specs.Slots.{IsTree}
use Rattle.tw_rbnode.specs.Trees.{above_at, label_at, label_over, labels_of, node_above, sides_at}
use Rattle.tw_rbnode.proofs.Descents.{Parts, before, not_before, other, same}

label_of-get : (cs : List Child) (i : ℕ) (c : Child) (d : List ℕ) → i < length cs → (slice_index_or cs i c).label
    ≡ slice_index_or (labels_of cs) i d
label_of-get [] i c d l = absurd (omega arith)
label_of-get (x ∷ cs) zero c d l = refl
label_of-get (x ∷ cs) (suc i) c d l = label_of-get cs i c d (omega arith)

module _ (dig : List ℕ → List ℕ) (es : List Entry) where
  pub leaf-label : (cs : List Child) (low : ℕ) (t : Shape) (c : Child) → t ≡ Empty → low < length cs
      → (slice_index_or cs low c).label ≡ label_at dig es (labels_of cs) low t
  unfolding label_at
  leaf-label cs low t c none l = label_of-get cs low c (dig empty_tree_text) l ∙ ap (label_at dig es (labels_of cs) low)
      (sym none)

  module _ (ls : List (List ℕ)) (f : ℕ → Option Link) (low : ℕ) (t : Shape) (at : ℕ) (node : Link)
      (p : Parts f low t at node) where
    entry_is : (e : Entry) → slice_get es (at - 1) ≡ Some e → slice_get es (low + size p.left) ≡ Some e
    entry_is e h = subst (λ (n : ℕ). slice_get es n ≡ Some e) (let s : at - 1 ≡ low + size p.left =
        omega (arith, p.at_is) in s) h

    pub node-label : (e : Entry) → slice_get es (at - 1) ≡ Some e
        → dig (entry_text (label_at dig es ls low p.left) e (label_at dig es ls at p.right)) ≡ label_at dig es ls low t
    unfolding label_at
    node-label e h =
        ap (λ (n : ℕ). dig (entry_text (label_at dig es ls low p.left) e (label_at dig es ls n p.right))) p.at_is
        ∙ ap (λ (o : Option Entry). label_over dig (label_at dig es ls low p.left) o
        (label_at dig es ls (low + size p.left + 1) p.right)) (sym (entry_is e h))
        ∙ ap (label_at dig es ls low) (sym p.is)

    module _ (slot : ℕ) where
      pub sides-here : slot ≡ at → (label_at dig es ls low p.left, label_at dig es ls at p.right) ≡ sides_at dig es ls
          slot low t
      unfolding sides_at
      sides-here h =
          ap (λ (n : ℕ). (label_at dig es ls low p.left, label_at dig es ls n p.right)) p.at_is
          ∙ sym (rw (same slot (low + size p.left + 1) (h ∙ p.at_is)) refl) ∙ ap (sides_at dig es ls slot low)
          (sym p.is)

      pub sides-left : slot < at → sides_at dig es ls slot low p.left ≡ sides_at dig es ls slot low t
      unfolding sides_at
      sides-left h =
          sym (rw (other slot (low + size p.left + 1) (omega (arith, p.at_is, h)))
          (rw (before slot (low + size p.left + 1) (omega (arith, p.at_is, h))) refl))
          ∙ ap (sides_at dig es ls slot low) (sym p.is)

      pub sides-right : at < slot → sides_at dig es ls slot at p.right ≡ sides_at dig es ls slot low t
      unfolding sides_at
      sides-right h =
          ap (λ (n : ℕ). sides_at dig es ls slot n p.right) p.at_is
          ∙ sym (rw (other slot (low + size p.left + 1) (omega (arith, p.at_is, h)))
          (rw (not_before slot (low + size p.left + 1) (omega (arith, p.at_is, h))) refl))
          ∙ ap (sides_at dig es ls slot low) (sym p.is)

    module _ (mark : ℕ) where
      abbrev with_node : List Ancestor → Entry → List ℕ → List Ancestor
      with_node up e label = up ++ record { entry = e; other = label } ∷ []

      pub above-left : (e : Entry) → slice_get es (at - 1) ≡ Some e → mark < 2 * at
          → with_node (above_at dig es ls mark low p.left) e (label_at dig es ls at p.right) ≡ above_at dig es ls mark
          low t
      unfolding above_at
      above-left e s h =
          ap (λ (n : ℕ). with_node (above_at dig es ls mark low p.left) e (label_at dig es ls n p.right)) p.at_is
          ∙ ap (λ (o : Option Entry). above_at dig es ls mark low p.left ++ node_above dig o
          (label_at dig es ls (low + size p.left + 1) p.right)) (sym (entry_is e s))
          ∙ sym (rw (other mark (2 * (low + size p.left + 1)) (omega (arith, p.at_is, h)))
          (rw (before mark (2 * (low + size p.left + 1)) (omega (arith, p.at_is, h))) refl))
          ∙ ap (above_at dig es ls mark low) (sym p.is)

      pub above-right : (e : Entry) → slice_get es (at - 1) ≡ Some e → 2 * at < mark
          → with_node (above_at dig es ls mark at p.right) e (label_at dig es ls low p.left) ≡ above_at dig es ls mark
          low t
      unfolding above_at
      above-right e s h =
          ap (λ (n : ℕ). with_node (above_at dig es ls mark n p.right) e (label_at dig es ls low p.left)) p.at_is
          ∙ ap (λ (o : Option Entry). above_at dig es ls mark (low + size p.left + 1) p.right ++ node_above dig o
          (label_at dig es ls low p.left)) (sym (entry_is e s))
          ∙ sym (rw (other mark (2 * (low + size p.left + 1)) (omega (arith, p.at_is, h)))
          (rw (not_before mark (2 * (low + size p.left + 1)) (omega (arith, p.at_is, h))) refl))
          ∙ ap (above_at dig es ls mark low) (sym p.is)

pub above-none : (dig : List ℕ → List ℕ) (es : List Entry) (ls : List (List ℕ)) (mark low : ℕ) (t : Shape) → t ≡ Empty
    → [] ≡ above_at dig es ls mark low t
unfolding above_at
above-none dig es ls mark low t none = ap (above_at dig es ls mark low) (sym none)

-- one node more on a way
pub longer : (old new more way all : List Ancestor) (e : Entry) (label own : List ℕ) → new ≡ old ++ way
    → more ≡ new ++ record { entry = e; other = label } ∷ [] → label ≡ own
    → way ++ record { entry = e; other = own } ∷ [] ≡ all → more ≡ old ++ all
longer old new more way all e label own up put same is =
    put ∙ (λ i. up i ++ record { entry = e; other = same i } ∷ []) ∙ append_assoc old way
    (record { entry = e; other = own } ∷ []) ∙ ap (λ xs. old ++ xs) is

-- at the mark of the root there is nothing above
pub above-root : (dig : List ℕ → List ℕ) (es : List Entry) (ls : List (List ℕ)) (f : ℕ → Option Link) (mark low : ℕ)
    (t : Shape) (at : ℕ) → IsTree f low t at → at ≢ 0 → mark ≡ 2 * at → [] ≡ above_at dig es ls mark low t
unfolding above_at
above-root dig es ls f mark low Empty at tree some e = absurd (some tree.top_is)
above-root dig es ls f mark low (Node red l r) at tree some e =
    let is : at ≡ low + size l + 1 = tree.top_is in
    sym (rw (same mark (2 * (low + size l + 1)) (omega (arith, e))) refl)
