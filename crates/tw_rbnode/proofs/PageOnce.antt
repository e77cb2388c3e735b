-- Bytes are those of one page at most.
use Rattle.std.proofs.Common.{◌≡◌, ℕ, suc, ◌+◌, List, ◌∷◌, length, false, refl, sym, ap, ◌∙◌, arith, slice_get}
use Rattle.std.specs.Prelude.{map}
use Rattle.tw_base.specs.format.PageBytes.{IsPageOf}
use Rattle.tw_base.proofs.lemmas.format.PageLaws.{page-once}
use Rattle.tw_rbnode.specs.declared.links.Link.{Link}
use Rattle.tw_rbnode.specs.declared.slot.Slot.{Slot}
use Rattle.tw_rbnode.specs.NodeBytes.{Held, fields_of, links_of, page_node_codec, slots_with}
use Rattle.tw_rbnode.specs.Page.{IsNode, TreePage}
use Rattle.tw_rbnode.specs.Shape.{Shape}
use Rattle.tw_rbnode.specs.Slots.{IsTree, link, slot_of}
use Rattle.tw_rbnode.proofs.HeldPages.{slots-entries, slots-links}
use Rattle.tw_rbnode.proofs.Heights.{tree_unique}
use Rattle.tw_rbnode.proofs.LinkLists.{links-at, links-size}
use Rattle.tw_rbnode.proofs.NodeCodecs.{node-lawful}

-- a tree stands in its own links
own : (t : Shape) (xs : List Link) (top : ℕ) → links_of 0 t ≡ xs → slot_of 0 t ≡ top
    → IsTree (slice_get (link false 0 0 ∷ xs)) 0 t top
own t xs top is e = record {
  blank = refl;
  top_is = sym e;
  at = links-at (slice_get (link false 0 0 ∷ xs)) 0 t (λ k l.
      ap (λ (ys : List Link). slice_get ys k) is ∙ ap (slice_get (link false 0 0 ∷ xs)) (let s : suc k ≡ 0 + k + 1 =
      omega arith in s));
}

pub once : (bytes : List ℕ) (p q : TreePage) → IsNode p → IsNode q → IsPageOf page_node_codec bytes (fields_of p)
    → IsPageOf page_node_codec bytes (fields_of q) → p ≡ q
once bytes p q np nq isp isq =
    let e : fields_of p ≡ fields_of q = page-once page_node_codec node-lawful bytes (fields_of p) (fields_of q) isp
    isq in
    let level : p.level ≡ q.level = ap (λ (f : ℕ × Held). f.0) e in
    let top : slot_of 0 p.shape ≡ slot_of 0 q.shape = ap (λ (f : ℕ × Held). f.1.0) e in
    let slots : slots_with (links_of 0 p.shape) p.entries ≡ slots_with (links_of 0 q.shape) q.entries =
    ap (λ (f : ℕ × Held). f.1.1.0) e in
    let children : p.children ≡ q.children = ap (λ (f : ℕ × Held). f.1.1.1) e in
    let lp : length (links_of 0 p.shape) ≡ length p.entries = links-size 0 p.shape ∙ np.sized in
    let lq : length (links_of 0 q.shape) ≡ length q.entries = links-size 0 q.shape ∙ nq.sized in
    let entries : p.entries ≡ q.entries = sym (slots-entries (links_of 0 p.shape) p.entries lp)
    ∙ ap (map (λ (s : Slot). s.entry)) slots ∙ slots-entries (links_of 0 q.shape) q.entries lq in
    let links : links_of 0 p.shape ≡ links_of 0 q.shape = sym (slots-links (links_of 0 p.shape) p.entries lp)
    ∙ ap (map (λ (s : Slot). s.link)) slots ∙ slots-links (links_of 0 q.shape) q.entries lq in
    let shape : p.shape ≡ q.shape =
    tree_unique (slice_get (link false 0 0 ∷ links_of 0 q.shape)) 0 p.shape q.shape (slot_of 0 q.shape)
    (own p.shape (links_of 0 q.shape) (slot_of 0 q.shape) links top)
    (own q.shape (links_of 0 q.shape) (slot_of 0 q.shape) refl refl) in
    λ i. record { level = level i; shape = shape i; entries = entries i; children = children i }
