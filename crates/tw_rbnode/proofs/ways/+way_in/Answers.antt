use Rattle.std.proofs.Common.{◌≡◌, ◌++◌, [], ◌<◌, List, length, slice_get, take, sym, ap, ◌∙◌, arith}
use Rattle.std.proofs.lemmas.List.{append-nil}
use Rattle.tw_base.specs.declared.history.tree_proof.Ancestor.{Ancestor}
use Rattle.tw_rbnode.specs.Trees.{above_at, labels_of}
use Rattle.tw_rbnode.proofs.Descents.{no_node, parts}
use Rattle.tw_rbnode.proofs.LabelLaws.{above-left, above-none, above-root, above-right, longer}
use Rattle.tw_rbnode.proofs.Places.{tree_slot}
use Rattle.tw_rbnode.proofs.ways.+way_in.Goals as goal
use Rattle.tw_rbnode.proofs.ways.+way_in.Goals.{then-at-eq0-via-then-at-eq0, then-at-eq0-via-else-at-eq0+then-mark-at}

pub link_at-link-requires : goal.link_at-link-requires
link_at-link-requires g t c =
    let held = c.requires.tree in
    let slot : c.args.at < length c.args.links.now = tree_slot _ c.args.low held.0 c.args.at held.1 in
    omega (arith, c.told-links)

pub overflow_mul-at-2 : goal.overflow_mul-at-2
overflow_mul-at-2 g t c =
    let held = c.requires.tree in
    let slot : c.args.at < length c.args.links.now = tree_slot _ c.args.low held.0 c.args.at held.1 in
    omega (arith, c.told-links)

pub way_in-requires : goal.way_in-requires
way_in-requires g t c κs within =
    let held = c.requires.tree in
    let p = parts (slice_get c.args.links.now) c.args.low held.0 c.args.at c.link_at-link.result held.1
    c.if-at-eq0.false c.link_at-link.ensures in (
      omega (arith, c.decreases, held.2),
      (
        within,
        (
          omega (arith, c.requires.entries, held.2),
          (
            omega (arith, c.requires.children, held.2),
            (p.left, p.left_tree, omega (arith, held.2), omega (arith, held.3)),
          ),
        ),
      ),
    )

pub label_in-other-requires-clause-tree : goal.label_in-other-requires-clause-tree
label_in-other-requires-clause-tree g t c =
    let held = c.requires.tree in
    let p = parts (slice_get c.args.links.now) c.args.low held.0 c.args.at c.link_at-link.result held.1
    c.if-at-eq0.false c.link_at-link.ensures in
    (p.right, p.right_tree, omega (arith, held.2))

pub way_in-requires-else-mark-at-2 : goal.way_in-requires-else-mark-at-2
way_in-requires-else-mark-at-2 g t c κs within =
    let held = c.requires.tree in
    let p = parts (slice_get c.args.links.now) c.args.low held.0 c.args.at c.link_at-link.result held.1
    c.if-at-eq0.false c.link_at-link.ensures in (
      omega (arith, c.decreases, held.2),
      (
        within,
        (
          c.requires.entries,
          (
            c.requires.children,
            (p.right, p.right_tree, omega (arith, held.2), omega (arith, held.3)),
          ),
        ),
      ),
    )

pub returns-then-mark-at-2 : goal.returns-then-mark-at-2
returns-then-mark-at-2 g t c = record {
  nodes = λ s tree whole.
      let p = parts (slice_get c.args.links.now) c.args.low s c.args.at c.link_at-link.result tree
      c.if-at-eq0.false c.link_at-link.ensures in
      let rest = c.way_in.ensures.nodes p.left p.left_tree (omega arith) in
      let other = c.label_in-other.ensures p.right p.right_tree (omega (arith, whole)) in (
        longer _ _ _ (above_at g.H.Hasher.dig c.args.entries.now (labels_of c.args.children.now) c.args.mark c.args.low
            p.left) _ c.entry_of-entry.result _ _ rest.0 c.push.ensures.nodes other
            (above-left g.H.Hasher.dig c.args.entries.now (labels_of c.args.children.now) _ c.args.low s c.args.at
            c.link_at-link.result p c.args.mark c.entry_of-entry.result c.entry_of-entry.ensures c.if-mark-at-2.true),
        omega (arith, c.push.ensures.count, rest.1),
      );
}

pub returns-then-at-eq0 : goal.returns-then-at-eq0
returns-then-at-eq0 g t c = record {
  nodes = λ s tree whole.
      let dig = g.H.Hasher.dig in
      let es = c.args.entries.now in
      let ls = labels_of c.args.children.now in
      let so_far = take c.args.way.now.count c.args.way.now.nodes in
      let none : [] ≡ above_at g.H.Hasher.dig c.args.entries.now (labels_of c.args.children.now) c.args.mark c.args.low
      s =
      elim c.then-at-eq0.branch [
        | then-at-eq0-via-then-at-eq0 w ↦ above-none dig es ls c.args.mark c.args.low s
            (no_node _ c.args.low s c.args.at tree w.if-at-eq0.true)
        | then-at-eq0-via-else-at-eq0+then-mark-at w ↦ above-root dig es ls _ c.args.mark c.args.low s c.args.at tree
            w.if-at-eq0.false w.if-mark-at.true
      ] in
      (sym (append-nil so_far) ∙ ap (λ (xs : List Ancestor). so_far ++ xs) none, omega arith);
}

pub returns-else-mark-at-2 : goal.returns-else-mark-at-2
returns-else-mark-at-2 g t c = record {
  nodes = λ s tree whole.
      let p = parts (slice_get c.args.links.now) c.args.low s c.args.at c.link_at-link.result tree
      c.if-at-eq0.false c.link_at-link.ensures in
      let rest = c.way_in-else-mark-at-2.ensures.nodes p.right p.right_tree (omega (arith, whole)) in
      let other = c.label_in-other-else-mark-at-2.ensures p.left p.left_tree (omega arith) in (
        longer _ _ _ (above_at g.H.Hasher.dig c.args.entries.now (labels_of c.args.children.now) c.args.mark c.args.at
            p.right) _ c.entry_of-entry.result _ _ rest.0 c.push-else-mark-at-2.ensures.nodes other
            (above-right g.H.Hasher.dig c.args.entries.now (labels_of c.args.children.now) _ c.args.low s c.args.at
            c.link_at-link.result p c.args.mark c.entry_of-entry.result c.entry_of-entry.ensures
            (omega (arith, c.if-mark-at-2.false, c.if-mark-at.false))),
        omega (arith, c.push-else-mark-at-2.ensures.count, rest.1),
      );
}
