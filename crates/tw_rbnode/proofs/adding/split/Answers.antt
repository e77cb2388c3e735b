use Rattle.std.proofs.Common.{◌≡◌, ◌++◌, ◌∷◌, [], length, sym, ap, ◌∙◌, arith, length-take, length-drop}
use Rattle.tw_base.specs.declared.history.thread.Entry.{Entry}
use Rattle.tw_base.specs.history.Limits.{IsEntryInRange}
use Rattle.tw_base.specs.history.Tree.{IsRising}
use Rattle.tw_rbnode.specs.Answers.{more_children, more_entries}
use Rattle.tw_rbnode.specs.Page.{TreePage}
use Rattle.tw_rbnode.proofs.Pages.{rest_taken, with_size, joined_children, joined_entries, more_rising, more_ranges}
use Rattle.tw_rbnode.proofs.Rising.{Each-drop, Each-take, Rising-drop, Rising-take, get-read}
use Rattle.tw_rbnode.proofs.adding.split.Goals.{After-as_slice-sides}
use Rattle.tw_rbnode.proofs.adding.split.Goals as goal

-- all entries, the new one among them
all_are : (c : After-as_slice-sides) → c.as_slice-all.result.now ≡ more_entries c.args.node.now.entries c.args.place
    c.args.entry
all_are c =
    let entries = ap (λ (p : TreePage). p.entries) c.node.view_is in
    c.as_slice-all.ensures.value ∙ c.more_entries-entries.ensures ∙ ap (λ xs. more_entries xs c.args.place c.args.entry)
    (c.as_slice.ensures.value ∙ entries)

rising : (c : After-as_slice-sides) → IsRising c.as_slice-all.result.now
rising c = more_rising _ _ _ c.args.place c.args.entry (ap (λ (p : TreePage). p.entries) c.node.view_is) (all_are c)
    c.node.invariant.1.rising c.requires.between

pub balanced-requires-clause-rising : goal.balanced-requires-clause-rising
balanced-requires-clause-rising c = Rising-take 12 _ (rising (goal.at.balanced-requires-clause-rising
    c).After-as_slice-sides)

pub balanced-requires-2-clause-rising : goal.balanced-requires-2-clause-rising
balanced-requires-2-clause-rising c = Rising-take _ _ (Rising-drop 13 _
    (rising (goal.at.balanced-requires-2-clause-rising c).After-as_slice-sides))

pub balanced-requires-2-clause-ranges : goal.balanced-requires-2-clause-ranges
balanced-requires-2-clause-ranges c =
    let all = all_are (goal.at.balanced-requires-2-clause-ranges c).After-as_slice-sides in
    Each-take IsEntryInRange _ _ (Each-drop IsEntryInRange 13 _ (more_ranges _ _ _ c.args.place c.args.entry
    (ap (λ (p : TreePage). p.entries) c.node.view_is) all c.node.invariant.1.ranges c.requires.range))

pub returns : goal.returns
returns c =
    let n = c.node.inside in
    let all = all_are (goal.at.returns c).After-as_slice-sides in
    let children : n.children.items ≡ c.args.node.now.children = ap (λ (p : TreePage). p.children) c.node.view_is in
    let level : n.level ≡ c.args.node.now.level = ap (λ (p : TreePage). p.level) c.node.view_is in
    let sides : c.as_slice-sides.result.now ≡ more_children c.args.node.now.children c.args.place c.args.left
    c.args.right =
    c.as_slice-sides.ensures.value ∙ c.more_children-children.ensures
    ∙ ap (λ xs. more_children xs c.args.place c.args.left c.args.right) (c.as_slice-2.ensures.value ∙ children) in
    let whole : length c.as_slice-all.result.now ≡ 25 =
    omega (
      arith,
      ap length all,
      c.requires.full,
      with_size c.args.node.now.entries (c.args.entry ∷ []) c.args.place c.requires.between.there,
    ) in
    let first : length c.balanced.result.entries ≡ 12 =
    omega (arith, ap length c.balanced.ensures.entries, length-take 12 c.as_slice-all.result.now) in
    let second : length c.balanced-2.result.entries ≡ 12 =
    omega (
      arith,
      ap length c.balanced-2.ensures.entries,
      ap length (rest_taken c.as_slice-all.result.now 13),
      length-drop 13 c.as_slice-all.result.now,
    ) in
    record {
      full = c.requires.full;
      levels = (c.balanced.ensures.level ∙ level, c.balanced-2.ensures.level ∙ level);
      counts = (first, second);
      entries =
          ap (λ (m : Entry). c.balanced.result.entries ++ m ∷ [] ++ c.balanced-2.result.entries)
          (sym (get-read c.as_slice-all.result.now 12 c.entry_of.result c.entry_of.ensures))
          ∙ joined_entries c.as_slice-all.result.now c.balanced.result.entries c.balanced-2.result.entries
          c.entry_of.result whole c.balanced.ensures.entries c.balanced-2.ensures.entries ∙ all;
      children = joined_children c.as_slice-sides.result.now c.balanced.result.children c.balanced-2.result.children
          c.balanced.ensures.children c.balanced-2.ensures.children ∙ sides;
    }
