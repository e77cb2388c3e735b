-- What a pass over the steps of a history keeps true.
use Rattle.std.proofs.Common.{◌≡◌, ℕ, suc, zero, ◌+◌, ◌-◌, ◌<◌, ◌≤◌, ◌^◌, ◌%◌, List, [], ◌∷◌, ◌++◌, length, get_or}
use Rattle.std.proofs.Common.{take, refl, ap, sym, ◌∙◌, subst, append_assoc, add-one, arith, lit<, inl, inr}
use Rattle.std.specs.Prelude.{Option, Some, None, drop, map, replicate, slice_get}
use Rattle.std.proofs.lemmas.List.{append-nil, append_cancel_left, get_or-append_right, get_or-drop, get_or-replicate}
use Rattle.std.proofs.lemmas.List.{get_or_append_left, length-append, length-map, length-replicate, map_more, map_push}
use Rattle.std.proofs.lemmas.List.{take_all}
use Rattle.std.proofs.Math.Nat.{mod-one, one-le-pow}
use Rattle.std.proofs.lemmas.Bool.{cases_lt}
use Rattle.tw_base.specs.declared.kinds.limits.TheConstants.{LAST_STEP}
use Rattle.tw_base.specs.declared.history.thread.Entry.{Entry}
use Rattle.tw_base.specs.kinds.Texts.{authenticator_text, empty_tree_text, genesis_text, step_datum_text}
use Rattle.tw_base.specs.history.Entries.{entry_text}
use Rattle.tw_base.specs.events.EventTree.{event_root, event_texts}
use Rattle.tw_base.specs.history.History.{History, entry_to, events_at, events_of, fresh_of, root_of, step_at, time_at}
use Rattle.tw_base.specs.history.History.{time_of}
use Rattle.tw_base.specs.history.History.{Node as NodeMeant, Step as StepMeant}
use Rattle.tw_base.specs.kinds.Levels.{top_level}
use Rattle.tw_base.specs.history.HistoryTexts.{node_texts, step_texts, texts_to, top_texts}
use Rattle.tw_base.specs.history.Tree.{Tree, branch, forest, new_trees, planted, tree}
use Rattle.tw_base.specs.history.Tree.Tree.{Branch, Empty}
use Rattle.tw_base.specs.history.Auth.{auth, auths, datum_text_at, link_texts, link_texts_at, tree_label}
use Rattle.tw_base.proofs.lemmas.history.Auths.{auth-suc, auths-at}
use Rattle.tw_base.proofs.lemmas.kinds.Levels.{top_level-below}
use Rattle.tw_base.proofs.lemmas.history.Plus.{forest-first}
use Rattle.tw_skipproof.specs.HistoryProofs.{labels_at}
use Rattle.tw_history.specs.declared.step.Node.{Node}
use Rattle.tw_history.specs.declared.step.Step.{Step}
use Rattle.tw_history.specs.declared.pass.Digests.{Digests}
use Rattle.tw_history.specs.declared.step_digests.StepDigests.{StepDigests}
use Rattle.tw_history.specs.Tables.{node_of, step_of}
use Rattle.tw_base.specs.kinds.Handing.{Hands}
use Rattle.tw_history.specs.Links.{AreReached}
use Rattle.tw_base.proofs.lemmas.kinds.HandedTexts.{hands-none, hands-text}
use Rattle.tw_history.proofs.LinkLabels.{length-labels_below}
use Rattle.tw_history.specs.PassSteps.{HandsOn, HasPassed, IsLabelTold, IsOfStep, passed_events, texts_of_rest}
use Rattle.tw_history.proofs.LastSteps.{last-kept, last-own, last-reached}
use Rattle.tw_history.proofs.TableSteps.{events_of-content}

-- ---- trees

pub planted-none : (entry : ℕ → Option Entry) (trees : List Tree) → trees ++ planted entry trees [] ≡ trees
unfolding planted
planted-none entry trees = append-nil trees

-- one more node, over all trees so far
pub planted-push : (entry : ℕ → Option Entry) (trees : List Tree) (ns : List NodeMeant) (n : NodeMeant)
    → trees ++ planted entry trees (ns ++ n ∷ [])
    ≡ (trees ++ planted entry trees ns) ++ branch (entry n.entry) (get_or (trees ++ planted entry trees ns) n.left
    Empty) (get_or (trees ++ planted entry trees ns) n.right Empty) ∷ []
unfolding planted
planted-push entry trees [] n =
    ap (λ (ts : List Tree). ts ++ branch (entry n.entry) (get_or ts n.left Empty) (get_or ts n.right Empty) ∷ [])
    (sym (append-nil trees))
planted-push entry trees (m ∷ ns) n =
    let t : Tree = branch (entry m.entry) (get_or trees m.left Empty) (get_or trees m.right Empty) in
    let same : (trees ++ t ∷ []) ++ planted entry (trees ++ t ∷ []) ns ≡ trees ++ (t ∷ planted entry (trees ++ t ∷ [])
    ns) = append_assoc trees (t ∷ []) (planted entry (trees ++ t ∷ []) ns) in
    sym (append_assoc trees (t ∷ []) (planted entry (trees ++ t ∷ []) (ns ++ n ∷ [])))
    ∙ planted-push entry (trees ++ t ∷ []) ns n
    ∙ ap (λ (ts : List Tree). ts ++ branch (entry n.entry) (get_or ts n.left Empty) (get_or ts n.right Empty) ∷ []) same

-- the tree of one more node
pub planted-more : (entry : ℕ → Option Entry) (trees : List Tree) (ns : List NodeMeant) (n : NodeMeant)
    → planted entry trees (ns ++ n ∷ [])
    ≡ planted entry trees ns ++ branch (entry n.entry) (get_or (trees ++ planted entry trees ns) n.left Empty)
    (get_or (trees ++ planted entry trees ns) n.right Empty) ∷ []
planted-more entry trees ns n =
    append_cancel_left trees _ _ (planted-push entry trees ns n
    ∙ append_assoc trees (planted entry trees ns) (branch (entry n.entry) (get_or (trees ++ planted entry trees ns)
    n.left Empty) (get_or (trees ++ planted entry trees ns) n.right Empty) ∷ []))

pub some_trees : (h : History) (i : ℕ) → 0 < length (forest h i)
unfolding forest
some_trees h zero = omega arith
some_trees h (suc i) =
    omega (
      arith,
      some_trees h i,
      length-append (forest h i) (planted (entry_to h (suc i)) (forest h i) (fresh_of (step_at h (suc i)))),
    )

module _ (dig : List ℕ → List ℕ) where
  pub tree_label-branch : (l : Tree) (e : Entry) (r : Tree) → tree_label dig (Branch l e r) ≡ dig
      (entry_text (tree_label dig l) e (tree_label dig r))
  unfolding tree_label
  tree_label-branch l e r = refl

  -- the label of a node that stands
  pub label-some : (entry : Option Entry) (e : Entry) (l r : Tree) (left right label : List ℕ) → Some e ≡ entry
      → left ≡ tree_label dig l → right ≡ tree_label dig r → label ≡ dig (entry_text left e right)
      → label ≡ tree_label dig (branch entry l r)
  label-some entry e l r left right label some left_is right_is is =
      is ∙ (λ k. dig (entry_text (left_is k) e (right_is k))) ∙ sym (tree_label-branch l e r)
      ∙ ap (λ (o : Option Entry). tree_label dig (branch o l r)) some

  -- the labels of the first fresh nodes, over those of the trees before them
  abbrev pub labels_to : (h : History) (step : ℕ) (fresh : List Node) (trees : List Tree) → ℕ → List (List ℕ)
  labels_to h step fresh trees i = map (tree_label dig) (trees ++ planted (entry_to h step) trees
      (map node_of (take i fresh)))

  pub labels_to-none : (h : History) (step : ℕ) (fresh : List Node) (trees : List Tree) → labels_to h step fresh trees 0
      ≡ map (tree_label dig) trees
  labels_to-none h step fresh trees = ap (map (tree_label dig)) (planted-none (entry_to h step) trees)

  pub labels_to-all : (h : History) (step : ℕ) (fresh : List Node) (trees : List Tree) (i : ℕ) → length fresh ≤ i
      → labels_to h step fresh trees i ≡ map (tree_label dig) (trees ++ planted (entry_to h step) trees
      (map node_of fresh))
  labels_to-all h step fresh trees i past =
      ap (λ (ns : List Node). map (tree_label dig) (trees ++ planted (entry_to h step) trees (map node_of ns)))
      (take_all i fresh past)

  -- what node i adds to them
  pub labels_to-more : (h : History) (step : ℕ) (fresh : List Node) (trees : List Tree) (i : ℕ) (d : Node)
      → i < length fresh
      → let node : Node = get_or fresh i d in
      let all : List Tree = trees ++ planted (entry_to h step) trees (map node_of (take i fresh)) in
      labels_to h step fresh trees (i + 1)
      ≡ map (tree_label dig) all ++ tree_label dig (branch (entry_to h step node.entry) (get_or all node.left Empty)
      (get_or all node.right Empty)) ∷ []
  labels_to-more h step fresh trees i d inside =
      let node : Node = get_or fresh i d in
      let all : List Tree = trees ++ planted (entry_to h step) trees (map node_of (take i fresh)) in
      ap (λ (ns : List NodeMeant). map (tree_label dig) (trees ++ planted (entry_to h step) trees ns))
      (map_more node_of fresh i d inside)
      ∙ ap (map (tree_label dig)) (planted-push (entry_to h step) trees (map node_of (take i fresh)) (node_of node))
      ∙ map_push (tree_label dig) all (branch (entry_to h step node.entry) (get_or all node.left Empty)
      (get_or all node.right Empty))

  -- ---- the texts of nodes

  -- one that doesn't stand has no text
  pub told-none : {S : Type 0} (took : S → List (List ℕ) → Type 0) (s : S) (entry : Option Entry) (l r : Tree)
      (label : List ℕ) → None ≡ entry → label ≡ tree_label dig Empty
      → IsLabelTold dig took s s label (branch entry l r)
  told-none took s entry l r label none is =
      subst (λ (o : Option Entry). IsLabelTold dig took s s label (branch o l r)) none
      (record { label_is = is; took_top = hands-none took s })

  pub told-some : {S : Type 0} (took : S → List (List ℕ) → Type 0) (old new : S) (entry : Option Entry) (e : Entry)
      (l r : Tree) (left right label : List ℕ) → Some e ≡ entry
      → left ≡ tree_label dig l → right ≡ tree_label dig r → label ≡ dig (entry_text left e right)
      → Hands took old new (entry_text left e right ∷ [])
      → IsLabelTold dig took old new label (branch entry l r)
  told-some took old new entry e l r left right label some left_is right_is is hands = record {
    label_is = label-some entry e l r left right label some left_is right_is is;
    took_top = subst (λ (o : Option Entry). Hands took old new (top_texts dig (branch o l r))) some
        (hands-text took old new _ _ (λ k. entry_text (left_is k) e (right_is k)) hands);
  }

  node_texts-push : (ts : List Tree) (t : Tree) → node_texts dig (ts ++ t ∷ []) ≡ node_texts dig ts ++ top_texts dig t
  unfolding node_texts
  node_texts-push [] t = append-nil (top_texts dig t)
  node_texts-push (u ∷ ts) t = ap (λ x. top_texts dig u ++ x) (node_texts-push ts t)
      ∙ sym (append_assoc (top_texts dig u) (node_texts dig ts) (top_texts dig t))

  -- the texts of the first fresh nodes
  abbrev pub nodes_to : (h : History) (step : ℕ) (fresh : List Node) (trees : List Tree) → ℕ → List (List ℕ)
  nodes_to h step fresh trees i = node_texts dig (planted (entry_to h step) trees (map node_of (take i fresh)))

  pub nodes_to-none : (h : History) (step : ℕ) (fresh : List Node) (trees : List Tree) → [] ≡ nodes_to h step fresh
      trees 0
  unfolding node_texts planted
  nodes_to-none h step fresh trees = refl

  pub nodes_to-all : (h : History) (step : ℕ) (fresh : List Node) (trees : List Tree) (i : ℕ) → length fresh ≤ i
      → nodes_to h step fresh trees i ≡ node_texts dig (planted (entry_to h step) trees (map node_of fresh))
  nodes_to-all h step fresh trees i past =
      ap (λ (ns : List Node). node_texts dig (planted (entry_to h step) trees (map node_of ns))) (take_all i fresh past)

  pub nodes_to-more : (h : History) (step : ℕ) (fresh : List Node) (trees : List Tree) (i : ℕ) (d : Node)
      → i < length fresh
      → let node : Node = get_or fresh i d in
      let all : List Tree = trees ++ planted (entry_to h step) trees (map node_of (take i fresh)) in
      nodes_to h step fresh trees i ++ top_texts dig (branch (entry_to h step node.entry) (get_or all node.left Empty)
      (get_or all node.right Empty))
      ≡ nodes_to h step fresh trees (i + 1)
  nodes_to-more h step fresh trees i d inside =
      let node : Node = get_or fresh i d in
      let all : List Tree = trees ++ planted (entry_to h step) trees (map node_of (take i fresh)) in
      sym (ap (λ (ns : List NodeMeant). node_texts dig (planted (entry_to h step) trees ns))
      (map_more node_of fresh i d inside)
      ∙ ap (node_texts dig) (planted-more (entry_to h step) trees (map node_of (take i fresh)) (node_of node))
      ∙ node_texts-push (planted (entry_to h step) trees (map node_of (take i fresh)))
      (branch (entry_to h step node.entry) (get_or all node.left Empty) (get_or all node.right Empty)))

  -- the first tree stays the first
  pub first-stays : (trees more : List Tree) (labels : List (List ℕ)) → labels ≡ map (tree_label dig) trees
      → 0 < length labels
      → get_or trees 0 Empty ≡ Empty → get_or (trees ++ more) 0 Empty ≡ Empty
  first-stays trees more labels is some first =
      let some_tree : 0 < length trees = omega (arith, some, ap length is, length-map trees (tree_label dig)) in
      get_or_append_left trees more Empty 0 some_tree ∙ first

  -- as many labels as trees, of which there is one at least
  pub length-labels : (h : History) (i : ℕ) (labels : List (List ℕ)) → labels ≡ map (tree_label dig) (forest h i)
      → length labels ≡ length (forest h i)
  length-labels h i labels is = ap length is ∙ length-map (forest h i) (tree_label dig)

  pub some_labels : (h : History) (i : ℕ) (more : List Tree) (labels : List (List ℕ)) → labels ≡ map (tree_label dig)
      (forest h i ++ more) → 0 < length labels
  some_labels h i more labels is =
      omega (
        arith,
        some_trees h i,
        ap length is,
        length-map (forest h i ++ more) (tree_label dig),
        length-append (forest h i) more,
      )

  module _ (h : History) where
    auth-none : auth dig h 0 ≡ dig (genesis_text h.name)
    unfolding auth auths
    auth-none = refl

    pub HasPassed-none : (d : Digests) → d.tree_labels ≡ dig empty_tree_text ∷ [] → d.latest ≡ replicate 40
        (dig (genesis_text h.name)) → HasPassed dig h 0 d
    unfolding forest tree_label
    HasPassed-none d labels latest = record {
      tree_labels = labels;
      latest = λ level within.
          ap (λ all. get_or all level []) latest ∙ get_or-replicate 40 level (dig (genesis_text h.name)) [] within
          ∙ sym auth-none
          ∙ ap (auth dig h) (let e : 0 ≡ 0 - 0 % 2 ^ level = omega arith in e);
    }

    -- the texts before the first step
    pub texts-none : genesis_text h.name ∷ empty_tree_text ∷ [] ≡ texts_to dig h 0
    unfolding texts_to
    texts-none = refl

    -- those of one step more
    texts-suc : (i : ℕ) → texts_to dig h i ++ step_texts dig h i ≡ texts_to dig h (suc i)
    unfolding texts_to
    texts-suc i = refl

    pub events-then : (i : ℕ) → event_texts dig (events_at h (i + 1)) ++ texts_of_rest dig h i ≡ step_texts dig h i
    unfolding step_texts
    events-then i = ap (λ n. event_texts dig (events_at h n) ++ texts_of_rest dig h i) (add-one i)

    module _ {S : Type 0} (took : S → List (List ℕ) → Type 0) where
      pub handed-none : (s : S) (i : ℕ) → HandsOn dig h took s s i i
      handed-none s i = record { behind = λ before has. has }

      pub handed-step : (a b c : S) (i j : ℕ) → HandsOn dig h took a b i j → Hands took b c (step_texts dig h j)
          → HandsOn dig h took a c i (j + 1)
      handed-step a b c i j on step = record {
        behind = λ before has.
            subst (λ n. took c (before ++ texts_to dig h n)) (sym (add-one j))
            (subst (took c) (append_assoc before (texts_to dig h j) (step_texts dig h j) ∙ ap (λ ts. before ++ ts)
            (texts-suc j))
            (step.behind (before ++ texts_to dig h j) (on.behind before has)));
      }

    -- the links of the next step lead to what is kept
    pub HasPassed-reached : (i : ℕ) (d : Digests) → HasPassed dig h i d → suc i ≤ LAST_STEP
        → AreReached (suc i) (auths dig h i) d.latest
    HasPassed-reached i d passed few = λ level within.
        let small : level < 40 = omega (arith, within, top_level-below (suc i) (omega arith)) in
        let some : 1 ≤ 2 ^ level = one-le-pow level 2 (lit< tt) in
        passed.latest level small ∙ ap (auth dig h) (last-reached i level (omega arith) within)
        ∙ sym (auths-at dig h i (suc i - 2 ^ level) (omega (arith, some)))

    pub reached-next : (i : ℕ) (d : Digests) → HasPassed dig h i d → i + 1 ≤ LAST_STEP
        → AreReached (i + 1) (auths dig h i) d.latest
    reached-next i d passed =
        subst (λ n. n ≤ LAST_STEP → AreReached n (auths dig h i) d.latest) (sym (add-one i))
        (HasPassed-reached i d passed)

    -- what is kept behind the next step, whose authenticator is put at its levels
    latest_next : (i : ℕ) (old new : Digests) (last : List ℕ) → HasPassed dig h i old → suc i ≤ LAST_STEP
        → last ≡ auth dig h (suc i)
        → new.latest ≡ replicate (suc (top_level (suc i))) last ++ drop (suc (top_level (suc i))) old.latest
        → (level : ℕ) → level < 40 → get_or new.latest level [] ≡ auth dig h (suc i - suc i % 2 ^ level)
    latest_next i old new last passed few is kept level within =
        let own : List (List ℕ) = replicate (suc (top_level (suc i))) last in
        let others : List (List ℕ) = drop (suc (top_level (suc i))) old.latest in
        let count : length own ≡ suc (top_level (suc i)) = length-replicate (suc (top_level (suc i))) last in
        ap (λ all. get_or all level []) kept
        ∙ elim (cases_lt (top_level (suc i)) level) [
          | inl above ↦ get_or-append_right own others (suc (top_level (suc i))) level [] count (omega (arith, above))
              ∙ get_or-drop (suc (top_level (suc i))) old.latest (level - suc (top_level (suc i))) []
              ∙ ap (λ n. get_or old.latest n []) (let e : suc (top_level (suc i)) + (level - suc (top_level (suc i)))
              ≡ level = omega (arith, above) in e)
              ∙ passed.latest level within ∙ ap (auth dig h) (sym (last-kept i level (omega arith) above))
          | inr below ↦ get_or_append_left own others [] level (omega (arith, count, below))
              ∙ get_or-replicate (suc (top_level (suc i))) level last [] (omega (arith, below))
              ∙ is ∙ ap (auth dig h) (sym (last-own i level (omega arith) below))
        ]

    -- ---- one step

    pub record PassesStep (step i : ℕ) (s : Step) (fresh : List Node) (old new : Digests) (d : StepDigests)
        (last : List ℕ) : Type 0 where
      pub passed : HasPassed dig h i old
      pub there : slice_get h.steps i ≡ Some (step_of s fresh)
      pub tree_labels : new.tree_labels ≡ map (tree_label dig) (forest h i ++ planted (entry_to h step) (forest h i)
          (map node_of fresh))
      pub event_root : d.event_root ≡ event_root dig (events_at h step)
      pub archive_root : (trees : List Tree) → new.tree_labels ≡ map (tree_label dig) trees → get_or trees 0 Empty
          ≡ Empty
          → d.archive_root ≡ tree_label dig (get_or trees s.root Empty)
      pub datum : d.datum ≡ dig (step_datum_text d.event_root d.archive_root (length (passed_events s.content)) s.time)
      pub labels : (earlier : List (List ℕ)) → AreReached step earlier old.latest
          → d.labels.items ≡ map dig (link_texts dig d.datum earlier step (suc (top_level step)))
      pub few : step ≤ LAST_STEP
      pub auth : last ≡ dig (authenticator_text step d.labels.items)
      pub latest : new.latest ≡ replicate (suc (top_level step)) last ++ drop (suc (top_level step)) old.latest

    module _ (i : ℕ) (s : Step) (fresh : List Node) (old new : Digests) (d : StepDigests) (last : List ℕ)
        (is : PassesStep (suc i) i s fresh old new d last) where
      same_step : step_at h (suc i) ≡ Some (step_of s fresh)
      same_step = is.there

      forest_is : new.tree_labels ≡ map (tree_label dig) (forest h (suc i))
      unfolding forest
      forest_is =
          is.tree_labels ∙ ap (λ (o : Option StepMeant). map (tree_label dig)
          (forest h i ++ planted (entry_to h (suc i)) (forest h i) (fresh_of o))) (sym same_step)

      archive_is : d.archive_root ≡ tree_label dig (tree h (suc i))
      unfolding tree
      archive_is =
          is.archive_root (forest h (suc i)) forest_is (forest-first h (suc i))
          ∙ ap (λ (o : Option StepMeant). tree_label dig (get_or (forest h (suc i)) (root_of o) Empty)) (sym same_step)

      events_are : passed_events s.content ≡ events_at h (suc i)
      events_are = sym (events_of-content s.content s fresh refl) ∙ ap events_of (sym same_step)

      time_is : s.time ≡ time_at h (suc i)
      time_is = ap time_of (sym same_step)

      datum_is : d.datum ≡ dig (datum_text_at dig h (suc i))
      unfolding datum_text_at
      datum_is =
          is.datum ∙ (λ k. dig (step_datum_text (is.event_root k) (archive_is k) (length (events_are k)) (time_is k)))

      own_labels : d.labels.items ≡ map dig (link_texts_at dig h (auths dig h i) (suc i))
      own_labels =
          is.labels (auths dig h i) (HasPassed-reached i old is.passed is.few)
          ∙ ap (λ datum. map dig (link_texts dig datum (auths dig h i) (suc i) (suc (top_level (suc i))))) datum_is

      labels_are : d.labels.items ≡ labels_at dig h (suc i)
      labels_are =
          own_labels
          ∙ ap (λ n. map dig (link_texts dig (dig (datum_text_at dig h (suc i))) (auths dig h n) (suc i)
          (suc (top_level (suc i))))) (let e : i ≡ suc i - 1 = omega arith in e)

      auth_is : last ≡ auth dig h (suc i)
      auth_is = is.auth ∙ ap (λ ls. dig (authenticator_text (suc i) ls)) own_labels ∙ sym (auth-suc dig h i)

      passes_suc : HasPassed dig h (suc i) new × IsOfStep dig h (suc i) d
      passes_suc = (
        record { tree_labels = forest_is; latest = latest_next i old new last is.passed is.few auth_is is.latest },
        record { event_root = is.event_root; archive_root = archive_is; datum = datum_is; labels = labels_are },
      )

    -- the texts that passing the step hands on, but for those of its events
    module _ (i : ℕ) (s : Step) (fresh : List Node) (old new : Digests) (d : StepDigests) (last : List ℕ)
        (is : PassesStep (suc i) i s fresh old new d last) where
      datum_text_is : step_datum_text d.event_root d.archive_root (length (passed_events s.content)) s.time
          ≡ datum_text_at dig h (suc i)
      unfolding datum_text_at
      datum_text_is =
          λ k. step_datum_text (is.event_root k) (archive_is i s fresh old new d last is k)
          (length (events_are i s fresh old new d last is k)) (time_is i s fresh old new d last is k)

      fresh_are : planted (entry_to h (suc i)) (forest h i) (map node_of fresh) ≡ new_trees h i
      fresh_are = ap (λ (o : Option StepMeant). planted (entry_to h (suc i)) (forest h i) (fresh_of o))
          (sym (same_step i s fresh old new d last is))

      rest_is : (node_texts dig (planted (entry_to h (suc i)) (forest h i) (map node_of fresh))
          ++ (step_datum_text d.event_root d.archive_root (length (passed_events s.content)) s.time ∷ link_texts dig
          d.datum (auths dig h i) (suc i) (suc (top_level (suc i)))))
          ++ authenticator_text (suc i) d.labels.items ∷ []
          ≡ texts_of_rest dig h i
      rest_is =
          append_assoc (node_texts dig (planted (entry_to h (suc i)) (forest h i) (map node_of fresh))) _
          (authenticator_text (suc i) d.labels.items ∷ [])
          ∙ (λ k. node_texts dig (fresh_are k)
          ++ (datum_text_is k ∷ (link_texts dig (datum_is i s fresh old new d last is k) (auths dig h i) (suc i)
          (suc (top_level (suc i)))
          ++ authenticator_text (suc i) (own_labels i s fresh old new d last is k) ∷ [])))

    pub PassesStep-texts : (i : ℕ) (s : Step) (fresh : List Node) (old new : Digests) (d : StepDigests) (last : List ℕ)
        → PassesStep (i + 1) i s fresh old new d last
        → (node_texts dig (planted (entry_to h (i + 1)) (forest h i) (map node_of fresh))
        ++ (step_datum_text d.event_root d.archive_root (length (passed_events s.content)) s.time ∷ link_texts dig
        d.datum (auths dig h i) (i + 1) (suc (top_level (i + 1)))))
        ++ authenticator_text (i + 1) d.labels.items ∷ []
        ≡ texts_of_rest dig h i
    PassesStep-texts i s fresh old new d last =
        subst (λ n. PassesStep n i s fresh old new d last
        → (node_texts dig (planted (entry_to h n) (forest h i) (map node_of fresh))
        ++ (step_datum_text d.event_root d.archive_root (length (passed_events s.content)) s.time ∷ link_texts dig
        d.datum (auths dig h i) n (suc (top_level n))))
        ++ authenticator_text n d.labels.items ∷ []
        ≡ texts_of_rest dig h i) (sym (add-one i)) (rest_is i s fresh old new d last)

    pub PassesStep-passes : (i : ℕ) (s : Step) (fresh : List Node) (old new : Digests) (d : StepDigests) (last : List ℕ)
        → PassesStep (i + 1) i s fresh old new d last → HasPassed dig h (i + 1) new × IsOfStep dig h (i + 1) d
    PassesStep-passes i s fresh old new d last =
        subst (λ n. PassesStep n i s fresh old new d last → HasPassed dig h n new × IsOfStep dig h n d)
        (sym (add-one i)) (passes_suc i s fresh old new d last)

    -- the last step passed is the last one at level 0
    pub HasPassed-auth : (last : ℕ) (d : Digests) → HasPassed dig h last d → get_or d.latest 0 [] ≡ auth dig h last
    HasPassed-auth last d passed = passed.latest 0 (omega arith) ∙ ap (auth dig h) (let e : last - last % 2 ^ 0 ≡ last =
        omega (arith, mod-one last) in e)

    -- a step has one label more than its greatest level
    pub IsOfStep-count : (step n : ℕ) (d : StepDigests) → n ≡ step → IsOfStep dig h n d → length d.labels.items ≡ suc
        (top_level step)
    IsOfStep-count step n d same is =
        ap length is.labels ∙ length-labels_below dig (dig (datum_text_at dig h n)) (auths dig h (n - 1)) n
        (suc (top_level n)) ∙ ap (λ k. suc (top_level k)) same
