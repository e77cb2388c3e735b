-- Lists of events with one root, and trees with one label, are the same, or two texts clash.
use Rattle.std.proofs.Common.{◌≡◌, ℕ, ◌-◌, ◌<◌, ◌≤◌, List, [], ◌∷◌, ◌++◌, length, refl, ap, sym, ◌∙◌}
use Rattle.std.proofs.Common.{arith, inl}
use Rattle.std.proofs.lemmas.List.{take-append-drop}
use Rattle.tw_base.specs.events.EventTree.{event_root, event_texts, largest_power_below, left_half, right_half}
use Rattle.tw_base.specs.history.Auth.{tree_label}
use Rattle.tw_base.specs.history.Entries.{IsFit, entry_text}
use Rattle.tw_base.specs.history.HistoryTexts.{tree_texts}
use Rattle.tw_base.specs.history.Tree.{Tree, entries}
use Rattle.tw_base.specs.history.Tree.Tree.{Empty, Branch}
use Rattle.tw_base.specs.kinds.Bytes.{AreBytes}
use Rattle.tw_base.specs.kinds.Clash.{OrClash, Within}
use Rattle.tw_base.specs.kinds.Lists.{Each}
use Rattle.tw_base.specs.kinds.Texts.{empty_tree_text, event_leaf_text, event_node_text}
use Rattle.tw_base.proofs.lemmas.events.EventTrees.{by_halves, event_root-more, event_root-one, event_texts-leaf}
use Rattle.tw_base.proofs.lemmas.events.EventTrees.{event_texts-left, event_texts-right, event_texts-top}
use Rattle.tw_base.proofs.lemmas.events.EventTrees.{length-event_root, length-left_half, length-right_half}
use Rattle.tw_base.proofs.lemmas.kinds.Clashes.{Among-left, Among-right, and_then, same_text}
use Rattle.tw_base.proofs.lemmas.kinds.ListLemmas.{Each-parts}
use Rattle.tw_base.proofs.lemmas.kinds.Sizes.{tree_label-size}
use Rattle.tw_base.proofs.lemmas.kinds.TextFields.{leaf-fields, node-fields}
use Rattle.tw_treeproof.proofs.Binding.{not_leaf, tree_node-fields}

-- a list is its halves
whole : (xs ys : List (List ℕ)) → left_half xs ≡ left_half ys → right_half xs ≡ right_half ys → xs ≡ ys
whole xs ys one other =
    let halves_same : left_half xs ++ right_half xs ≡ left_half ys ++ right_half ys = λ i. one i ++ other i in
    sym (take-append-drop (largest_power_below (length xs)) xs) ∙ halves_same ∙ take-append-drop
    (largest_power_below (length ys)) ys

module _ (dig : List ℕ → List ℕ) (size : (text : List ℕ) → length (dig text) ≡ 32) (texts : List (List ℕ))
    (are : Each AreBytes texts) where
  -- ---- events

  Alike : ℕ → Type 0
  Alike n = (xs ys : List (List ℕ)) → length xs ≡ n → length ys ≡ n → event_root dig xs ≡ event_root dig ys
      → Within (event_texts dig xs) texts → Within (event_texts dig ys) texts → OrClash dig texts (xs ≡ ys)

  few : (n : ℕ) → n ≤ 1 → Alike n
  unfolding Alike
  few n one [] [] m k e p q = inl refl
  few n one [] (y ∷ ys) m k e p q = absurd (omega (arith, m, k))
  few n one (x ∷ []) [] m k e p q = absurd (omega (arith, m, k))
  few n one (x ∷ []) (y ∷ []) m k e p q =
      and_then dig texts (event_leaf_text x ≡ event_leaf_text y) (x ∷ [] ≡ y ∷ [])
      (same_text dig texts are (event_leaf_text x) (event_leaf_text y) (p _ (event_texts-leaf dig x))
      (q _ (event_texts-leaf dig y))
      (sym (event_root-one dig x) ∙ e ∙ event_root-one dig y))
      (λ same. inl (ap (λ (z : List ℕ). z ∷ []) (leaf-fields x y same)))
  few n one (x ∷ []) (y ∷ z ∷ ys) m k e p q = absurd (omega (arith, one, k))
  few n one (x ∷ z ∷ xs) ys m k e p q = absurd (omega (arith, one, m))

  many : (n : ℕ) → 1 < n → Alike (largest_power_below n) → Alike (n - largest_power_below n) → Alike n
  unfolding Alike
  many n more left right xs ys m k e p q =
      let more_x : 1 < length xs = omega (arith, more, m) in
      let more_y : 1 < length ys = omega (arith, more, k) in
      let same_x : largest_power_below (length xs) ≡ largest_power_below n = ap largest_power_below m in
      let same_y : largest_power_below (length ys) ≡ largest_power_below n = ap largest_power_below k in
      let rest_x : length (right_half xs) ≡ n - largest_power_below n =
      length-right_half xs ∙ ap (λ x. x - largest_power_below (length xs)) m ∙ ap (λ x. n - x) same_x in
      let rest_y : length (right_half ys) ≡ n - largest_power_below n =
      length-right_half ys ∙ ap (λ x. x - largest_power_below (length ys)) k ∙ ap (λ x. n - x) same_y in
      let top_x : List ℕ = event_node_text (event_root dig (left_half xs)) (event_root dig (right_half xs)) in
      let top_y : List ℕ = event_node_text (event_root dig (left_half ys)) (event_root dig (right_half ys)) in
      and_then dig texts (top_x ≡ top_y) (xs ≡ ys)
      (same_text dig texts are top_x top_y (p _ (event_texts-top dig xs more_x)) (q _ (event_texts-top dig ys more_y))
      (sym (event_root-more dig xs more_x) ∙ e ∙ event_root-more dig ys more_y))
      (λ one_text.
      let roots = node-fields _ _ _ _ (length-event_root dig size (left_half xs)
      ∙ sym (length-event_root dig size (left_half ys))) one_text in
      and_then dig texts (left_half xs ≡ left_half ys) (xs ≡ ys)
      (left (left_half xs) (left_half ys) (length-left_half xs more_x ∙ same_x) (length-left_half ys more_y ∙ same_y)
      roots.0
      (λ text a. p text (event_texts-left dig xs more_x text a))
      (λ text a. q text (event_texts-left dig ys more_y text a)))
      (λ one. and_then dig texts (right_half xs ≡ right_half ys) (xs ≡ ys)
      (right (right_half xs) (right_half ys) rest_x rest_y roots.1
      (λ text a. p text (event_texts-right dig xs more_x text a))
      (λ text a. q text (event_texts-right dig ys more_y text a)))
      (λ other. inl (whole xs ys one other))))

  -- as many events with one root are the same
  pub events-same : (xs ys : List (List ℕ)) → length xs ≡ length ys → event_root dig xs ≡ event_root dig ys
      → Within (event_texts dig xs) texts → Within (event_texts dig ys) texts → OrClash dig texts (xs ≡ ys)
  unfolding Alike
  events-same xs ys count = by_halves Alike few many (length xs) xs ys refl (sym count)

  -- ---- trees

  -- trees with one label are the same
  pub trees-same : (t u : Tree) → Each IsFit (entries t) → Each IsFit (entries u) → Within (tree_texts dig t) texts
      → Within (tree_texts dig u) texts
      → tree_label dig t ≡ tree_label dig u → OrClash dig texts (t ≡ u)
  unfolding tree_label tree_texts
  trees-same Empty Empty f g p q e = inl refl
  trees-same Empty (Branch l x r) f g p q e =
      and_then dig texts (empty_tree_text ≡ entry_text (tree_label dig l) x (tree_label dig r)) (Empty ≡ Branch l x r)
      (same_text dig texts are empty_tree_text (entry_text (tree_label dig l) x (tree_label dig r)) (p _ (inl refl))
      (q _ (Among-right _ (tree_texts dig l) _ (Among-right _ (tree_texts dig r) _ (inl refl)))) e)
      (λ same. absurd (not_leaf (tree_label dig l) (tree_label dig r) x same))
  trees-same (Branch l x r) Empty f g p q e =
      and_then dig texts (empty_tree_text ≡ entry_text (tree_label dig l) x (tree_label dig r)) (Branch l x r ≡ Empty)
      (same_text dig texts are empty_tree_text (entry_text (tree_label dig l) x (tree_label dig r)) (q _ (inl refl))
      (p _ (Among-right _ (tree_texts dig l) _ (Among-right _ (tree_texts dig r) _ (inl refl)))) (sym e))
      (λ same. absurd (not_leaf (tree_label dig l) (tree_label dig r) x same))
  trees-same (Branch l x r) (Branch m y s) f g p q e =
      let fit = Each-parts IsFit (entries l) (x ∷ entries r) f in
      let fit' = Each-parts IsFit (entries m) (y ∷ entries s) g in
      let one : List ℕ = entry_text (tree_label dig l) x (tree_label dig r) in
      let other : List ℕ = entry_text (tree_label dig m) y (tree_label dig s) in
      and_then dig texts (one ≡ other) (Branch l x r ≡ Branch m y s)
      (same_text dig texts are one other
      (p _ (Among-right _ (tree_texts dig l) _ (Among-right _ (tree_texts dig r) _ (inl refl))))
      (q _ (Among-right _ (tree_texts dig m) _ (Among-right _ (tree_texts dig s) _ (inl refl)))) e)
      (λ same.
      let fields = tree_node-fields _ _ _ _ x y (tree_label-size dig size l ∙ sym (tree_label-size dig size m)) fit.1.0
      fit'.1.0 same in
      and_then dig texts (l ≡ m) (Branch l x r ≡ Branch m y s)
      (trees-same l m fit.0 fit'.0 (λ text a. p text (Among-left text (tree_texts dig l) _ a))
      (λ text a. q text (Among-left text (tree_texts dig m) _ a)) fields.left)
      (λ left. and_then dig texts (r ≡ s) (Branch l x r ≡ Branch m y s)
      (trees-same r s fit.1.1 fit'.1.1
      (λ text a. p text (Among-right text (tree_texts dig l) _ (Among-left text (tree_texts dig r) _ a)))
      (λ text a. q text (Among-right text (tree_texts dig m) _ (Among-left text (tree_texts dig s) _ a))) fields.right)
      (λ right. inl (λ i. Branch (left i) (fields.entry i) (right i)))))
