-- What a history with one more step keeps: all of its earlier steps, trees and authenticators.
use Rattle.std.proofs.Common.{◌≡◌, ℕ, suc, zero, ◌<◌, ◌≤◌, List, [], ◌∷◌, ◌++◌, length, get_or, refl, ap, sym, ◌∙◌}
use Rattle.std.proofs.Common.{arith, Option, Some, None, Bool, true, false, leb}
use Rattle.std.proofs.lemmas.List.{length_push, get_or_push, get_or_append_left, length-append}
use Rattle.std.proofs.lemmas.Option.{slice_get-get_or}
use Rattle.std.proofs.lemmas.Bool.{leb-true}
use Rattle.std.specs.Prelude.{slice_index_or, if◌then◌else◌, option_and_then, map}
use Rattle.std.specs.Option.{option_to_list}
use Rattle.tw_base.specs.declared.history.thread.Entry.{Entry}
use Rattle.tw_base.specs.kinds.Texts.{authenticator_text, step_datum_text}
use Rattle.tw_base.specs.events.EventTree.{event_root}
use Rattle.tw_base.specs.history.History.{History, Step, Node, step_at, events_at, events_of, entry_at, entry_to}
use Rattle.tw_base.specs.history.History.{thread_of, fresh_of, received, root_of, plus, time_at, time_of, times}
use Rattle.tw_base.specs.history.Tree.{Tree, branch, forest, planted, tree}
use Rattle.tw_base.specs.history.Tree.Tree.{Empty}
use Rattle.tw_base.specs.kinds.Levels.{top_level}
use Rattle.tw_base.specs.history.Auth.{auth, auths, auth_text, datum_text_at, link_texts, tree_label}

same_if : (b : Bool) (x y : Option Entry) → (b ≡ true → x ≡ y) → (if b then x else None) ≡ (if b then y else None)
same_if true x y e = e refl
same_if false x y e = refl

planted-same : (e f : ℕ → Option Entry) → ((k : ℕ) → e k ≡ f k) → (trees : List Tree) (ns : List Node)
    → planted e trees ns ≡ planted f trees ns
unfolding planted
planted-same e f same trees [] = refl
planted-same e f same trees (n ∷ ns) =
    ap (λ (o : Option Entry). branch o (slice_index_or trees n.left Empty) (slice_index_or trees n.right Empty)
    ∷ planted e (trees ++ branch o (slice_index_or trees n.left Empty) (slice_index_or trees n.right Empty) ∷ []) ns)
    (same n.entry)
    ∙ ap (λ (ts : List Tree). branch (f n.entry) (slice_index_or trees n.left Empty)
    (slice_index_or trees n.right Empty) ∷ ts) (planted-same e f same _ ns)

abbrev thread_entry : ℕ → Option Step → Option Entry
thread_entry k o = option_and_then (λ t. Some (record { thread = t; archived = k })) (thread_of o)

module _ (h : History) (s : Step) where
  pub step_at-plus : (i : ℕ) → i ≤ length h.steps → step_at (plus h s) i ≡ step_at h i
  step_at-plus zero l = refl
  step_at-plus (suc i) l =
      let less : i < length h.steps = omega arith in
      let less' : i < length (h.steps ++ s ∷ []) = omega (arith, length_push h.steps s) in
      slice_get-get_or (h.steps ++ s ∷ []) i s less' ∙ ap (λ (x : Step). Some x)
      (get_or_append_left h.steps (s ∷ []) s i less) ∙ sym (slice_get-get_or h.steps i s less)

  -- the new step
  pub step_at-new : step_at (plus h s) (suc (length h.steps)) ≡ Some s
  step_at-new =
      slice_get-get_or (h.steps ++ s ∷ []) (length h.steps) s (omega (arith, length_push h.steps s))
      ∙ ap (λ (x : Step). Some x) (get_or_push h.steps s s (length h.steps) refl)

  pub entry_at-plus : (k : ℕ) → k ≤ length h.steps → entry_at (plus h s) k ≡ entry_at h k
  entry_at-plus k l = ap (λ (o : Option Step). thread_entry k o) (step_at-plus k l)

  pub entry_to-plus : (i k : ℕ) → i ≤ length h.steps → entry_to (plus h s) i k ≡ entry_to h i k
  unfolding entry_to
  entry_to-plus i k l = same_if (leb k i) (entry_at (plus h s) k) (entry_at h k)
      (λ le. entry_at-plus k (omega (arith, leb-true k i le)))

  pub received-plus : (i : ℕ) → i ≤ length h.steps → received (plus h s) i ≡ received h i
  unfolding received
  received-plus zero l = refl
  received-plus (suc i) l =
      ap (λ (es : List Entry). es ++ option_to_list (entry_at (plus h s) (suc i))) (received-plus i (omega arith))
      ∙ ap (λ (o : Option Entry). received h i ++ option_to_list o) (entry_at-plus (suc i) l)

  pub times-plus : (i : ℕ) → i ≤ length h.steps → times (plus h s) i ≡ times h i
  unfolding times
  times-plus zero l = refl
  times-plus (suc i) l =
      ap (λ (ts : List ℕ). ts ++ option_to_list (time_at (plus h s) (suc i))) (times-plus i (omega arith))
      ∙ ap (λ (o : Option Step). times h i ++ option_to_list (time_of o)) (step_at-plus (suc i) l)

  pub forest-plus : (i : ℕ) → i ≤ length h.steps → forest (plus h s) i ≡ forest h i
  unfolding forest
  forest-plus zero l = refl
  forest-plus (suc i) l =
      ap (λ (ts : List Tree). forest (plus h s) i ++ ts) (planted-same (entry_to (plus h s) (suc i))
      (entry_to h (suc i)) (λ k. entry_to-plus (suc i) k l) (forest (plus h s) i)
      (fresh_of (step_at (plus h s) (suc i))))
      ∙ ap (λ (trees : List Tree). trees ++ planted (entry_to h (suc i)) trees (fresh_of (step_at (plus h s) (suc i))))
      (forest-plus i (omega arith))
      ∙ ap (λ (o : Option Step). forest h i ++ planted (entry_to h (suc i)) (forest h i) (fresh_of o))
      (step_at-plus (suc i) l)

  pub tree-plus : (i : ℕ) → i ≤ length h.steps → tree (plus h s) i ≡ tree h i
  unfolding tree
  tree-plus i l = ap (λ (trees : List Tree). get_or trees (root_of (step_at (plus h s) i)) Empty) (forest-plus i l)
      ∙ ap (λ (o : Option Step). get_or (forest h i) (root_of o) Empty) (step_at-plus i l)

  module _ (dig : List ℕ → List ℕ) where
    pub datum_text_at-plus : (i : ℕ) → i ≤ length h.steps → datum_text_at dig (plus h s) i ≡ datum_text_at dig h i
    unfolding datum_text_at
    datum_text_at-plus i l =
        ap (λ (o : Option Step). step_datum_text (event_root dig (events_of o)) (tree_label dig (tree (plus h s) i))
        (length (events_of o)) (time_of o)) (step_at-plus i l)
        ∙ ap (λ (t : Tree). step_datum_text (event_root dig (events_at h i)) (tree_label dig t) (length (events_at h i))
        (time_at h i)) (tree-plus i l)

    pub auths-plus : (i : ℕ) → i ≤ length h.steps → auths dig (plus h s) i ≡ auths dig h i
    unfolding auths
    auths-plus zero l = refl
    auths-plus (suc i) l =
        ap (λ (table : List (List ℕ)). table ++ dig (auth_text dig (plus h s) table (suc i)) ∷ [])
        (auths-plus i (omega arith))
        ∙ ap (λ (text : List ℕ). auths dig h i ++ dig (authenticator_text (suc i)
        (map dig (link_texts dig (dig text) (auths dig h i) (suc i) (suc (top_level (suc i)))))) ∷ [])
        (datum_text_at-plus (suc i) l)

    pub auth-plus : (i : ℕ) → i ≤ length h.steps → auth dig (plus h s) i ≡ auth dig h i
    unfolding auth
    auth-plus i l = ap (λ (table : List (List ℕ)). get_or table i []) (auths-plus i l)

-- the tree of number 0 is empty
length-forest : (h : History) (i : ℕ) → 0 < length (forest h i)
unfolding forest
length-forest h zero = omega arith
length-forest h (suc i) =
    omega (
      arith,
      length-forest h i,
      length-append (forest h i) (planted (entry_to h (suc i)) (forest h i) (fresh_of (step_at h (suc i)))),
    )

pub forest-first : (h : History) (i : ℕ) → get_or (forest h i) 0 Empty ≡ Empty
unfolding forest
forest-first h zero = refl
forest-first h (suc i) = get_or_append_left (forest h i) _ Empty 0 (length-forest h i) ∙ forest-first h i

-- before the first step the archive is empty
pub tree-first : (h : History) → tree h 0 ≡ Empty
unfolding tree
tree-first h = forest-first h 0
