-- The texts above a leaf, one text more.
use Rattle.std.proofs.Common.{◌≡◌, ℕ, suc, ◌+◌, ◌<◌, ◌≤◌, List, [], ◌∷◌, ◌++◌, length, get_or, drop, refl, ap, sym, ◌∙◌}
use Rattle.std.specs.Prelude.{reverse}
use Rattle.std.proofs.lemmas.List.{drop_all}
use Rattle.tw_base.specs.declared.events.side.Side.{Side}
use Rattle.tw_base.specs.events.AuditPath.{audit_texts, node_text_beside, node_texts_above, path_sides}
use Rattle.tw_base.specs.kinds.Texts.{event_leaf_text}
use Rattle.tw_events.proofs.Steps.{popped_step}

module _ (dig : List ℕ → List ℕ) where
  -- one label of an audit path
  pub nodes-step : (items rest : List Side) (side : Side) (path : List (List ℕ)) (i : ℕ) (label reached : List ℕ)
      → items ≡ rest ++ side ∷ [] → i < length path → label ≡ get_or path i label
      → node_texts_above dig (reverse items) (drop i path) reached
      ≡ node_text_beside side label reached ∷ node_texts_above dig (reverse rest) (drop (i + 1) path)
      (dig (node_text_beside side label reached))
  unfolding node_texts_above
  nodes-step items rest side path i label reached = popped_step (λ s p. node_texts_above dig s p reached) items rest side
      path i label

  none-above : (sides : List Side) (reached : List ℕ) → node_texts_above dig sides [] reached ≡ []
  unfolding node_texts_above
  none-above [] reached = refl
  none-above (s ∷ sides) reached = refl

  pub nodes-end : (sides : List Side) (path : List (List ℕ)) (i : ℕ) (reached : List ℕ) → length path ≤ i
      → node_texts_above dig sides (drop i path) reached ≡ []
  nodes-end sides path i reached past = ap (λ p. node_texts_above dig sides p reached) (drop_all i path past)
      ∙ none-above sides reached

  -- the leaf, and the nodes above it
  pub leaf-then : (sides : List Side) (count index : ℕ) (event : List ℕ) (path : List (List ℕ)) (leaf : List ℕ)
      → sides ≡ path_sides count index → leaf ≡ dig (event_leaf_text event)
      → event_leaf_text event ∷ node_texts_above dig sides path leaf ≡ audit_texts dig count index event path
  unfolding audit_texts
  leaf-then sides count index event path leaf sides_are leaf_is = λ k. event_leaf_text event ∷ node_texts_above dig
      (sides_are k) path (leaf_is k)
