-- One step of each function, over plain lists.
use Rattle.std.proofs.Common.{◌≡◌, ℕ, suc, ◌+◌, ◌-◌, ◌<◌, ◌≤◌, List, [], ◌∷◌, ◌++◌, length, get_or, take, drop, reverse}
use Rattle.std.proofs.Common.{ap, sym, ◌∙◌, append_assoc, add-one, drop-cons, arith}
use Rattle.std.proofs.lemmas.List.{drop_all, reverse-append}
use Rattle.tw_base.specs.declared.events.side.Side.{Side}
use Rattle.tw_base.specs.kinds.Texts.{event_leaf_text, event_node_text, no_events_text}
use Rattle.tw_base.specs.events.AuditPath.{node_text_beside, root_above}
use Rattle.tw_base.specs.events.EventTree.{audit_path, event_root, largest_power_below}
use Rattle.tw_base.proofs.lemmas.events.EventTrees.{audit_path-left, audit_path-one, audit_path-right, event_root-more}
use Rattle.tw_base.proofs.lemmas.events.EventTrees.{event_root-none, event_root-one}
use Rattle.tw_base.proofs.lemmas.events.Upwards.{root_above-no_label, root_above-none}

-- what a walk up a path has before it, where the last side is popped, and the label at i is its own
pub popped_step : {X : Type 0} (walk : List Side → List (List ℕ) → X) (items rest : List Side) (side : Side)
    (path : List (List ℕ)) (i : ℕ) (label : List ℕ) → items ≡ rest ++ side ∷ [] → i < length path
    → label ≡ get_or path i label
    → walk (reverse items) (drop i path) ≡ walk (side ∷ reverse rest) (label ∷ drop (i + 1) path)
popped_step walk items rest side path i label popped inside same =
    ap (λ s. walk (reverse s) (drop i path)) popped ∙ ap (λ s. walk s (drop i path)) (reverse-append rest (side ∷ []))
    ∙ ap (walk (side ∷ reverse rest)) (drop-cons path i label inside)
    ∙ ap (λ l. walk (side ∷ reverse rest) (l ∷ drop (suc i) path)) (sym same)
    ∙ ap (λ n. walk (side ∷ reverse rest) (label ∷ drop n path)) (sym (add-one i))

module _ (dig : List ℕ → List ℕ) where
  pub root-none : (events : List (List ℕ)) → length events < 1 → event_root dig events ≡ dig no_events_text
  root-none [] none = event_root-none dig
  root-none (e ∷ es) none = absurd (omega arith)

  pub root-one : (events : List (List ℕ)) (event : List ℕ) → length events ≡ 1 → event ≡ get_or events 0 event
      → event_root dig events ≡ dig (event_leaf_text event)
  root-one [] event one same = absurd (omega arith)
  root-one (e ∷ []) event one same = event_root-one dig e ∙ ap (λ x. dig (event_leaf_text x)) (sym same)
  root-one (e ∷ f ∷ es) event one same = absurd (omega arith)

  root-halves : (events left right : List (List ℕ)) (half : ℕ) → 1 < length events → half ≡ largest_power_below
      (length events)
      → left ≡ take half events → right ≡ drop half events → event_root dig events ≡ dig
      (event_node_text (event_root dig left) (event_root dig right))
  root-halves events left right half more h l r =
      event_root-more dig events more
      ∙ ap (λ x. dig (event_node_text (event_root dig x)
      (event_root dig (drop (largest_power_below (length events)) events)))) (ap (λ k. take k events) (sym h) ∙ sym l)
      ∙ ap (λ x. dig (event_node_text (event_root dig left) (event_root dig x))) (ap (λ k. drop k events) (sym h)
      ∙ sym r)

  pub ruleset few_events = (root-none, root-one)

  -- from the roots of the halves
  pub root-joined : (events left right : List (List ℕ)) (half : ℕ) (a b root : List ℕ) → 1 < length events
      → half ≡ largest_power_below (length events)
      → left ≡ take half events → right ≡ drop half events → a ≡ event_root dig left → b ≡ event_root dig right
      → root ≡ dig (event_node_text a b)
      → root ≡ event_root dig events
  root-joined events left right half a b root more h l r p q e =
      e ∙ ap (λ x. dig (event_node_text x b)) p ∙ ap (λ x. dig (event_node_text (event_root dig left) x)) q
      ∙ sym (root-halves events left right half more h l r)

  pub path-one : (events : List (List ℕ)) (index : ℕ) → length events ≡ 1 → audit_path dig events index ≡ []
  path-one [] index one = absurd (omega arith)
  path-one (e ∷ []) index one = audit_path-one dig e index
  path-one (e ∷ f ∷ es) index one = absurd (omega arith)

  path-left : (events left right : List (List ℕ)) (half index : ℕ) → 1 < length events → half ≡ largest_power_below
      (length events)
      → left ≡ take half events → right ≡ drop half events → index < half → audit_path dig events index ≡ audit_path dig
      left index ++ event_root dig right ∷ []
  path-left events left right half index more h l r less =
      audit_path-left dig events index more (omega arith)
      ∙ ap (λ x. audit_path dig x index ++ event_root dig (drop (largest_power_below (length events)) events) ∷ [])
      (ap (λ k. take k events) (sym h) ∙ sym l)
      ∙ ap (λ x. audit_path dig left index ++ event_root dig x ∷ []) (ap (λ k. drop k events) (sym h) ∙ sym r)

  path-right : (events left right : List (List ℕ)) (half index : ℕ) → 1 < length events → half ≡ largest_power_below
      (length events)
      → left ≡ take half events → right ≡ drop half events → half ≤ index → audit_path dig events index ≡ audit_path dig
      right (index - half) ++ event_root dig left ∷ []
  path-right events left right half index more h l r past =
      audit_path-right dig events index more (omega arith)
      ∙ ap (λ x. audit_path dig x (index - largest_power_below (length events)) ++ event_root dig
      (take (largest_power_below (length events)) events) ∷ []) (ap (λ k. drop k events) (sym h) ∙ sym r)
      ∙ ap (λ x. audit_path dig right (index - largest_power_below (length events)) ++ event_root dig x ∷ [])
      (ap (λ k. take k events) (sym h) ∙ sym l)
      ∙ ap (λ k. audit_path dig right (index - k) ++ event_root dig left ∷ []) (sym h)

  appended : (path below rest pushed after : List (List ℕ)) (root other : List ℕ) → rest ≡ below ++ other ∷ []
      → pushed ≡ path ++ below → root ≡ other
      → after ≡ pushed ++ root ∷ [] → after ≡ path ++ rest
  appended path below rest pushed after root other w p r e =
      e ∙ ap (λ x. x ++ root ∷ []) p ∙ append_assoc path below (root ∷ []) ∙ ap (λ x. path ++ (below ++ x ∷ [])) r
      ∙ ap (λ x. path ++ x) (sym w)

  -- the path within a half is appended, and then the root of the other half
  pub appended-left : (events left right path pushed after : List (List ℕ)) (half index : ℕ) (root : List ℕ)
      → 1 < length events
      → half ≡ largest_power_below (length events) → left ≡ take half events → right ≡ drop half events → index < half
      → pushed ≡ path ++ audit_path dig left index → root ≡ event_root dig right → after ≡ pushed ++ root ∷ []
      → after ≡ path ++ audit_path dig events index
  appended-left events left right path pushed after half index root more h l r less p q e =
      appended path (audit_path dig left index) (audit_path dig events index) pushed after root (event_root dig right)
      (path-left events left right half index more h l r less) p q e

  pub appended-right : (events left right path pushed after : List (List ℕ)) (half index : ℕ) (root : List ℕ)
      → 1 < length events
      → half ≡ largest_power_below (length events) → left ≡ take half events → right ≡ drop half events → half ≤ index
      → pushed ≡ path ++ audit_path dig right (index - half) → root ≡ event_root dig left → after ≡ pushed ++ root ∷ []
      → after ≡ path ++ audit_path dig events index
  appended-right events left right path pushed after half index root more h l r past p q e =
      appended path (audit_path dig right (index - half)) (audit_path dig events index) pushed after root
      (event_root dig left) (path-right events left right half index more h l r past) p q e

  -- one label upwards
  pub root_above-step : (items rest : List Side) (side : Side) (path : List (List ℕ)) (i : ℕ) (label reached : List ℕ)
      → items ≡ rest ++ side ∷ [] → i < length path → label ≡ get_or path i label
      → root_above dig (reverse items) (drop i path) reached ≡ root_above dig (reverse rest) (drop (i + 1) path)
      (dig (node_text_beside side label reached))
  unfolding root_above
  root_above-step items rest side path i label reached = popped_step (λ s p. root_above dig s p reached) items rest side
      path i label

  pub root_above-end : (sides : List Side) (path : List (List ℕ)) (i : ℕ) (reached : List ℕ) → length path ≤ i
      → root_above dig sides (drop i path) reached ≡ reached
  root_above-end sides path i reached past = ap (λ p. root_above dig sides p reached) (drop_all i path past)
      ∙ stops sides
    where
      stops : (sides : List Side) → root_above dig sides [] reached ≡ reached
      stops [] = root_above-none dig [] reached
      stops (s ∷ sides) = root_above-no_label dig s sides reached
