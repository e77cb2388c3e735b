-- The standard's path shows the event under the standard's root.
use Rattle.std.proofs.Common.{◌≡◌, ℕ, suc, zero, ◌+◌, ◌-◌, ◌<◌, ◌≤◌, List, [], ◌∷◌, ◌++◌, length, get_or, refl, ap, sym}
use Rattle.std.proofs.Common.{◌∙◌, arith, inl, inr}
use Rattle.std.specs.Prelude.{Some, slice_get}
use Rattle.std.proofs.lemmas.Bool.{cases_lt}
use Rattle.std.proofs.lemmas.Option.{get_or_from_slice_get, slice_get_within}
use Rattle.std.proofs.lemmas.List.{get_or-take, get_or-drop}
use Rattle.tw_base.specs.declared.events.side.Side.{Side}
use Rattle.tw_base.specs.declared.events.side.Side.TheVariants.{Left, Right}
use Rattle.tw_base.specs.kinds.Texts.{event_leaf_text, event_node_text}
use Rattle.tw_base.specs.events.AuditPath.{ChecksEvent, path_length, path_sides, root_above}
use Rattle.tw_base.specs.events.EventTree.{audit_path, event_root, largest_power_below, left_half, right_half}
use Rattle.tw_base.proofs.lemmas.events.EventTrees.{audit_path-left, audit_path-right, by_halves, event_root-more}
use Rattle.tw_base.proofs.lemmas.events.EventTrees.{event_root-one, halves, largest_power_below-less}
use Rattle.tw_base.proofs.lemmas.events.AuditPaths.{length-audit_path, path_sides-few, path_sides-left}
use Rattle.tw_base.proofs.lemmas.events.AuditPaths.{path_sides-right}
use Rattle.tw_base.proofs.lemmas.events.Upwards.{root_above-last, root_above-none}

module _ (dig : List ℕ → List ℕ) where
  abbrev leaf_at : List (List ℕ) → ℕ → List ℕ
  leaf_at events index = dig (event_leaf_text (get_or events index []))

  Leads : ℕ → Type 0
  Leads n = (events : List (List ℕ)) (index : ℕ) → length events ≡ n → index < n
      → root_above dig (path_sides n index) (audit_path dig events index) (leaf_at events index) ≡ event_root dig events

  one : (events : List (List ℕ)) (index : ℕ) → length events ≡ 1 → index < 1 → leaf_at events index ≡ event_root dig
      events
  one [] index n inside = absurd (omega arith)
  one (d ∷ f ∷ ds) index n inside = absurd (omega arith)
  one (d ∷ []) zero n inside = sym (event_root-one dig d)
  one (d ∷ []) (suc index) n inside = absurd (omega arith)

  few : (n : ℕ) → n ≤ 1 → Leads n
  unfolding Leads
  few n h events index e inside =
      ap (λ s. root_above dig s (audit_path dig events index) (leaf_at events index)) (path_sides-few n index h)
      ∙ root_above-none dig (audit_path dig events index) (leaf_at events index)
      ∙ one events index (omega arith) (omega arith)

  fits : (n : ℕ) (events : List (List ℕ)) (index : ℕ) → length events ≡ n → length (path_sides n index) ≡ length
      (audit_path dig events index)
  unfolding path_length
  fits n events index e = ap (λ c. length (path_sides c index)) (sym e) ∙ sym (length-audit_path dig events index)

  many : (n : ℕ) → 1 < n → Leads (largest_power_below n) → Leads (n - largest_power_below n) → Leads n
  unfolding Leads
  many n more left right events index e inside =
      let more' : 1 < length events = omega arith in
      let k_less = largest_power_below-less n more in
      let sizes = halves n events more e in
      elim (cases_lt index (largest_power_below n)) [
        | inl less ↦ (
            let path : List (List ℕ) = audit_path dig (left_half events) index in
            let sides : List Side = path_sides (largest_power_below n) index in
            let leaf_is : leaf_at events index ≡ leaf_at (left_half events) index =
            ap (λ x. dig (event_leaf_text x))
            (sym (get_or-take (largest_power_below (length events)) events index [] (omega arith))) in
            ap (λ s. root_above dig s (audit_path dig events index) (leaf_at events index))
            (path_sides-left n index more less)
            ∙ ap (λ p. root_above dig (sides ++ Right ∷ []) p (leaf_at events index))
            (audit_path-left dig events index more' (omega arith))
            ∙ root_above-last dig sides Right path (event_root dig (right_half events)) (leaf_at events index)
            (fits (largest_power_below n) (left_half events) index sizes.1)
            ∙ ap (λ x. dig (event_node_text (root_above dig sides path x) (event_root dig (right_half events)))) leaf_is
            ∙ ap (λ x. dig (event_node_text x (event_root dig (right_half events))))
            (left (left_half events) index sizes.1 less)
            ∙ sym (event_root-more dig events more'))
        | inr past ↦ (
            let below : ℕ = index - largest_power_below n in
            let path : List (List ℕ) = audit_path dig (right_half events) below in
            let sides : List Side = path_sides (n - largest_power_below n) below in
            let at : largest_power_below (length events) + below ≡ index = omega arith in
            let leaf_is : leaf_at events index ≡ leaf_at (right_half events) below =
            ap (λ i. leaf_at events i) (sym at) ∙ ap (λ x. dig (event_leaf_text x))
            (sym (get_or-drop (largest_power_below (length events)) events below [])) in
            ap (λ s. root_above dig s (audit_path dig events index) (leaf_at events index))
            (path_sides-right n index more past)
            ∙ ap (λ p. root_above dig (sides ++ Left ∷ []) p (leaf_at events index))
            (audit_path-right dig events index more' (omega arith)
            ∙ ap (λ x. audit_path dig (right_half events) (index - x) ++ event_root dig (left_half events) ∷ []) sizes.0)
            ∙ root_above-last dig sides Left path (event_root dig (left_half events)) (leaf_at events index)
            (fits (n - largest_power_below n) (right_half events) below sizes.2)
            ∙ ap (λ x. dig (event_node_text (event_root dig (left_half events)) (root_above dig sides path x))) leaf_is
            ∙ ap (λ x. dig (event_node_text (event_root dig (left_half events)) x))
            (right (right_half events) below sizes.2 (omega arith))
            ∙ sym (event_root-more dig events more'))
      ]

  path-leads : (n : ℕ) (events : List (List ℕ)) (index : ℕ) → length events ≡ n → index < n
      → root_above dig (path_sides n index) (audit_path dig events index) (leaf_at events index) ≡ event_root dig events
  unfolding Leads
  path-leads n = by_halves Leads few many n

  pub ChecksEvent-audit_path : (events : List (List ℕ)) (index : ℕ) (event : List ℕ) → slice_get events index ≡ Some
      event
      → ChecksEvent dig (event_root dig events) (length events) index event (audit_path dig events index)
  ChecksEvent-audit_path events index event there =
      let inside : index < length events = slice_get_within events index event there in
      record {
        inside = inside;
        size = length-audit_path dig events index;
        reaches = ap (λ x. root_above dig (path_sides (length events) index) (audit_path dig events index)
            (dig (event_leaf_text x)))
            (sym (get_or_from_slice_get events index event [] there)) ∙ path-leads (length events) events index refl
            inside;
      }
