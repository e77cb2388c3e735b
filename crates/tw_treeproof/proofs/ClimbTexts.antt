-- The texts of the ancestors, one text more.
use Rattle.std.proofs.Common.{◌≡◌, ℕ, suc, ◌+◌, ◌<◌, ◌≤◌, List, [], ◌∷◌, Bool, length, get_or, drop, refl, ap, sym, ◌∙◌}
use Rattle.std.proofs.Common.{add-one, drop-cons}
use Rattle.std.proofs.lemmas.List.{drop_all}
use Rattle.tw_base.specs.declared.history.thread.Entry.{Entry}
use Rattle.tw_base.specs.declared.history.tree_proof.Ancestor.{Ancestor}
use Rattle.tw_base.specs.history.Ways.{climb_texts, over_text}

module _ (dig : List ℕ → List ℕ) (left : Entry → Bool) where
  -- one ancestor
  pub ancestors-step : (up : List Ancestor) (i : ℕ) (a : Ancestor) (below : List ℕ) → i < length up → a ≡ get_or up i a
      → climb_texts dig left (drop i up) below ≡ over_text left a below ∷ climb_texts dig left (drop (i + 1) up)
      (dig (over_text left a below))
  unfolding climb_texts
  ancestors-step up i a below inside same =
      ap (λ p. climb_texts dig left p below) (drop-cons up i a inside)
      ∙ ap (λ b. over_text left b below ∷ climb_texts dig left (drop (suc i) up) (dig (over_text left b below)))
      (sym same)
      ∙ ap (λ n. over_text left a below ∷ climb_texts dig left (drop n up) (dig (over_text left a below)))
      (sym (add-one i))

  no_ancestors : (below : List ℕ) → climb_texts dig left [] below ≡ []
  unfolding climb_texts
  no_ancestors below = refl

  pub ancestors-end : (up : List Ancestor) (i : ℕ) (below : List ℕ) → length up ≤ i → climb_texts dig left (drop i up)
      below ≡ []
  ancestors-end up i below past = ap (λ p. climb_texts dig left p below) (drop_all i up past) ∙ no_ancestors below
