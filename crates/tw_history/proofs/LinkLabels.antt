-- The labels of a step's links.
use Rattle.std.proofs.Common.{◌≡◌, ℕ, ◌+◌, ◌-◌, ◌^◌, List, [], ◌∷◌, ◌++◌, length, get_or, refl, ap, sym, ◌∙◌, add-one}
use Rattle.std.specs.Prelude.{map}
use Rattle.std.proofs.lemmas.List.{length-map, map_push}
use Rattle.tw_base.specs.kinds.Texts.{link_text}
use Rattle.tw_base.specs.history.Auth.{link_texts}
use Rattle.tw_base.proofs.lemmas.history.Auths.{length-link_texts}

module _ (dig : List ℕ → List ℕ) (datum : List ℕ) (earlier : List (List ℕ)) (step : ℕ) where
  abbrev pub labels_below : ℕ → List (List ℕ)
  labels_below count = map dig (link_texts dig datum earlier step count)

  pub length-labels_below : (count : ℕ) → length (labels_below count) ≡ count
  length-labels_below count = length-map (link_texts dig datum earlier step count) dig ∙ length-link_texts dig datum
      earlier step count

  pub labels_below-none : labels_below 0 ≡ []
  unfolding link_texts
  labels_below-none = refl

  pub labels_below-more : (level : ℕ)
      → labels_below (level + 1) ≡ labels_below level ++ dig
      (link_text step level datum (get_or earlier (step - 2 ^ level) [])) ∷ []
  unfolding link_texts
  labels_below-more level =
      ap labels_below (add-one level) ∙ map_push dig (link_texts dig datum earlier step level)
      (link_text step level datum (get_or earlier (step - 2 ^ level) []))

  pub link_texts-none : [] ≡ link_texts dig datum earlier step 0
  unfolding link_texts
  link_texts-none = refl

  pub link_texts-more : (level : ℕ)
      → link_texts dig datum earlier step level ++ link_text step level datum (get_or earlier (step - 2 ^ level) [])
      ∷ [] ≡ link_texts dig datum earlier step (level + 1)
  unfolding link_texts
  link_texts-more level = ap (link_texts dig datum earlier step) (sym (add-one level))
