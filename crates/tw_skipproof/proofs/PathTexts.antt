-- The texts of a path, one link more.
use Rattle.std.proofs.Common.{◌≡◌, ℕ, ◌-◌, ◌^◌, List, [], ◌∷◌, ◌++◌, length, refl, ap, sym, ◌∙◌, arith}
use Rattle.tw_skipproof.specs.declared.path.Link.{Link}
use Rattle.tw_skipproof.specs.Paths.{climb_auth_text, climb_link_text, climbed, hop, hop_level, path_texts}

module _ (dig : List ℕ → List ℕ) where
  pub no_path_texts : (links : List Link) (from to : ℕ) (bottom : List ℕ) → length links ≡ 0 → [] ≡ path_texts dig links
      from to bottom
  unfolding path_texts
  no_path_texts [] from to bottom none = refl
  no_path_texts (link ∷ links) from to bottom none = absurd (omega arith)

  pub longer_path_texts : (links rest : List Link) (link : Link) (from to level p : ℕ) (bottom below : List ℕ)
      → links ≡ link ∷ rest → level ≡ hop_level from to → p ≡ 2 ^ level
      → below ≡ climbed dig rest (from - p) to bottom
      → path_texts dig rest (from - p) to bottom ++ climb_link_text dig link from level below ∷ climb_auth_text dig link
      from level below ∷ [] ≡ path_texts dig links from to bottom
  unfolding path_texts
  longer_path_texts links rest link from to level p bottom below split at power below_is =
      let next : p ≡ 2 ^ hop_level from to = power ∙ ap (λ k. 2 ^ k) at in
      let under : below ≡ climbed dig rest (hop from to) to bottom =
      below_is ∙ ap (λ q. climbed dig rest (from - q) to bottom) next in
      ap (λ q. path_texts dig rest (from - q) to bottom ++ climb_link_text dig link from level below ∷ climb_auth_text
      dig link from level below ∷ []) next
      ∙ ap (λ k. path_texts dig rest (hop from to) to bottom ++ climb_link_text dig link from k below ∷ climb_auth_text
      dig link from k below ∷ []) at
      ∙ ap (λ b. path_texts dig rest (hop from to) to bottom ++ climb_link_text dig link from (hop_level from to) b
      ∷ climb_auth_text dig link from (hop_level from to) b ∷ []) under
      ∙ ap (λ ls. path_texts dig ls from to bottom) (sym split)
