-- The shape of a path that is collected link by link, from the upper step downwards.
use Rattle.std.proofs.Common.{◌≡◌, ℕ, ◌-◌, ◌^◌, ◌<◌, ◌≤◌, List, [], ◌∷◌, ◌++◌, length, ap, sym, ◌∙◌, subst}
use Rattle.std.proofs.Common.{append_assoc}
use Rattle.std.proofs.lemmas.List.{append-nil}
use Rattle.tw_base.specs.kinds.Levels.{top_level}
use Rattle.tw_skipproof.specs.Paths.{HasShape, hop_level}
use Rattle.tw_skipproof.specs.declared.path.Link.{Link}

-- links that lead down to a step: with the links of the greedy path from there on they have its shape
pub record ShapesTo (links : List Link) (from step to : ℕ) : Type 0 where
  pub on : (rest : List Link) → HasShape rest step to → HasShape (links ++ rest) from to

pub shapes-begin : (links : List Link) (from to : ℕ) → links ≡ [] → ShapesTo links from from to
shapes-begin links from to none =
    record { on = λ rest shape. subst (λ (ls : List Link). HasShape (ls ++ rest) from to) (sym none) shape }

-- a link further down
pub shapes-on : (new links : List Link) (link : Link) (from step to level power : ℕ) → new ≡ links ++ link ∷ []
    → power ≡ 2 ^ level → level ≡ hop_level step to → to < step
    → length link.others ≡ top_level step → ShapesTo links from step to → ShapesTo new from (step - power) to
shapes-on new links link from step to level power new_is power_is level_is under others so_far = record {
  on = λ rest shape.
      let there : power ≡ 2 ^ hop_level step to = power_is ∙ ap (λ (l : ℕ). 2 ^ l) level_is in
      let all : HasShape (links ++ link ∷ rest) from to = so_far.on (link ∷ rest)
      (under, others, subst (λ (p : ℕ). HasShape rest (step - p) to) there shape) in
      subst (λ (ls : List Link). HasShape ls from to) (sym (append_assoc links (link ∷ []) rest)
      ∙ ap (λ (ls : List Link). ls ++ rest) (sym new_is)) all;
}

pub shapes-end : (links : List Link) (from step to : ℕ) → ShapesTo links from step to → step ≤ to
    → HasShape links from to
shapes-end links from step to so_far end = subst (λ (ls : List Link). HasShape ls from to) (append-nil links)
    (so_far.on [] end)
