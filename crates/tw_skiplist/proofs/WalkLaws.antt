-- Walks down the greedy path, step by step.
use Rattle.std.proofs.Common.{◌≡◌, ℕ, suc, ◌+◌, ◌-◌, ◌^◌, ◌<◌, ◌≤◌, List, [], ◌∷◌, ◌++◌, ap, ◌∙◌, arith}
use Rattle.tw_disk.specs.Image.{Image}
use Rattle.tw_base.specs.kinds.Levels.{top_level}
use Rattle.tw_skipproof.specs.declared.path.Link.{Link}
use Rattle.tw_skipproof.specs.Paths.{greedy_steps, hop, hop_level}
use Rattle.tw_base.proofs.lemmas.kinds.Levels.{top_level-below}
use Rattle.tw_skipproof.proofs.Hops.{hop_level-le, hop_level-short}
use Rattle.tw_skipproof.proofs.GreedySteps.{greedy_steps-more, greedy_steps-none}
use Rattle.tw_steppage.specs.declared.link.StepRef.{StepRef}
use Rattle.tw_disk.specs.Found.{◌>>=◌}
use Rattle.tw_disk.specs.Found.Found.{Is}
use Rattle.tw_skiplist.specs.Walks.{all_links, collect_along, hop_in, link_in, links_on, walk, walk_along}
use Rattle.tw_skiplist.proofs.Shapes.{shapes-begin, shapes-end, shapes-on}

module _ (ps : Image) (link : StepRef) (at to : ℕ) where
  pub walk-here : at ≤ to → walk ps link at to ≡ Is link
  unfolding walk_along
  walk-here end = ap (λ (steps : List ℕ). walk_along ps to steps link) (greedy_steps-none at to end)

  pub walk-on : to < at → walk ps link at to ≡ (link_in ps link.page at (hop_level at to)
      >>= (λ next. walk ps next (hop at to) to))
  unfolding walk_along
  walk-on under = ap (λ (steps : List ℕ). walk_along ps to steps link) (greedy_steps-more at to under)

-- the way down, and the levels of its links
pub ruleset walks = (walk-here, walk-on, hop_level-le, hop_level-short, top_level-below)

-- the same with the records of the links
module _ (dig : List ℕ → List ℕ) (ps : Image) (links : List Link) (link : StepRef) (at to : ℕ) where
  pub collected-here : at ≤ to → collect_along dig ps to (greedy_steps at to) links link ≡ Is
      (record { links = links; last = link })
  unfolding collect_along
  collected-here end = ap (λ (steps : List ℕ). collect_along dig ps to steps links link) (greedy_steps-none at to end)

  pub collected-on : to < at → collect_along dig ps to (greedy_steps at to) links link
      ≡ (hop_in dig ps link.page at (hop_level at to)
      >>= (λ hopped. collect_along dig ps to (greedy_steps (hop at to) to) (links ++ hopped.link ∷ []) hopped.next))
  unfolding collect_along
  collected-on under = ap (λ (steps : List ℕ). collect_along dig ps to steps links link) (greedy_steps-more at to under)

pub ruleset collects =
    (collected-here, collected-on, hop_level-le, hop_level-short, top_level-below, shapes-begin, shapes-on, shapes-end)

-- ---- the links of one more step

module _ (ps : Image) (step level : ℕ) (links : List StepRef) (link : StepRef) where
  pub links-here : top_level step ≤ level → links_on ps step (top_level step - level) level links link ≡ Is
      (links ++ link ∷ [])
  unfolding links_on
  links-here end = ap (λ (more : ℕ). links_on ps step more level links link) (let e : top_level step - level ≡ 0 =
      omega arith in e)

  pub links-on : level < top_level step → links_on ps step (top_level step - level) level links link
      ≡ (link_in ps link.page (step - 2 ^ level) level >>= links_on ps step (top_level step - (level + 1)) (level + 1)
      (links ++ link ∷ []))
  unfolding links_on
  links-on under =
      let next : suc level ≡ level + 1 = omega arith in
      ap (λ (more : ℕ). links_on ps step more level links link)
      (let e : top_level step - level ≡ suc (top_level step - (level + 1)) = omega (arith, under) in e)
      ∙ ap (λ (l : ℕ). link_in ps link.page (step - 2 ^ level) level >>= links_on ps step (top_level step - (level + 1))
      l (links ++ link ∷ [])) next

pub links-begin : (ps : Image) (step : ℕ) (first : StepRef) → all_links ps step first ≡ links_on ps step
    (top_level step - 0) 0 [] first
links-begin ps step first = ap (λ (more : ℕ). links_on ps step more 0 [] first) (let e : top_level step ≡ top_level step
    - 0 = omega arith in e)

pub ruleset links_go_on = (links-here, links-on, links-begin)
