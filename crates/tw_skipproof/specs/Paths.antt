-- The greedy path from a step down to an earlier one, and what climbing it computes.
use Rattle.std.specs.Prelude.{◌≡◌, ℕ, suc, zero, ◌-◌, ◌%◌, ◌<◌, ◌≤◌, ◌^◌, List, [], ◌∷◌, ◌++◌, length, take, drop, nat_le, if◌then◌else◌}
use Rattle.tw_base.specs.kinds.Texts.{link_text, authenticator_text}
use Rattle.tw_base.specs.kinds.Bytes.{HasBytes}
use Rattle.tw_base.specs.kinds.Digests.{AllDigests}
use Rattle.tw_base.specs.kinds.Levels.{top_level}
use Rattle.tw_skipproof.specs.declared.path.Link.{Link}

-- the step has a link at this level, and it leads to the lower step or to one above it
abbrev pub IsHop : (from to level : ℕ) → Type 0
IsHop from to level = (from % 2 ^ level ≡ 0) × (2 ^ level ≤ from - to)

-- the greedy rule: the greatest such level
pub record IsGreedy (from to level : ℕ) : Type 0 where
  pub hop : IsHop from to level
  pub greatest : (other : ℕ) → IsHop from to other → other ≤ level

-- the greatest level up to this one whose link doesn't lead below the lower step
unfoldable pub level_up_to : ℕ → (from to : ℕ) → ℕ
level_up_to zero from to = 0
level_up_to (suc level) from to = if nat_le (2 ^ suc level) (from - to) then suc level else level_up_to level from to

-- the level of the greedy path's next link
unfoldable pub hop_level : (from to : ℕ) → ℕ
hop_level from to = level_up_to (top_level from) from to

-- the step that it leads to
abbrev pub hop : (from to : ℕ) → ℕ
hop from to = from - 2 ^ hop_level from to

-- the steps that so many links of the greedy path leave
unfoldable pub steps_within : (links : ℕ) → (from to : ℕ) → List ℕ
steps_within zero from to = []
steps_within (suc links) from to = if nat_le from to then [] else from ∷ steps_within links (hop from to) to

-- the steps that the links of the greedy path leave, from the upper step downwards; each link leads a step or more down,
-- so that there are at most as many links as steps
unfoldable pub greedy_steps : (from to : ℕ) → List ℕ
greedy_steps from to = steps_within from from to

-- the links are as many as those of the greedy path, each with the labels of its step's other levels
abbrev pub HasShape : List Link → (from to : ℕ) → Type 0
HasShape [] from to = from ≤ to
HasShape (link ∷ links) from to = (to < from) × (length link.others ≡ top_level from) × HasShape links (hop from to) to

-- a label among the labels of the other levels
abbrev pub with_label : List (List ℕ) → ℕ → List ℕ → List (List ℕ)
with_label others level label = take level others ++ label ∷ drop level others

module _ (dig : List ℕ → List ℕ) where
  abbrev pub climb_link_text : Link → (step level : ℕ) → (below : List ℕ) → List ℕ
  climb_link_text link step level below = link_text step level link.datum below

  abbrev pub climb_auth_text : Link → (step level : ℕ) → (below : List ℕ) → List ℕ
  climb_auth_text link step level below =
      authenticator_text step (with_label link.others level (dig (climb_link_text link step level below)))

  -- the authenticator of the upper step, computed upwards from that of the lower one
  unfoldable pub climbed : List Link → (from to : ℕ) → (bottom : List ℕ) → List ℕ
  climbed [] from to bottom = bottom
  climbed (link ∷ links) from to bottom =
      dig (climb_auth_text link from (hop_level from to) (climbed links (hop from to) to bottom))

  -- what climbing hashes: the label and the authenticator of each link, from the bottom upwards
  unfoldable pub path_texts : List Link → (from to : ℕ) → (bottom : List ℕ) → List (List ℕ)
  path_texts [] from to bottom = []
  path_texts (link ∷ links) from to bottom =
      let below = climbed links (hop from to) to bottom in
      path_texts links (hop from to) to bottom
      ++ climb_link_text link from (hop_level from to) below ∷ climb_auth_text link from (hop_level from to) below ∷ []

  -- the links are those of the greedy path in number and shape, and climb from this authenticator of the lower step to that one
  -- of the upper step
  pub record Climbs (links : List Link) (from to : ℕ) (bottom upper : List ℕ) : Type 0 where
    pub shape : HasShape links from to
    pub reaches : climbed links from to bottom ≡ upper

-- the digests of links are 32 bytes
abbrev pub HasLinkSizes : List Link → Type 0
HasLinkSizes [] = Unit {0}
HasLinkSizes (link ∷ links) = HasBytes 32 link.datum × AllDigests link.others × HasLinkSizes links
