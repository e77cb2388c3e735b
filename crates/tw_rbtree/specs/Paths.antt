-- The tree proof that a way shows.
use Rattle.std.specs.Prelude.{ℕ, List, [], ◌∷◌, ◌++◌, Option}
use Rattle.tw_base.specs.declared.history.root.Root.{Root}
use Rattle.tw_base.specs.declared.history.thread.Entry.{Entry}
use Rattle.tw_base.specs.declared.history.tree_proof.Ancestor.{Ancestor}
use Rattle.tw_base.specs.declared.history.tree_proof.Ask.{Ask}
use Rattle.tw_base.specs.declared.history.tree_proof.TreeProof.{TreeProof}
use Rattle.tw_base.specs.declared.history.tree_proof.TreeProof.TheVariants.{Present as OfEntry, Gap}
use Rattle.tw_disk.specs.Found.{Found, ◌>>=◌}
use Rattle.tw_disk.specs.Found.Found.{Is}
use Rattle.tw_disk.specs.Image.{Image}
use Rattle.tw_rbnode.specs.declared.node.Found.{Found as Spot}
use Rattle.tw_rbnode.specs.declared.node.Found.TheVariants.{At, Between}
use Rattle.tw_rbnode.specs.Page.{TreePage}
use Rattle.tw_rbnode.specs.Trees.{labels_of, nodes_above, sides_at}
use Rattle.tw_rbtree.specs.declared.proving.Shown.{Shown}
use Rattle.tw_rbtree.specs.declared.seeking.Sought.{Sought}
use Rattle.tw_rbtree.specs.Ways.{Stop, end_of_way, nowhere, way, way_from}

-- a proof with more nodes above its place
abbrev pub with_above : TreeProof → List Ancestor → TreeProof
with_above (OfEntry left right up) more = OfEntry left right (up ++ more)
with_above (Gap up) more = Gap (up ++ more)

module _ (dig : List ℕ → List ℕ) where
  -- the nodes above the end of the way, nearest first
  unfoldable pub way_nodes : List Stop → List Ancestor
  way_nodes [] = []
  way_nodes (s ∷ stops) = way_nodes stops ++ nodes_above dig s.page s.sought.at

  -- the proof below these nodes, of a slot or a place in a page
  abbrev pub proof_in : TreePage → Spot → List Ancestor → TreeProof
  proof_in p (At slot) up = OfEntry (sides_at dig p.entries (labels_of p.children) slot 0 p.shape).0 (sides_at dig p.entries (labels_of p.children) slot 0 p.shape).1 up
  proof_in p (Between place) up = Gap up

  -- the proof of the end of the way
  unfoldable pub way_proof : List Stop → List Ancestor → TreeProof
  way_proof [] up = Gap up
  way_proof (s ∷ []) up = proof_in s.page s.sought.at up
  way_proof (s ∷ r ∷ stops) up = way_proof (r ∷ stops) up

  abbrev pub proof_of_way : List Stop → TreeProof
  proof_of_way stops = way_proof stops (way_nodes stops)

  -- what a way shows: the entry at its end, none at an empty place, and the proof of what is there
  abbrev pub shown_of : List Stop → Shown
  shown_of stops = record { met = (end_of_way nowhere stops).met; proof = proof_of_way stops }

  -- the same of what stands in the last page, without the nodes above it
  abbrev pub shown_at : TreePage → Sought → Shown
  shown_at p s = record { met = s.met; proof = proof_in p s.at [] }

  -- what was shown further down, with the nodes of this page
  abbrev pub shown_above : TreePage → Sought → Shown → Shown
  shown_above p s x = record { met = x.met; proof = with_above x.proof (nodes_above dig p s.at) }

  module _ (pages : Image) (ask : Ask) where
    -- what is shown on the way from a page of this level down, and on that from the root
    unfoldable pub shown_from : (level : ℕ) → (low high : Option Entry) → TreePage → Found Shown
    shown_from level low high p = way_from dig pages ask level low high p >>= (λ stops. Is (shown_of stops))

    unfoldable pub found_tree_path : Root → Found Shown
    found_tree_path root = way dig pages ask root >>= (λ stops. Is (shown_of stops))
