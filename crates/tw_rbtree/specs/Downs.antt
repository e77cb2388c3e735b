-- What holds of one page further on a way, whatever the pages keep.
use Rattle.std.specs.Prelude.{◌≡◌, ℕ, ◌+◌, List, true, Option}
use Rattle.tw_base.specs.declared.history.thread.Entry.{Entry}
use Rattle.tw_base.specs.declared.history.tree_proof.Ask.{Ask}
use Rattle.tw_rbnode.specs.declared.node.Found.TheVariants.{Between}
use Rattle.tw_rbnode.specs.Answers.{IsThereAsFound}
use Rattle.tw_rbnode.specs.Children.{HasChildren}
use Rattle.tw_rbnode.specs.Page.{IsNode, TreePage}
use Rattle.tw_rbtree.specs.Beside.{AreBeside, IsSoughtBy}
use Rattle.tw_rbtree.specs.declared.descending.Down.{Down}
use Rattle.tw_rbtree.specs.declared.descending.Down.TheVariants.{Met, Leaf, Child}
use Rattle.tw_rbtree.specs.declared.seeking.Sought.{Sought}
use Rattle.tw_rbtree.specs.Reading.{lie_between}
use Rattle.tw_rbtree.specs.Ways.{seek}

-- where the question leads in the page
pub record IsSoughtIn (ask : Ask) (low high : Option Entry) (p : TreePage) (s : Sought) : Type 0 where
  pub here : s ≡ seek ask 0 low high p.entries
  pub node : IsNode p
  pub there : IsThereAsFound p.entries s.at
  pub beside : AreBeside ask low high → IsSoughtBy ask s

-- a way ends in a page of level 0, or goes on into one of the level one lower, between the entries beside it
abbrev pub IsDown : (dig : List ℕ → List ℕ) → Ask → (low high : Option Entry) → TreePage → Down → Type 0
IsDown dig ask low high p (Met s) = IsSoughtIn ask low high p s
IsDown dig ask low high p (Leaf s place) = IsSoughtIn ask low high p s × (s.at ≡ Between place) × (p.level ≡ 0)
IsDown dig ask low high p (Child s place q) =
    IsSoughtIn ask low high p s × (s.at ≡ Between place) × (q.level + 1 ≡ p.level) × (lie_between s.low s.high q.entries ≡ true) × HasChildren dig q
