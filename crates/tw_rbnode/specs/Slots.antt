-- A shape kept in slots: slots stand in order and are counted from 1, and 0 is an empty place.
use Rattle.std.specs.Prelude.{◌≡◌, ℕ, ◌+◌, ◌≤◌, ◌<◌, ◌==◌, Bool, false, cond, nat_le, nat_lt, Option, Some, ◌⊎◌, if◌then◌else◌}
use Rattle.tw_rbnode.specs.declared.links.Link.{Link}
use Rattle.tw_rbnode.specs.Shape.{Shape, Empty, Node, size}

-- the root slot of a tree whose slots begin behind base
abbrev pub slot_of : ℕ → Shape → ℕ
slot_of base Empty = 0
slot_of base (Node red l r) = base + size l + 1

-- the left and the right slot of a slot
unfoldable pub below_at : (slot base : ℕ) → Shape → ℕ × ℕ
below_at slot base Empty = (0, 0)
below_at slot base (Node red l r) =
    if slot == base + size l + 1 then (slot_of base l, slot_of (base + size l + 1) r)
    else (if nat_lt slot (base + size l + 1) then below_at slot base l else below_at slot (base + size l + 1) r)

abbrev pub link : Bool → ℕ → ℕ → Link
link red left right = record { red = red; left = left; right = right }

-- the slots behind base are this tree
abbrev pub At : (ℕ → Option Link) → ℕ → Shape → Type 0
At f base Empty = Unit {0}
At f base (Node red l r) =
    (f (base + size l + 1) ≡ Some (link red (slot_of base l) (slot_of (base + size l + 1) r))) × At f base l × At f (base + size l + 1) r

-- slot 0 reads as a black node
abbrev pub Blank : (ℕ → Option Link) → Type 0
Blank f = f 0 ≡ Some (link false 0 0)

-- all the same outside of the slots from low + 1 to high
abbrev pub SameOutside : (f g : ℕ → Option Link) → (low high : ℕ) → Type 0
SameOutside f g low high = (k : ℕ) → ((k ≤ low) ⊎ (high < k)) → g k ≡ f k

-- the tree stands behind base, with this root slot
pub record IsTree (f : ℕ → Option Link) (base : ℕ) (t : Shape) (top : ℕ) : Type 0 where
  pub blank : Blank f
  pub top_is : top ≡ slot_of base t
  pub at : At f base t

-- where a slot goes as a new one comes behind place
abbrev pub bump : ℕ → ℕ → ℕ
bump place slot = cond (nat_le slot place) slot (slot + 1)

abbrev pub bumped : ℕ → Link → Link
bumped place x = link x.red (bump place x.left) (bump place x.right)

-- the slots behind base are this tree, but for a new slot behind place, to which no node leads
abbrev pub Gap : (ℕ → Option Link) → ℕ → ℕ → Shape → Type 0
Gap f place base Empty = Unit {0}
Gap f place base (Node red l r) =
    ((place ≤ base + size l)
    × (f (base + size l + 2) ≡ Some (link red (bump place (slot_of base l)) (slot_of (base + size l + 2) r)))
    × Gap f place base l × At f (base + size l + 2) r)
    ⊎ ((base + size l < place)
    × (f (base + size l + 1) ≡ Some (link red (slot_of base l) (bump place (slot_of (base + size l + 1) r))))
    × At f base l × Gap f place (base + size l + 1) r)

pub record IsGap (f : ℕ → Option Link) (low high : ℕ) (t : Shape) (top place : ℕ) : Type 0 where
  pub blank : Blank f
  pub top_is : top ≡ bump place (slot_of low t)
  pub from_low : low ≤ place
  pub to_high : place ≤ high
  pub high_is : high ≡ low + size t
  pub room : high < 25
  pub gap : Gap f place low t
