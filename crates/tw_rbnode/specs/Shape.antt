-- Red-black trees without their entries: a page's tree is told by its shape, since its slots stand in order.
use Rattle.std.specs.Prelude.{◌≡◌, ℕ, suc, ◌+◌, ◌-◌, Bool, true, false, cond, max, nat_le}

-- a node is red or not, over its left and its right side
pub data Shape : Type 0 where
  Empty : Shape
  Node : Bool → Shape → Shape → Shape

-- how many nodes it has
abbrev pub size : Shape → ℕ
size Empty = 0
size (Node red l r) = size l + 1 + size r

abbrev pub is_red : Shape → Bool
is_red Empty = false
is_red (Node red l r) = red

abbrev pub blacken : Shape → Shape
blacken Empty = Empty
blacken (Node red l r) = Node false l r

-- h black nodes on every way down, and no red node with a red child
abbrev pub IsEven : ℕ → Shape → Type 0
IsEven h Empty = h ≡ 0
IsEven h (Node true l r) = (is_red l ≡ false) × (is_red r ≡ false) × IsEven h l × IsEven h r
IsEven h (Node false l r) = (k : ℕ) × (h ≡ k + 1) × IsEven k l × IsEven k r

-- the red-black law
abbrev pub IsRedBlack : Shape → Type 0
IsRedBlack t = (is_red t ≡ false) × (h : ℕ) × IsEven h t

-- both sides black, and the node above them red
abbrev pub recoloured : Shape → Shape → Shape
recoloured l r = Node true (blacken l) (blacken r)

-- the three nodes turned, so that the middle one is on top
abbrev pub turned : Shape → Shape → Shape → Shape → Shape
turned a b c d = Node false (Node true a b) (Node true c d)

abbrev pub outer_left : Shape → Shape → Shape → Shape
outer_left Empty m r = Node false (Node true Empty m) r
outer_left (Node red a b) m r = turned a b m r

abbrev pub inner_left : Shape → Shape → Shape → Shape
inner_left a Empty r = Node false (Node true a Empty) r
inner_left a (Node red b c) r = turned a b c r

-- a black node over a red left side with the sides a and m
abbrev pub over_red_left : Shape → Shape → Shape → Shape
over_red_left a m r =
    cond (is_red a) (cond (is_red r) (recoloured (Node true a m) r) (outer_left a m r))
    (cond (is_red m) (cond (is_red r) (recoloured (Node true a m) r) (inner_left a m r)) (Node false (Node true a m) r))

abbrev pub over_left : Shape → Shape → Shape
over_left Empty r = Node false Empty r
over_left (Node false a m) r = Node false (Node false a m) r
over_left (Node true a m) r = over_red_left a m r

-- a node over a left side that has grown
abbrev pub join_left : Bool → Shape → Shape → Shape
join_left true l r = Node true l r
join_left false l r = over_left l r

abbrev pub outer_right : Shape → Shape → Shape → Shape
outer_right l m Empty = Node false l (Node true m Empty)
outer_right l m (Node red c d) = turned l m c d

abbrev pub inner_right : Shape → Shape → Shape → Shape
inner_right l Empty d = Node false l (Node true Empty d)
inner_right l (Node red b c) d = turned l b c d

abbrev pub over_red_right : Shape → Shape → Shape → Shape
over_red_right l m d =
    cond (is_red d) (cond (is_red l) (recoloured l (Node true m d)) (outer_right l m d))
    (cond (is_red m) (cond (is_red l) (recoloured l (Node true m d)) (inner_right l m d)) (Node false l (Node true m d)))

abbrev pub over_right : Shape → Shape → Shape
over_right l Empty = Node false l Empty
over_right l (Node false m d) = Node false l (Node false m d)
over_right l (Node true m d) = over_red_right l m d

abbrev pub join_right : Bool → Shape → Shape → Shape
join_right true l r = Node true l r
join_right false l r = over_right l r

-- the tree with a red node at its empty place, recoloured and turned on the way up
abbrev pub grown_shape : ℕ → Shape → Shape
grown_shape p Empty = Node true Empty Empty
grown_shape p (Node red l r) = cond (nat_le p (size l)) (join_left red (grown_shape p l) r) (join_right red l (grown_shape (p - (size l + 1)) r))

-- the same with a black root
abbrev pub insert : ℕ → Shape → Shape
insert p t = blacken (grown_shape p t)

-- the most nodes on a way down
abbrev pub depth : Shape → ℕ
depth Empty = 0
depth (Node red l r) = suc (max (depth l) (depth r))
