-- The bytes of a tree page.
use Rattle.std.specs.Prelude.{ℕ, suc, zero, ◌+◌, ◌-◌, ◌==◌, ◌^◌, ◌<◌, List, [], ◌∷◌, ◌++◌, length, Bool, if◌then◌else◌}
use Rattle.tw_base.specs.declared.history.thread.Entry.{Entry}
use Rattle.tw_base.specs.format.Codecs.{Codec, behind, by_kind, digest_codec, many, nothing, number_codec, pair, seen}
use Rattle.tw_base.specs.history.EntryCodec.{entry_codec}
use Rattle.tw_base.specs.kinds.Lists.{Each}
use Rattle.tw_rbnode.specs.declared.child.Child.{Child}
use Rattle.tw_rbnode.specs.declared.limits.TheConstants.{MOST_KEYS, TOP_LEVEL}
use Rattle.tw_rbnode.specs.declared.links.Link.{Link}
use Rattle.tw_rbnode.specs.declared.slot.Slot.{Slot}
use Rattle.tw_rbnode.specs.Children.{HasChildren}
use Rattle.tw_rbnode.specs.Page.{TreePage, IsNode}
use Rattle.tw_rbnode.specs.Shape.{Shape, Empty, Node, size}
use Rattle.tw_rbnode.specs.Slots.{link, slot_of}

-- the colour of a node: 1 is red, 0 is black
unfoldable pub colour_codec : Codec Bool
colour_codec = by_kind (λ red. if red then 1 else 0) (number_codec 1 0 1) (λ n. nothing (n == 1))

-- a slot, 67 bytes: its colour, its left slot, its right slot and its entry
unfoldable pub slot_codec : Codec Slot
slot_codec =
    seen (λ t. record { link = link t.0 t.1.0 t.1.1.0; entry = t.1.1.1 }) (λ s. (s.link.red, (s.link.left, (s.link.right, s.entry))))
    (pair colour_codec (λ red. pair (number_codec 1 0 255) (λ left. pair (number_codec 1 0 255) (λ right. entry_codec))))

-- a child, 40 bytes: its page and its label
unfoldable pub child_codec : Codec Child
child_codec = seen (λ t. record { page = t.0; label = t.1 }) (λ c. (c.page, c.label)) (pair (number_codec 8 0 (2 ^ 64 - 1)) (λ page. digest_codec))

-- the root slot, the slots and the children
abbrev pub Held : Type 0
Held = ℕ × (List Slot × List Child)

-- so many slots and one child more
abbrev pub held_codec : ℕ → Codec Held
held_codec n = pair (number_codec 1 1 n) (λ top. pair (many n slot_codec) (λ slots. many (suc n) child_codec))

abbrev pub counted_codec : Codec Held
counted_codec = by_kind (λ h. length h.1.0) (number_codec 1 1 MOST_KEYS) held_codec

-- a tree page: 3, the level, the number of its keys, the root slot, the slots in the order of their keys, and the children in order
unfoldable pub page_node_codec : Codec (ℕ × Held)
page_node_codec = behind (3 ∷ []) (pair (number_codec 1 0 TOP_LEVEL) (λ level. counted_codec))

-- ---- what a page has there

-- the links of a tree whose slots begin behind base, in the order of the slots
abbrev pub links_of : (base : ℕ) → Shape → List Link
links_of base Empty = []
links_of base (Node red l r) =
    links_of base l ++ link red (slot_of base l) (slot_of (base + size l + 1) r) ∷ links_of (base + size l + 1) r

abbrev pub slots_with : List Link → List Entry → List Slot
slots_with [] es = []
slots_with (x ∷ xs) [] = []
slots_with (x ∷ xs) (e ∷ es) = record { link = x; entry = e } ∷ slots_with xs es

abbrev pub held_of : TreePage → Held
held_of p = (slot_of 0 p.shape, (slots_with (links_of 0 p.shape) p.entries, p.children))

abbrev pub fields_of : TreePage → ℕ × Held
fields_of p = (p.level, held_of p)

-- above level 0 a child lies below the page
abbrev pub LiesBelow : (page level : ℕ) → Child → Type 0
LiesBelow page zero c = Unit {0}
LiesBelow page (suc level) c = c.page < page

-- a page that may stand under this number
pub record MayStand (dig : List ℕ → List ℕ) (page : ℕ) (p : TreePage) : Type 0 where
  pub node : IsNode p
  pub children : HasChildren dig p
  pub below : Each (LiesBelow page p.level) p.children
