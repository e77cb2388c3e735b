-- What a page has in its bytes, and the tree in its slots.
use Rattle.std.proofs.Common.{◌≡◌, ℕ, suc, zero, ◌+◌, ◌<◌, ◌≤◌, false, List, [], ◌∷◌, length, Option, Some, None, refl}
use Rattle.std.proofs.Common.{sym, ap, ◌∙◌, arith, slice_get}
use Rattle.std.specs.Prelude.{map, MatchOption}
use Rattle.std.proofs.lemmas.Option.{same_Some, none-some}
use Rattle.tw_base.specs.declared.history.thread.Entry.{Entry}
use Rattle.tw_base.specs.kinds.Lists.{Each}
use Rattle.tw_base.proofs.lemmas.history.EntryCodecLaws.{entry-range}
use Rattle.tw_base.proofs.lemmas.kinds.ListLemmas.{Each-map}
use Rattle.tw_base.specs.format.Codecs.{behind, by_kind, many, number_codec, pair, seen}
use Rattle.tw_base.specs.history.Limits.{IsEntryInRange}
use Rattle.tw_rbnode.specs.declared.child.Child.{Child}
use Rattle.tw_rbnode.specs.declared.links.Link.{Link}
use Rattle.tw_rbnode.specs.declared.slot.Slot.{Slot}
use Rattle.tw_rbnode.specs.NodeBytes.{Held, held_of, links_of, page_node_codec, slot_codec, slots_with}
use Rattle.tw_rbnode.specs.Page.{IsNode, TreePage}
use Rattle.tw_rbnode.specs.Shape.{Shape, size}
use Rattle.tw_rbnode.specs.Slots.{IsTree, link, slot_of}
use Rattle.tw_rbnode.proofs.LinkLists.{links-at, links-read, links-size, same_lists, slots-size}

pub get-map : (ss : List Slot) (i : ℕ) (s : Slot) → slice_get ss i ≡ Some s → slice_get (map (λ (s : Slot). s.link) ss)
    i ≡ Some s.link
get-map [] i s e = absurd (none-some s e)
get-map (x ∷ ss) zero s e = ap (λ (y : Slot). Some y.link) (same_Some _ _ e)
get-map (x ∷ ss) (suc i) s e = get-map ss i s e

pub slots-links : (xs : List Link) (es : List Entry) → length xs ≡ length es → map (λ (s : Slot). s.link)
    (slots_with xs es) ≡ xs
slots-links [] es h = refl
slots-links (x ∷ xs) [] h = absurd (omega (arith, h))
slots-links (x ∷ xs) (e ∷ es) h = ap (λ (ys : List Link). x ∷ ys) (slots-links xs es (omega (arith, h)))

pub slots-entries : (xs : List Link) (es : List Entry) → length xs ≡ length es → map (λ (s : Slot). s.entry)
    (slots_with xs es) ≡ es
slots-entries [] [] h = refl
slots-entries [] (e ∷ es) h = absurd (omega (arith, h))
slots-entries (x ∷ xs) [] h = absurd (omega (arith, h))
slots-entries (x ∷ xs) (e ∷ es) h = ap (λ (fs : List Entry). e ∷ fs) (slots-entries xs es (omega (arith, h)))

pub slots-whole : (ss : List Slot) → slots_with (map (λ (s : Slot). s.link) ss) (map (λ (s : Slot). s.entry) ss) ≡ ss
slots-whole [] = refl
slots-whole (s ∷ ss) = ap (λ (rest : List Slot). s ∷ rest) (slots-whole ss)

pub map-size : {X Y : Type 0} (f : X → Y) (xs : List X) → length (map f xs) ≡ length xs
map-size f [] = refl
map-size f (x ∷ xs) = ap suc (map-size f xs)

pub map-each : (P : Entry → Type 0) (ss : List Slot) → Each (λ (s : Slot). P s.entry) ss
    → Each P (map (λ (s : Slot). s.entry) ss)
map-each P [] h = tt
map-each P (s ∷ ss) h = (h.0, map-each P ss h.1)

abbrev pub ReadsAs : List Link → List Slot → Type 0
ReadsAs links slots = (k : ℕ) → k < length slots → slice_get links (k + 1) ≡ slice_get
    (map (λ (s : Slot). s.link) slots) k

-- a page that has these slots is the tree that the links are
pub record IsHeld (links : List Link) (slots : List Slot) (children : List Child) (top : ℕ) (p : TreePage) : Type
    0 where
  pub tree : IsTree (slice_get links) 0 p.shape top
  pub sized : length slots ≡ size p.shape
  pub entries : map (λ (s : Slot). s.entry) slots ≡ p.entries

pub held : (links : List Link) (slots : List Slot) (children : List Child) (top : ℕ) (p : TreePage)
    → slice_get links 0 ≡ Some (link false 0 0) → ReadsAs links slots → IsNode p → held_of p ≡ (top, (slots, children))
    → IsHeld links slots children top p
held links slots children top p blank reads node e =
    let top_is : slot_of 0 p.shape ≡ top = ap (λ (h : Held). h.0) e in
    let slots_are : slots_with (links_of 0 p.shape) p.entries ≡ slots = ap (λ (h : Held). h.1.0) e in
    let lengths : length (links_of 0 p.shape) ≡ length p.entries = links-size 0 p.shape ∙ node.sized in
    let links_are : map (λ (s : Slot). s.link) slots ≡ links_of 0 p.shape = ap (map (λ (s : Slot). s.link))
    (sym slots_are) ∙ slots-links (links_of 0 p.shape) p.entries lengths in
    let count : length slots ≡ size p.shape = ap length (sym slots_are) ∙ slots-size (links_of 0 p.shape) p.entries
    lengths ∙ sym node.sized in
    record {
      tree = record {
        blank = blank;
        top_is = sym top_is;
        at = links-at (slice_get links) 0 p.shape (λ k l.
            ap (λ (xs : List Link). slice_get xs k) (sym links_are) ∙ sym (reads k (omega (arith, count, l)))
            ∙ ap (slice_get links) (let s : k + 1 ≡ 0 + k + 1 = omega arith in s));
      };
      sized = count;
      entries = ap (map (λ (s : Slot). s.entry)) (sym slots_are) ∙ slots-entries (links_of 0 p.shape) p.entries lengths;
    }

-- and the other way: the tree that the links are has these slots
pub holds : (links : List Link) (slots : List Slot) (entries : List Entry) (t : Shape) (top : ℕ)
    → IsTree (slice_get links) 0 t top → size t ≡ length slots → ReadsAs links slots
    → entries ≡ map (λ (s : Slot). s.entry) slots
    → (slot_of 0 t ≡ top) × (slots_with (links_of 0 t) entries ≡ slots)
holds links slots entries t top tree sized reads is =
    let count : length (links_of 0 t) ≡ length (map (λ (s : Slot). s.link) slots) = links-size 0 t ∙ sized
    ∙ sym (map-size (λ (s : Slot). s.link) slots) in
    let links_are : links_of 0 t ≡ map (λ (s : Slot). s.link) slots =
    same_lists (links_of 0 t) (map (λ (s : Slot). s.link) slots) count (λ k l.
    links-read (slice_get links) 0 t tree.at k (omega (arith, l, links-size 0 t)) ∙ ap (slice_get links)
    (let s : 0 + k + 1 ≡ k + 1 = omega arith in s) ∙ reads k (omega (arith, l, links-size 0 t, sized))) in
    (sym tree.top_is, (λ i. slots_with (links_are i) (is i)) ∙ slots-whole slots)

-- ---- what fits

slot-range : (s : Slot) → slot_codec.Fits s → IsEntryInRange s.entry
unfolding slot_codec seen pair
slot-range s fits = entry-range s.entry fits.1.1.1

pub record Fitting (level : ℕ) (h : Held) : Type 0 where
  pub low : level ≤ 10
  pub some : 0 < length h.1.0
  pub few : length h.1.0 ≤ 24
  pub top : h.0 ≤ length h.1.0
  pub places : length h.1.1 ≡ length h.1.0 + 1
  pub ranges : Each (λ (s : Slot). IsEntryInRange s.entry) h.1.0

pub node-fitting : (level : ℕ) (h : Held) → page_node_codec.Fits (level, h) → Fitting level h
unfolding page_node_codec behind pair by_kind number_codec many
node-fitting level h fits = record {
  low = fits.0.1;
  some = omega (arith, fits.1.0.0);
  few = fits.1.0.1;
  top = fits.1.1.0.1;
  places = omega (arith, fits.1.1.1.1.0);
  ranges = Each-map _ (λ (s : Slot). IsEntryInRange s.entry) h.1.0 (λ s f. slot-range s f) fits.1.1.1.0.1;
}

pub match_map : {X A B : Type 0} {P Q : X → Type 0} (r : Option X) → MatchOption r A P → (A → B) → ((x : X) → P x → Q x)
    → MatchOption r B Q
match_map None m f g = f m
match_map (Some x) m f g = g x m

pub Each-both : {X : Type 0} (P Q : X → Type 0) (xs : List X) → Each P xs → Each Q xs → Each (λ x. P x × Q x) xs
Each-both P Q [] p q = tt
Each-both P Q (x ∷ xs) p q = ((p.0, q.0), Each-both P Q xs p.1 q.1)

pub Each-apart : {X : Type 0} (P Q : X → Type 0) (xs : List X) → Each (λ x. P x × Q x) xs → Each P xs × Each Q xs
Each-apart P Q [] h = (tt, tt)
Each-apart P Q (x ∷ xs) h = let rest = Each-apart P Q xs h.1 in ((h.0.0, rest.0), (h.0.1, rest.1))
