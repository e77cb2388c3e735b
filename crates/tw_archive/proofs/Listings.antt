-- What is listed in pages is listed where others stand behind them.
use Rattle.std.proofs.Common.{◌≡◌, ◌⊎◌, ℕ, suc, zero, ◌+◌, ◌-◌, ◌<◌, ◌≤◌, List, [], ◌++◌, length, Bool, true, false}
use Rattle.std.proofs.Common.{refl, ap, sym, ◌∙◌, arith, inl, inr, slice_get, length-append}
use Rattle.std.specs.Prelude.{◌==◌, ◌||◌, Option, None, if◌then◌else◌}
use Rattle.std.proofs.lemmas.Bool.{cases_lt}
use Rattle.std.proofs.lemmas.List.{get_or_append_left}
use Rattle.tw_base.specs.declared.history.root.Root.{Root}
use Rattle.tw_base.specs.declared.history.thread.Entry.{Entry}
use Rattle.tw_disk.specs.Found.{Found, bytes_in, when, ◌>>=◌}
use Rattle.tw_disk.specs.Found.Found.{Is, Bad}
use Rattle.tw_disk.specs.Image.{Image}
use Rattle.tw_disk.proofs.FoundLaws.{bytes_in-out, bytes_in-within, is_on}
use Rattle.tw_rbnode.specs.Page.{TreePage}
use Rattle.tw_rbnode.specs.Shape.{Shape, Empty, Node, size}
use Rattle.tw_rbtree.specs.declared.new_node.NewNode.{NewNode}
use Rattle.tw_rbtree.specs.declared.new_node.Side.TheVariants.{Old}
use Rattle.tw_rbtree.specs.Listing.{Listed, ListsAt, child_listed, is_old, listed, listed_at, node_behind}
use Rattle.tw_rbtree.specs.Reading.{child_in, fits, node_from, node_in}
use Rattle.tw_rbtree.specs.Ways.{child_page}

-- a value is found in turn
from_bind : {X Y : Type 0} (one : Found X) (f : X → Found Y) (y : Y) → (one >>= f) ≡ Is y → (x : X) × (one ≡ Is x)
    × (f x ≡ Is y)
from_bind (Is x) f y e = (x, refl, e)
from_bind (Bad page) f y e = cc

-- one way of listing finds what another does
abbrev pub ListsSame : ListsAt → ListsAt → Type 0
ListsSame one other = (low high : Option Entry) (place : ℕ) (nodes : List NewNode) (all : Listed)
    → one low high place nodes ≡ Is all → other low high place nodes ≡ Is all

module _ (one other : ListsAt) (same : ListsSame one other) (es : List Entry) where
  pub listed_at-same : (page : ℕ) (low high : Option Entry) (base : ℕ) (s : Shape) (nodes : List NewNode) (all : Listed)
      → listed_at one es page low high base s nodes ≡ Is all
      → listed_at other es page low high base s nodes ≡ Is all
  unfolding listed_at
  listed_at-same page low high base Empty nodes all is = same low high base nodes all is
  listed_at-same page low high base (Node red l r) nodes all is =
      let middle : Option Entry = slice_get es (base + size l) in
      let behind : Listed → Found Listed = λ left. listed_at one es 0 middle high (base + size l + 1) r left.nodes
      >>= (λ right. Is (node_behind middle page left.side right)) in
      let first = from_bind (listed_at one es 0 low middle base l nodes) behind all is in
      let second = from_bind (listed_at one es 0 middle high (base + size l + 1) r first.0.nodes)
      (λ right. Is (node_behind middle page first.0.side right)) all first.2 in
      is_on (listed_at other es 0 low middle base l nodes) (λ left. listed_at other es 0 middle high (base + size l + 1)
      r left.nodes >>= (λ right. Is (node_behind middle page left.side right))) first.0
      (listed_at-same 0 low middle base l nodes first.0 first.1)
      ∙ is_on (listed_at other es 0 middle high (base + size l + 1) r first.0.nodes)
      (λ right. Is (node_behind middle page first.0.side right)) second.0
      (listed_at-same 0 middle high (base + size l + 1) r first.0.nodes second.0 second.1)
      ∙ second.2

module _ (dig : List ℕ → List ℕ) (ps more : Image) where
  -- a page that is found is found there too
  bytes_in-more : (page : ℕ) (bytes : List ℕ) → bytes_in ps page ≡ Is bytes → bytes_in (ps ++ more) page ≡ Is bytes
  bytes_in-more page bytes is = by (cases_lt page 4) (cases_lt page (4 + length ps))
    where
      out : (page < 4) ⊎ (4 + length ps ≤ page) → bytes_in (ps ++ more) page ≡ Is bytes
      out o = let never : Bad page ≡ Is bytes = sym (bytes_in-out ps page o) ∙ is in cc

      within : 4 ≤ page → page < 4 + length ps → bytes_in (ps ++ more) page ≡ Is bytes
      within low less =
          bytes_in-within (ps ++ more) page low (omega (arith, less, length-append ps more))
          ∙ ap (λ (b : List ℕ). Is b) (get_or_append_left ps more [] (page - 4) (omega (arith, low, less)))
          ∙ sym (bytes_in-within ps page low less) ∙ is

      by : (page < 4) ⊎ (4 ≤ page) → (page < 4 + length ps) ⊎ (4 + length ps ≤ page) → bytes_in (ps ++ more) page ≡ Is
          bytes
      by (inl low) b = out (inl low)
      by (inr low) (inl less) = within low less
      by (inr low) (inr past) = out (inr past)

  node_in-more : (page : ℕ) (p : TreePage) → node_in dig ps page ≡ Is p → node_in dig (ps ++ more) page ≡ Is p
  unfolding node_in
  node_in-more page p is =
      let first = from_bind (bytes_in ps page) (node_from dig page) p is in
      is_on (bytes_in (ps ++ more) page) (node_from dig page) first.0 (bytes_in-more page first.0 first.1) ∙ first.2

  child_in-more : (level : ℕ) (low high : Option Entry) (page : ℕ) (p : TreePage) → child_in dig ps level low high page
      ≡ Is p → child_in dig (ps ++ more) level low high page ≡ Is p
  unfolding child_in
  child_in-more level low high page p is =
      let fitting : TreePage → Found TreePage = λ q. when (fits level low high q) page q in
      let first = from_bind (node_in dig ps page) fitting p is in
      is_on (node_in dig (ps ++ more) page) fitting first.0 (node_in-more page first.0 first.1) ∙ first.2

  module _ (since : ℕ) where
    child_listed-more : (level : ℕ) (p : TreePage) → ListsSame (child_listed dig ps since level p)
        (child_listed dig (ps ++ more) since level p)
    unfolding child_listed
    child_listed-more zero p low high place nodes all is = is
    child_listed-more (suc level) p low high place nodes all is = by (child_listed-more level)
        (is_old (child_page p place) since) is
      where
        rest : Image → TreePage → Found Listed
        rest r q = listed_at (child_listed dig r since level q) q.entries (child_page p place) low high 0 q.shape nodes

        by : ((q : TreePage) → ListsSame (child_listed dig ps since level q) (child_listed dig (ps ++ more) since level
            q)) → (b : Bool)
            → (if b then Is (record { nodes = nodes; side = Old (child_page p place) })
            else (child_in dig ps level low high (child_page p place) >>= rest ps)) ≡ Is all
            → (if b then Is (record { nodes = nodes; side = Old (child_page p place) })
            else (child_in dig (ps ++ more) level low high (child_page p place) >>= rest (ps ++ more))) ≡ Is all
        by again true e = e
        by again false e =
            let first = from_bind (child_in dig ps level low high (child_page p place)) (rest ps) all e in
            is_on (child_in dig (ps ++ more) level low high (child_page p place)) (rest (ps ++ more)) first.0
            (child_in-more level low high (child_page p place) first.0 first.1)
            ∙ listed_at-same (child_listed dig ps since level first.0) (child_listed dig (ps ++ more) since level
            first.0) (again first.0) first.0.entries (child_page p place) low high 0 first.0.shape nodes all first.2

    -- the nodes that are listed are listed there too
    pub listed-more : (root : Root) (nodes : List NewNode) → listed dig ps since root ≡ Is nodes
        → listed dig (ps ++ more) since root ≡ Is nodes
    unfolding listed
    listed-more root nodes is = by ((root.page == 0) || is_old root.page since) is
      where
        rest : Image → TreePage → Found (List NewNode)
        rest r p = listed_at (child_listed dig r since p.level p) p.entries root.page None None 0 p.shape []
            >>= (λ all. Is all.nodes)

        by : (b : Bool) → (if b then Is [] else (node_in dig ps root.page >>= rest ps)) ≡ Is nodes
            → (if b then Is [] else (node_in dig (ps ++ more) root.page >>= rest (ps ++ more))) ≡ Is nodes
        by true e = e
        by false e =
            let first = from_bind (node_in dig ps root.page) (rest ps) nodes e in
            let second = from_bind (listed_at (child_listed dig ps since first.0.level first.0) first.0.entries
            root.page None None 0 first.0.shape []) (λ (all : Listed). Is all.nodes) nodes first.2 in
            is_on (node_in dig (ps ++ more) root.page) (rest (ps ++ more)) first.0
            (node_in-more root.page first.0 first.1)
            ∙ is_on (listed_at (child_listed dig (ps ++ more) since first.0.level first.0) first.0.entries root.page
            None None 0 first.0.shape []) (λ (all : Listed). Is all.nodes) second.0
            (listed_at-same (child_listed dig ps since first.0.level first.0) (child_listed dig (ps ++ more) since
            first.0.level first.0) (child_listed-more first.0.level first.0) first.0.entries root.page None None 0
            first.0.shape [] second.0 second.1)
            ∙ second.2
