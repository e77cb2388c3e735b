-- What an insert finds, from the root's page.
use Rattle.std.proofs.Common.{◌≡◌, ℕ, List, [], ◌∷◌, Bool, refl, ap, sym, ◌∙◌}
use Rattle.std.specs.Prelude.{◌==◌, ◌&&◌, Option, Some, None, Result, Ok, Err}
use Rattle.tw_base.specs.declared.history.root.Root.{Root}
use Rattle.tw_base.specs.declared.history.thread.Entry.{Entry}
use Rattle.tw_base.specs.declared.history.thread.Key.{Key}
use Rattle.tw_base.specs.declared.history.tree_proof.Ask.TheVariants.{Absent}
use Rattle.tw_disk.specs.Found.{Found, ◌>>=◌}
use Rattle.tw_disk.specs.Found.Found.{Is}
use Rattle.tw_disk.specs.Image.{Image}
use Rattle.tw_disk.proofs.FoundLaws.{in_turn, is_on}
use Rattle.tw_rbnode.specs.declared.limits.TheConstants.{TOP_LEVEL}
use Rattle.tw_rbnode.specs.Page.{TreePage}
use Rattle.tw_rbtree.specs.declared.fault.TreeFault.{TreeFault}
use Rattle.tw_rbtree.specs.Answers.{found_insert, insert_at, overflows, top_at}
use Rattle.tw_rbtree.specs.Growing.{all_full, grows_from, grows_if, grows_of}
use Rattle.tw_rbtree.specs.Reading.{node_in}
use Rattle.tw_rbtree.specs.Ways.{Stop, end_of_way, nowhere, way, way_from}
use Rattle.tw_rbtree.proofs.WayLaws.{here, on_each, on_way, way-empty, way-root}

-- what becomes of the root's page
abbrev pub top_of : Root → TreePage → Result Bool TreeFault → Found (Result (Unit {0}) TreeFault)
top_of root p (Err fault) = Is (Err fault)
top_of root p (Ok all) = top_at root.page p.level all

module _ (dig : List ℕ → List ℕ) (ps : Image) (root : Root) (key : Key) where
  abbrev of_way : List Stop → Found (Result (Unit {0}) TreeFault)
  of_way stops = insert_at root (end_of_way nowhere stops).met (overflows stops)

  pub insert-empty : root.page ≡ 0 → found_insert dig ps root key ≡ Is (Ok tt)
  unfolding found_insert
  insert-empty none = is_on (way dig ps (Absent key) root) of_way [] (way-empty dig ps (Absent key) root none)

  pub insert-root : (root.page ≡ 0 → ⊥) → found_insert dig ps root key
      ≡ (node_in dig ps root.page >>= (λ p. grows_from dig ps key p.level None None p >>= top_of root p))
  unfolding found_insert grows_from
  insert-root some =
      ap (λ (w : Found (List Stop)). w >>= of_way) (way-root dig ps (Absent key) root some)
      ∙ in_turn (node_in dig ps root.page) (λ p. way_from dig ps (Absent key) p.level None None p) of_way
      ∙ on_each (node_in dig ps root.page) (λ p. way_from dig ps (Absent key) p.level None None p >>= of_way)
      (λ p. (way_from dig ps (Absent key) p.level None None p >>= (λ stops. Is (grows_of stops))) >>= top_of root p)
      by_page
    where
      met : (p : TreePage) (stops : List Stop) (o : Option Entry)
          → insert_at root o (all_full stops && (p.level == TOP_LEVEL)) ≡ top_of root p (grows_if o (all_full stops))
      met p stops None = refl
      met p stops (Some e) = refl

      by_page : (p : TreePage) → (way_from dig ps (Absent key) p.level None None p >>= of_way)
          ≡ ((way_from dig ps (Absent key) p.level None None p >>= (λ stops. Is (grows_of stops))) >>= top_of root p)
      by_page p =
          on_way dig ps (Absent key) of_way (λ stops. top_of root p (grows_of stops)) p.level None None p
          (λ stops. met p (here dig ps (Absent key) None None p ∷ stops)
          (end_of_way nowhere (here dig ps (Absent key) None None p ∷ stops)).met)
          ∙ sym (in_turn (way_from dig ps (Absent key) p.level None None p) (λ stops. Is (grows_of stops))
          (top_of root p))

  -- what is found, where the way down ends at an empty place
  pub insert-over : (root.page ≡ 0 → ⊥) → (p : TreePage) (two : Bool) (own : ℕ) → own ≡ p.level
      → node_in dig ps root.page ≡ Is p → grows_from dig ps key p.level None None p ≡ Is (Ok two)
      → found_insert dig ps root key ≡ top_at root.page own two
  insert-over some p two own level first grows =
      insert-root some
      ∙ is_on (node_in dig ps root.page) (λ q. grows_from dig ps key q.level None None q >>= top_of root q) p first
      ∙ is_on (grows_from dig ps key p.level None None p) (top_of root p) (Ok two) grows
      ∙ ap (λ (n : ℕ). top_at root.page n two) (sym level)

pub ruleset insert_roots = (insert-empty, insert-root)
