-- The pages keep the nodes and roots of one history.
use Rattle.std.proofs.Common.{◌≡◌, ℕ, suc, zero, ◌<◌, ◌≤◌, List, [], length, refl, ap, sym, ◌∙◌, arith}
use Rattle.std.specs.Prelude.{◌==◌, ◌||◌, map, None, if◌then◌else◌}
use Rattle.tw_base.specs.declared.history.root.Root.{Root}
use Rattle.tw_base.specs.history.History.{History, fresh_of, root_of, step_at}
use Rattle.tw_disk.specs.Found.{◌>>=◌}
use Rattle.tw_disk.specs.Found.Found.{Is}
use Rattle.tw_disk.specs.Image.{Image}
use Rattle.tw_rbtree.specs.Listing.{child_listed, is_old, listed, listed_at}
use Rattle.tw_rbtree.specs.Reading.{node_in}
use Rattle.tw_archive.specs.Archives.{Agree, KeepsTrees}
use Rattle.tw_archive.specs.Numbering.{history_node, archive_new_nodes, nodes_in, number_of_page, numbered_archive}
use Rattle.tw_archive.specs.Numbering.{numbered_on, new_from}

-- what is listed of a root is that of its page
listed-page : (dig : List ℕ → List ℕ) (ps : Image) (from : ℕ) (one other : Root) → one.page ≡ other.page
    → listed dig ps from one ≡ listed dig ps from other
unfolding listed
listed-page dig ps from one other same =
    ap (λ (page : ℕ). if (page == 0) || is_old page from then Is []
    else (node_in dig ps page >>= (λ p. listed_at (child_listed dig ps from p.level p) p.entries page None None 0
    p.shape [] >>= (λ all. Is all.nodes)))) same

module _ (dig : List ℕ → List ℕ) (ps : Image) (h g : History) (one_page other_page : ℕ → ℕ) (one other : ℕ → Root)
    (kept : KeepsTrees dig ps h one_page one) (too : KeepsTrees dig ps g other_page other)
    (count : length h.steps ≡ length g.steps)
    (pages : Agree (length h.steps) one_page other_page) (roots : Agree (length h.steps) (λ k. (one k).page)
    (λ k. (other k).page)) where
  from-same : (k : ℕ) → k ≤ length h.steps → new_from one_page k ≡ new_from other_page k
  from-same zero within = refl
  from-same (suc k) within = ap suc (pages (suc k) within)

  new-same : (k : ℕ) → k < length h.steps → archive_new_nodes dig ps one_page one k ≡ archive_new_nodes dig ps
      other_page other k
  new-same k less =
      ap (λ (from : ℕ). nodes_in (listed dig ps from (one (suc k)))) (from-same k (omega (arith, less)))
      ∙ ap nodes_in (listed-page dig ps (new_from other_page k) (one (suc k)) (other (suc k)) (roots (suc k) less))

  numbered-same : (k : ℕ) → k ≤ length h.steps → numbered_archive dig ps one_page one k ≡ numbered_archive dig ps
      other_page other k
  unfolding numbered_archive
  numbered-same zero within = refl
  numbered-same (suc k) within = λ i. numbered_on (numbered-same k (omega (arith, within)) i) (new-same k within i)

  pub same-fresh : (k : ℕ) → k ≤ length h.steps → fresh_of (step_at h k) ≡ fresh_of (step_at g k)
  same-fresh zero within = refl
  same-fresh (suc k) within =
      let before = numbered-same k (omega (arith, within)) in
      (kept.trees k within).fresh ∙ (λ i. map (history_node (before i).pages (before i).count) (new-same k within i))
      ∙ sym (too.trees k (omega (arith, within, count))).fresh

  pub same-root : (k : ℕ) → k ≤ length h.steps → root_of (step_at h k) ≡ root_of (step_at g k)
  same-root zero within = refl
  same-root (suc k) within =
      (kept.trees k within).root ∙ (λ i. number_of_page (numbered-same (suc k) within i).pages (roots (suc k) within i))
      ∙ sym (too.trees k (omega (arith, within, count))).root
