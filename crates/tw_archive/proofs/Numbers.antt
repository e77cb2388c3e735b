-- The numbers of nodes and of pages.
use Rattle.std.proofs.Common.{◌≡◌, ◌≢◌, ℕ, suc, zero, ◌+◌, ◌≤◌, List, [], ◌∷◌, ◌++◌, length, Bool, true, false, refl}
use Rattle.std.proofs.Common.{ap, sym, ◌∙◌, subst, arith, inl, inr, slice_get}
use Rattle.std.specs.Prelude.{◌==◌, Some, cond}
use Rattle.std.proofs.lemmas.Bool.Decides.{Decides-eqb}
use Rattle.tw_base.specs.declared.history.root.Root.{Root}
use Rattle.tw_base.specs.kinds.Lists.{Each, In}
use Rattle.tw_base.proofs.lemmas.kinds.ListLemmas.{Each-append, Each-map}
use Rattle.tw_disk.specs.Image.{Image}
use Rattle.tw_rbtree.specs.declared.new_node.NewNode.{NewNode}
use Rattle.tw_archive.specs.Numbering.{Numbered, PageNumber, PageNumbers, archive_new_nodes, number_of_page}
use Rattle.tw_archive.specs.Numbering.{numbered_archive, numbers_of_nodes}

abbrev IsUpTo : ℕ → PageNumber → Type 0
IsUpTo count p = p.node ≤ count

pages-up_to : (before : ℕ) (nodes : List NewNode) → Each (IsUpTo (before + length nodes))
    (numbers_of_nodes before nodes)
pages-up_to before [] = tt
pages-up_to before (n ∷ ns) = by (n.page == 0) (subst (λ (k : ℕ). Each (IsUpTo k) (numbers_of_nodes (suc before) ns))
    (let e : suc before + length ns ≡ before + suc (length ns) = omega arith in e) (pages-up_to (suc before) ns))
  where
    by : (b : Bool) → Each (IsUpTo (before + suc (length ns))) (numbers_of_nodes (suc before) ns)
        → Each (IsUpTo (before + suc (length ns)))
        (cond b (numbers_of_nodes (suc before) ns) (record { page = n.page; node = suc before } ∷ numbers_of_nodes (suc before) ns))
    by true rest = rest
    by false rest = (omega arith, rest)

at-up_to : (numbers : PageNumbers) (count page : ℕ) → Each (IsUpTo count) numbers → number_of_page numbers page ≤ count
at-up_to [] count page all = omega arith
at-up_to (p ∷ ps) count page all = by (p.page == page) (at-up_to ps count page all.1)
  where
    by : (b : Bool) → number_of_page ps page ≤ count → cond b p.node (number_of_page ps page) ≤ count
    by true rest = all.0
    by false rest = rest

module _ (dig : List ℕ → List ℕ) (ps : Image) (step_page : ℕ → ℕ) (archive : ℕ → Root) where
  all-up_to : (k : ℕ) → Each (IsUpTo (numbered_archive dig ps step_page archive k).count)
      (numbered_archive dig ps step_page archive k).pages
  unfolding numbered_archive
  all-up_to zero = tt
  all-up_to (suc k) =
      let n : Numbered = numbered_archive dig ps step_page archive k in
      let nodes : List NewNode = archive_new_nodes dig ps step_page archive k in
      Each-append (IsUpTo (n.count + length nodes)) (numbers_of_nodes n.count nodes) n.pages (pages-up_to n.count nodes)
      (Each-map (IsUpTo n.count) (IsUpTo (n.count + length nodes)) n.pages (λ p low. omega (arith, low)) (all-up_to k))

  -- a page's number is that of a node so far
  pub number-up_to : (k page : ℕ) → number_of_page (numbered_archive dig ps step_page archive k).pages page
      ≤ (numbered_archive dig ps step_page archive k).count
  number-up_to k page = at-up_to (numbered_archive dig ps step_page archive k).pages
      (numbered_archive dig ps step_page archive k).count page (all-up_to k)

module _ (known : PageNumbers) (page : ℕ) (some : page ≢ 0) where
  -- a page that no node marks has the number that it had
  pub unmarked : (before : ℕ) (nodes : List NewNode) → Each (λ (n : NewNode). n.page ≢ page) nodes
      → number_of_page (numbers_of_nodes before nodes ++ known) page ≡ number_of_page known page
  unmarked before [] all = refl
  unmarked before (n ∷ ns) all = by (n.page == 0) (unmarked (suc before) ns all.1)
    where
      rest : PageNumbers
      rest = numbers_of_nodes (suc before) ns

      not : (n.page == page) ≡ false
      not = other (n.page == page) refl
        where
          other : (b : Bool) → (n.page == page) ≡ b → b ≡ false
          other true same = absurd (all.0 ((Decides-eqb n.page page).0 same))
          other false same = refl

      by : (b : Bool) → number_of_page (rest ++ known) page ≡ number_of_page known page
          → number_of_page (cond b rest (record { page = n.page; node = suc before } ∷ rest) ++ known) page ≡ number_of_page known
          page
      by true same = same
      by false same = ap (λ (b : Bool). cond b (suc before) (number_of_page (rest ++ known) page)) not ∙ same

  -- the number of the first node that marks the page
  pub record IsNumbered (before : ℕ) (nodes : List NewNode) : Type 0 where
    pub place : ℕ
    pub node : NewNode
    pub there : slice_get nodes place ≡ Some node
    pub marks : node.page ≡ page
    pub number : number_of_page (numbers_of_nodes before nodes ++ known) page ≡ before + place + 1

  pub marked : (before : ℕ) (nodes : List NewNode) (n : NewNode) → In n nodes → n.page ≡ page → IsNumbered before nodes
  marked before [] n there is = absurd there
  marked before (m ∷ ms) n there is = by (m.page == page) refl (m.page == 0) refl
      (λ more. marked (suc before) ms n more is)
    where
      rest : PageNumbers
      rest = numbers_of_nodes (suc before) ms

      further : (b : Bool) → (m.page == 0) ≡ b → (m.page == page) ≡ false → IsNumbered (suc before) ms → number_of_page
          (cond b rest (record { page = m.page; node = suc before } ∷ rest) ++ known) page ≡ number_of_page
          (rest ++ known) page
      further true zero_is other r = refl
      further false zero_is other r = ap (λ (b : Bool). cond b (suc before) (number_of_page (rest ++ known) page)) other

      on : (b : Bool) → (m.page == 0) ≡ b → (m.page == page) ≡ false → IsNumbered (suc before) ms
          → IsNumbered before (m ∷ ms)
      on b zero_is other r = record {
        place = suc r.place;
        node = r.node;
        there = r.there;
        marks = r.marks;
        number = ap (λ (c : Bool). number_of_page (cond c rest (record { page = m.page; node = suc before } ∷ rest)
            ++ known) page) zero_is
            ∙ further b zero_is other r ∙ r.number ∙ (let e : suc before + r.place + 1 ≡ before + suc r.place + 1 =
            omega arith in e);
      }

      by : (c : Bool) → (m.page == page) ≡ c → (b : Bool) → (m.page == 0) ≡ b → (In n ms → IsNumbered (suc before) ms)
          → IsNumbered before (m ∷ ms)
      by true same true none again =
          absurd (some (sym ((Decides-eqb m.page page).0 same) ∙ (Decides-eqb m.page 0).0 none))
      by true same false none again = record {
        place = 0;
        node = m;
        there = refl;
        marks = (Decides-eqb m.page page).0 same;
        number = ap (λ (c : Bool). number_of_page (cond c rest (record { page = m.page; node = suc before } ∷ rest)
            ++ known) page) none
            ∙ ap (λ (c : Bool). cond c (suc before) (number_of_page (rest ++ known) page)) same
            ∙ (let e : suc before ≡ before + 0 + 1 = omega arith in e);
      }
      by false other b none again = on b none other
          (again (elim there [
            | inl one ↦ absurd (let eq : (m.page == page) ≡ true = (Decides-eqb m.page page).1
                (ap (λ (x : NewNode). x.page) (sym one) ∙ is) in let never : false ≡ true = sym other ∙ eq in cc)
            | inr more ↦ more
          ]))
