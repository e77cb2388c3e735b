use Rattle.std.proofs.Common.{◌≡◌, ℕ, ◌<◌, ◌≤◌, Bool, true, inl, inr, ◌⊎◌, arith, List, slice_get, sym, ap, ◌∙◌}
use Rattle.std.specs.Prelude.{◌==◌, ◌||◌}
use Rattle.std.proofs.lemmas.Bool.{eq-eqb, or_right}
use Rattle.tw_disk.specs.declared.limits.TheConstants.{FIRST_PAGE}
use Rattle.tw_disk.proofs.FoundLaws.{same_found}
use Rattle.tw_rbtree.specs.declared.new_node.NewNode.{NewNode}
use Rattle.tw_base.proofs.lemmas.kinds.ListLemmas.{Each-map}
use Rattle.tw_rbtree.specs.OwnPages.{IsEntryOfNew, IsPageUnder, NamesOwn}
use Rattle.tw_rbtree.specs.Standing.{HasNamed, any_page}
use Rattle.tw_rbtree.specs.Listing.{is_old}
use Rattle.tw_rbtree.proofs.ListLaws.{is-old, listed-none}
use Rattle.tw_rbtree.proofs.Markings.{root-marks}
use Rattle.tw_rbtree.proofs.OwnPages.{Fits, root-own}
use Rattle.tw_rbtree.proofs.Plantings.{marks-apart, root-plants}
use Rattle.tw_rbtree.proofs.Postorders.{root-grows}
use Rattle.tw_rbtree.proofs.laws.listing_laws.Goals as goal

older : (page since : ℕ) → (page ≡ 0) ⊎ ((FIRST_PAGE ≤ page) × (page < since)) → ((page == 0) || is_old page since)
    ≡ true
older page since (inl none) = ap (λ (b : Bool). b || is_old page since) (eq-eqb page 0 none)
older page since (inr below) = or_right (page == 0) (is_old page since) (is-old page since below.0 below.1)

pub returns : goal.returns
returns g c = record {
  fresh = λ ps root t since stands some new.
      let p = root-plants g.H.Hasher.dig any_page ps root t since stands some new in
      (p.nodes, p.trees, p.found_is, p.are, p.last.0, p.last.1);
  named = λ ps named root t since stands some new.
      let p = root-plants g.H.Hasher.dig (HasNamed named) ps root t since stands some new in
      (p.nodes, p.trees, p.found_is, p.are, p.last.0, p.last.1);
  within = λ ps root t since stands some new.
      let p = root-plants g.H.Hasher.dig any_page ps root t since stands some new in
      (p.nodes, p.trees, p.found_is, p.are, p.within);
  own = λ ps root since nodes found.
      Each-map (Fits (IsPageUnder g.H.Hasher.dig ps root) (IsEntryOfNew g.H.Hasher.dig ps root since))
      (NamesOwn (IsPageUnder g.H.Hasher.dig ps root)) nodes (λ n fits. fits.0)
      (root-own g.H.Hasher.dig ps since root nodes found);
  new = λ ps root since nodes found.
      Each-map (Fits (IsPageUnder g.H.Hasher.dig ps root) (IsEntryOfNew g.H.Hasher.dig ps root since))
      (λ n. IsEntryOfNew g.H.Hasher.dig ps root since n.entry) nodes (λ n fits. fits.1)
      (root-own g.H.Hasher.dig ps since root nodes found);
  order = λ ps root since nodes found. root-grows g.H.Hasher.dig ps since root nodes found;
  marked = λ ps root t since nodes stands some new found. root-marks g.H.Hasher.dig ps since root t nodes stands some
      new found;
  apart = λ ps root t since nodes stands some new found i j n m a b same page.
      let p = root-plants g.H.Hasher.dig any_page ps root t since stands some new in
      let whole : nodes ≡ p.nodes = same_found nodes p.nodes (sym found ∙ p.found_is) in
      marks-apart g.H.Hasher.dig any_page ps since p.nodes p.trees p.are p.apart i j n m
      (ap (λ (xs : List NewNode). slice_get xs i) (sym whole) ∙ a) (ap (λ (xs : List NewNode). slice_get xs j)
      (sym whole) ∙ b) same page;
  last = λ ps root t since stands some new.
      let p = root-plants g.H.Hasher.dig any_page ps root t since stands some new in
      (p.nodes, p.mark.0, p.found_is, p.mark.1, p.mark.2);
  none = λ ps root since old. listed-none g.H.Hasher.dig ps since root (older root.page since old);
}
