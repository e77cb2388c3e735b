-- One head more in the pages.
use Rattle.std.proofs.Common.{◌≡◌, ℕ, suc, zero, ◌+◌, ◌<◌, ◌^◌, List, [], ◌∷◌, ◌++◌, length, refl, ap, sym, ◌∙◌, arith}
use Rattle.std.proofs.Common.{inl, inr, ◌⊎◌, ⊎_elim}
use Rattle.tw_base.specs.declared.history.thread.Thread.{Thread}
use Rattle.tw_base.specs.history.Limits.{IsThread}
use Rattle.tw_disk.specs.Found.Found.{Is}
use Rattle.tw_disk.specs.Image.{Image}
use Rattle.tw_disk.proofs.FoundLaws.{is_on, same_found}
use Rattle.tw_follow.specs.declared.head_page.HeadPage.{HeadPage}
use Rattle.tw_follow.specs.declared.root.RootRecord.{RootRecord}
use Rattle.tw_follow.specs.HeadLists.{Kept, with_head}
use Rattle.tw_follow.specs.HeadPages.{earlier_page, head_on, head_page_bytes, heads_below, heads_down, last_head_page}
use Rattle.tw_follow.specs.Roots.{HasPage}
use Rattle.tw_follow.specs.Stands.{KeepsList}
use Rattle.tw_follow.proofs.Lists.{IsFrom, found-from, found-none, found-some}
use Rattle.tw_follow.proofs.Pages.{is-earlier, is-last, page-more, page-new, page_in_range}
use Rattle.tw_follow.proofs.Spelling.{head-fits}
use Rattle.tw_follow.proofs.Walks.{heads-here, heads-on, heads-wider}

none_or_some : (n : ℕ) → (n ≡ 0) ⊎ (0 < n)
none_or_some zero = inl refl
none_or_some (suc n) = inr (omega arith)

module _ (ps : Image) (r : RootRecord) (kept : Kept) (keeps : KeepsList ps r kept) (page : HasPage r) (head : Thread)
    (from : head.from ≡ r.head.from) (above : r.head.step < head.step) (thread : IsThread head)
    (room : 4 + length ps < 2 ^ 64) where
  -- the page of the head, and the record that names it
  abbrev own : HeadPage
  own = record { step = head.step; auth = head.auth; before = r.page }

  abbrev next : RootRecord
  next = record { head = head; page = 4 + length ps }

  abbrev all : Image
  all = ps ++ head_page_bytes own ∷ []

  before : r.page < 4 + length ps
  before = ⊎_elim (λ none. omega (arith, page.0 none))
      (λ some. (page_in_range ps r.page _ (found-from ps r kept.heads some keeps.found).last.there).1)
      (none_or_some r.head.step)

  last : last_head_page all next ≡ Is own
  last = is-last all next own
      (record {
        there = page-new ps own (head-fits own (thread.1, thread.2) (thread.3, thread.4) (omega (arith, before, room)))
            before;
        step = refl;
        auth = refl;
      })

  -- the page below is that of the head before
  below-some : 0 < r.head.step → (f : IsFrom ps r kept.heads) → heads_below all own head ≡ Is (kept.heads ++ head ∷ [])
  below-some some f =
      let name : List ℕ = head.from in
      let p : HeadPage = f.page in
      let low = (page_in_range ps r.page p f.last.there).0 in
      let is : head_on name p ≡ r.head = (λ i. record { from = from i; step = f.last.step i; auth = f.last.auth i }) in
      heads-on all name r.page head.step (head ∷ []) (omega (arith, low))
      ∙ is_on (earlier_page all r.page head.step) (λ q. heads_down q.before all name q.before q.step
      (head_on name q ∷ head ∷ [])) p
      (is-earlier all r.page head.step p (page-more ps (head_page_bytes own ∷ []) r.page p f.last.there)
      (omega (arith, above, f.last.step)))
      ∙ (λ i. heads_down p.before all (from i) p.before p.step (is i ∷ head ∷ []))
      ∙ heads-wider ps (head_page_bytes own ∷ []) r.head.from (head ∷ []) p.before p.before p.step (r.head ∷ [])
      kept.heads f.below

  below-none : r.head.step ≡ 0 → heads_below all own head ≡ Is (kept.heads ++ head ∷ [])
  below-none none =
      let no : kept.heads ≡ [] = same_found kept.heads [] (sym keeps.found ∙ found-none ps r none) in
      heads-here all head.from r.page head.step (head ∷ []) (page.0 none)
      ∙ ap (λ (hs : List Thread). Is (hs ++ head ∷ [])) (sym no)

  -- the list with the head is kept
  pub grown : KeepsList all next (with_head kept head)
  grown = record {
    named = keeps.named ∙ sym from;
    found = found-some all next (omega (arith, above))
        ∙ is_on (last_head_page all next) (λ p. heads_below all p head) own last
        ∙ ⊎_elim below-none (λ some. below-some some (found-from ps r kept.heads some keeps.found))
        (none_or_some r.head.step);
  }
