-- An image opens as one store at most.
use Rattle.std.proofs.Common.{◌≡◌, inl, inr, ℕ, ◌+◌, ◌<◌, List, length, take, drop, get_or, sym, ◌∙◌, ap, subst, arith}
use Rattle.std.proofs.lemmas.Bool.{cases_eq}
use Rattle.tw_disk.specs.Image.{Image, page_at}
use Rattle.tw_base.proofs.lemmas.format.PageLaws.{page-once}
use Rattle.tw_pages.specs.Store.{Opening, StandsInImage, OpensAs, IsBody, body_codec, used_of, spare_of}
use Rattle.tw_pages.proofs.Bodies.{body-lawful}
use Rattle.tw_pages.proofs.Openings.{pages_of}

module _ (count : ℕ) (page : List ℕ) (generation used : ℕ) (root : List ℕ) (generation' used' : ℕ) (root' : List ℕ)
    (is : IsBody count page generation used root) (is' : IsBody count page generation' used' root') where
  same_body : ◌≡◌ {A = ℕ × (ℕ × List ℕ)} (generation, (used, root)) (generation', (used', root'))
  same_body = page-once body_codec body-lawful page (generation, (used, root)) (generation', (used', root')) is.is
      is'.is

  pub same_generation : generation ≡ generation'
  same_generation = ap (λ b. b.0) same_body

  pub same_used : used ≡ used'
  same_used = ap (λ b. b.1.0) same_body

  pub same_root : root ≡ root'
  same_root = ap (λ b. b.1.1) same_body

module _ (o p : Opening) (c : Image) (opens : OpensAs o c) (opens' : OpensAs p c) where
  in_one_slot : o.slot ≡ p.slot → o ≡ p
  in_one_slot is =
      let there : IsBody (length c) (page_at c (2 + o.slot)) p.generation (used_of p) p.root =
      let P : ℕ → Type 0 = λ k. IsBody (length c) (page_at c (2 + k)) p.generation (used_of p) p.root in
      subst P (sym is) opens'.stands.body in
      let here = opens.stands.body in
      let used = same_used _ _ _ _ _ _ _ _ here there in
      let size : length o.pages ≡ length p.pages = omega arith in
      let pages = sym (pages_of o c opens.stands) ∙ ap (λ (n : ℕ). take n (drop 4 c)) size ∙ pages_of p c
      opens'.stands in
      let generation = same_generation _ _ _ _ _ _ _ _ here there in
      let root = same_root _ _ _ _ _ _ _ _ here there in
      λ i. record { root = root i; generation = generation i; slot = is i; pages = pages i }

  older_than : (q r : Opening) → OpensAs q c → StandsInImage r c → r.slot ≡ spare_of q → r.generation < q.generation
  older_than q r opens_q stands other = elim opens_q.counts [
    | inl closed ↦ absurd (closed (ap (λ (k : ℕ). get_or (page_at c k) 0 0) (sym other) ∙ stands.gate))
    | inr older ↦
        let there : IsBody (length c) (page_at c (2 + spare_of q)) r.generation (used_of r) r.root =
        let P : ℕ → Type 0 = λ k. IsBody (length c) (page_at c (2 + k)) r.generation (used_of r) r.root in
        subst P other stands.body in
        let same = same_generation _ _ _ _ _ _ _ _ there older.body in
        let lower = older.lower in
        omega arith
  ]

  pub opens_once : o ≡ p
  opens_once = elim (cases_eq o.slot p.slot) [
    | inl is ↦ in_one_slot is
    | inr ne ↦
        let low : o.slot < 2 = opens.stands.which in
        let low' : p.slot < 2 = opens'.stands.which in
        let one = older_than o p opens opens'.stands (omega arith) in
        let other = older_than p o opens' opens.stands (omega arith) in
        absurd (omega arith)
  ]
