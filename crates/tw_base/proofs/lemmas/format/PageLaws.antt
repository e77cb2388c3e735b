-- What is read of a page from its front, and the zeros behind it.
use Rattle.std.proofs.Common.{◌≡◌, ℕ, ◌-◌, List, ◌++◌, length, drop, replicate, refl, ap, sym, ◌∙◌, subst, arith}
use Rattle.std.specs.Prelude.{Result, Ok, Err, Option, Some, None, IfErr, MatchOption, ◌≢◌}
use Rattle.std.proofs.lemmas.List.{drop_at}
use Rattle.tw_base.specs.declared.kinds.failure.ReadFault.{ReadFault}
use Rattle.tw_base.specs.declared.kinds.failure.ReadFault.TheVariants.{Malformed, NoMemory}
use Rattle.tw_base.specs.format.Codecs.{Codec}
use Rattle.tw_base.specs.format.Formats.{Placed}
use Rattle.tw_base.specs.format.Taking.{Takes}
use Rattle.tw_base.proofs.lemmas.format.CodecLaws.{Lawful}
use Rattle.tw_base.proofs.lemmas.format.FormatLaws.{read_at-spells, read_at-word}
use Rattle.tw_base.specs.format.PageBytes.{IsPageOf, IsPageTo, IsZeroFrom}

value_or : {X : Type 0} → X → Result (Placed X) ℕ → X
value_or d (Ok p) = p.value
value_or d (Err place) = d

after_or : {X : Type 0} → ℕ → Result (Placed X) ℕ → ℕ
after_or d (Ok p) = p.after
after_or d (Err place) = d

module _ {X : Type 0} {x y : X} {at after : ℕ} where
  read-value : ◌≡◌ {A = Result (Placed X) ℕ} (Ok (record { value = x; after = at }))
      (Ok (record { value = y; after = after })) → x ≡ y
  unfolding value_or
  read-value e = ap (λ r. value_or x r) e

  read-after : ◌≡◌ {A = Result (Placed X) ℕ} (Ok (record { value = x; after = at }))
      (Ok (record { value = y; after = after })) → at ≡ after
  unfolding after_or
  read-after e = ap (λ r. after_or at r) e

module _ {X : Type 0} (c : Codec X) (l : Lawful c) where
  -- the value that a page spells is read from its front
  pub page-reads : (page : List ℕ) (x : X) → IsPageOf c page x
      → c.read page 0 ≡ Ok (record { value = x; after = length (c.write x) })
  page-reads page x is =
      let read = read_at-word c.format page (c.write x) _ 0 x (l.spells x is.fits) is.bytes in
      sym (l.reads page 0) ∙ read ∙ ap (λ n. Ok (record { value = x; after = n })) (omega arith)

  -- so a page spells one value at most
  pub page-once : (page : List ℕ) (x y : X) → IsPageOf c page x → IsPageOf c page y → x ≡ y
  page-once page x y is other = read-value (sym (page-reads page x is) ∙ page-reads page y other)

  module _ {Y : Type 0} (view : Y → X) (page : List ℕ) (after : ℕ) where
    took-page : (y : Y) → Takes c view page 0 after (Ok y) → IsZeroFrom page after → IsPageOf c page (view y)
    took-page y t zeros =
        let is = read_at-spells c.format page 0 after (view y) (l.reads page 0 ∙ t.0) in
        let word : is.0 ≡ c.write (view y) = (l.words is.0 (view y) is.4).0 in
        let size : length is.0 ≡ after = omega (arith, is.3) in
        let rest : is.1 ≡ replicate (4096 - length (c.write (view y))) 0 =
        sym (drop_at is.0 is.1 after size) ∙ ap (drop after) (sym is.2) ∙ zeros ∙ ap (λ n. replicate (4096 - n) 0)
        (sym size ∙ ap length word) in
        record { bytes = is.2 ∙ (λ k. word k ++ rest k); fits = t.1 }

    no-page : (x : X) → IsPageOf c page x → (y : Y) → Takes c view page 0 after (Ok y) → IsZeroFrom page after
    no-page x is y t =
        let size : length (c.write x) ≡ after = read-after (sym (page-reads page x is) ∙ t.0) in
        ap (drop after) is.bytes ∙ drop_at (c.write x) _ after size ∙ ap (λ n. replicate (4096 - n) 0) size

    -- a reader of the page
    pub takes-page : (read : Result Y ReadFault) (r : Option Y) → Takes c view page 0 after read
        → IfErr read (λ fault. fault ≢ NoMemory) → IsPageTo page after read r
        → MatchOption r ((x : X) → IsPageOf c page x → ⊥) (λ y. IsPageOf c page (view y))
    takes-page (Ok y) (Some z) t memory to = let P : Y → Type 0 = λ v. IsPageOf c page (view v) in
        subst P to.0 (took-page y t to.1)
    takes-page (Ok y) None t memory to = λ x is. to (no-page x is y t)
    takes-page (Err fault) (Some z) t memory to = absurd to
    takes-page (Err (Malformed place)) None t memory to = λ x is. (let same = sym (page-reads page x is) ∙ t in cc)
    takes-page (Err NoMemory) None t memory to = absurd (memory refl)
