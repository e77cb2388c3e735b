-- The rules of step pages, as tests.
use Rattle.std.proofs.Common.{◌≡◌, ℕ, suc, zero, ◌+◌, ◌^◌, ◌<◌, List, refl, ap, ◌∙◌, arith, inl, inr, Bool, true, false}
use Rattle.std.specs.Prelude.{nat_lt, ◌==◌, ◌&&◌, if◌then◌else◌}
use Rattle.std.proofs.lemmas.Bool.{lt-ltb}
use Rattle.std.proofs.lemmas.Bool.Decides.{eqb_tells}
use Rattle.tw_steppage.specs.declared.link.StepRef.{StepRef}
use Rattle.tw_steppage.specs.StepPages.{keeps_link_rules, lies_below, link_at_level}

pub both_true : (a b : Bool) → a ≡ true → b ≡ true → (a && b) ≡ true
both_true a b one two = ap (λ (x : Bool). x && b) one ∙ two

pub and_false : (a b : Bool) → b ≡ false → (a && b) ≡ false
and_false true b e = e
and_false false b e = refl

-- a page below another one, which is 0 exactly where the numbers are the same
pub below_where : (n m page above : ℕ) → page < above → (n ≡ m → page ≡ 0) → (page ≡ 0 → n ≡ m)
    → lies_below (n == m) page above ≡ true
below_where n m page above less none some =
    both_true (nat_lt page above) (if n == m then page == 0 else nat_lt 0 page) (lt-ltb page above less)
    (elim (eqb_tells n m) [
      | inl is ↦ ap (λ (b : Bool). if b then page == 0 else nat_lt 0 page) is.0 ∙ ap (λ (p : ℕ). p == 0) (none is.1)
      | inr not ↦ ap (λ (b : Bool). if b then page == 0 else nat_lt 0 page) not.0
          ∙ lt-ltb 0 page
          (elim (eqb_tells page 0)
          [ inl zero_page ↦ absurd (not.1 (some zero_page.1)) | inr more ↦ (let ne = more.1 in omega (arith, ne)) ])
    ])

-- the rules at each level
module _ (page step : ℕ) (links : List StepRef) where
  pub link_rules-first : keeps_link_rules page step links 0 ≡ true
  unfolding keeps_link_rules
  link_rules-first = refl

  pub link_rules-more : (level : ℕ) → keeps_link_rules page step links (level + 1)
      ≡ (keeps_link_rules page step links level && lies_below (step == 2 ^ level) (link_at_level links level).page page)
  unfolding keeps_link_rules
  link_rules-more level = ap (keeps_link_rules page step links) (let e : level + 1 ≡ suc level = omega arith in e)

  link_rules-suc : (count : ℕ) → keeps_link_rules page step links count ≡ false → keeps_link_rules page step links
      (suc count) ≡ false
  unfolding keeps_link_rules
  link_rules-suc count e = ap (λ (b : Bool). b && lies_below (step == 2 ^ count) (link_at_level links count).page
      page) e

  pub link_rules-no : (count d : ℕ) → keeps_link_rules page step links count ≡ false → keeps_link_rules page step links
      (count + d) ≡ false
  link_rules-no count zero e = ap (keeps_link_rules page step links) (let s : count + 0 ≡ count = omega arith in s) ∙ e
  link_rules-no count (suc d) e = ap (keeps_link_rules page step links) (let s : count + suc d ≡ suc (count + d) =
      omega arith in s) ∙ link_rules-suc (count + d) (link_rules-no count d e)

  pub link_rules-all : (count : ℕ) → ((level : ℕ) → level < count → lies_below (step == 2 ^ level)
      (link_at_level links level).page page ≡ true) → keeps_link_rules page step links count ≡ true
  unfolding keeps_link_rules
  link_rules-all zero each = refl
  link_rules-all (suc level) each = both_true (keeps_link_rules page step links level) _
      (link_rules-all level (λ k l. each k (omega (arith, l)))) (each level (omega arith))
