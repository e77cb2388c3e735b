-- What the bytes of files determine that the inputs tell.
use Rattle.std.proofs.Common.{◌≡◌, ◌∙◌, ℕ, ◌≤◌, List, [], ◌∷◌, map, refl, ap, sym, subst, arith, inl, inr}
use Rattle.std.specs.Prelude.{true, false, Option, Some, IsSome}
use Rattle.std.proofs.lemmas.Bool.{cases_lt}
use Rattle.tw_base.specs.declared.history.thread.Thread.{Thread}
use Rattle.tw_base.specs.format.Formats.{Format, IsPlace, Spells}
use Rattle.tw_base.proofs.lemmas.format.FormatLaws.{one_value}
use Rattle.tw_outside.specs.Files.{Files, IsThere, TellsBytes}
use Rattle.tw_msg.specs.AnchorsFile.{AllGood, IsFirstBadLine, anchor_on, is_good, lines}
use Rattle.tw_filecmd.specs.Verifying.{HasAnchors, HasBadLine}
use Rattle.tw_reachcmd.specs.Anchors.{AreAnchorsOf}
use Rattle.tw_reachcmd.specs.Held.{FileHolds, HoldsNone, TellAll}
use Rattle.tw_app.specs.Alike.{TellsEach}

pub there : (told : Option Files) (name bytes : List ℕ) → TellsBytes told name bytes → IsThere told name
there told name bytes tells = λ some. subst IsSome (sym tells) refl

pub same : (told : Option Files) (name bytes other : List ℕ) → TellsBytes told name bytes → TellsBytes told name other
    → bytes ≡ other
same told name bytes other tells tells_other = some (sym tells ∙ tells_other)
  where
    some : Some bytes ≡ Some other → bytes ≡ other
    some is = cc

-- bytes that are no word have one place
pub place_once : {X : Type 0} (f : Format X) (bytes : List ℕ) (one other : ℕ) → IsPlace f bytes one
    → IsPlace f bytes other → one ≡ other
place_once f bytes one other first second =
    let below : other ≤ one = first.longest other second.within second.good in
    let above : one ≤ other = second.longest one first.within first.good in
    omega (arith, below, above)

-- the bytes of all files
pub tell_all : (told : Option Files) (files : List (List ℕ)) → TellsEach told files → (all : List (List ℕ))
    × TellAll told files all
tell_all told [] each = ([], tt)
tell_all told (file ∷ files) each = let rest = tell_all told files each.1 in (each.0.0 ∷ rest.0, (each.0.1, rest.1))

-- ---- what a file holds

module _ {X : Type 0} (layout : Format X) (told : Option Files) (file bytes : List ℕ)
    (tells : TellsBytes told file bytes) where
  pub held_spells : (x : X) → FileHolds layout told file x → Spells layout bytes x
  held_spells x holds = subst (λ (b : List ℕ). Spells layout b x) (sym (holds.same bytes tells)) holds.spelled

  pub holds_of : (x : X) → Spells layout bytes x → FileHolds layout told file x
  holds_of x spells =
      record {
        there = there told file bytes tells;
        bytes = bytes;
        spelled = spells;
        same = λ others other. same told file others bytes other tells;
      }

  pub held_once : (x y : X) → FileHolds layout told file x → FileHolds layout told file y → x ≡ y
  held_once x y one other = one_value layout bytes x y (held_spells x one) (held_spells y other)

  pub held_not_none : (x : X) (place : ℕ) → FileHolds layout told file x → HoldsNone layout told file place → ⊥
  held_not_none x place holds none = (none.nothing bytes tells).0 x (held_spells x holds)

  pub none_once : (p q : ℕ) → HoldsNone layout told file p → HoldsNone layout told file q → p ≡ q
  none_once p q one other = place_once layout bytes p q (one.nothing bytes tells).1 (other.nothing bytes tells).1

-- ---- anchors

first_bad_once : (all : List (List ℕ)) (one other : ℕ) → IsFirstBadLine all one → IsFirstBadLine all other → one ≡ other
first_bad_once all one other is also = elim (cases_lt is.index also.index) [
  | inl less ↦ absurd (apart is.index (also.before is.index less) is.bad)
  | inr most ↦ elim (cases_lt also.index is.index) [
    | inl less ↦ absurd (apart also.index (is.before also.index less) also.bad)
    | inr least ↦ (let counted = is.counted in let count = also.counted in omega (arith, counted, count, most, least))
  ]
]
  where
    apart : (i : ℕ) → is_good all i ≡ true → is_good all i ≡ false → ⊥
    apart i good bad = let both : true ≡ false = sym good ∙ bad in cc

module _ (told : Option Files) (file bytes : List ℕ) (tells : TellsBytes told file bytes) where
  -- a file of good lines has their anchors
  pub has_anchors_of : (anchors : List Thread) → AreAnchorsOf bytes anchors → HasAnchors told file anchors
  has_anchors_of anchors are = record {
    there = there told file bytes tells;
    good = λ others other. subst (λ (b : List ℕ). AllGood (lines b)) (same told file bytes others tells other) are.good;
    same = λ others other. are.are ∙ ap (λ (b : List ℕ). map anchor_on (lines b))
        (same told file bytes others tells other);
  }

  pub anchors_of : AllGood (lines bytes) → HasAnchors told file (map anchor_on (lines bytes))
  anchors_of good = has_anchors_of (map anchor_on (lines bytes)) (record { good = good; are = refl })

  -- one of which a line is bad has that line
  pub bad_line_of : (proof : List ℕ) (number : ℕ) → IsThere told proof → IsFirstBadLine (lines bytes) number
      → HasBadLine told proof file number
  bad_line_of proof number proof_there bad = record {
    proof_there = proof_there;
    there = there told file bytes tells;
    bad = λ others other. subst (λ b. IsFirstBadLine (lines b) number) (same told file bytes others tells other) bad;
  }

  pub anchors_once : (one other : List Thread) → HasAnchors told file one → HasAnchors told file other → one ≡ other
  anchors_once one other has also = has.same bytes tells ∙ sym (also.same bytes tells)

  pub good_not_bad : (held : List Thread) (proof : List ℕ) (number : ℕ) → HasAnchors told file held
      → HasBadLine told proof file number → ⊥
  good_not_bad held proof number has bad =
      let first = bad.bad bytes tells in
      let both : true ≡ false = sym (has.good bytes tells first.index first.within) ∙ first.bad in
      cc

  pub bad_line_once : (proof : List ℕ) (one other : ℕ) → HasBadLine told proof file one → HasBadLine told proof file
      other → one ≡ other
  bad_line_once proof one other is also = first_bad_once (lines bytes) one other (is.bad bytes tells)
      (also.bad bytes tells)
