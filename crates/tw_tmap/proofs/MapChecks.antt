-- What is found of map files, file by file, and the verdict that comes of it.
use Rattle.std.proofs.Common.{◌≡◌, ℕ, List, [], ◌∷◌, ◌++◌, refl, sym, ap, ◌∙◌, subst}
use Rattle.std.specs.Prelude.{Bool, true, false, Option, Some, None, IsSome, if◌then◌else◌}
use Rattle.std.specs.Option.{option_map_or}
use Rattle.tw_base.specs.declared.history.report.Reason.{Reason}
use Rattle.tw_base.specs.declared.history.report.Reason.TheVariants.{NotHeld}
use Rattle.tw_base.specs.declared.history.thread.Key.{Key}
use Rattle.tw_base.specs.declared.history.thread.Thread.{Thread}
use Rattle.tw_base.specs.kinds.Lists.{Each}
use Rattle.tw_chain.specs.Checks.{Check}
use Rattle.tw_chain.specs.Checks.Check.{NeedsAnchor}
use Rattle.tw_chain.specs.Finding.{found_in, is_lower, lower_of, reason_with}
use Rattle.tw_chain.specs.Passing.{Passes, anchor_at, reason_of}
use Rattle.tw_chain.proofs.FoundSteps.{found-append, found-one, lower-none}
use Rattle.tw_chain.proofs.Lowest.{found-lowest, found-none, passing-fails}
use Rattle.tw_tmap.specs.declared.map_file.HighFile.{HighFile}
use Rattle.tw_tmap.specs.declared.map_file.LowFile.{LowFile}
use Rattle.tw_tmap.specs.declared.map_verdict.MapVerdict.{MapVerdict}
use Rattle.tw_tmap.specs.declared.map_verdict.MapVerdict.TheVariants.{Yes, No, Gap}
use Rattle.tw_tmap.specs.Checking.{AreMapFilesAccepted, IsLowestReason, fit, high_checks, high_told, low_checks}
use Rattle.tw_tmap.specs.Checking.{low_told, map_checks, map_verdict}

-- where the lower of two is none, both are
lower-none_left : (one other : Option Reason) → lower_of one other ≡ None → one ≡ None
lower-none_left None other is = refl
lower-none_left (Some one) None is = absurd (cc)
lower-none_left (Some one) (Some other) is = by (is_lower other one) is
  where
    by : (b : Bool) → (if b then Some other else Some one) ≡ None → Some one ≡ None
    by true is = absurd (cc)
    by false is = is

lower-none_right : (one other : Option Reason) → lower_of one other ≡ None → other ≡ None
lower-none_right None other is = is
lower-none_right (Some one) None is = refl
lower-none_right (Some one) (Some other) is = by (is_lower other one) is
  where
    by : (b : Bool) → (if b then Some other else Some one) ≡ None → Some other ≡ None
    by true is = is
    by false is = absurd (cc)

module _ (dig : List ℕ → List ℕ) (anchors : List Thread) where
  -- checks behind others
  pub found-behind : (one more : Option Reason) (xs ys : List Check) → one ≡ found_in dig anchors xs
      → more ≡ found_in dig anchors ys
      → lower_of one more ≡ found_in dig anchors (xs ++ ys)
  found-behind one more xs ys is behind =
      ap (λ o. lower_of o more) is ∙ ap (lower_of (found_in dig anchors xs)) behind
      ∙ sym (found-append dig anchors xs ys)

  -- a last check that passes, and one that doesn't
  pub found-passing : (one : Option Reason) (xs : List Check) (c : Check) → one ≡ found_in dig anchors xs
      → Passes dig anchors c → one ≡ found_in dig anchors (xs ++ c ∷ [])
  found-passing one xs c is holds =
      sym (lower-none one) ∙ found-one dig anchors one c true (λ sure. holds, λ again. refl)
      ∙ found-behind one (found_in dig anchors (c ∷ [])) xs (c ∷ []) is refl

  pub found-failing : (one : Option Reason) (xs : List Check) (c : Check) → one ≡ found_in dig anchors xs
      → (Passes dig anchors c → ⊥)
      → lower_of one (Some (reason_of c)) ≡ found_in dig anchors (xs ++ c ∷ [])
  found-failing one xs c is fails =
      found-one dig anchors one c false (λ never. cc, λ holds. absurd (fails holds))
      ∙ found-behind one (found_in dig anchors (c ∷ [])) xs (c ∷ []) is refl

  -- an anchor that is held, and one that isn't
  pub anchor-held : (found : Option Reason) (key : Key) (t : Thread) → anchor_at anchors key ≡ Some t
      → found ≡ reason_with dig anchors found (NeedsAnchor key ∷ [])
  anchor-held found key t held =
      sym (lower-none found) ∙ found-one dig anchors found (NeedsAnchor key) true
      (λ sure. subst IsSome (sym held) refl, λ again. refl)

  pub anchor-missing : (found : Option Reason) (key : Key) → anchor_at anchors key ≡ None
      → lower_of found (Some (NotHeld key.from key.step)) ≡ reason_with dig anchors found (NeedsAnchor key ∷ [])
  anchor-missing found key missing =
      found-one dig anchors found (NeedsAnchor key) false
      (λ never. cc, λ held. (let none : false ≡ true = subst IsSome missing held in cc))

  -- where each check passes nothing is found
  pub passing-found : (cs : List Check) → Each (Passes dig anchors) cs → found_in dig anchors cs ≡ None
  passing-found cs all =
      let cases : (found : Option Reason) → found_in dig anchors cs ≡ found → found ≡ None =
      elim [
        | None ↦ λ none. refl
        | Some reason ↦ λ some. absurd (passing-fails dig anchors false cs reason all
            (found-lowest dig anchors false cs reason some).fails)
      ]
      in cases (found_in dig anchors cs) refl

  module _ (low : LowFile) (high : HighFile) where
    abbrev told_with : Bool → Option Reason → MapVerdict
    told_with b found = if b then option_map_or (λ reason. No reason) found
        (Yes (low_told low) (high_told high) high.top) else Gap

    -- the verdict of what is found of both files, and of the bounds that they tell where nothing is
    module _ (fits : fit low high ≡ true) (one other : Option Reason) (l : ℕ) (h : Option ℕ)
        (of_low : one ≡ found_in dig anchors (low_checks low))
        (of_high : other ≡ found_in dig anchors (high_checks high)) where
      pub judged : (one ≡ None → l ≡ low_told low) → (other ≡ None → h ≡ high_told high) → (found : Option Reason)
          → lower_of one other ≡ found
          → option_map_or (λ reason. No reason) found (Yes l h high.top) ≡ map_verdict dig anchors low high
      judged lows highs found is =
          bounds found is
          ∙ ap (told_with true) (sym is ∙ found-behind one other (low_checks low) (high_checks high) of_low of_high)
          ∙ ap (λ b. told_with b (found_in dig anchors (map_checks low high))) (sym fits)
        where
          bounds : (found : Option Reason) → lower_of one other ≡ found
              → option_map_or (λ reason. No reason) found (Yes l h high.top) ≡ told_with true found
          bounds (Some reason) is = refl
          bounds None is = λ k. Yes (lows (lower-none_left one other is) k) (highs (lower-none_right one other is) k)
              high.top

    pub judged-gap : fit low high ≡ false → Gap ≡ map_verdict dig anchors low high
    judged-gap never = ap (λ b. told_with b (found_in dig anchors (map_checks low high))) (sym never)

    -- ---- when it is Yes

    pub yes-accepted : (l : ℕ) (h : Option ℕ) (upto : ℕ) → map_verdict dig anchors low high ≡ Yes l h upto
        → AreMapFilesAccepted dig anchors low high × (l ≡ low_told low) × (h ≡ high_told high) × (upto ≡ high.top)
    yes-accepted l h upto is = by (fit low high) (found_in dig anchors (map_checks low high)) refl refl is
      where
        by : (b : Bool) (found : Option Reason) → fit low high ≡ b → found_in dig anchors (map_checks low high) ≡ found
            → told_with b found ≡ Yes l h upto
            → AreMapFilesAccepted dig anchors low high × (l ≡ low_told low) × (h ≡ high_told high) × (upto ≡ high.top)
        by false found fits none is = absurd (cc)
        by true (Some reason) fits none is = absurd (cc)
        by true None fits none is = ((fits, found-none dig anchors false (map_checks low high) none), cc, cc, cc)

    pub accepted-yes : AreMapFilesAccepted dig anchors low high → map_verdict dig anchors low high ≡ Yes (low_told low)
        (high_told high) high.top
    accepted-yes is =
        ap (λ b. told_with b (found_in dig anchors (map_checks low high))) is.0
        ∙ ap (told_with true) (passing-found (map_checks low high) is.1)

    -- ---- when it is another

    pub gap-apart : map_verdict dig anchors low high ≡ Gap → fit low high ≡ false
    gap-apart is = by (fit low high) (found_in dig anchors (map_checks low high)) is
      where
        by : (b : Bool) (found : Option Reason) → told_with b found ≡ Gap → b ≡ false
        by false found is = refl
        by true (Some reason) is = absurd (cc)
        by true None is = absurd (cc)

    pub no-lowest : (reason : Reason) → map_verdict dig anchors low high ≡ No reason → (fit low high ≡ true)
        × IsLowestReason dig anchors (map_checks low high) reason
    no-lowest reason is = by (fit low high) (found_in dig anchors (map_checks low high)) refl refl is
      where
        by : (b : Bool) (found : Option Reason) → fit low high ≡ b → found_in dig anchors (map_checks low high) ≡ found
            → told_with b found ≡ No reason
            → (fit low high ≡ true) × IsLowestReason dig anchors (map_checks low high) reason
        by false found fits some is = absurd (cc)
        by true None fits some is = absurd (cc)
        by true (Some other) fits some is =
            let same : other ≡ reason = cc in
            let least = found-lowest dig anchors false (map_checks low high) reason
            (some ∙ ap (λ (r : Reason). Some r) same) in
            (fits, record { fails = least.fails; lowest = least.least; first = least.first })
