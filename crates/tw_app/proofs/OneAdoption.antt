-- One history at most is that of a file, or one reason why it is none; and one thing comes of the proofs of files for a
-- history.
use Rattle.std.proofs.Common.{◌≡◌, ◌∙◌, ℕ, List, [], ◌∷◌, ap, sym, subst, arith, inl, inr}
use Rattle.std.specs.Prelude.{Option}
use Rattle.sha2.specs.Sha256.{sha256}
use Rattle.tw_base.specs.declared.history.thread.Thread.{Thread}
use Rattle.tw_base.specs.history.History.{History}
use Rattle.tw_base.specs.history.HistoryCodec.{history_bytes, history_layout}
use Rattle.tw_base.specs.history.Sound.{IsSound}
use Rattle.tw_base.proofs.lemmas.format.FormatLaws.{one_value}
use Rattle.tw_history.specs.Rules.{IsFirstBroken}
use Rattle.tw_outside.specs.Files.{Files}
use Rattle.tw_adopt.specs.declared.adopted.AdoptFault.{AdoptFault}
use Rattle.tw_adopt.specs.declared.adopted.Adopted.{Adopted}
use Rattle.tw_adopt.specs.declared.receiving.Receiving.{Receiving}
use Rattle.tw_adopt.specs.Adopting.{adopted_by, furthest}
use Rattle.tw_adopt.proofs.AdoptionLaws.{refused}
use Rattle.tw_adopt.proofs.OneAnswer.{first_fault_once, good_once}
use Rattle.tw_filecmd.specs.Showing.{BreaksRule, IsBadByte, IsHistoryFileOf}
use Rattle.tw_reachcmd.specs.declared.adopting.Taken.{Taken}
use Rattle.tw_reachcmd.specs.declared.adopting.Taken.TheVariants as taken
use Rattle.tw_reachcmd.specs.Adopting.{IsAdoptionTaken}
use Rattle.tw_reachcmd.specs.Held.{TellAll}
use Rattle.tw_app.proofs.OneFamily.{broken_once, sound_not_broken}
use Rattle.tw_app.proofs.ToldFiles.{place_once}

-- ---- a history's file

module _ (bytes : List ℕ) where
  -- a file of a sound history has no bad byte, and breaks no rule
  pub file_not_bad : (h : History) (place : ℕ) → IsHistoryFileOf bytes h → IsBadByte bytes place → ⊥
  file_not_bad h place is (inl long) = let short = is.short in let more = long.0 in omega (arith, short, more)
  file_not_bad h place is (inr none) = none.1 h is.spelled

  pub file_not_broken : (h : History) (step rule : ℕ) → IsHistoryFileOf bytes h → BreaksRule bytes step rule → ⊥
  file_not_broken h step rule is breaks =
      sound_not_broken breaks.1.0 step rule
      (subst IsSound (one_value history_layout bytes h breaks.1.0 is.spelled breaks.1.1) is.sound) breaks.1.2

  -- one that isn't is bad at one byte, or breaks one rule first
  pub byte_once : (p q : ℕ) → IsBadByte bytes p → IsBadByte bytes q → p ≡ q
  byte_once p q (inl one) (inl other) = one.1 ∙ sym other.1
  byte_once p q (inl one) (inr other) = absurd (let long = one.0 in let short = other.0 in omega (arith, long, short))
  byte_once p q (inr one) (inl other) = absurd (let short = one.0 in let long = other.0 in omega (arith, long, short))
  byte_once p q (inr one) (inr other) = place_once history_layout bytes p q one.2 other.2

  pub byte_not_broken : (place step rule : ℕ) → IsBadByte bytes place → BreaksRule bytes step rule → ⊥
  byte_not_broken place step rule (inl long) breaks = let more = long.0 in let short = breaks.0 in
      omega (arith, more, short)
  byte_not_broken place step rule (inr none) breaks = none.1 breaks.1.0 breaks.1.1

  pub rule_once : (step rule again other : ℕ) → BreaksRule bytes step rule → BreaksRule bytes again other
      → (step ≡ again) × (rule ≡ other)
  rule_once step rule again other one also =
      let same : also.1.0 ≡ one.1.0 = one_value history_layout bytes also.1.0 one.1.0 also.1.1 one.1.1 in
      broken_once one.1.0 step rule again other one.1.2 (subst (λ (h : History). IsFirstBroken h again other) same
      also.1.2)

-- ---- what comes of proofs

module _ (anchors : List Thread) (h : History) (told : Option Files) (files proofs : List (List ℕ))
    (tells : TellAll told files proofs) where
  -- the steps that are taken over by what was shown
  abbrev front : List Receiving → List ℕ
  front [] = history_bytes h
  front (first ∷ rest) = history_bytes (adopted_by h (furthest first rest)).history

  pub taken_once : (x y : Taken) → IsAdoptionTaken told anchors files x h → IsAdoptionTaken told anchors files y h
      → x ≡ y
  taken_once (taken.File bytes) (taken.File other) one also =
      let is = one.answers proofs tells in
      let its = also.answers proofs tells in
      let own : bytes ≡ front (is.0 ∷ is.1) = one.file ∙ ap (λ (b : Adopted). history_bytes b.history) is.3 in
      let others : other ≡ front (its.0 ∷ its.1) = also.file ∙ ap (λ (b : Adopted). history_bytes b.history) its.3 in
      let same = good_once sha256 anchors h proofs (is.0 ∷ is.1) (its.0 ∷ its.1) is.2 its.2 in
      ap (λ (b : List ℕ). taken.File b) (own ∙ ap front same ∙ sym others)
  taken_once (taken.File bytes) (taken.Fault fault) one also =
      absurd (refused sha256 anchors h proofs fault one.adopted (also proofs tells) (one.answers proofs tells))
  taken_once (taken.Fault fault) (taken.File bytes) one also =
      absurd (refused sha256 anchors h proofs fault also.adopted (one proofs tells) (also.answers proofs tells))
  taken_once (taken.Fault fault) (taken.Fault other) one also =
      ap (λ (f : AdoptFault). taken.Fault f) (first_fault_once sha256 anchors h 1 proofs fault other (one proofs tells)
      (also proofs tells))
