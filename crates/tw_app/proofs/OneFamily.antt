-- The bytes of files hold one family of histories at most, or have one first file that holds none, for one reason.
use Rattle.std.proofs.Common.{◌≡◌, ◌∙◌, ℕ, suc, ◌-◌, ◌<◌, ◌≤◌, List, [], ◌∷◌, ◌++◌, length, refl, ap, sym, subst, arith}
use Rattle.std.proofs.Common.{inl, inr}
use Rattle.std.specs.Prelude.{Some, None}
use Rattle.std.proofs.lemmas.Bool.{cases_lt}
use Rattle.tw_base.specs.format.Formats.{Spells}
use Rattle.tw_base.specs.history.Family.{history_of}
use Rattle.tw_base.specs.history.History.{History, Step, step_at}
use Rattle.tw_base.specs.history.HistoryCodec.{history_layout}
use Rattle.tw_base.specs.history.Rules.{KeepsRule, rule_number}
use Rattle.tw_base.specs.history.Sound.{IsSound}
use Rattle.tw_base.proofs.lemmas.format.FormatLaws.{one_value}
use Rattle.tw_history.specs.Rules.{IsFirstBroken}
use Rattle.tw_text.specs.declared.refusal.BadInput.{BadInput}
use Rattle.tw_text.specs.declared.refusal.BadInput.TheVariants.{BadByte, BadLine, Unsound}
use Rattle.tw_reachcmd.specs.Histories.{AreHistories, HasBadHistory, IsBadBeside, IsBadByteBeside, IsHistoryBeside}
use Rattle.tw_app.proofs.ToldFiles.{place_once}

-- ---- the first broken rule

pub sound_not_broken : (h : History) (step rule : ℕ) → IsSound h → IsFirstBroken h step rule → ⊥
sound_not_broken h step rule sound first = first.broken ((sound.steps first.i first.s first.there.1).rules
    first.broken_rule)

module _ (h : History) where
  not_earlier : (step rule again other : ℕ) (first : IsFirstBroken h step rule) (second : IsFirstBroken h again other)
      → first.i < second.i → ⊥
  not_earlier step rule again other first second less = first.broken (second.earlier first.i first.s less first.there.1
      first.broken_rule)

  one_index : (step rule again other : ℕ) (first : IsFirstBroken h step rule) (second : IsFirstBroken h again other)
      → first.i ≡ second.i
  one_index step rule again other first second = elim (cases_lt first.i second.i) [
    | inl less ↦ absurd (not_earlier step rule again other first second less)
    | inr most ↦ elim (cases_lt second.i first.i) [
      | inl less ↦ absurd (not_earlier again other step rule second first less)
      | inr least ↦ omega (arith, most, least)
    ]
  ]

  some_step : (s t : Step) → Some s ≡ Some t → s ≡ t
  some_step s t is = cc

  not_lower : (step rule again other : ℕ) (first : IsFirstBroken h step rule) (second : IsFirstBroken h again other)
      → rule < other → ⊥
  not_lower step rule again other first second less = first.broken kept
    where
      at : second.i ≡ first.i
      at = one_index again other step rule second first

      same : second.s ≡ first.s
      same = some_step second.s first.s (sym second.there.1 ∙ ap (λ (k : ℕ). step_at h (suc k)) at ∙ first.there.1)

      below : rule_number first.broken_rule < other
      below = let number = first.number in omega (arith, number, less)

      kept : KeepsRule h first.i first.s first.broken_rule
      kept =
          subst (λ (k : ℕ). KeepsRule h k first.s first.broken_rule) at
          (subst (λ (s : Step). KeepsRule h second.i s first.broken_rule) same (second.lower first.broken_rule below))

  pub broken_once : (step rule again other : ℕ) → IsFirstBroken h step rule → IsFirstBroken h again other
      → (step ≡ again) × (rule ≡ other)
  broken_once step rule again other first second = (
    (let at = one_index step rule again other first second in let here = first.there.0 in let there = second.there.0 in
        omega (arith, at, here, there)),
    elim (cases_lt rule other) [
      | inl less ↦ absurd (not_lower step rule again other first second less)
      | inr most ↦ elim (cases_lt other rule) [
        | inl less ↦ absurd (not_lower again other step rule second first less)
        | inr least ↦ omega (arith, most, least)
      ]
    ],
  )

-- ---- one file

module _ (left : ℕ) (before : List History) (bytes : List ℕ) where
  beside_once : (h g : History) → IsHistoryBeside left before bytes h → IsHistoryBeside left before bytes g → h ≡ g
  beside_once h g one other = one_value history_layout bytes h g one.spelled other.spelled

  byte_not_beside : (h : History) (place : ℕ) → IsHistoryBeside left before bytes h → IsBadByteBeside left before bytes
      place → ⊥
  byte_not_beside h place is (inl long) = let short = is.short in let more = long.0 in omega (arith, short, more)
  byte_not_beside h place is (inr (inl none)) = none.1 h is.spelled
  byte_not_beside h place is (inr (inr taken)) =
      taken.1.3 (subst (λ (g : History). history_of before g.name ≡ None) (one_value history_layout bytes h taken.1.0
      is.spelled taken.1.1) is.alone)

  bad_not_beside : (file : List ℕ) (bad : BadInput) (h : History) → IsHistoryBeside left before bytes h
      → IsBadBeside left before file bytes bad → ⊥
  bad_not_beside file (BadByte named place) h is bad = byte_not_beside h place is bad.1
  bad_not_beside file (Unsound named step rule) h is bad =
      sound_not_broken bad.2.0 step rule (subst IsSound (one_value history_layout bytes h bad.2.0 is.spelled bad.2.1)
      is.sound) bad.2.2
  bad_not_beside file (BadLine named number) h is bad = bad

  byte_once : (p q : ℕ) → IsBadByteBeside left before bytes p → IsBadByteBeside left before bytes q → p ≡ q
  byte_once p q (inl one) (inl other) = one.1 ∙ sym other.1
  byte_once p q (inl one) (inr (inl other)) = absurd (let long = one.0 in let short = other.0 in
      omega (arith, long, short))
  byte_once p q (inl one) (inr (inr other)) = absurd (let long = one.0 in let short = other.0 in
      omega (arith, long, short))
  byte_once p q (inr (inl one)) (inl other) = absurd (let short = one.0 in let long = other.0 in
      omega (arith, long, short))
  byte_once p q (inr (inl one)) (inr (inl other)) = place_once history_layout bytes p q one.2 other.2
  byte_once p q (inr (inl one)) (inr (inr other)) = absurd (one.1 other.1.0 other.1.1)
  byte_once p q (inr (inr one)) (inl other) = absurd (let short = one.0 in let long = other.0 in
      omega (arith, long, short))
  byte_once p q (inr (inr one)) (inr (inl other)) = absurd (other.1 one.1.0 one.1.1)
  byte_once p q (inr (inr one)) (inr (inr other)) = one.2 ∙ sym other.2

  byte_not_unsound : (place step rule : ℕ) (h : History) → IsBadByteBeside left before bytes place → length bytes ≤ left
      → Spells history_layout bytes h
      → IsFirstBroken h step rule → ⊥
  byte_not_unsound place step rule h (inl long) short spelled broken = let more = long.0 in omega (arith, short, more)
  byte_not_unsound place step rule h (inr (inl none)) short spelled broken = none.1 h spelled
  byte_not_unsound place step rule h (inr (inr taken)) short spelled broken =
      sound_not_broken h step rule (subst IsSound (one_value history_layout bytes taken.1.0 h taken.1.1 spelled)
      taken.1.2) broken

  bad_once : (file : List ℕ) (bad other : BadInput) → IsBadBeside left before file bytes bad → IsBadBeside left before
      file bytes other → bad ≡ other
  bad_once file (BadByte named p) (BadByte again q) one also = (
      let names = one.0 ∙ sym also.0 in
      let places = byte_once p q one.1 also.1 in
      λ i. BadByte (names i) (places i))
  bad_once file (BadByte named p) (Unsound again step rule) one also =
      absurd (byte_not_unsound p step rule also.2.0 one.1 also.1 also.2.1 also.2.2)
  bad_once file (Unsound named step rule) (BadByte again q) one also =
      absurd (byte_not_unsound q step rule one.2.0 also.1 one.1 one.2.1 one.2.2)
  bad_once file (Unsound named step rule) (Unsound again later other) one also = (
      let names = one.0 ∙ sym also.0 in
      let same : also.2.0 ≡ one.2.0 = one_value history_layout bytes also.2.0 one.2.0 also.2.1 one.2.1 in
      let both = broken_once one.2.0 step rule later other one.2.2 (subst (λ (h : History). IsFirstBroken h later other)
      same also.2.2) in
      let steps = both.0 in
      let rules = both.1 in
      λ i. Unsound (names i) (steps i) (rules i))
  bad_once file (BadLine named number) other one also = absurd one
  bad_once file (BadByte named p) (BadLine again number) one also = absurd also
  bad_once file (Unsound named step rule) (BadLine again number) one also = absurd also

-- ---- all files

pub histories_once : (left : ℕ) (before : List History) (all : List (List ℕ)) (family others : List History)
    → AreHistories left before all family
    → AreHistories left before all others → family ≡ others
histories_once left before [] [] [] one other = refl
histories_once left before [] [] (g ∷ others) one other = absurd other
histories_once left before [] (h ∷ family) others one other = absurd one
histories_once left before (bytes ∷ all) [] others one other = absurd one
histories_once left before (bytes ∷ all) (h ∷ family) [] one other = absurd other
histories_once left before (bytes ∷ all) (h ∷ family) (g ∷ others) one other =
    let same : g ≡ h = beside_once left before bytes g h other.0 one.0 in
    let again = sym same in
    let rest = histories_once (left - length bytes) (before ++ h ∷ []) all family others one.1
    (subst (λ (k : History). AreHistories (left - length bytes) (before ++ k ∷ []) all others) same other.1) in
    λ i. again i ∷ rest i

pub bad_history_once : (left : ℕ) (before : List History) (files all : List (List ℕ)) (bad other : BadInput)
    → HasBadHistory left before files all bad
    → HasBadHistory left before files all other → bad ≡ other
bad_history_once left before [] all bad other one also = absurd one
bad_history_once left before (file ∷ files) [] bad other one also = absurd one
bad_history_once left before (file ∷ files) (bytes ∷ all) bad other (inl one) (inl also) = bad_once left before bytes
    file bad other one also
bad_history_once left before (file ∷ files) (bytes ∷ all) bad other (inl one) (inr also) =
    absurd (bad_not_beside left before bytes file bad also.0 also.1 one)
bad_history_once left before (file ∷ files) (bytes ∷ all) bad other (inr one) (inl also) =
    absurd (bad_not_beside left before bytes file other one.0 one.1 also)
bad_history_once left before (file ∷ files) (bytes ∷ all) bad other (inr one) (inr also) =
    let same : also.0 ≡ one.0 = beside_once left before bytes also.0 one.0 also.1 one.1 in
    bad_history_once (left - length bytes) (before ++ one.0 ∷ []) files all bad other one.2
    (subst (λ (k : History). HasBadHistory (left - length bytes) (before ++ k ∷ []) files all other) same also.2)

pub histories_not_bad : (left : ℕ) (before : List History) (files all : List (List ℕ)) (family : List History)
    (bad : BadInput)
    → AreHistories left before all family → HasBadHistory left before files all bad → ⊥
histories_not_bad left before [] all family bad are is = is
histories_not_bad left before (file ∷ files) [] family bad are is = is
histories_not_bad left before (file ∷ files) (bytes ∷ all) [] bad are is = are
histories_not_bad left before (file ∷ files) (bytes ∷ all) (h ∷ family) bad are (inl is) = bad_not_beside left before
    bytes file bad h are.0 is
histories_not_bad left before (file ∷ files) (bytes ∷ all) (h ∷ family) bad are (inr is) =
    let same : is.0 ≡ h = beside_once left before bytes is.0 h is.1 are.0 in
    histories_not_bad (left - length bytes) (before ++ h ∷ []) files all family bad are.1
    (subst (λ (k : History). HasBadHistory (left - length bytes) (before ++ k ∷ []) files all bad) same is.2)
