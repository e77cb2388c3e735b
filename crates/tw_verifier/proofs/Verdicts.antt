-- The verdict on bytes, from the judgement of the proof that they spell, or the place where they spell none.
use Rattle.std.proofs.Common.{◌≡◌, ◌⊎◌, ℕ, ◌<◌, ◌≤◌, ◌^◌, List, [], ◌∷◌, length, refl, sym, ap, ◌∙◌, subst, arith, inl}
use Rattle.std.proofs.Common.{inr}
use Rattle.std.specs.Prelude.{Bool, true, false, Option, Some, None, ◌&&◌, nat_lt, reverse, if◌then◌else◌}
use Rattle.std.specs.Option.{option_map_or}
use Rattle.std.proofs.lemmas.Bool.{and_parts, ltb-false, ltb-true}
use Rattle.std.proofs.lemmas.List.{length-reverse}
use Rattle.tw_base.specs.declared.history.thread.Thread.{Thread}
use Rattle.tw_base.specs.declared.history.report.Reason.{Reason}
use Rattle.tw_base.specs.declared.history.report.Reason.TheVariants.{Malformed, BadOrder, NotHeld, BadPath, BadOpening}
use Rattle.tw_base.specs.declared.history.report.Reason.TheVariants.{BadEvent, BadTree, Carried}
use Rattle.tw_base.specs.format.Formats.{Format, IsPlace, Spells, SpellsNothing}
use Rattle.tw_base.specs.history.Reasons.{IsNoHigher}
use Rattle.tw_base.proofs.lemmas.format.FormatLaws.{one_value}
use Rattle.tw_verifier.specs.declared.judgement.Judgement.{Judgement}
use Rattle.tw_chain.specs.declared.proof.Proof.{Proof}
use Rattle.tw_chain.specs.declared.verdict.Verdict.{Verdict}
use Rattle.tw_chain.specs.declared.verdict.Verdict.TheVariants.{Yes, No}
use Rattle.tw_chain.specs.Accepting.{IsAccepted, carried, report_of}
use Rattle.tw_chain.specs.Checks.{Check, checks}
use Rattle.tw_chain.specs.Checks.Check.{InOrder, NeedsAnchor, CarriesThread, PathOf, LinkOf, OpeningOf, EventOf}
use Rattle.tw_chain.specs.Checks.Check.{AnswerOf}
use Rattle.tw_chain.specs.Finding.{found_in}
use Rattle.tw_verifier.specs.Judgements.{judged_layout, judgement_of, unfound, verdict_of}
use Rattle.tw_chain.specs.Passing.{Passes, reason_of}
use Rattle.tw_chain.specs.Proofs.{proof_layout}
use Rattle.tw_chain.specs.Reasons.{Fails, IsLowest, IsVerdict, StandsAgainst}
use Rattle.tw_verifier.proofs.CarriedCounts.{few-carried}
use Rattle.tw_verifier.proofs.JudgedFronts.{judged-word}
use Rattle.tw_chain.proofs.Lowest.{IsLeast, first-fails, found-lowest, found-none, no_higher-self, passing-fails}

one_place : (f : Format Proof) (bytes : List ℕ) (one other : ℕ) → IsPlace f bytes one → IsPlace f bytes other
    → one ≡ other
one_place f bytes one other first second =
    let below : other ≤ one = first.longest other second.within second.good in
    let above : one ≤ other = second.longest one first.within first.good in
    omega (arith, below, above)

module _ (dig : List ℕ → List ℕ) (anchors : List Thread) (strict : Bool) where
  -- ---- reasons against checks

  -- no check doesn't pass since it is no proof, or since a thread is carried
  malformed-fails : (cs : List Check) (place : ℕ) → Fails dig anchors strict cs (Malformed place) → ⊥
  malformed-fails [] place fails = fails
  malformed-fails (c ∷ cs) place (inr there) = malformed-fails cs place there
  malformed-fails (c ∷ cs) place (inl here) = another c here.0
    where
      another : (c : Check) → Malformed place ≡ reason_of c → ⊥
      another (InOrder lower upper) is = cc
      another (NeedsAnchor key) is = cc
      another (CarriesThread t) is = cc
      another (PathOf part at upper) is = cc
      another (LinkOf part l) is = cc
      another (OpeningOf part t o) is = cc
      another (EventOf part o e) is = cc
      another (AnswerOf part root ask proof) is = cc

  carried-fails : (cs : List Check) (count : ℕ) → Fails dig anchors strict cs (Carried count) → ⊥
  carried-fails [] count fails = fails
  carried-fails (c ∷ cs) count (inr there) = carried-fails cs count there
  carried-fails (c ∷ cs) count (inl here) = another c here.1 here.0
    where
      another : (c : Check) → (Passes dig anchors c → ⊥) → Carried count ≡ reason_of c → ⊥
      another (InOrder lower upper) not is = cc
      another (NeedsAnchor key) not is = cc
      another (CarriesThread t) not is = not tt
      another (PathOf part at upper) not is = cc
      another (LinkOf part l) not is = cc
      another (OpeningOf part t o) not is = cc
      another (EventOf part o e) not is = cc
      another (AnswerOf part root ask proof) not is = cc

  -- ---- reasons against a proof

  module _ (p : Proof) where
    -- a reason that stands is that threads are carried, in the strict form, or a check doesn't pass for it
    against-fails : (reason : Reason) → StandsAgainst dig anchors strict p reason
        → ((count : ℕ) × (reason ≡ Carried count) × (strict ≡ true) × (0 < count) × (count ≡ length (carried p)))
        ⊎ Fails dig anchors strict (checks p) reason
    against-fails (Malformed place) is = absurd is
    against-fails (NotHeld service step) is =
        inr (first-fails dig anchors strict (checks p) (record { from = service; step = step }) is)
    against-fails (Carried count) is = inl (count, refl, is.0, is.1, is.2)
    against-fails BadOrder is = inr is
    against-fails (BadPath part) is = inr is
    against-fails (BadOpening part) is = inr is
    against-fails (BadEvent part) is = inr is
    against-fails (BadTree part) is = inr is

    -- what is least of the checks stands
    least-stands : (reason : Reason) → IsLeast dig anchors strict (checks p) reason → StandsAgainst dig anchors strict p
        reason
    least-stands (Malformed place) is = malformed-fails (checks p) place is.fails
    least-stands (NotHeld service step) is = is.first (record { from = service; step = step }) refl
    least-stands (Carried count) is = absurd (carried-fails (checks p) count is.fails)
    least-stands BadOrder is = is.fails
    least-stands (BadPath part) is = is.fails
    least-stands (BadOpening part) is = is.fails
    least-stands (BadEvent part) is = is.fails
    least-stands (BadTree part) is = is.fails

    -- and is below that threads are carried
    least-carried : (reason : Reason) (count : ℕ) → IsLeast dig anchors strict (checks p) reason
        → IsNoHigher reason (Carried count)
    least-carried (Malformed place) count is = inl (omega arith)
    least-carried (NotHeld service step) count is = inl (omega arith)
    least-carried (Carried other) count is = absurd (carried-fails (checks p) other is.fails)
    least-carried BadOrder count is = inl (omega arith)
    least-carried (BadPath part) count is = inl (omega arith)
    least-carried (BadOpening part) count is = inl (omega arith)
    least-carried (BadEvent part) count is = inl (omega arith)
    least-carried (BadTree part) count is = inl (omega arith)

    least-lowest : (reason other : Reason) → IsLeast dig anchors strict (checks p) reason → StandsAgainst dig anchors
        strict p other → IsNoHigher reason other
    least-lowest reason other is against =
        elim (against-fails other against) [
          | inl some ↦ subst (IsNoHigher reason) (sym some.1) (least-carried reason some.0 is)
          | inr fails ↦ is.least other fails
        ]

    carried-lowest : (count : ℕ) (other : Reason) → IsAccepted dig anchors p → count ≡ length (carried p)
        → StandsAgainst dig anchors strict p other → IsNoHigher (Carried count) other
    carried-lowest count other accepted is against =
        elim (against-fails other against) [
          | inl some ↦ subst (IsNoHigher (Carried count)) (sym (some.1 ∙ ap (λ (n : ℕ). Carried n) (some.4 ∙ sym is)))
              (no_higher-self (Carried count))
          | inr fails ↦ absurd (passing-fails dig anchors strict (checks p) other accepted fails)
        ]

  -- ---- the verdict

  module _ (bytes : List ℕ) where
    -- bytes that are no proof
    pub malformed_bytes : (place : ℕ) → SpellsNothing proof_layout bytes → IsPlace proof_layout bytes place
        → IsVerdict dig anchors strict bytes (No (Malformed place))
    malformed_bytes place nothing is = (
      λ accepts. absurd (nothing accepts.0 accepts.1),
      record {
        stands = inl (nothing, (place, is, refl));
        lowest = λ other. elim [
          | inl none ↦ subst (IsNoHigher (Malformed place))
              (sym (none.1.2 ∙ ap (λ (n : ℕ). Malformed n) (one_place proof_layout bytes none.1.0 place none.1.1 is)))
              (no_higher-self (Malformed place))
          | inr proof ↦ absurd (nothing proof.0 proof.1)
        ];
      },
    )

    module _ (p : Proof) (spelled : Spells proof_layout bytes p) where
      same : (q : Proof) → Spells proof_layout bytes q → q ≡ p
      same q also = one_value proof_layout bytes q p also spelled

      lowest_of : (reason : Reason) → StandsAgainst dig anchors strict p reason
          → ((other : Reason) → StandsAgainst dig anchors strict p other → IsNoHigher reason other)
          → IsLowest dig anchors strict bytes reason
      lowest_of reason stands lowest = record {
        stands = inr (p, spelled, stands);
        lowest = λ other. elim [
          | inl none ↦ absurd (none.0 p spelled)
          | inr proof ↦ lowest other (subst (λ q. StandsAgainst dig anchors strict q other) (same proof.0 proof.1)
              proof.2)
        ];
      }

      -- a proof of which a check doesn't pass
      found_some : (reason : Reason) → found_in dig anchors (checks p) ≡ Some reason → IsVerdict dig anchors strict
          bytes (No reason)
      found_some reason some =
          let is : IsLeast dig anchors strict (checks p) reason = found-lowest dig anchors strict (checks p) reason
          some in (
            λ accepts. absurd (passing-fails dig anchors strict (checks p) reason
                (subst (IsAccepted dig anchors) (same accepts.0 accepts.1) accepts.2) is.fails),
            lowest_of reason (least-stands p reason is) (λ other. least-lowest p reason other is),
          )

      -- a proof of which each check passes
      accepted_carries : IsAccepted dig anchors p → strict ≡ true → 0 < length (carried p) → IsVerdict dig anchors
          strict bytes (No (Carried (length (carried p))))
      accepted_carries accepted is some = (
        λ accepts. (
          is,
          λ none. (let zero : length (carried p) ≡ 0 = ap (λ (q : Proof). length (carried q))
              (sym (same accepts.0 accepts.1)) ∙ ap length none in omega (arith, zero, some)),
        ),
        lowest_of (Carried (length (carried p))) (is, some, refl) (λ other. carried-lowest p (length (carried p)) other
            accepted refl),
      )

      accepted_yes : IsAccepted dig anchors p → (strict ≡ true → carried p ≡ []) → IsVerdict dig anchors strict bytes
          (Yes (report_of p))
      accepted_yes accepted none = ((p, spelled, accepted), none, refl)

      nil : (ts : List Thread) → nat_lt 0 (length ts) ≡ false → ts ≡ []
      nil [] is = refl
      nil (t ∷ ts) is = let none = ltb-false 0 (length (t ∷ ts)) is in absurd (omega (arith, none))

      found_nothing : IsAccepted dig anchors p → IsVerdict dig anchors strict bytes (unfound strict (report_of p))
      found_nothing accepted =
          let size : length (reverse (carried p)) ≡ length (carried p) = length-reverse (carried p) in
          let cases : (b : Bool) → (strict && nat_lt 0 (length (reverse (carried p)))) ≡ b
          → IsVerdict dig anchors strict bytes (if b then No (Carried (length (reverse (carried p))))
          else Yes (report_of p)) =
          elim [
            | true ↦ λ is. (
                let both = and_parts strict (nat_lt 0 (length (reverse (carried p)))) is in
                let some = ltb-true 0 (length (reverse (carried p))) both.1 in
                subst (λ n. IsVerdict dig anchors strict bytes (No (Carried n))) (sym size)
                (accepted_carries accepted both.0 (omega (arith, some, size))))
            | false ↦ λ is. accepted_yes accepted
                (λ form. nil (carried p) (ap (nat_lt 0) (sym size)
                ∙ subst (λ b. (b && nat_lt 0 (length (reverse (carried p)))) ≡ false) form is))
          ]
          in cases (strict && nat_lt 0 (length (reverse (carried p)))) refl

      -- the verdict of the proof's judgement is that on the bytes
      pub judgement-verdict : IsVerdict dig anchors strict bytes (verdict_of strict (judgement_of dig anchors p))
      judgement-verdict =
          let cases : (found : Option Reason) → found_in dig anchors (checks p) ≡ found → IsVerdict dig anchors strict
          bytes (option_map_or No found (unfound strict (report_of p))) =
          elim [
            | None ↦ λ none. found_nothing (found-none dig anchors strict (checks p) none)
            | Some reason ↦ λ some. found_some reason some
          ]
          in cases (found_in dig anchors (checks p)) refl

    -- so is the verdict of the judgement that the bytes spell, which a count of the carried threads in one byte tells
    pub judged-verdict : (j : Judgement) (verdict : Verdict) → Spells (judged_layout dig anchors) bytes j
        → (length j.report.carried < 2 ^ 8 → verdict ≡ verdict_of strict j)
        → IsVerdict dig anchors strict bytes verdict
    judged-verdict j verdict spelled is =
        let word = judged-word dig anchors bytes j spelled in
        let few : length j.report.carried < 2 ^ 8 =
        subst (λ (k : Judgement). length k.report.carried < 2 ^ 8) word.2
        (omega (arith, few-carried bytes word.0 word.1, length-reverse (carried word.0))) in
        subst (IsVerdict dig anchors strict bytes) (sym (is few ∙ ap (verdict_of strict) (sym word.2)))
        (judgement-verdict word.0 word.1)
