-- From what was read to what the judging of a proof comes to.
use Rattle.std.proofs.Common.{◌≡◌, ℕ, ◌≤◌, List, ◌++◌, length, take, drop, map, Bool, ap, ◌∙◌, sym, subst, refl, inl}
use Rattle.std.proofs.Common.{inr}
use Rattle.std.specs.Prelude.{Option, Result, Ok, Err}
use Rattle.std.proofs.lemmas.List.{take-append-drop}
use Rattle.sha2.specs.Sha256.{sha256}
use Rattle.tw_base.specs.declared.kinds.hasher.Sha.{Sha}
use Rattle.tw_base.specs.declared.history.thread.Thread.{Thread}
use Rattle.tw_outside.specs.Files.{Files, IsReadTo, IsThere}
use Rattle.tw_msg.specs.AnchorsFile.{AllGood, IsFirstBadLine, anchor_on, lines}
use Rattle.tw_chain.specs.declared.verdict.Verdict.{Verdict}
use Rattle.tw_verifier.specs.declared.verifier.Verifier.{Verifier}
use Rattle.tw_chain.specs.Binding.{BindsHistories}
use Rattle.tw_chain.specs.Reasons.{IsVerdict}
use Rattle.tw_outside.specs.Asked.{Asked, asked}
use Rattle.tw_outside.proofs.Counting.{Rose-earlier}
use Rattle.tw_text.specs.declared.refusal.BadInput.TheVariants.{BadLine}
use Rattle.tw_text.specs.declared.fault.CommandFault.{CommandFault}
use Rattle.tw_text.specs.declared.fault.CommandFault.TheVariants.{InputFault, NoMemory, Unreadable}
use Rattle.tw_filecmd.specs.Feeding.{IsFedFar}
use Rattle.tw_filecmd.specs.Verifying.{HasAnchors, IsFileJudged, JudgingComes, VerifyFileComes}
use Rattle.tw_filecmd.proofs.AnchorFronts.{file_limit, first_bad_of_front, good_is_whole}
use Rattle.tw_filecmd.proofs.ProofFronts.{binds_behind, verdict_behind}

-- first bytes of a file, and those behind them
pub behind : (front bytes : List ℕ) → front ≡ take (length front) bytes → front ++ drop (length front) bytes ≡ bytes
behind front bytes is = ap (λ first. first ++ drop (length front) bytes) is ∙ take-append-drop (length front) bytes

module _ (told : Option Files) (file : List ℕ) (anchors : List Thread) (strict : Bool) where
  -- the verdict on what a verifier was fed of the file is that on all of it
  pub judged_by : (v : Verifier Sha) (verdict : Verdict) → IsThere told file
      → (far : IsFedFar told file anchors strict v)
      → IsVerdict sha256 anchors strict far.front verdict → BindsHistories sha256 anchors far.front verdict
      → IsFileJudged told file anchors strict verdict
  judged_by v verdict there far is holds = record {
    there = there;
    is_verdict = λ bytes tells. elim (far.far bytes tells) [
      | inl whole ↦ subst (λ b. IsVerdict sha256 anchors strict b verdict) whole is
      | inr broken ↦
          subst (λ b. IsVerdict sha256 anchors strict b verdict) (behind far.front bytes (far.of_file bytes tells))
          (verdict_behind far.front (drop (length far.front) bytes) broken sha256 anchors strict verdict is)
    ];
    binds = λ bytes tells. elim (far.far bytes tells) [
      | inl whole ↦ subst (λ b. BindsHistories sha256 anchors b verdict) whole holds
      | inr broken ↦
          subst (λ b. BindsHistories sha256 anchors b verdict) (behind far.front bytes (far.of_file bytes tells))
          (binds_behind far.front (drop (length far.front) bytes) broken sha256 anchors strict verdict holds)
    ];
  }

-- the anchors of what was read of their file are the anchors of the file
pub has_anchors : (told : Option Files) (file : List ℕ) (anchors : List Thread) (all : List ℕ) → IsThere told file
    → IsReadTo told file file_limit all
    → anchors ≡ map anchor_on (lines all) → AllGood (lines all) → HasAnchors told file anchors
has_anchors told file anchors all there read are good = record {
  there = there;
  good = λ bytes tells. subst (λ b. AllGood (lines b)) (good_is_whole all bytes (read bytes tells) good) good;
  same = λ bytes tells. subst (λ b. anchors ≡ map anchor_on (lines b)) (good_is_whole all bytes (read bytes tells) good)
      are;
}

-- what judging comes to since an earlier moment, of inputs that tell the same
pub judging_since : (told now : Option Files) (before begun after : ℕ) (proof : List ℕ) (anchors : List Thread)
    (strict : Bool)
    (result : Result Verdict CommandFault) → now ≡ told → before ≤ begun
    → JudgingComes (asked now begun after) proof anchors strict result → JudgingComes (asked told before after) proof
    anchors strict result
judging_since told now before begun after proof anchors strict result same le comes =
    by result (subst (λ t. JudgingComes (asked t begun after) proof anchors strict result) same comes)
  where
    by : (r : Result Verdict CommandFault) → JudgingComes (asked told begun after) proof anchors strict r
        → JudgingComes (asked told before after) proof anchors strict r
    by (Ok verdict) comes = comes
    by (Err InputFault) comes = Rose-earlier before begun after le comes
    by (Err NoMemory) comes = tt
    by _ comes = absurd comes

-- what judging under these anchors comes to, judging under those of the file does
pub judges_file : (a : Asked) (proof file : List ℕ) (anchors : List Thread) (strict : Bool)
    (result : Result Verdict CommandFault)
    → HasAnchors a.told file anchors → JudgingComes a proof anchors strict result → VerifyFileComes a proof file strict
    result
judges_file a proof file anchors strict (Ok verdict) has comes = (anchors, has, comes)
judges_file a proof file anchors strict (Err InputFault) has comes = comes
judges_file a proof file anchors strict (Err NoMemory) has comes = tt
judges_file a proof file anchors strict _ has comes = absurd comes

pub refuses_line : (a : Asked) (proof file : List ℕ) (strict : Bool) (number : ℕ) (all_lines : List ℕ)
    (came : CommandFault)
    → IsThere a.told proof → IsThere a.told file → IsReadTo a.told file file_limit all_lines
    → IsFirstBadLine (lines all_lines) number
    → came ≡ Unreadable (BadLine file number) → VerifyFileComes a proof file strict (Err came)
refuses_line a proof file strict number all_lines came proof_there there read bad is =
    subst (λ (fault : CommandFault). VerifyFileComes a proof file strict (Err fault)) (sym is) (
      refl,
      record {
        proof_there = proof_there;
        there = there;
        bad = λ bytes tells. first_bad_of_front bytes number (subst (λ b. IsFirstBadLine (lines b) number)
            (read bytes tells) bad);
      },
    )
