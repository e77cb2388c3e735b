-- From what was read of evidence and anchors to what judging a fork comes to.
use Rattle.std.proofs.Common.{◌≡◌, ◌∙◌, ℕ, List, map, sym, subst, inl, inr}
use Rattle.std.specs.Prelude.{Option, Ok, Err}
use Rattle.sha2.specs.Sha256.{sha256}
use Rattle.tw_base.specs.declared.history.thread.Thread.{Thread}
use Rattle.tw_outside.specs.Asked.{Asked}
use Rattle.tw_outside.specs.Files.{Files, IsReadTo, IsThere}
use Rattle.tw_msg.specs.AnchorsFile.{IsFirstBadLine, IsNoAnchors, lines}
use Rattle.tw_text.specs.declared.fault.CommandFault.{CommandFault}
use Rattle.tw_text.specs.declared.fault.CommandFault.TheVariants.{NoMemory, Unreadable}
use Rattle.tw_text.specs.declared.refusal.BadInput.TheVariants.{BadLine}
use Rattle.tw_evidence.specs.declared.fork.ForkReason.TheVariants.{Malformed}
use Rattle.tw_evidence.specs.declared.fork.ForkVerdict.{ForkVerdict}
use Rattle.tw_evidence.specs.declared.fork.ForkVerdict.TheVariants.{No}
use Rattle.tw_evidence.specs.Binding.{BindsFork}
use Rattle.tw_evidence.specs.Evidence.{evidence_layout}
use Rattle.tw_evidence.specs.Forks.{IsForkVerdict}
use Rattle.tw_filecmd.specs.Verifying.{HasAnchors, HasBadLine}
use Rattle.tw_filecmd.proofs.AnchorFronts.{file_limit, first_bad_of_front}
use Rattle.tw_filecmd.proofs.FormatFronts.{none_is_none, word_is_whole}
use Rattle.tw_filecmd.proofs.Judging.{has_anchors}
use Rattle.tw_reachcmd.specs.Anchors.{AreAnchorsOf}
use Rattle.tw_reachcmd.specs.CheckFork.{CheckForkComes, IsForkJudged}
use Rattle.tw_reachcmd.proofs.FileFronts.{evidence-short}

-- ---- the anchors

module _ (told : Option Files) (file all : List ℕ) (there : IsThere told file)
    (read : IsReadTo told file file_limit all) where
  pub anchors_held : (anchors : List Thread) → AreAnchorsOf all anchors → HasAnchors told file anchors
  anchors_held anchors are = has_anchors told file anchors all there read are.are are.good

  pub bad_line_of : (other : List ℕ) (number : ℕ) → IsThere told other → IsFirstBadLine (lines all) number
      → HasBadLine told other file number
  bad_line_of other number other_there bad = record {
    proof_there = other_there;
    there = there;
    bad = λ bytes tells. first_bad_of_front bytes number (subst (λ b. IsFirstBadLine (lines b) number)
        (read bytes tells) bad);
  }

-- ---- the evidence

module _ (told : Option Files) (file all : List ℕ) (there : IsThere told file)
    (read : IsReadTo told file file_limit all) (anchors : List Thread) where
  pub fork_judged : (verdict : ForkVerdict) → IsForkVerdict sha256 anchors all verdict → BindsFork sha256 anchors all
      verdict → IsForkJudged told file anchors verdict
  fork_judged verdict (inl spelled) binds = record {
    there = there;
    is_verdict = λ bytes tells.
        let whole : all ≡ bytes = word_is_whole evidence_layout file_limit evidence-short all bytes (read bytes tells)
        spelled.0 spelled.1 in
        subst (λ b. IsForkVerdict sha256 anchors b verdict) whole (inl spelled);
    binds = λ bytes tells.
        let whole : all ≡ bytes = word_is_whole evidence_layout file_limit evidence-short all bytes (read bytes tells)
        spelled.0 spelled.1 in
        subst (λ b. BindsFork sha256 anchors b verdict) whole binds;
  }
  fork_judged verdict (inr none) binds = record {
    there = there;
    is_verdict = λ bytes tells.
        let nothing = none_is_none evidence_layout file_limit evidence-short all bytes (read bytes tells) none.1.0
        none.0 none.1.1 in
        inr (nothing.0, (none.1.0, nothing.1, none.1.2));
    binds = λ bytes tells. subst (λ (v : ForkVerdict). BindsFork sha256 anchors bytes v) (sym none.1.2) tt;
  }

-- ---- the command

pub refuses_anchors : (a : Asked) (file anchors all : List ℕ) (fault : CommandFault) → IsThere a.told file
    → IsThere a.told anchors
    → IsReadTo a.told anchors file_limit all → IsNoAnchors anchors all fault → CheckForkComes a file anchors (Err fault)
refuses_anchors a file anchors all (Unreadable (BadLine named number)) file_there there read is =
    (is.0, bad_line_of a.told anchors all there read file number file_there is.1)
refuses_anchors a file anchors all NoMemory file_there there read is = tt
refuses_anchors a file anchors all _ file_there there read is = absurd is
