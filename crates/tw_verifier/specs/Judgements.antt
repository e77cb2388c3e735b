-- The verdict as a value of the proof, for the verifier that reads in pieces: it holds the lowest reason so far, and what the report
-- needs, and of the proof that was judged no part but the opening that shows the next hop.
use Rattle.std.specs.Prelude.{ℕ, List, length, Bool, ◌&&◌, nat_lt, if◌then◌else◌}
use Rattle.std.specs.Option.{option_map_or}
use Rattle.tw_base.specs.declared.history.report.Reason.TheVariants.{Carried}
use Rattle.tw_base.specs.declared.history.report.Report.{Report}
use Rattle.tw_base.specs.declared.history.thread.Thread.{Thread}
use Rattle.tw_base.specs.format.Formats.{Format, then_by}
use Rattle.tw_base.specs.format.Formats.Format.{Done}
use Rattle.tw_verifier.specs.declared.judgement.Judgement.{Judgement}
use Rattle.tw_chain.specs.declared.proof.Proof.{Proof}
use Rattle.tw_chain.specs.declared.verdict.Verdict.{Verdict}
use Rattle.tw_chain.specs.declared.verdict.Verdict.TheVariants.{Yes, No}
use Rattle.tw_chain.specs.Accepting.{report_of}
use Rattle.tw_chain.specs.Checks.{checks}
use Rattle.tw_chain.specs.Proofs.{proof_layout}
use Rattle.tw_chain.specs.Finding.{found_in}

module _ (dig : List ℕ → List ℕ) (anchors : List Thread) where
  abbrev pub judgement_of : Proof → Judgement
  judgement_of p = record { found = found_in dig anchors (checks p); report = report_of p }

  -- the words of proofs, each with its judgement as its value
  unfoldable pub judged_layout : Format Judgement
  judged_layout = then_by proof_layout (λ p. Done (judgement_of p))

-- ---- the verdict

-- where no reason was found, No in the strict form with the number of the carried threads where there are some; else Yes
abbrev pub unfound : (strict : Bool) → Report → Verdict
unfound strict report =
    if strict && nat_lt 0 (length report.carried) then No (Carried (length report.carried)) else Yes report

-- No with the reason that was found, and else as the carried threads let it be
abbrev pub verdict_of : (strict : Bool) → Judgement → Verdict
verdict_of strict j = option_map_or No j.found (unfound strict j.report)
