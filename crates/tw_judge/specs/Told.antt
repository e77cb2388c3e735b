-- With which status and text the bytes of a proof are judged under the bytes of an anchors file.
use Rattle.std.specs.Prelude.{◌⊎◌, ℕ, List, map, Bool}
use Rattle.sha2.specs.Sha256.{sha256}
use Rattle.tw_chain.specs.declared.verdict.Verdict.{Verdict}
use Rattle.tw_chain.specs.declared.verdict.Verdict.TheVariants.{Yes, No}
use Rattle.tw_chain.specs.Binding.{BindsHistories}
use Rattle.tw_chain.specs.Reasons.{IsVerdict}
use Rattle.tw_msg.specs.AnchorsFile.{AllGood, IsNoAnchors, anchor_on, lines}
use Rattle.tw_text.specs.Reports.{rejected_text, report_text}
use Rattle.tw_judge.specs.Telling.{TellsJudged, TellsWhy}

abbrev pub verdict_status : Verdict → ℕ
verdict_status (Yes report) = 0
verdict_status (No reason) = 1

abbrev pub verdict_text : Verdict → List ℕ
verdict_text (Yes report) = report_text report
verdict_text (No reason) = rejected_text reason

-- each line of the anchors is good, and this is the verdict on the proof under their anchors, with its theorem
pub record IsJudged (strict : Bool) (proof anchors : List ℕ) (verdict : Verdict) : Type 0 where
  pub good : AllGood (lines anchors)
  pub is_verdict : IsVerdict sha256 (map anchor_on (lines anchors)) strict proof verdict
  pub binds : BindsHistories sha256 (map anchor_on (lines anchors)) proof verdict

-- what is told of a proof under the anchors of a file of that name, in the form that allows carried threads, or in the strict one: the
-- verdict, or why there is none
abbrev pub IsTold : (file : List ℕ) (strict : Bool) (proof anchors : List ℕ) → (status : ℕ) (text : List ℕ) → Type 0
IsTold file strict proof anchors status text =
    TellsJudged (IsJudged strict proof anchors) verdict_status verdict_text status text ⊎ TellsWhy (IsNoAnchors file anchors) status text
