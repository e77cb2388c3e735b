-- With which status and text the bytes of the evidence of a fork are judged under the bytes of an anchors file.
use Rattle.std.specs.Prelude.{◌⊎◌, ℕ, List, map}
use Rattle.sha2.specs.Sha256.{sha256}
use Rattle.tw_base.specs.declared.history.thread.Thread.{Thread}
use Rattle.tw_msg.specs.AnchorsFile.{AllGood, IsNoAnchors, anchor_on, lines}
use Rattle.tw_evidence.specs.declared.fork.ForkVerdict.{ForkVerdict}
use Rattle.tw_evidence.specs.declared.fork.ForkVerdict.TheVariants.{Yes, No}
use Rattle.tw_evidence.specs.Binding.{BindsFork}
use Rattle.tw_evidence.specs.Forks.{IsForkVerdict}
use Rattle.tw_evidence.specs.Texts.{fork_text}
use Rattle.tw_judge.specs.Telling.{TellsJudged, TellsWhy}

abbrev pub fork_status : ForkVerdict → ℕ
fork_status (Yes fork) = 0
fork_status (No reason) = 1

-- the verdict on the evidence under these anchors, with its theorem
pub record IsForkVerdictUnder (anchors : List Thread) (evidence : List ℕ) (verdict : ForkVerdict) : Type 0 where
  pub is_verdict : IsForkVerdict sha256 anchors evidence verdict
  pub binds : BindsFork sha256 anchors evidence verdict

-- what is told of the evidence under the anchors of a file of that name: the verdict, where each line is good, or the first bad line. Want of
-- memory is free
abbrev pub IsForkTold : (file evidence anchors : List ℕ) → (status : ℕ) (text : List ℕ) → Type 0
IsForkTold file evidence anchors status text =
    (AllGood (lines anchors) × TellsJudged (IsForkVerdictUnder (map anchor_on (lines anchors)) evidence) fork_status fork_text status text)
    ⊎ TellsWhy (IsNoAnchors file anchors) status text
