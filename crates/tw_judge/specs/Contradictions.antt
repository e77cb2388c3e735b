-- With which status and text two files are judged, each under the bytes of an anchors file of its own: whether they contradict each other.
use Rattle.std.specs.Prelude.{◌⊎◌, ℕ, List, [], ◌++◌, Bool, true, false, map, codes}
use Rattle.sha2.specs.Sha256.{sha256}
use Rattle.tw_base.specs.declared.history.thread.Thread.{Thread}
use Rattle.tw_msg.specs.AnchorsFile.{AllGood, IsNoAnchors, anchor_on, lines}
use Rattle.tw_text.specs.Lines.{line}
use Rattle.tw_text.specs.declared.fault.CommandFault.{CommandFault}
use Rattle.tw_evidence.specs.declared.fork.ForkReason.TheVariants as fork
use Rattle.tw_evidence.specs.Texts.{reason_text}
use Rattle.tw_contradict.specs.declared.verdict.ContradictReason.{ContradictReason}
use Rattle.tw_contradict.specs.declared.verdict.ContradictReason.TheVariants.{Part, NoConflict, BadLink}
use Rattle.tw_contradict.specs.declared.verdict.ContradictVerdict.{ContradictVerdict}
use Rattle.tw_contradict.specs.declared.verdict.ContradictVerdict.TheVariants.{Yes, No}
use Rattle.tw_contradict.specs.Verdicts.{IsContradictVerdict}
use Rattle.tw_judge.specs.RuleLines.{conflict_lines}
use Rattle.tw_judge.specs.Telling.{TellsJudged, TellsWhy}

-- two files with the anchors files under which each is judged, and a link: their bytes
pub record FiveFiles : Type 0 where
  pub first : List ℕ
  pub first_anchors : List ℕ
  pub second : List ℕ
  pub second_anchors : List ℕ
  pub link : List ℕ

-- the words by which texts name both anchors files
pub record TwoNames : Type 0 where
  pub first : List ℕ
  pub second : List ℕ

abbrev pub contradict_status : ContradictVerdict → ℕ
contradict_status (Yes conflict is_joined) = 0
contradict_status (No reason) = 1

-- a rule was broken, where the lines are joined; and else a rule was, or two histories were shown
abbrev pub broken_line : (is_joined : Bool) → List ℕ
broken_line true = line (codes "accepted broken-rule") []
broken_line false = line (codes "accepted broken-rule-or-fork") []

-- why it isn't so, as of evidence of a fork
abbrev pub refusal_text : ContradictReason → List ℕ
refusal_text (Part number reason) = reason_text (fork.Part number reason)
refusal_text NoConflict = reason_text fork.NoConflict
refusal_text BadLink = reason_text fork.BadLink

abbrev pub contradict_text : ContradictVerdict → List ℕ
contradict_text (Yes conflict is_joined) = broken_line is_joined ++ conflict_lines conflict
contradict_text (No reason) = refusal_text reason

-- the verdict on both files under these anchors, with its theorem
abbrev pub IsContradictVerdictUnder : (anchors others : List Thread) → FiveFiles → ContradictVerdict → Type 0
IsContradictVerdictUnder anchors others bytes verdict = IsContradictVerdict sha256 anchors others bytes.first bytes.second bytes.link verdict

-- each line of both anchors files is good, and the status and the text are those of the verdict under their anchors
pub record TellsFiles (bytes : FiveFiles) (status : ℕ) (text : List ℕ) : Type 0 where
  pub good : AllGood (lines bytes.first_anchors)
  pub others_good : AllGood (lines bytes.second_anchors)
  pub tells :
      TellsJudged (IsContradictVerdictUnder (map anchor_on (lines bytes.first_anchors)) (map anchor_on (lines bytes.second_anchors)) bytes)
      contradict_status contradict_text status text

-- why there is no verdict: the first bad line of the first anchors file; or, where it has none, of the second. Want of memory is free
abbrev pub IsContradictionUnjudged : FiveFiles → TwoNames → CommandFault → Type 0
IsContradictionUnjudged bytes names fault =
    IsNoAnchors names.first bytes.first_anchors fault
    ⊎ (AllGood (lines bytes.first_anchors) × IsNoAnchors names.second bytes.second_anchors fault)

-- what is told of both files
abbrev pub AreFilesTold : FiveFiles → TwoNames → (status : ℕ) (text : List ℕ) → Type 0
AreFilesTold bytes names status text = TellsFiles bytes status text ⊎ TellsWhy (IsContradictionUnjudged bytes names) status text
