-- With which status and text the evidence of a fork is judged as two files of the service that received both threads, under the bytes of an
-- anchors file.
use Rattle.std.specs.Prelude.{◌⊎◌, ℕ, List, Result, Ok, Err, map}
use Rattle.sha2.specs.Sha256.{sha256}
use Rattle.tw_base.specs.declared.history.thread.Thread.{Thread}
use Rattle.tw_base.specs.declared.kinds.failure.ReadFault.TheVariants.{Malformed}
use Rattle.tw_msg.specs.AnchorsFile.{AllGood, IsNoAnchors, anchor_on, lines}
use Rattle.tw_evidence.specs.declared.fork.ForkReason.TheVariants as fork
use Rattle.tw_contradict.specs.declared.verdict.ContradictVerdict.{ContradictVerdict}
use Rattle.tw_judge.specs.Receiver.{IsReceiverJudged}
use Rattle.tw_evidence.specs.Texts.{reason_text}
use Rattle.tw_judge.specs.Contradictions.{contradict_status, contradict_text}
use Rattle.tw_judge.specs.Telling.{TellsJudged, TellsWhy}

-- the verdict on both proofs of the evidence; or the place at which the bytes are none
abbrev pub IsSidesVerdict : (anchors : List Thread) (evidence link : List ℕ) → Result ContradictVerdict ℕ → Type 0
IsSidesVerdict anchors evidence link (Ok verdict) = IsReceiverJudged sha256 anchors evidence link (Ok verdict)
IsSidesVerdict anchors evidence link (Err place) = IsReceiverJudged sha256 anchors evidence link (Err (Malformed place))

abbrev pub sides_status : Result ContradictVerdict ℕ → ℕ
sides_status (Ok verdict) = contradict_status verdict
sides_status (Err place) = 1

-- as of two files; of bytes that are no evidence as of evidence of a fork
abbrev pub sides_text : Result ContradictVerdict ℕ → List ℕ
sides_text (Ok verdict) = contradict_text verdict
sides_text (Err place) = reason_text (fork.Malformed place)

-- what is told of the evidence under the anchors of a file of that name: the verdict, where each line is good, or the first bad line. Want of
-- memory is free
abbrev pub IsReceiverTold : (file evidence anchors link : List ℕ) → (status : ℕ) (text : List ℕ) → Type 0
IsReceiverTold file evidence anchors link status text =
    (AllGood (lines anchors) × TellsJudged (IsSidesVerdict (map anchor_on (lines anchors)) evidence link) sides_status sides_text status text)
    ⊎ TellsWhy (IsNoAnchors file anchors) status text
