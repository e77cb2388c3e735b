-- What the exported functions answer, and leave in the caller's buffer.
use Rattle.std.specs.Prelude.{◌≡◌, ℕ, List, length, Bool, codes}
use Rattle.tw_judge.specs.Contradictions.{AreFilesTold, FiveFiles, TwoNames}
use Rattle.tw_judge.specs.Forks.{IsForkTold}
use Rattle.tw_judge.specs.Maps.{AreMapsTold, ThreeFiles}
use Rattle.tw_judge.specs.Receivers.{IsReceiverTold}
use Rattle.tw_judge.specs.Told.{IsTold}
use Rattle.timeweave_c.specs.Buffers.{put_in}

-- the version of the library
abbrev pub version_text : List ℕ
version_text = codes "1.0.0"

-- the name by which a bad line of the anchors is told
abbrev pub anchors_name : List ℕ
anchors_name = codes "anchors"

-- the names by which the texts tell map files and their anchors
abbrev pub map_names : ThreeFiles
map_names = record { low = codes "low"; high = codes "high"; anchors = anchors_name }

-- the names by which bad lines of two anchors files are told
abbrev pub both_anchors : TwoNames
both_anchors = record { first = codes "first_anchors"; second = codes "second_anchors" }

-- a status and a text that are told; so much of the text as has room stands at the front of the buffer, and the size is that of the whole
-- text
pub record AnswersByText (AreTold : (status : ℕ) (text : List ℕ) → Type 0) (before after : List ℕ) (size status : ℕ) : Type 0 where
  pub text : List ℕ
  pub told : AreTold status text
  pub size_is : size ≡ length text
  pub after_is : after ≡ put_in text before

-- those told of a proof under the anchors, in the form that allows carried threads, or in the strict one
abbrev pub IsVerifierAnswer : (strict : Bool) (proof anchors before after : List ℕ) (size status : ℕ) → Type 0
IsVerifierAnswer strict proof anchors before after size status = AnswersByText (IsTold anchors_name strict proof anchors) before after size status

-- those of two map files under the anchors
abbrev pub IsMapAnswer : ThreeFiles → (before after : List ℕ) (size status : ℕ) → Type 0
IsMapAnswer bytes before after size status = AnswersByText (AreMapsTold bytes map_names) before after size status

-- those of the evidence of a fork under the anchors
abbrev pub IsForkAnswer : (evidence anchors before after : List ℕ) (size status : ℕ) → Type 0
IsForkAnswer evidence anchors before after size status = AnswersByText (IsForkTold anchors_name evidence anchors) before after size status

-- those of two files, each under its own anchors, and of the link between their lines
abbrev pub IsContradictAnswer : FiveFiles → (before after : List ℕ) (size status : ℕ) → Type 0
IsContradictAnswer bytes before after size status = AnswersByText (AreFilesTold bytes both_anchors) before after size status

-- those of the evidence of a fork put to the service that received both threads, under the anchors, and of the link between their lines
abbrev pub IsReceiverAnswer : (evidence anchors link before after : List ℕ) (size status : ℕ) → Type 0
IsReceiverAnswer evidence anchors link before after size status =
    AnswersByText (IsReceiverTold anchors_name evidence anchors link) before after size status
