-- What is told of evidence of a fork as of two files of the service that received both threads, and what such evidence says of it.
use Rattle.std.specs.Prelude.{◌≡◌, ℕ, List, Some, Result, Ok, Err}
use Rattle.tw_base.specs.declared.kinds.failure.ReadFault.{ReadFault}
use Rattle.tw_base.specs.declared.kinds.failure.ReadFault.TheVariants as read
use Rattle.tw_base.specs.declared.history.thread.Thread.{Thread}
use Rattle.tw_base.specs.format.Formats.{IsPlace, Spells, SpellsNothing}
use Rattle.tw_base.specs.history.Anchors.{anchor_of}
use Rattle.tw_evidence.specs.declared.evidence.Evidence.{Evidence}
use Rattle.tw_contradict.specs.declared.verdict.ContradictVerdict.{ContradictVerdict}
use Rattle.tw_evidence.specs.Evidence.{evidence_layout, thread_proof_codec}
use Rattle.tw_evidence.specs.Forks.{ShowsFork, lower, upper}
use Rattle.tw_contradict.specs.Verdicts.{IsContradictVerdict}

module _ (dig : List ℕ → List ℕ) (anchors : List Thread) where
  -- the verdict on both proofs of the evidence as two files, each under these anchors
  abbrev pub IsReceiverVerdict : Evidence → (link : List ℕ) → ContradictVerdict → Type 0
  IsReceiverVerdict e link verdict =
      IsContradictVerdict dig anchors anchors (thread_proof_codec.write e.first) (thread_proof_codec.write e.second) link verdict

  -- that on the evidence which the bytes spell; or, where they spell none, the place of the first byte at which no evidence goes on. Want
  -- of memory is free
  abbrev pub IsReceiverJudged : (bytes link : List ℕ) → Result ContradictVerdict ReadFault → Type 0
  IsReceiverJudged bytes link (Ok verdict) = (e : Evidence) × Spells evidence_layout bytes e × IsReceiverVerdict e link verdict
  IsReceiverJudged bytes link (Err (read.Malformed place)) = SpellsNothing evidence_layout bytes × IsPlace evidence_layout bytes place
  IsReceiverJudged bytes link (Err read.NoMemory) = Unit {0}

  -- the evidence shows a fork; one service received both threads, under these lines; and they are of one step
  pub record IsOfOneReceiver (e : Evidence) (one other : Thread) : Type 0 where
    pub shows : ShowsFork dig anchors e
    pub receiver : e.first.at.service ≡ e.second.at.service
    pub step : (lower e).step ≡ (upper e).step
    pub first_line : anchor_of anchors e.first.at.service e.first.at.top ≡ Some one
    pub second_line : anchor_of anchors e.second.at.service e.second.at.top ≡ Some other
