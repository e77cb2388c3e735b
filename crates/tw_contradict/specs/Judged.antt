-- What is told of one file: what it says, or the lowest reason against it.
use Rattle.std.specs.Prelude.{ℕ, List}
use Rattle.tw_base.specs.declared.history.thread.Thread.{Thread}
use Rattle.tw_contradict.specs.declared.judging.Judged.{Judged}
use Rattle.tw_contradict.specs.declared.judging.Judged.TheVariants.{Accepted, Rejected}
use Rattle.tw_contradict.specs.Verdicts.{IsAgainst, Says}

abbrev pub IsContradictJudged : (dig : List ℕ → List ℕ) → (anchors : List Thread) (bytes : List ℕ) → Judged → Type 0
IsContradictJudged dig anchors bytes (Accepted facts) = Says dig anchors bytes facts
IsContradictJudged dig anchors bytes (Rejected reason) = IsAgainst dig anchors bytes reason
