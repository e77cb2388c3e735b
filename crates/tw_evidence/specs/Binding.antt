-- What accepted evidence of a fork says of histories.
use Rattle.std.specs.Prelude.{◌≡◌, ℕ, ◌≤◌, List, ◌++◌, length}
use Rattle.tw_base.specs.declared.history.thread.Thread.{Thread}
use Rattle.tw_base.specs.format.Formats.{Spells}
use Rattle.tw_base.specs.history.Auth.{auth}
use Rattle.tw_base.specs.history.Facts.{WasReceived}
use Rattle.tw_base.specs.history.Family.{AllSound, HasThreads, family_texts}
use Rattle.tw_base.specs.history.History.{History}
use Rattle.tw_base.specs.history.HistoryTexts.{history_texts}
use Rattle.tw_base.specs.history.Sound.{IsSound}
use Rattle.tw_base.specs.kinds.Clash.{OrClash}
use Rattle.tw_chain.specs.declared.proof.Proof.TheVariants.{Archived}
use Rattle.tw_chain.specs.Accepting.{held}
use Rattle.tw_evidence.specs.declared.evidence.Evidence.{Evidence}
use Rattle.tw_evidence.specs.declared.fork.Fork.{Fork}
use Rattle.tw_evidence.specs.declared.fork.ForkVerdict.{ForkVerdict}
use Rattle.tw_evidence.specs.declared.fork.ForkVerdict.TheVariants.{Yes, No}
use Rattle.tw_evidence.specs.Evidence.{evidence_layout}
use Rattle.tw_evidence.specs.Forks.{evidence_texts}

module _ (dig : List ℕ → List ℕ) where
  -- the history has both threads, each authenticator at its step
  pub record HasBoth (h : History) (lower upper : Thread) : Type 0 where
    pub within : upper.step ≤ length h.steps
    pub low : auth dig h lower.step ≡ lower.auth
    pub high : auth dig h upper.step ≡ upper.auth

  -- in every family of sound histories that has the threads held of both proofs, both entries were received, each by the service
  -- that is told and at its archived step; or two texts of these histories and of the evidence clash
  abbrev pub AreSidesReceived : (anchors : List Thread) → Evidence → Fork → Type 0
  AreSidesReceived anchors e f =
      (family : List History) → AllSound family
      → HasThreads dig family (held anchors (Archived e.first) ++ held anchors (Archived e.second))
      → OrClash dig (family_texts dig family ++ evidence_texts dig e)
      (WasReceived family f.first_by f.first.archived f.first × WasReceived family f.second_by f.second.archived f.second)

  -- both threads are of one service, the first not of the later step; and no sound history, of that service or of another, has both, or two
  -- texts of it and of the evidence clash
  pub record IsForked (e : Evidence) (f : Fork) : Type 0 where
    pub service : f.first.thread.from ≡ f.second.thread.from
    pub order : f.first.thread.step ≤ f.second.thread.step
    pub none :
        (h : History) → IsSound h → OrClash dig (history_texts dig h ++ evidence_texts dig e) (HasBoth h f.first.thread f.second.thread → ⊥)

  -- where the verdict is Yes, both is so of the fork that it tells and of the evidence that the bytes spell
  abbrev pub BindsFork : (anchors : List Thread) (bytes : List ℕ) → ForkVerdict → Type 0
  BindsFork anchors bytes (Yes f) = (e : Evidence) → Spells evidence_layout bytes e → AreSidesReceived anchors e f × IsForked e f
  BindsFork anchors bytes (No reason) = Unit {0}
