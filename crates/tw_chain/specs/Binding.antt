-- What an accepted proof says of histories.
use Rattle.std.specs.Prelude.{ℕ, List, ◌++◌}
use Rattle.tw_base.specs.declared.history.thread.Thread.{Thread}
use Rattle.tw_base.specs.declared.history.report.Report.{Report}
use Rattle.tw_base.specs.kinds.Clash.{OrClash}
use Rattle.tw_base.specs.history.Facts.{Facts, TimesRise}
use Rattle.tw_base.specs.history.Family.{AllSound, HasThreads, family_texts}
use Rattle.tw_base.specs.format.Formats.{Spells}
use Rattle.tw_base.specs.history.History.{History}
use Rattle.tw_chain.specs.declared.proof.Proof.{Proof}
use Rattle.tw_chain.specs.declared.verdict.Verdict.{Verdict}
use Rattle.tw_chain.specs.declared.verdict.Verdict.TheVariants.{Yes, No}
use Rattle.tw_chain.specs.Accepting.{held, proof_texts}
use Rattle.tw_chain.specs.Proofs.{proof_layout}

module _ (dig : List ℕ → List ℕ) (anchors : List Thread) where
  -- in every family of sound histories that has the threads held of the proof, the report's claim holds, by the report's own
  -- hops, and where it has no hops the times rise; or two different texts of the histories and of the proof, both of bytes, have
  -- one digest
  abbrev pub BindsReport : Proof → Report → Type 0
  BindsReport p report =
      (family : List History) → AllSound family → HasThreads dig family (held anchors p)
      → OrClash dig (family_texts dig family ++ proof_texts dig p)
      (Facts dig family report.hops report.claim × TimesRise report.hops report.claim)

  -- where the verdict is Yes, that is so of its report and of the proof that the bytes spell
  abbrev pub BindsHistories : (bytes : List ℕ) → Verdict → Type 0
  BindsHistories bytes (Yes report) = (p : Proof) → Spells proof_layout bytes p → BindsReport p report
  BindsHistories bytes (No reason) = Unit {0}
