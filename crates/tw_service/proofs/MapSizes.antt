-- The tree proofs of a history's map files have few nodes.
use Rattle.std.proofs.Common.{◌≡◌, ℕ, ◌-◌, ◌<◌, ◌≤◌, List, length, subst, arith}
use Rattle.std.specs.Prelude.{IfSome, MatchOption, Option, Some, None}
use Rattle.tw_base.specs.declared.history.tree_proof.Ask.{Ask}
use Rattle.tw_base.specs.declared.history.tree_proof.TreeProof.{TreeProof}
use Rattle.tw_base.specs.format.Formats.{Spells}
use Rattle.tw_base.specs.history.History.{History}
use Rattle.tw_base.specs.history.Tree.{entries, tree}
use Rattle.tw_base.proofs.lemmas.format.FormatLaws.{one_value}
use Rattle.tw_base.specs.history.TreeProofs.{ancestors_of, proof_of}
use Rattle.tw_disk.specs.Image.{Image}
use Rattle.tw_skipproof.specs.HistoryProofs.{IsPartOfHistory}
use Rattle.tw_skiplist.specs.Keeping.{archive_at}
use Rattle.tw_tmap.specs.declared.map_file.HighFile.{HighFile}
use Rattle.tw_tmap.specs.declared.map_file.LowFile.{LowFile}
use Rattle.tw_tmap.specs.declared.map_file.LowPart.{LowPart}
use Rattle.tw_tmap.specs.Checking.{high_ask, low_ask, low_file_part}
use Rattle.tw_tmap.specs.MapFiles.{high_layout, low_layout}
use Rattle.tw_tmap.specs.OwnFiles.{IsOwnHigh, IsOwnLow}
use Rattle.tw_answers.specs.declared.root.RootRecord.{RootRecord}
use Rattle.tw_service.specs.Machine.{IsFewNodes}
use Rattle.tw_service.specs.Mapping.{MakesHigh, MakesLow}
use Rattle.tw_service.specs.Stands.{KeepsWhole}
use Rattle.tw_service.proofs.KeptThreads.{few_nodes}
use Rattle.tw_service.proofs.WholePages.{tree_at}

module _ (dig : List ℕ → List ℕ) (ps : Image) (h : History) (r : RootRecord) (whole : KeepsWhole dig ps h r) where
  few_of : (step : ℕ) → step ≤ length h.steps → (asked : Ask) (shown : TreeProof) → shown ≡ proof_of dig (tree h step)
      asked → IsFewNodes (length (entries (tree h step))) (length (ancestors_of shown))
  few_of step within asked shown is = few_nodes dig ps (archive_at dig h whole.steps.places step) (tree h step) asked
      shown (tree_at dig ps h r whole step within) is

  -- what a low file shows of the step before
  own_low : (step : ℕ) (peer : List ℕ) (top : ℕ) (f : LowFile) → step ≤ length h.steps → IsOwnLow dig h step peer top f
      → IfSome f.shown (λ p. IsFewNodes (length (entries (tree h (step - 1)))) (length (ancestors_of p.shown)))
  own_low step peer top f within own = by f.shown own.shown
    where
      by : (o : Option LowPart) → MatchOption o (step ≡ 1) (λ p. (1 < step) × IsPartOfHistory dig h (step - 1) top
          (low_file_part f p) × (p.shown ≡ proof_of dig (tree h (step - 1)) (low_ask f)))
          → IfSome o (λ p. IsFewNodes (length (entries (tree h (step - 1)))) (length (ancestors_of p.shown)))
      by None is = tt
      by (Some p) is = few_of (step - 1) (omega (arith, within)) (low_ask f) p.shown is.2

  pub low_few : (step : ℕ) (peer : List ℕ) (top : ℕ) (bytes : List ℕ) → step ≤ length h.steps → MakesLow dig h step peer
      top bytes
      → (f : LowFile) → Spells low_layout bytes f
      → IfSome f.shown (λ p. IsFewNodes (length (entries (tree h (step - 1)))) (length (ancestors_of p.shown)))
  low_few step peer top bytes within makes f spells =
      own_low step peer top f within (subst (λ (x : LowFile). IsOwnLow dig h step peer top x)
      (one_value low_layout bytes makes.0 f makes.1 spells) makes.2)

  -- and a high file of its top
  pub high_few : (step : ℕ) (peer : List ℕ) (top : ℕ) (bytes : List ℕ) → top ≤ length h.steps → MakesHigh dig h step
      peer top bytes
      → (f : HighFile) → Spells high_layout bytes f → IsFewNodes (length (entries (tree h top)))
      (length (ancestors_of f.shown))
  high_few step peer top bytes within makes f spells =
      let own = subst (λ (x : HighFile). IsOwnHigh dig h top peer step x) (one_value high_layout bytes makes.0 f makes.1
      spells) makes.2 in
      few_of top within (high_ask f) f.shown own.shown
