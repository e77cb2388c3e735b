-- No tree proof gives an answer under a root that has no bytes.
use Rattle.std.proofs.Common.{◌≡◌, ℕ, List, [], ◌∷◌, length, sym, ap, ◌∙◌, arith}
use Rattle.tw_base.specs.declared.history.thread.Entry.{Entry}
use Rattle.std.specs.Prelude.{Bool}
use Rattle.tw_base.specs.declared.history.tree_proof.Ancestor.{Ancestor}
use Rattle.tw_base.specs.declared.history.tree_proof.Ask.{Ask}
use Rattle.tw_base.specs.declared.history.tree_proof.TreeProof.{TreeProof}
use Rattle.tw_base.specs.history.TreeProofs.{ancestors_of}
use Rattle.tw_base.specs.history.Ways.{climbed_tree, is_left, over_text}
use Rattle.tw_treeproof.specs.Answers.{Checks, place_text}

module _ (dig : List ℕ → List ℕ) (size : (text : List ℕ) → length (dig text) ≡ 32) where
  length-climbed : (left : Entry → Bool) (up : List Ancestor) (below : List ℕ) → length below ≡ 32
      → length (climbed_tree dig left up below) ≡ 32
  unfolding climbed_tree
  length-climbed left [] below is = is
  length-climbed left (a ∷ up) below is = length-climbed left up (dig (over_text left a below))
      (size (over_text left a below))

  pub no-root : (ask : Ask) (proof : TreeProof) → Checks dig [] ask proof → ⊥
  no-root ask proof checks =
      let place : List ℕ = dig (place_text ask proof) in
      let no : 32 ≡ 0 = sym (length-climbed (is_left ask) (ancestors_of proof) place (size (place_text ask proof)))
      ∙ ap (length {A = ℕ}) checks.label in
      omega (arith, no)
