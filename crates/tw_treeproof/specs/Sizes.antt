-- What the types of a tree proof keep: digests of 32 bytes, and fields that fit the text of a node.
use Rattle.std.specs.Prelude.{List}
use Rattle.tw_base.specs.declared.history.tree_proof.Ancestor.{Ancestor}
use Rattle.tw_base.specs.declared.history.tree_proof.Ask.{Ask}
use Rattle.tw_base.specs.declared.history.tree_proof.Ask.TheVariants.{Present}
use Rattle.tw_base.specs.declared.history.tree_proof.TreeProof.{TreeProof}
use Rattle.tw_base.specs.declared.history.tree_proof.TreeProof.TheVariants.{Present as OfEntry}
use Rattle.tw_base.specs.history.Entries.{IsFit}
use Rattle.tw_base.specs.kinds.Bytes.{HasBytes}
use Rattle.tw_base.specs.kinds.Lists.{Each}
use Rattle.tw_base.specs.history.TreeProofs.{ancestors_of}

abbrev pub HaveSizes : List Ancestor → Type 0
HaveSizes = Each (λ a. HasBytes 32 a.other × IsFit a.entry)

abbrev pub HasPlaceSizes : Ask → TreeProof → Type 0
HasPlaceSizes (Present e) (OfEntry left right up) = HasBytes 32 left × HasBytes 32 right × IsFit e
HasPlaceSizes ask proof = Unit {0}

abbrev pub HasProofSizes : Ask → TreeProof → Type 0
HasProofSizes ask proof = HasPlaceSizes ask proof × HaveSizes (ancestors_of proof)
