-- The bytes of tree proofs.
use Rattle.std.specs.Prelude.{ℕ, List, length, Bool, Option, Some, None}
use Rattle.tw_base.specs.declared.history.tree_proof.Ancestor.{Ancestor}
use Rattle.tw_base.specs.declared.history.tree_proof.TreeProof.{TreeProof}
use Rattle.tw_base.specs.declared.history.tree_proof.TreeProof.TheVariants.{Present, Gap}
use Rattle.tw_base.specs.format.Codecs.{Codec, by_kind, choose, counted, digest_codec, many, number_codec, pair, seen, variant}
use Rattle.tw_base.specs.history.EntryCodec.{entry_codec}
use Rattle.tw_treeproof.specs.declared.limits.TheConstants.{MOST_ABOVE_ENTRY, MOST_ABOVE_PLACE}
use Rattle.tw_treeproof.specs.Answers.{is_of_entry}

-- a node above the asked place, 96 bytes: its entry, and the label of its other side
unfoldable pub ancestor_codec : Codec Ancestor
ancestor_codec = seen (λ t. record { entry = t.0; other = t.1 }) (λ a. (a.entry, a.other)) (pair entry_codec (λ entry. digest_codec))

-- the labels of both sides of the asked entry's node, and the nodes above it
abbrev pub PresentParts : Type 0
PresentParts = List ℕ × (List ℕ × List Ancestor)

abbrev pub parts_of : TreeProof → Option PresentParts
parts_of (Present left right up) = Some (left, (right, up))
parts_of (Gap up) = None

-- both labels, and so many nodes, nearest first; and these behind the number of the nodes
abbrev pub parts_codec : ℕ → Codec PresentParts
parts_codec n = pair digest_codec (λ left. pair digest_codec (λ right. many n ancestor_codec))

abbrev pub counted_parts : Codec PresentParts
counted_parts = by_kind (λ t. length t.1.1) (number_codec 1 0 MOST_ABOVE_ENTRY) parts_codec

-- a proof of an entry: the number of the nodes above it, the labels of both sides of its node, and the nodes
unfoldable pub present_codec : Codec TreeProof
present_codec = variant (λ t. Present t.0 t.1.0 t.1.1) parts_of counted_parts

abbrev pub gap_of : TreeProof → Option (List Ancestor)
gap_of (Present left right up) = None
gap_of (Gap up) = Some up

-- a proof of an empty place: the number of the nodes above it, and the nodes, nearest first
unfoldable pub gap_codec : Codec TreeProof
gap_codec = variant Gap gap_of (counted 1 0 MOST_ABOVE_PLACE ancestor_codec)

-- the one or the other
abbrev pub tree_proof_codec : (of_entry : Bool) → Codec TreeProof
tree_proof_codec of_entry = choose of_entry present_codec gap_codec

-- the bytes of a proof
abbrev pub tree_proof_bytes : TreeProof → List ℕ
tree_proof_bytes proof = (tree_proof_codec (is_of_entry proof)).write proof
