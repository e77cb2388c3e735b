-- The proofs of archives that bytes spell: the sizes of their parts, and their steps.
use Rattle.std.proofs.Common.{◌≡◌, ℕ, ◌-◌, ◌^◌, List, refl, subst, arith, inl, inr}
use Rattle.std.specs.Prelude.{Option, Some, None, IfSome}
use Rattle.std.specs.Option.{option_map}
use Rattle.tw_base.specs.declared.history.tree_proof.Ask.{Ask}
use Rattle.tw_base.specs.declared.history.tree_proof.Ask.TheVariants as ask
use Rattle.tw_base.specs.declared.history.tree_proof.TreeProof.{TreeProof}
use Rattle.tw_base.specs.format.Codecs.{behind, by_kind, pair, seen, variant}
use Rattle.tw_base.specs.format.Formats.{Spells}
use Rattle.tw_base.proofs.lemmas.format.CodecLaws.{spelled-fits}
use Rattle.tw_skipproof.specs.declared.existence.Part.{Part}
use Rattle.tw_skipproof.specs.Codecs.{part_codec}
use Rattle.tw_skipproof.proofs.Shapes.{part-shape}
use Rattle.tw_treeproof.specs.Sizes.{HasProofSizes}
use Rattle.tw_chain.specs.declared.proof.AbsenceProof.{AbsenceProof}
use Rattle.tw_chain.specs.declared.proof.Proof.{Proof}
use Rattle.tw_chain.specs.declared.proof.Proof.TheVariants.{Exists, Precedes, Archived, Absent, Linked}
use Rattle.tw_chain.specs.declared.proof.ThreadProof.{ThreadProof}
use Rattle.tw_chain.specs.Proofs.{absence_body, kinds_codec, proof_codec, thread_body}
use Rattle.tw_chain.proofs.PieceSizes.{PartSizes, gap-sizes, opening-sizes, part-sizes, path-sizes, present-sizes}
use Rattle.tw_chain.proofs.ProofCodec.{proof-lawful}
use Rattle.tw_tmap.specs.declared.map_file.HighFile.{HighFile}
use Rattle.tw_tmap.specs.declared.map_file.LowFile.{LowFile}
use Rattle.tw_tmap.specs.declared.map_file.LowPart.{LowPart}
use Rattle.tw_tmap.specs.Checking.{low_ask, low_file_part}
use Rattle.tw_tmap.specs.MapFiles.{high_codec, high_layout, low_codec, low_layout}
use Rattle.tw_tmap.proofs.MapBinds.{above-sizes, below-sizes}
use Rattle.tw_tmap.proofs.MapCodec.{BeforeFits, HighFits, LowFits, high-fields, high-lawful, low-fields, low-lawful}
use Rattle.tw_contradict.specs.ArchiveFiles.{IsFileOf, of_high, of_low, of_proof}
use Rattle.tw_contradict.specs.Fitting.{IsSmall}
use Rattle.tw_contradict.specs.declared.archive_proof.ArchiveProof.{ArchiveProof}

pub record ArchiveSizes (a : ArchiveProof) : Type 0 where
  pub part : PartSizes a.at
  pub shown : HasProofSizes a.ask a.shown
  pub small : IsSmall a

-- of a step under a top, and an answer of its archive
answer-sizes : (at : Part) (asked : Ask) (shown : TreeProof) → (part_codec 0).Fits at → HasProofSizes asked shown
    → ArchiveSizes (record { at = at; ask = asked; shown = shown })
answer-sizes at asked shown fits sizes =
    let steps = (part-shape 0 at fits).1 in
    record { part = part-sizes 0 at fits; shown = sizes; small = record { step = steps.step; top = steps.top } }

thread-sizes : (p : ThreadProof) → thread_body.Fits p
    → ArchiveSizes (record { at = p.at; ask = ask.Present p.entry; shown = p.shown })
unfolding thread_body pair seen
thread-sizes p fits = answer-sizes p.at _ p.shown fits.0 (present-sizes p.entry p.shown fits.1.0 fits.1.1)

absence-sizes : (p : AbsenceProof) → absence_body.Fits p
    → ArchiveSizes (record { at = p.at; ask = ask.Absent p.key; shown = p.shown })
unfolding absence_body pair seen
absence-sizes p fits = answer-sizes p.at _ p.shown fits.0 (gap-sizes p.key p.shown fits.1.1)

of_some : {X : Type 0} (P : X → Type 0) (x y : X) → Some x ≡ Some y → P x → P y
of_some P x y same p = let is : x ≡ y = cc in subst P is p

proof-sizes : (p : Proof) (a : ArchiveProof) → proof_codec.Fits p → of_proof p ≡ Some a → ArchiveSizes a
unfolding proof_codec kinds_codec behind by_kind variant
proof-sizes (Exists p) a fits is = absurd (cc)
proof-sizes (Precedes p) a fits is = absurd (cc)
proof-sizes (Archived p) a fits is =
    of_some ArchiveSizes (record { at = p.at; ask = ask.Present p.entry; shown = p.shown }) a is
    (thread-sizes p fits.1.1)
proof-sizes (Absent p) a fits is = of_some ArchiveSizes (record { at = p.at; ask = ask.Absent p.key; shown = p.shown })
    a is (absence-sizes p fits.1.1)
proof-sizes (Linked p) a fits is = absurd (cc)

low-sizes : (f : LowFile) (a : ArchiveProof) → LowFits f → of_low f ≡ Some a → ArchiveSizes a
low-sizes f a fits is = by f.shown fits.before is
  where
    shown_of : LowPart → ArchiveProof
    shown_of p = record { at = low_file_part f p; ask = low_ask f; shown = p.shown }

    by : (o : Option LowPart) → BeforeFits f.top f.step o → option_map shown_of o ≡ Some a → ArchiveSizes a
    by None before is = absurd (cc)
    by (Some p) before is = of_some ArchiveSizes (shown_of p) a is (record {
      part = record {
        links = path-sizes f.top (f.step - 1) p.path.links before.1.path;
        opening = opening-sizes 0 (f.step - 1) p.opening before.1.opening;
      };
      shown = below-sizes (record { from = f.peer; step = 2 ^ 40 }) p.shown before.1.tree;
      small = record { step = (let most = fits.steps.step_within in omega (arith, most)); top = fits.steps.top_within };
    })

high-sizes : (f : HighFile) → HighFits f → ArchiveSizes (of_high f)
high-sizes f fits = record {
  part = record { links = tt; opening = opening-sizes 0 f.top f.opening fits.opening };
  shown = above-sizes (record { from = f.peer; step = f.step - 1 }) f.shown fits.tree;
  small = record { step = fits.steps.top_within; top = fits.steps.top_within };
}

pub file-sizes : (bytes : List ℕ) (a : ArchiveProof) → IsFileOf bytes a → ArchiveSizes a
file-sizes bytes a (inl (p, spells, is)) = proof-sizes p a (spelled-fits proof_codec proof-lawful bytes p spells) is
file-sizes bytes a (inr (inl (f, spells, is))) =
    low-sizes f a (low-fields f (spelled-fits low_codec low-lawful bytes f spells)) is
file-sizes bytes a (inr (inr (f, spells, is))) =
    subst ArchiveSizes is (high-sizes f (high-fields f (spelled-fits high_codec high-lawful bytes f spells)))

-- the step of a low file isn't 0
pub low-some : (bytes : List ℕ) (f : LowFile) → Spells low_layout bytes f → LowFits f
low-some bytes f spells = low-fields f (spelled-fits low_codec low-lawful bytes f spells)

pub high-some : (bytes : List ℕ) (f : HighFile) → Spells high_layout bytes f → HighFits f
high-some bytes f spells = high-fields f (spelled-fits high_codec high-lawful bytes f spells)

-- the steps of what a file shows
pub small-if : (bytes : List ℕ) (o : Option ArchiveProof) → ((a : ArchiveProof) → o ≡ Some a → IsFileOf bytes a)
    → IfSome o IsSmall
small-if bytes None shown = tt
small-if bytes (Some a) shown = (file-sizes bytes a (shown a refl)).small
