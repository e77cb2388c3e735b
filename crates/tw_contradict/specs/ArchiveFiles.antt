-- The files that show what the archive of a service has, or hasn't, at one step: proofs of kinds 3 and 4, and map files.
use Rattle.std.specs.Prelude.{◌≡◌, ◌⊎◌, ℕ, List, [], ◌∷◌, ◌++◌, Option, Some, None}
use Rattle.std.specs.List.{flat_map}
use Rattle.std.specs.Option.{option_map}
use Rattle.tw_base.specs.declared.history.thread.Thread.{Thread}
use Rattle.tw_base.specs.declared.history.tree_proof.Ask.{Ask}
use Rattle.tw_base.specs.declared.history.tree_proof.Ask.TheVariants.{Present, Below, Above}
use Rattle.tw_base.specs.declared.history.tree_proof.Ask.TheVariants as ask
use Rattle.tw_base.specs.format.Formats.{Spells, SpellsNothing}
use Rattle.tw_chain.specs.declared.proof.Proof.{Proof}
use Rattle.tw_chain.specs.declared.proof.Proof.TheVariants.{Archived, Absent}
use Rattle.tw_chain.specs.Checks.{Check, top_of, under_anchor}
use Rattle.tw_chain.specs.Checks.Check.{AnswerOf, InOrder}
use Rattle.tw_chain.specs.Passing.{anchor_at, check_texts}
use Rattle.tw_chain.specs.Proofs.{proof_layout}
use Rattle.tw_tmap.specs.declared.map_file.HighFile.{HighFile}
use Rattle.tw_tmap.specs.declared.map_file.LowFile.{LowFile}
use Rattle.tw_tmap.specs.declared.map_file.LowPart.{LowPart}
use Rattle.tw_tmap.specs.Checking.{high_ask, high_part, low_ask, low_file_part}
use Rattle.tw_tmap.specs.MapFiles.{high_layout, low_layout}
use Rattle.tw_contradict.specs.declared.archive_proof.ArchiveProof.{ArchiveProof}

-- ---- each file as a question to the archive of a step under a top, with the tree proof of the answer

-- a proof of kind 3 asks for its entry, one of kind 4 for its key; those of other kinds show no archive
abbrev pub of_proof : Proof → Option ArchiveProof
of_proof (Archived p) = Some (record { at = p.at; ask = Present p.entry; shown = p.shown })
of_proof (Absent p) = Some (record { at = p.at; ask = ask.Absent p.key; shown = p.shown })
of_proof _ = None

-- a low map file asks for the peer's last thread at the step before its own; of step 1 it shows no archive
abbrev pub of_low : LowFile → Option ArchiveProof
of_low f = option_map (λ (p : LowPart). record { at = low_file_part f p; ask = low_ask f; shown = p.shown }) f.shown

-- a high map file asks for the first thread of its step or of a later one, at its top
abbrev pub of_high : HighFile → ArchiveProof
of_high f = record { at = high_part f; ask = high_ask f; shown = f.shown }

-- the bytes spell a proof or a map file that shows this
abbrev pub IsFileOf : List ℕ → ArchiveProof → Type 0
IsFileOf bytes a =
    ((p : Proof) × Spells proof_layout bytes p × (of_proof p ≡ Some a))
    ⊎ ((f : LowFile) × Spells low_layout bytes f × (of_low f ≡ Some a))
    ⊎ ((f : HighFile) × Spells high_layout bytes f × (of_high f ≡ a))

-- they spell one that shows no archive, or none
abbrev pub IsNoFile : List ℕ → Type 0
IsNoFile bytes =
    ((p : Proof) × Spells proof_layout bytes p × (of_proof p ≡ None))
    ⊎ ((f : LowFile) × Spells low_layout bytes f × (of_low f ≡ None))
    ⊎ (SpellsNothing proof_layout bytes × SpellsNothing low_layout bytes × SpellsNothing high_layout bytes)

-- the file of the bytes, or that there is none
abbrev pub IsArchiveRead : List ℕ → Option ArchiveProof → Type 0
IsArchiveRead bytes None = IsNoFile bytes
IsArchiveRead bytes (Some a) = IsFileOf bytes a

-- ---- what is checked

-- a received thread was received at the step or before
abbrev pub order_checks : Ask → (step : ℕ) → List Check
order_checks (Present e) step = InOrder e.archived step ∷ []
order_checks (ask.Absent key) step = []
order_checks (Below key) step = []
order_checks (Above key) step = []

-- the step stands under the anchor of the top, and the tree proof gives an answer there
abbrev pub archive_checks : ArchiveProof → List Check
archive_checks a = under_anchor 0 a.at ++ (order_checks a.ask a.at.step ++ AnswerOf 0 a.at.opening.archive_root a.ask a.shown ∷ [])

-- what checking hashes
abbrev pub archive_texts : (dig : List ℕ → List ℕ) → ArchiveProof → List (List ℕ)
archive_texts dig a = flat_map (check_texts dig) (archive_checks a)

-- the line of the service and the top, of those that are held
abbrev pub line_of_archive : List Thread → ArchiveProof → Option Thread
line_of_archive anchors a = anchor_at anchors (top_of a.at)
