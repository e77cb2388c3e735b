-- The map files that are found in pages that keep a history are the history's.
use Rattle.std.proofs.Common.{◌≡◌, ℕ, ◌-◌, ◌<◌, ◌≤◌, List, length, refl, ap, sym, ◌∙◌, subst, arith, inl, inr, Bool}
use Rattle.std.proofs.Common.{false}
use Rattle.std.specs.Prelude.{Option, Some, None, Ok, nat_lt}
use Rattle.std.proofs.lemmas.Bool.{cases_lt, lt-ltb, le-ltb}
use Rattle.tw_base.specs.declared.history.root.Root.{Root}
use Rattle.tw_base.specs.declared.history.thread.Entry.{Entry}
use Rattle.tw_base.specs.declared.history.tree_proof.Ask.{Ask}
use Rattle.tw_base.specs.declared.history.tree_proof.TreeProof.{TreeProof}
use Rattle.tw_base.specs.declared.kinds.limits.TheConstants.{LAST_STEP}
use Rattle.tw_base.specs.format.Codecs.{behind, name_codec, nothing, number_codec, optional, pair, present, seen}
use Rattle.tw_base.specs.history.EntryCodec.{entry_codec}
use Rattle.tw_base.specs.history.History.{History}
use Rattle.tw_base.specs.history.Sound.{IsSound}
use Rattle.tw_base.specs.history.Tree.{entries, tree}
use Rattle.tw_base.specs.kinds.Lists.{Each}
use Rattle.tw_base.specs.kinds.Names.{IsName}
use Rattle.tw_base.proofs.lemmas.history.EntryCodecLaws.{entry-fits}
use Rattle.tw_base.proofs.lemmas.history.Trees.{IsArchived, entry_at-parts, received-sound, tree-archived, tree-rises}
use Rattle.tw_base.proofs.lemmas.kinds.DigestBytes.{IsDigest}
use Rattle.tw_base.proofs.lemmas.kinds.ListLemmas.{Each-map}
use Rattle.tw_base.specs.history.TreeProofs.{IsSo, proof_of}
use Rattle.tw_disk.specs.Found.Found.{Is}
use Rattle.tw_disk.specs.Image.{Image}
use Rattle.tw_disk.proofs.FoundLaws.{is_on}
use Rattle.tw_rbtree.specs.Standing.{HasNamed, StandsForTree}
use Rattle.tw_rbtree.proofs.Keeping.{stands-any}
use Rattle.tw_rbtree.proofs.TreeHeights.{stands-height}
use Rattle.tw_treeproof.specs.Answers.{asks_entry}
use Rattle.tw_treeproof.specs.Codecs.{tree_proof_codec}
use Rattle.tw_treeproof.proofs.OwnProofs.{own-fits}
use Rattle.tw_skipproof.specs.declared.existence.Part.{Part}
use Rattle.tw_skipproof.specs.Codecs.{opening_codec, part_codec, path_codec}
use Rattle.tw_skipproof.specs.HistoryProofs.{IsPartOfHistory}
use Rattle.tw_skipproof.proofs.PartOf.{part-fits-made, part_in_range-made, part_shaped-made}
use Rattle.tw_skiplist.specs.declared.head.Head.{Head}
use Rattle.tw_skiplist.specs.declared.info.StepInfo.{StepInfo}
use Rattle.tw_skiplist.specs.Keeping.{Keeps, archive_at}
use Rattle.tw_skiplist.proofs.KeptReadings.{proof_found, step_found}
use Rattle.tw_tmap.specs.declared.map_file.HighFile.{HighFile}
use Rattle.tw_tmap.specs.declared.map_file.LowFile.{LowFile}
use Rattle.tw_tmap.specs.declared.map_file.LowPart.{LowPart}
use Rattle.tw_tmap.specs.Checking.{first_after, high_part, last_before, low_file_part}
use Rattle.tw_tmap.specs.MapFiles.{high_bytes, high_codec, low_bytes, low_codec, low_part_codec}
use Rattle.tw_tmap.specs.OwnFiles.{IsOwnLow}
use Rattle.tw_tmap.proofs.MapCodec.{high-lawful, low-lawful}
use Rattle.tw_archive.specs.Archives.{KeepsTrees, named_at}
use Rattle.tw_archive.proofs.Keeping.{stands-at}
use Rattle.tw_answers.specs.Finds.{tree_shown}
use Rattle.tw_answers.proofs.TreeAnswers.{shown-stands}
use Rattle.tw_service.specs.Stands.{step_pages}
use Rattle.tw_service.proofs.MapAnswers.{before-none, before-told, high-told}
use Rattle.tw_service.specs.Mapping.{MakesHigh, MakesLow, high_file, high_with, low_before, low_file, low_with}
use Rattle.tw_service.specs.Mapping.{mapped_low_part}

part-parts : (p : Part) → (part_codec 0).Fits p → (path_codec p.top p.step).Fits p.path.links
    × (opening_codec 0 p.step).Fits p.opening
unfolding part_codec seen pair
part-parts p fits = (fits.1.1.1.0, fits.1.1.1.1)

module _ (dig : List ℕ → List ℕ) (size : (text : List ℕ) → IsDigest (dig text)) (ps : Image) (h : History) (head : Head)
    (keeps : Keeps dig ps h head)
    (trees : KeepsTrees dig ps h (step_pages keeps.places) (archive_at dig h keeps.places)) (sound : IsSound h) where
  -- ---- the archive after a step

  stands : (i : ℕ) → 1 ≤ i → i ≤ length h.steps → StandsForTree dig ps (archive_at dig h keeps.places i) (tree h i)
  stands i some within =
      stands-any dig (HasNamed (named_at dig ps h (step_pages keeps.places) (archive_at dig h keeps.places) i)) ps
      (archive_at dig h keeps.places i) (tree h i)
      (stands-at dig ps h (step_pages keeps.places) (archive_at dig h keeps.places) trees i within
      (λ none. absurd (omega (arith, none, some))))

  shows : (i : ℕ) → 1 ≤ i → i ≤ length h.steps → (root : Root) → root ≡ archive_at dig h keeps.places i → (asked : Ask)
      → IsSo (entries (tree h i)) asked
      → tree_shown dig ps root asked ≡ Is (proof_of dig (tree h i) asked)
  shows i some within root is asked so =
      ap (λ (r : Root). tree_shown dig ps r asked) is ∙ shown-stands dig ps (archive_at dig h keeps.places i) asked
      (tree h i) (stands i some within) so

  entries_fit : (i : ℕ) → Each entry_codec.Fits (entries (tree h i))
  entries_fit i = Each-map (IsArchived h i) entry_codec.Fits (entries (tree h i)) archived (tree-archived h i)
    where
      archived : (e : Entry) → IsArchived h i e → entry_codec.Fits e
      archived e a =
          let parts = entry_at-parts h a.0 e a.2 in
          let got = received-sound h sound a.0 e.thread parts.1 in
          let short = sound.length in
          entry-fits e got.0 (omega (arith, got.1, parts.0)) (omega (arith, got.2, parts.0, short))

  tree_fits : (i : ℕ) → 1 ≤ i → i ≤ length h.steps → (asked : Ask) → IsSo (entries (tree h i)) asked
      → (tree_proof_codec (asks_entry asked)).Fits (proof_of dig (tree h i) asked)
  tree_fits i some within asked so =
      let low = stands-height dig ps (archive_at dig h keeps.places i) (tree h i) (stands i some within) in
      own-fits dig (λ t. (size t).0) (λ t. (size t).1) (tree h i) asked (tree-rises h sound i) so (omega (arith, low))
      (entries_fit i)

  part_fits : (step top : ℕ) (p : Part) → IsPartOfHistory dig h step top p → 0 < step → step ≤ top
      → top ≤ length h.steps → (part_codec 0).Fits p
  part_fits step top p is some order within =
      part-fits-made dig h (λ t. (size t).0) (λ t. (size t).1) step top p is sound 0 (omega arith)
      (part_in_range-made dig h step top p is sound order within)
      (part_shaped-made dig h step top p is some order)

  module _ (peer : List ℕ) (is_name : IsName peer) (step top : ℕ) (some : 1 ≤ step) (short : step ≤ LAST_STEP)
      (from : 1 ≤ top) (within : top ≤ head.step) where
    top_within : top ≤ length h.steps
    top_within = omega (arith, within, keeps.step)

    top_short : top ≤ LAST_STEP
    top_short = let few = sound.length in omega (arith, top_within, few)

    -- ---- the low file

    abbrev low : Option LowPart → LowFile
    low shown = low_with h.name step peer top shown

    low_fits : (shown : Option LowPart) → (optional (nat_lt 1 step) (low_part_codec top (step - 1))).Fits shown
        → low_codec.Fits (low shown)
    unfolding low_codec behind seen pair name_codec number_codec
    low_fits shown fits = (sound.name, ((some, short), (is_name, ((from, top_short), fits))))

    pub record LowKept : Type 0 where
      pub shown : Option LowPart
      pub is : low_before dig ps head step peer top ≡ Is shown
      pub own : IsOwnLow dig h step peer top (low shown)
      pub fits : (optional (nat_lt 1 step) (low_part_codec top (step - 1))).Fits shown

    none-fits : step ≤ 1 → (optional (nat_lt 1 step) (low_part_codec top (step - 1))).Fits None
    unfolding nothing
    none-fits end = subst (λ (b : Bool). (optional b (low_part_codec top (step - 1))).Fits None)
        (sym (le-ltb 1 step end)) refl

    part-fits : 1 < step → (p : LowPart) → (low_part_codec top (step - 1)).Fits p
        → (optional (nat_lt 1 step) (low_part_codec top (step - 1))).Fits (Some p)
    unfolding present
    part-fits more p fits = subst (λ (b : Bool). (optional b (low_part_codec top (step - 1))).Fits (Some p))
        (sym (lt-ltb 1 step more)) fits

    low_part-fits : (p : LowPart) → (path_codec top (step - 1)).Fits p.path.links → (opening_codec 0 (step - 1)).Fits
        p.opening → (tree_proof_codec false).Fits p.shown → (low_part_codec top (step - 1)).Fits p
    unfolding low_part_codec seen pair
    low_part-fits p path opening tree_fits = (path, (opening, tree_fits))

    first : step ≤ 1 → LowKept
    first end = record {
      shown = None;
      is = before-none dig ps head step peer top end;
      own = record {
        service = refl;
        at_step = refl;
        of_peer = refl;
        at_top = refl;
        shown = let one : step ≡ 1 = omega (arith, end, some) in one;
      };
      fits = none-fits end;
    }

    second : 1 < step → step ≤ top → LowKept
    second more order =
        let told = proof_found dig size ps h head keeps top (step - 1) (omega (arith, more)) (omega (arith, order))
        within in
        let up : step - 1 ≤ length h.steps = omega (arith, order, top_within) in
        let part : LowPart = mapped_low_part told.0 (proof_of dig (tree h (step - 1)) (last_before peer)) in
        let at : Part = low_file_part (low (Some part)) part in
        let is : IsPartOfHistory dig h (step - 1) top at =
        record { service = refl; at_step = refl; at_top = refl; path = told.2; opening = told.3.opening } in
        let fit = part-parts at (part_fits (step - 1) top at is (omega (arith, more)) (omega (arith, order)) top_within)
        in
        record {
          shown = Some part;
          is = before-told dig ps head step peer top told.0 (last_before peer) more told.1 refl
              ∙ is_on (tree_shown dig ps told.0.info.archive (last_before peer))
              (λ tree. Is (Some (mapped_low_part told.0 tree))) (proof_of dig (tree h (step - 1)) (last_before peer))
              (shows (step - 1) (omega (arith, more)) up told.0.info.archive told.3.archive (last_before peer) tt);
          own = record { service = refl; at_step = refl; of_peer = refl; at_top = refl; shown = (more, is, refl) };
          fits = part-fits more part
              (low_part-fits part fit.0 fit.1 (tree_fits (step - 1) (omega (arith, more)) up (last_before peer) tt));
        }

    low_found : step ≤ top → LowKept
    low_found order =
        elim (cases_lt 1 step) [
          | inl more ↦ second more order
          | inr end ↦ first end
        ]

    pub low_kept : step ≤ top → (bytes : List ℕ) × (low_file dig ps head step peer top h.name ≡ Is (Ok bytes))
        × MakesLow dig h step peer top bytes
    unfolding low_file
    low_kept order =
        let own = low_found order in (
          low_bytes (low own.shown),
          is_on (low_before dig ps head step peer top) (λ shown. Is (Ok (low_bytes (low shown)))) own.shown own.is,
          (low own.shown, low-lawful.spells (low own.shown) (low_fits own.shown own.fits), own.own),
        )

    -- ---- the high file

    abbrev high : StepInfo → HighFile
    high info = high_with h.name step peer top info (proof_of dig (tree h top) (first_after peer step))

    high_fits : (info : StepInfo) → (opening_codec 0 top).Fits info.opening → (tree_proof_codec false).Fits
        (proof_of dig (tree h top) (first_after peer step)) → high_codec.Fits (high info)
    unfolding high_codec behind seen pair name_codec number_codec
    high_fits info opening tree_fits =
        (sound.name, ((from, top_short), (is_name, ((some, short), (opening, tree_fits)))))

    pub high_kept : (bytes : List ℕ) × (high_file dig ps head step peer top h.name ≡ Is (Ok bytes)) × MakesHigh dig h
        step peer top bytes
    high_kept =
        let told = step_found dig size ps h head keeps top from within in
        let shown : TreeProof = proof_of dig (tree h top) (first_after peer step) in
        let at : Part = high_part (high told.0) in
        let is : IsPartOfHistory dig h top top at =
        record { service = refl; at_step = refl; at_top = refl; path = omega arith; opening = told.2.opening } in
        let fit = part-parts at (part_fits top top at is from (omega arith) top_within) in (
          high_bytes (high told.0),
          high-told dig ps head step peer top h.name told.0 (first_after peer step) told.1 refl
              ∙ is_on (tree_shown dig ps told.0.archive (first_after peer step))
              (λ tree. Is (Ok (high_bytes (high_with h.name step peer top told.0 tree)))) shown
              (shows top from top_within told.0.archive told.2.archive (first_after peer step) tt),
          (
            high told.0,
            high-lawful.spells (high told.0)
                (high_fits told.0 fit.1 (tree_fits top from top_within (first_after peer step) tt)),
            record {
              of_peer = refl;
              at_top = refl;
              of_service = refl;
              at_step = refl;
              opening = told.2.opening;
              shown = refl;
            },
          ),
        )
