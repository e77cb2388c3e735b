-- The proofs that a sound history has are spelled.
use Rattle.std.proofs.Common.{◌≡◌, ℕ, ◌<◌, ◌≤◌, List, length, refl, sym, subst, arith, lit≤}
use Rattle.tw_base.specs.declared.history.thread.Entry.{Entry}
use Rattle.tw_base.specs.declared.history.tree_proof.Ask.{Ask}
use Rattle.tw_base.specs.declared.history.tree_proof.Ask.TheVariants as ask
use Rattle.tw_base.specs.kinds.Bytes.{AreBytes}
use Rattle.tw_base.specs.format.Codecs.{HasBytes, behind, by_kind, bytes_codec, name_codec, number_codec, pair, seen}
use Rattle.tw_base.specs.format.Codecs.{variant}
use Rattle.tw_base.specs.history.Entries.{key_of}
use Rattle.tw_base.specs.history.EntryCodec.{entry_codec}
use Rattle.tw_base.proofs.lemmas.history.EntryCodecLaws.{entry-fits}
use Rattle.tw_base.specs.format.Formats.{Spells}
use Rattle.tw_base.specs.history.History.{History}
use Rattle.tw_base.specs.kinds.Lists.{Each}
use Rattle.tw_base.specs.kinds.Names.{IsName}
use Rattle.tw_base.specs.history.Sound.{IsSound}
use Rattle.tw_base.specs.history.Tree.{entries, height, tree}
use Rattle.tw_base.proofs.lemmas.format.CodecLaws.{spelled-fits}
use Rattle.tw_base.proofs.lemmas.kinds.DigestBytes.{auth-digest}
use Rattle.tw_base.proofs.lemmas.kinds.ListLemmas.{Each-in, Each-map}
use Rattle.tw_base.proofs.lemmas.history.Trees.{IsArchived, entry_at-parts, received-sound, tree-archived, tree-rises}
use Rattle.tw_base.proofs.lemmas.history.Members.{in-with}
use Rattle.tw_base.specs.history.TreeProofs.{IsSo, ancestors_of, proof_of}
use Rattle.tw_skipproof.specs.declared.existence.Part.{Part}
use Rattle.tw_skipproof.specs.Codecs.{existence_codec, part_codec, path_codec}
use Rattle.tw_skipproof.specs.Existence.{existence_bytes}
use Rattle.tw_skipproof.specs.HistoryProofs.{IsPartOfHistory}
use Rattle.tw_skipproof.proofs.ExistenceOf.{spelled-made}
use Rattle.tw_skipproof.proofs.LawfulCodecs.{existence-lawful}
use Rattle.tw_skipproof.proofs.PartOf.{part-fits-made, part_in_range-made, part_shaped-made, path-fits-made}
use Rattle.tw_treeproof.specs.declared.limits.TheConstants.{MOST_ABOVE_ENTRY, MOST_ABOVE_PLACE}
use Rattle.tw_treeproof.specs.Answers.{asks_entry}
use Rattle.tw_treeproof.specs.Codecs.{gap_codec, present_codec, tree_proof_codec}
use Rattle.tw_treeproof.proofs.OwnProofs.{own-fits}
use Rattle.tw_chain.specs.declared.proof.AbsenceProof.{AbsenceProof}
use Rattle.tw_chain.specs.declared.proof.LinkProof.{LinkProof}
use Rattle.tw_chain.specs.declared.proof.Proof.{Proof}
use Rattle.tw_chain.specs.declared.proof.Proof.TheVariants.{Exists, Precedes, Archived, Absent, Linked}
use Rattle.tw_chain.specs.declared.proof.ThreadProof.{ThreadProof}
use Rattle.tw_chain.specs.OwnProofs.{HasFewNodes, IsAbsenceProofOf, IsLinkProofOf, IsOwnProof, IsThreadProofOf}
use Rattle.tw_chain.specs.Proofs.{absence_body, key_codec, kinds_codec, link_body, proof_bytes, proof_codec}
use Rattle.tw_chain.specs.Proofs.{proof_layout, thread_body}
use Rattle.tw_chain.proofs.ArchiveAnswers.{lacks-is_so, received-is_so}
use Rattle.tw_chain.proofs.Completeness.{from_1_of_entry}
use Rattle.tw_chain.proofs.OwnTrees.{gap-few, own-gap-fits, own-present-fits, present-few}
use Rattle.tw_chain.proofs.ProofCodec.{proof-lawful, to_fits}

module _ (dig : List ℕ → List ℕ) (h : History) (step top : ℕ) (size : (text : List ℕ) → length (dig text) ≡ 32)
    (are : (text : List ℕ) → AreBytes (dig text))
    (sound : IsSound h) (order : step ≤ top) (has : top ≤ length h.steps) where
  part_fits : (p : Part) → IsPartOfHistory dig h step top p → 0 < step → (part_codec 0).Fits p
  part_fits p is from_1 =
      part-fits-made dig h size are step top p is sound 0 (omega arith) (part_in_range-made dig h step top p is sound
      order has) (part_shaped-made dig h step top p is from_1 order)

  -- each entry of the archive has a spelling
  entries_fit : Each entry_codec.Fits (entries (tree h step))
  entries_fit = Each-map (IsArchived h step) entry_codec.Fits (entries (tree h step)) archived (tree-archived h step)
    where
      archived : (e : Entry) → IsArchived h step e → entry_codec.Fits e
      archived e a =
          let parts = entry_at-parts h a.0 e a.2 in
          let got = received-sound h sound a.0 e.thread parts.1 in
          let short = sound.length in
          entry-fits e got.0 (omega (arith, got.1, parts.0)) (omega (arith, got.2, parts.0, short))

  tree_fits : (asked : Ask) → height (tree h step) ≤ MOST_ABOVE_PLACE → IsSo (entries (tree h step)) asked
      → (tree_proof_codec (asks_entry asked)).Fits (proof_of dig (tree h step) asked)
  tree_fits asked low so = own-fits dig size are (tree h step) asked (tree-rises h sound step) so low entries_fit

  thread_fits : (p : ThreadProof) → HasFewNodes (Archived p) → IsThreadProofOf dig h step top p → thread_body.Fits p
  unfolding thread_body seen pair
  thread_fits p few is =
      let so = received-is_so h step sound (omega (arith, order, has)) p.entry is.received is.before in (
        part_fits p.at is.at (omega (arith, from_1_of_entry h p.entry.archived p.entry is.received, is.before)),
        (
          Each-in entry_codec.Fits (entries (tree h step)) p.entry entries_fit
              (in-with (entries (tree h step)) (key_of p.entry) p.entry so),
          subst present_codec.Fits (sym is.shown)
              (own-present-fits dig size are (tree h step) p.entry (tree-rises h sound step) so entries_fit
              (subst (λ shown. length (ancestors_of shown) ≤ MOST_ABOVE_ENTRY) is.shown few)),
        ),
      )

  absence_fits : (p : AbsenceProof) → HasFewNodes (Absent p) → IsAbsenceProofOf dig h step top p → absence_body.Fits p
  unfolding absence_body key_codec seen pair name_codec number_codec
  absence_fits p few is = (
    part_fits p.at is.at is.from_1,
    (
      (is.name, (omega (arith, is.key), is.key.1)),
      subst gap_codec.Fits (sym is.shown)
          (own-gap-fits dig size are (tree h step) p.key (tree-rises h sound step) (lacks-is_so h step p.key is.none)
          entries_fit (subst (λ shown. length (ancestors_of shown) ≤ MOST_ABOVE_PLACE) is.shown few)),
    ),
  )

  link_fits : (p : LinkProof) → 0 < top → IsLinkProofOf dig h step top p → link_body.Fits p
  unfolding link_body seen pair name_codec number_codec bytes_codec
  link_fits p some is =
      let short = sound.length in (
        subst IsName (sym is.service) sound.name,
        (
          (omega arith, omega (arith, is.at_step, order, has, short)),
          (
            (omega (arith, is.at_top, some), omega (arith, is.at_top, has, short)),
            (
              subst (HasBytes 32) (sym is.given) (auth-digest dig size are h step),
              subst (λ s. (path_codec p.top s).Fits p.path.links) (sym is.at_step)
                  (subst (λ t. (path_codec t step).Fits p.path.links) (sym is.at_top)
                  (path-fits-made dig h size are p.path.links top step order is.path)),
            ),
          ),
        ),
      )

  own_fits : (p : Proof) → 0 < top → HasFewNodes p → IsOwnProof dig h step top p → proof_codec.Fits p
  unfolding proof_codec kinds_codec behind by_kind variant number_codec
  own_fits (Exists p) some few is =
      to_fits p (spelled-fits existence_codec existence-lawful (existence_bytes p) p
      (spelled-made dig h step is.0 top p is.1 size are sound order has))
  own_fits (Precedes p) some few is = absurd is
  own_fits (Archived p) some few is = ((lit≤ tt, lit≤ tt), (refl, thread_fits p few is))
  own_fits (Absent p) some few is = ((lit≤ tt, lit≤ tt), (refl, absence_fits p few is))
  own_fits (Linked p) some few is = ((lit≤ tt, lit≤ tt), (refl, link_fits p some is))

  -- what is written of a proof that the history has spells it
  pub own-spelled : (p : Proof) → 0 < top → HasFewNodes p → IsOwnProof dig h step top p
      → Spells proof_layout (proof_bytes p) p
  own-spelled p some few is = proof-lawful.spells p (own_fits p some few is)

  -- where the archive's tree isn't higher than the format has room for, few nodes stand above a place
  pub own-few : (p : Proof) → height (tree h step) ≤ MOST_ABOVE_PLACE → IsOwnProof dig h step top p → HasFewNodes p
  own-few (Exists p) low is = tt
  own-few (Precedes p) low is = tt
  own-few (Archived p) low is =
      let so = received-is_so h step sound (omega (arith, order, has)) p.entry is.received is.before in
      present-few p.shown (subst present_codec.Fits (sym is.shown) (tree_fits (ask.Present p.entry) low so))
  own-few (Absent p) low is =
      gap-few p.shown
      (subst gap_codec.Fits (sym is.shown) (tree_fits (ask.Absent p.key) low (lacks-is_so h step p.key is.none)))
  own-few (Linked p) low is = tt
