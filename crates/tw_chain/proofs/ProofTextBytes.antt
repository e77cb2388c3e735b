-- The texts that checking a proof hashes are bytes, where bytes spell the proof.
use Rattle.std.proofs.Common.{◌≡◌, ℕ, ◌<◌, ◌≤◌, List, [], ◌∷◌, length, arith}
use Rattle.std.specs.List.{flat_map}
use Rattle.tw_base.specs.declared.events.event_part.EventPart.{EventPart}
use Rattle.tw_base.specs.declared.history.tree_proof.Ask.TheVariants as ask
use Rattle.tw_base.specs.declared.kinds.limits.TheConstants.{LAST_STEP}
use Rattle.tw_base.specs.format.Codecs.{each, labels_codec, many}
use Rattle.tw_base.specs.format.Codecs.{pair, seen}
use Rattle.tw_base.specs.format.Formats.{Spells}
use Rattle.tw_base.specs.kinds.Bytes.{AreBytes, HasBytes}
use Rattle.tw_base.specs.kinds.Levels.{top_level}
use Rattle.tw_base.specs.kinds.Lists.{Each}
use Rattle.tw_base.proofs.lemmas.format.CodecLaws.{spelled-fits}
use Rattle.tw_base.proofs.lemmas.history.TextBytes.{audit_texts-bytes}
use Rattle.tw_base.proofs.lemmas.kinds.Levels.{top_level-below}
use Rattle.tw_base.proofs.lemmas.kinds.ListLemmas.{Each-append, Each-map}
use Rattle.tw_skipproof.specs.declared.existence.Part.{Part}
use Rattle.tw_skipproof.specs.declared.opening.Opening.{Opening}
use Rattle.tw_skipproof.specs.declared.path.Link.{Link}
use Rattle.tw_skipproof.specs.Acceptance.{part_texts}
use Rattle.tw_skipproof.specs.Codecs.{event_part_codec, opening_codec, path_codec}
use Rattle.tw_skipproof.specs.Openings.{opening_auth, opening_texts}
use Rattle.tw_skipproof.specs.Paths.{path_texts}
use Rattle.tw_skipproof.proofs.OpeningBinding.{opening_texts-bytes}
use Rattle.tw_skipproof.proofs.PathBinding.{path_texts-bytes}
use Rattle.tw_skipproof.proofs.Shapes.{path-shape}
use Rattle.tw_treeproof.proofs.Binding.{proof_texts-bytes as tree_proof_texts-bytes}
use Rattle.tw_chain.specs.declared.proof.Proof.{Proof}
use Rattle.tw_chain.specs.declared.proof.Proof.TheVariants.{Absent}
use Rattle.tw_chain.specs.Accepting.{proof_texts}
use Rattle.tw_chain.specs.Checks.{Check, checks}
use Rattle.tw_chain.specs.Checks.Check.{EventOf}
use Rattle.tw_chain.specs.Passing.{check_texts}
use Rattle.tw_chain.specs.Proofs.{proof_codec, proof_layout}
use Rattle.tw_chain.proofs.EachCheck.{OfEachSort, all-each}
use Rattle.tw_chain.proofs.PieceSizes.{event-sizes, gap-sizes, opening-sizes, path-sizes, present-sizes}
use Rattle.tw_chain.proofs.ProofCodec.{proof-lawful}

module _ (dig : List ℕ → List ℕ) (size : (text : List ℕ) → length (dig text) ≡ 32) (are : (text : List ℕ)
    → AreBytes (dig text)) where
  -- the texts of the check are bytes
  abbrev AreFine : Check → Type 0
  AreFine c = Each AreBytes (check_texts dig c)

  gathered : (cs : List Check) → Each AreFine cs → Each AreBytes (flat_map (check_texts dig) cs)
  gathered [] fine = tt
  gathered (c ∷ cs) fine = Each-append AreBytes (check_texts dig c) _ fine.0 (gathered cs fine.1)

  path-fine : (links : List Link) (from to : ℕ) (bottom : List ℕ) → from ≤ LAST_STEP → AreBytes bottom
      → (path_codec from to).Fits links → Each AreBytes (path_texts dig links from to bottom)
  unfolding path_codec each
  path-fine links from to bottom small is fits = path_texts-bytes dig size are links from to bottom is
      (path-sizes from to links fits) (path-shape links from to fits) (omega (arith, small))

  opening-fine : (least step : ℕ) (o : Opening) → step ≤ LAST_STEP → (opening_codec least step).Fits o
      → Each AreBytes (opening_texts dig step o)
  unfolding opening_codec pair seen labels_codec many
  opening-fine least step o small fits =
      let top : top_level step < 40 = top_level-below step (omega (arith, small)) in
      opening_texts-bytes dig size are step o (opening-sizes least step o fits) (omega (arith, top, fits.1.1.1.1.0))

  event-fine : (part count : ℕ) (o : Opening) (e : EventPart) → (event_part_codec count).Fits e
      → AreFine (EventOf part o e)
  event-fine part count o e fits =
      let sizes = event-sizes count e fits in
      audit_texts-bytes dig size are o.count e.index e.event e.path sizes.0
      (Each-map (HasBytes 32) AreBytes e.path (λ label has. has.1) sizes.1)

  part-fine : (least : ℕ) (at : Part) → at.top ≤ LAST_STEP → at.step ≤ LAST_STEP → (path_codec at.top at.step).Fits
      at.path.links → (opening_codec least at.step).Fits at.opening → Each AreBytes (part_texts dig at)
  unfolding part_texts opening_auth
  part-fine least at top step path opening =
      Each-append AreBytes (opening_texts dig at.step at.opening) _ (opening-fine least at.step at.opening step opening)
      (path-fine at.path.links at.top at.step (opening_auth dig at.step at.opening) top (are _) path)

  sorts-fine : OfEachSort AreFine
  sorts-fine = record {
    plain = (λ lower upper. tt, λ key. tt, λ t. tt);
    path = λ least part at upper top step path opening. part-fine least at top step path opening;
    link = λ part l top is fits. path-fine l.path.links l.top l.step l.auth top is fits;
    opening = λ part t o small fits. opening-fine 0 t.step o small fits;
    event = λ part step o e opening fits. event-fine part o.count o e fits;
    entry = λ part root e shown fit fits. tree_proof_texts-bytes dig are (ask.Present e) shown
        (present-sizes e shown fit fits);
    free = λ part root key shown fits. tree_proof_texts-bytes dig are (ask.Absent key) shown (gap-sizes key shown fits);
  }

  pub proof_texts-bytes : (bytes : List ℕ) (p : Proof) → Spells proof_layout bytes p → Each AreBytes (proof_texts dig p)
  proof_texts-bytes bytes p spells =
      gathered (checks p) (all-each AreFine sorts-fine p (spelled-fits proof_codec proof-lawful bytes p spells))
