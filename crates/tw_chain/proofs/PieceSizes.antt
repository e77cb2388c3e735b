-- What fits the codecs of a proof's pieces has the widths that the hashed texts give them.
use Rattle.std.proofs.Common.{ℕ, ◌<◌, ◌^◌, List, [], ◌∷◌, arith}
use Rattle.std.specs.Prelude.{Bool, true, false, Option, Some, None, IfSome}
use Rattle.tw_base.specs.declared.events.event_part.EventPart.{EventPart}
use Rattle.tw_base.specs.declared.history.thread.Entry.{Entry}
use Rattle.tw_base.specs.declared.history.tree_proof.Ancestor.{Ancestor}
use Rattle.tw_base.specs.declared.history.tree_proof.Ask.TheVariants as ask
use Rattle.tw_base.specs.declared.history.tree_proof.TreeProof.{TreeProof}
use Rattle.tw_base.specs.declared.history.tree_proof.TreeProof.TheVariants as trees
use Rattle.tw_base.specs.declared.history.thread.Key.{Key}
use Rattle.tw_base.specs.format.Codecs.{EachFits, by_kind, bytes_codec, counted, each, labels_codec, many, name_codec}
use Rattle.tw_base.specs.format.Codecs.{nothing, number_codec, optional, pair, present, seen, sized_codec, variant}
use Rattle.tw_base.specs.format.Codecs.{written}
use Rattle.tw_base.specs.kinds.Bytes.{AreBytes}
use Rattle.tw_base.specs.kinds.Digests.{AllDigests}
use Rattle.tw_base.specs.history.Entries.{IsFit}
use Rattle.tw_base.specs.history.HistoryCodec.{thread_codec, time_codec}
use Rattle.tw_base.specs.kinds.Lists.{Each}
use Rattle.tw_base.proofs.lemmas.kinds.Naming.{IsName-bytes}
use Rattle.tw_skipproof.specs.declared.existence.Part.{Part}
use Rattle.tw_skipproof.specs.declared.opening.Opening.{Opening}
use Rattle.tw_skipproof.specs.declared.path.Link.{Link}
use Rattle.tw_skipproof.specs.Codecs.{count_codec, event_part_codec, link_bytes, link_codec, opening_codec, part_codec}
use Rattle.tw_skipproof.specs.Codecs.{path_codec}
use Rattle.tw_skipproof.specs.Openings.{HasOpeningSizes}
use Rattle.tw_skipproof.specs.Paths.{HasLinkSizes, greedy_steps}
use Rattle.tw_base.specs.history.EntryCodec.{entry_codec}
use Rattle.tw_treeproof.specs.Codecs.{ancestor_codec, gap_codec, present_codec}
use Rattle.tw_treeproof.specs.Sizes.{HasProofSizes, HaveSizes}

time-size : (timed : Bool) (time : Option ℕ) → (optional timed time_codec).Fits time → IfSome time (λ t. t < 2 ^ 64)
unfolding present nothing number_codec
time-size true None fits = tt
time-size true (Some t) fits = omega (arith, fits.1)
time-size false None fits = tt
time-size false (Some t) fits = cc

pub opening-sizes : (least step : ℕ) (o : Opening) → (opening_codec least step).Fits o → HasOpeningSizes o
unfolding opening_codec count_codec written by_kind pair seen number_codec labels_codec many bytes_codec
opening-sizes least step o fits = record {
  event_root = fits.0;
  archive_root = fits.1.0;
  count = omega (arith, fits.1.1.0.1.0.1);
  time = time-size _ o.time fits.1.1.0.1.1;
  prev = fits.1.1.1.0;
  others = fits.1.1.1.1.1;
}

links-sizes : (steps : List ℕ) (links : List Link) → EachFits link_bytes link_codec steps links → HasLinkSizes links
unfolding link_codec seen pair labels_codec many bytes_codec
links-sizes steps [] fits = tt
links-sizes [] (l ∷ links) fits = cc
links-sizes (step ∷ steps) (l ∷ links) fits = (fits.0.0, fits.0.1.1, links-sizes steps links fits.1)

pub path-sizes : (from to : ℕ) (links : List Link) → (path_codec from to).Fits links → HasLinkSizes links
unfolding path_codec each
path-sizes from to links fits = links-sizes (greedy_steps from to) links fits

-- of a step under a top
pub record PartSizes (at : Part) : Type 0 where
  pub links : HasLinkSizes at.path.links
  pub opening : HasOpeningSizes at.opening

pub part-sizes : (least : ℕ) (at : Part) → (part_codec least).Fits at → PartSizes at
unfolding part_codec pair seen
part-sizes least at fits = record {
  links = path-sizes at.top at.step at.path.links fits.1.1.1.0;
  opening = opening-sizes least at.step at.opening fits.1.1.1.1;
}

pub event-sizes : (count : ℕ) (e : EventPart) → (event_part_codec count).Fits e → AreBytes e.event × AllDigests e.path
unfolding event_part_codec pair seen labels_codec many sized_codec by_kind bytes_codec
event-sizes count e fits = (fits.1.0.1.1, fits.1.1.1)

-- ---- tree proofs

pub entry-sizes : (e : Entry) → entry_codec.Fits e → IsFit e
unfolding entry_codec thread_codec seen pair name_codec number_codec bytes_codec
entry-sizes e fits = record {
  from = IsName-bytes e.thread.from fits.0.0;
  step = omega (arith, fits.0.1.0.1);
  auth = fits.0.1.1;
  archived = omega (arith, fits.1.1);
}

ancestors-sizes : (up : List Ancestor) → Each (ancestor_codec.Fits) up → HaveSizes up
unfolding ancestor_codec seen pair bytes_codec
ancestors-sizes [] fits = tt
ancestors-sizes (a ∷ up) fits = ((fits.0.1, entry-sizes a.entry fits.0.0), ancestors-sizes up fits.1)

pub present-sizes : (e : Entry) (proof : TreeProof) → entry_codec.Fits e → present_codec.Fits proof
    → HasProofSizes (ask.Present e) proof
unfolding present_codec variant by_kind pair many bytes_codec
present-sizes e (trees.Present left right up) entry fits =
    let parts = fits.1.1 in ((parts.0, parts.1.0, entry-sizes e entry), ancestors-sizes up parts.1.1.1)
present-sizes e (trees.Gap up) entry fits = absurd fits

pub gap-sizes : (key : Key) (proof : TreeProof) → gap_codec.Fits proof → HasProofSizes (ask.Absent key) proof
unfolding gap_codec variant counted by_kind many
gap-sizes key (trees.Present left right up) fits = absurd fits
gap-sizes key (trees.Gap up) fits = (tt, ancestors-sizes up fits.1.1.1)
