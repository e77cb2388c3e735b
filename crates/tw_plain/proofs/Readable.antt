-- A text can tell the report of each proof that bytes spell.
use Rattle.std.proofs.Common.{ℕ, ◌<◌, ◌≤◌, ◌^◌, List, [], ◌∷◌, length, arith}
use Rattle.std.specs.Prelude.{reverse}
use Rattle.std.specs.List.{flat_map}
use Rattle.tw_base.specs.declared.events.event_part.EventPart.{EventPart}
use Rattle.tw_base.specs.declared.history.thread.Entry.{Entry}
use Rattle.tw_base.specs.declared.history.thread.Thread.{Thread}
use Rattle.tw_base.specs.declared.kinds.limits.TheConstants.{LAST_STEP}
use Rattle.tw_base.specs.format.Codecs.{EachFits, behind, by_kind, bytes_codec, each, name_codec, number_codec, pair, seen, variant}
use Rattle.tw_base.specs.format.Formats.{Spells}
use Rattle.tw_base.specs.history.EntryCodec.{entry_codec}
use Rattle.tw_base.specs.history.HistoryCodec.{thread_codec}
use Rattle.tw_base.specs.kinds.Lists.{Each}
use Rattle.tw_base.specs.kinds.Names.{IsName}
use Rattle.tw_base.proofs.lemmas.format.CodecLaws.{spelled-fits}
use Rattle.tw_base.proofs.lemmas.kinds.ListLemmas.{Each-append, Each-map}
use Rattle.tw_skipproof.specs.declared.existence.ExistenceProof.{ExistenceProof}
use Rattle.tw_skipproof.specs.declared.existence.Part.{Part}
use Rattle.tw_skipproof.specs.declared.opening.Opening.{Opening}
use Rattle.tw_skipproof.specs.Codecs.{event_part_codec, existence_body, opening_codec, part_codec}
use Rattle.tw_skipproof.proofs.LawfulCodecs.{opening-few}
use Rattle.tw_chain.specs.declared.proof.AbsenceProof.{AbsenceProof}
use Rattle.tw_chain.specs.declared.proof.HopPart.{HopPart}
use Rattle.tw_chain.specs.declared.proof.LinkProof.{LinkProof}
use Rattle.tw_chain.specs.declared.proof.PrecedenceProof.{PrecedenceProof}
use Rattle.tw_chain.specs.declared.proof.Proof.{Proof}
use Rattle.tw_chain.specs.declared.proof.Proof.TheVariants.{Exists, Precedes, Archived, Absent, Linked}
use Rattle.tw_chain.specs.declared.proof.ThreadProof.{ThreadProof}
use Rattle.tw_chain.specs.Accepting.{carried, hop_from, hops_to, report_of, seen_at}
use Rattle.tw_chain.specs.Checks.{Check, checks, end_of_order, last_hop_thread, start_of, tail_at}
use Rattle.tw_chain.specs.Checks.Check.{CarriesThread}
use Rattle.tw_chain.specs.Passing.{carried_by}
use Rattle.tw_chain.specs.Proofs.{absence_body, behind_codec, following, hop_bytes, hop_codec, hops_codec, key_codec, kinds_codec}
use Rattle.tw_chain.specs.Proofs.{link_body, precedence_body, proof_codec, proof_layout, tail_codec, thread_body}
use Rattle.tw_chain.proofs.PieceSizes.{event-sizes, opening-sizes}
use Rattle.tw_chain.proofs.ProofCodec.{proof-lawful}
use Rattle.tw_plain.specs.Plain.{IsReport, IsSeen}
use Rattle.tw_plain.proofs.EachThread.{OfCheck, OfHop, OfProof, each-of}
use Rattle.tw_plain.proofs.PlainReports.{turned}
use Rattle.tw_plain.proofs.ReportLines.{IsReadableHop, IsReadableThread}

-- ---- an event

index-small : (least step : ℕ) (o : Opening) (e : EventPart) → (opening_codec least step).Fits o → (event_part_codec o.count).Fits e
    → e.index < 2 ^ 64
unfolding event_part_codec seen pair number_codec
index-small least step o e opening event = let few = opening-few least step o opening in omega (arith, few, event.0.1)

seen-is : (at : Part) (e : EventPart) (least : ℕ) → IsName at.service → at.step ≤ LAST_STEP → (opening_codec least at.step).Fits at.opening
    → (event_part_codec at.opening.count).Fits e → IsSeen (seen_at at e)
seen-is at e least name small opening event = (
  (name, omega (arith, small)),
  index-small least at.step at.opening e opening event,
  (event-sizes at.opening.count e event).0,
  (opening-sizes least at.step at.opening opening).time,
)

existence-is : (p : ExistenceProof) → existence_body.Fits p → IsSeen (seen_at p.at p.event)
unfolding existence_body part_codec pair seen name_codec number_codec
existence-is p fits = seen-is p.at p.event 1 fits.0.0 fits.0.1.0.1 fits.0.1.1.1.1 fits.1

-- ---- an entry

entry-is : (e : Entry) → entry_codec.Fits e → IsReadableThread e.thread × (e.archived < 2 ^ 64)
unfolding entry_codec thread_codec seen pair name_codec number_codec bytes_codec
entry-is e fits = (((fits.0.0, omega (arith, fits.0.1.0.1)), fits.0.1.1.1), omega (arith, fits.1.1))

-- ---- hops

hop-entry : (more : ℕ) (hop : HopPart) → (hop_codec more).Fits hop → IsReadableThread hop.entry.thread × (hop.entry.archived < 2 ^ 64)
unfolding hop_codec pair seen
hop-entry more hop fits = entry-is hop.entry fits.0

abbrev HasReadableEntry : HopPart → Type 0
HasReadableEntry hop = IsReadableThread hop.entry.thread × (hop.entry.archived < 2 ^ 64)

hops-entries : (hops : List HopPart) (fs : List ℕ) → EachFits hop_bytes hop_codec fs hops → Each HasReadableEntry hops
hops-entries [] fs fits = tt
hops-entries (hop ∷ hops) [] fits = cc
hops-entries (hop ∷ hops) (f ∷ fs) fits = (hop-entry f hop fits.0, hops-entries hops fs fits.1)

hops-are : (by_ : List ℕ) (hops : List HopPart) → IsName by_ → Each HasReadableEntry hops → Each IsReadableHop (hops_to by_ hops)
hops-are by_ [] name all = tt
hops-are by_ (hop ∷ hops) name all =
    Each-append IsReadableHop (hops_to hop.entry.thread.from hops) (hop_from by_ hop ∷ [])
    (hops-are hop.entry.thread.from hops all.0.0.0.0 all.1) ((all.0.0.0, (name, all.0.1)), tt)

last-name : (t : Thread) (hops : List HopPart) → IsName t.from → Each HasReadableEntry hops → IsName (last_hop_thread t hops).from
last-name t [] name all = name
last-name t (hop ∷ hops) name all = last-name hop.entry.thread hops all.0.0.0.0 all.1

-- ---- what is carried

abbrev IsAny : (service : List ℕ) → Type 0
IsAny service = Unit {0}

carried-one : (c : Check) → OfCheck IsAny IsReadableThread c → Each IsReadableThread (carried_by c)
carried-one (CarriesThread t) is = (is, tt)
carried-one _ is = tt

carried-each : (cs : List Check) → Each (OfCheck IsAny IsReadableThread) cs → Each IsReadableThread (flat_map carried_by cs)
carried-each [] all = tt
carried-each (c ∷ cs) all = Each-append IsReadableThread (carried_by c) (flat_map carried_by cs) (carried-one c all.0) (carried-each cs all.1)

carried-are : (p : Proof) → OfProof IsAny IsReadableThread p → Each IsReadableThread (reverse (carried p))
carried-are p of = turned IsReadableThread (carried p) (carried-each (checks p) (each-of IsAny IsReadableThread p of))

-- ---- each kind

module _ (p : PrecedenceProof) (fits : precedence_body.Fits p) where
  entries : Each HasReadableEntry p.hops
  unfolding precedence_body hops_codec behind_codec by_kind pair seen each
  entries = hops-entries p.hops (following (length p.hops)) fits.1.1.1.1.0

  head-name : IsName p.head.service
  unfolding precedence_body hops_codec part_codec by_kind pair seen name_codec
  head-name = fits.1.0.0

  first-seen : IsSeen (seen_at (tail_at (end_of_order p) p.tail) p.tail.event)
  unfolding precedence_body hops_codec behind_codec tail_codec by_kind pair seen number_codec
  first-seen =
      let tail = fits.1.1.1.1.1 in
      seen-is (tail_at (end_of_order p) p.tail) p.tail.event 1 (last-name (start_of p) p.hops head-name entries) tail.0.1 tail.1.1.0 tail.1.1.1

  second-seen : IsSeen (seen_at p.head p.event)
  unfolding precedence_body hops_codec part_codec by_kind pair seen number_codec
  second-seen = seen-is p.head p.event 1 head-name fits.1.0.1.0.1 fits.1.0.1.1.1.1 fits.1.1.0

  precedes-is : IsReport (report_of (Precedes p))
  precedes-is = record {
    claim = (first-seen, second-seen);
    hops = hops-are p.head.service p.hops head-name entries;
    carried = carried-are (Precedes p) (tt, Each-map HasReadableEntry (OfHop IsAny IsReadableThread) p.hops (λ h is. (tt, is.0)) entries);
  }

archived-is : (p : ThreadProof) → thread_body.Fits p → IsReport (report_of (Archived p))
unfolding thread_body part_codec pair seen name_codec number_codec
archived-is p fits =
    let entry = entry-is p.entry fits.1.0 in
    record { claim = ((fits.0.0, omega (arith, fits.0.1.0.1)), entry.0.0, entry.0.1, entry.1); hops = tt; carried = tt }

absent-is : (p : AbsenceProof) → absence_body.Fits p → IsReport (report_of (Absent p))
unfolding absence_body key_codec part_codec pair seen name_codec number_codec
absent-is p fits =
    record { claim = ((fits.0.0, omega (arith, fits.0.1.0.1)), (fits.1.0.0, omega (arith, fits.1.0.1.1))); hops = tt; carried = tt }

linked-is : (p : LinkProof) → link_body.Fits p → IsReport (report_of (Linked p))
unfolding link_body pair seen name_codec number_codec bytes_codec
linked-is p fits =
    record { claim = ((fits.0, omega (arith, fits.1.0.1)), omega (arith, fits.1.1.0.1), fits.1.1.1.0.1); hops = tt; carried = tt }

fits-is : (p : Proof) → proof_codec.Fits p → IsReport (report_of p)
unfolding proof_codec kinds_codec behind by_kind variant
fits-is (Exists p) fits = record { claim = existence-is p fits.1.1; hops = tt; carried = tt }
fits-is (Precedes p) fits = precedes-is p fits.1.1
fits-is (Archived p) fits = archived-is p fits.1.1
fits-is (Absent p) fits = absent-is p fits.1.1
fits-is (Linked p) fits = linked-is p fits.1.1

pub readable : (bytes : List ℕ) (p : Proof) → Spells proof_layout bytes p → IsReport (report_of p)
readable bytes p spelled = fits-is p (spelled-fits proof_codec proof-lawful bytes p spelled)
