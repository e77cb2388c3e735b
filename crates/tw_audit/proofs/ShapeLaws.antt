-- Where bytes spell a proof, its pieces have the shapes by which each text can be made.
use Rattle.std.proofs.Common.{◌≡◌, ◌≢◌, ℕ, suc, ◌<◌, ◌≤◌, List, [], ◌∷◌, ◌++◌, length, Bool, true, false, refl}
use Rattle.std.proofs.Common.{arith}
use Rattle.std.specs.Prelude.{Option, Some, None, IfSome, ◌==◌, if◌then◌else◌}
use Rattle.std.proofs.lemmas.Bool.{eqb-true}
use Rattle.tw_base.specs.declared.events.event_part.EventPart.{EventPart}
use Rattle.tw_base.specs.declared.history.thread.Thread.{Thread}
use Rattle.tw_base.specs.declared.history.tree_proof.Ask.TheVariants as ask
use Rattle.tw_base.specs.declared.kinds.limits.TheConstants.{LAST_STEP, MOST_EVENTS}
use Rattle.tw_base.specs.format.Codecs.{by_kind, each, labels_codec, many}
use Rattle.tw_base.specs.format.Codecs.{number_codec, pair, seen, sized_codec}
use Rattle.tw_base.specs.format.Codecs.{written}
use Rattle.tw_base.specs.format.Formats.{Spells}
use Rattle.tw_base.specs.kinds.Levels.{top_level}
use Rattle.tw_base.specs.kinds.Lists.{Each}
use Rattle.tw_base.proofs.lemmas.format.CodecLaws.{spelled-fits}
use Rattle.tw_base.proofs.lemmas.kinds.Levels.{top_level-below}
use Rattle.tw_base.proofs.lemmas.kinds.ListLemmas.{Each-parts}
use Rattle.tw_skipproof.specs.declared.existence.Part.{Part}
use Rattle.tw_skipproof.specs.declared.opening.Opening.{Opening}
use Rattle.tw_skipproof.specs.declared.path.Link.{Link}
use Rattle.tw_skipproof.specs.Codecs.{count_codec, event_part_codec, opening_codec}
use Rattle.tw_skipproof.specs.Codecs.{path_codec}
use Rattle.tw_skipproof.proofs.Shapes.{path-shape}
use Rattle.tw_chain.specs.declared.proof.HopPart.{HopPart}
use Rattle.tw_chain.specs.declared.proof.PrecedenceProof.{PrecedenceProof}
use Rattle.tw_chain.specs.declared.proof.Proof.{Proof}
use Rattle.tw_chain.specs.declared.proof.Proof.TheVariants.{Precedes}
use Rattle.tw_chain.specs.Checks.{Check, bind_checks, bind_of, checks, end_of_order, head_checks, hop_checks}
use Rattle.tw_chain.specs.Checks.{hops_checks, link_checks, opening_checks, opening_root, start_of}
use Rattle.tw_chain.specs.Checks.{tail_at, tail_checks, under_anchor}
use Rattle.tw_chain.specs.Checks.Check.{CarriesThread, EventOf}
use Rattle.tw_chain.specs.Proofs.{proof_codec, proof_layout}
use Rattle.tw_chain.proofs.EachCheck.{OfEachSort, all-each}
use Rattle.tw_chain.proofs.ProofCodec.{proof-lawful}
use Rattle.tw_audit.specs.Shapes.{HasLinks, IsCheckShaped, IsEventShaped, IsHopShaped, IsPartAuditable}

path-shaped : (links : List Link) (from to : ℕ) → from ≤ LAST_STEP → (path_codec from to).Fits links
    → HasLinks links from to
unfolding path_codec each
path-shaped links from to small fits = record { shape = path-shape links from to fits; from_within = small }

labels-few : (least step : ℕ) (o : Opening) → step ≤ LAST_STEP → (opening_codec least step).Fits o
    → length o.others < 40
unfolding opening_codec pair seen labels_codec many
labels-few least step o small fits =
    let top : top_level step < 40 = top_level-below step (omega (arith, small)) in
    omega (arith, top, fits.1.1.1.1.0)

count-within : (least step : ℕ) (o : Opening) → (opening_codec least step).Fits o → (least ≤ o.count)
    × (o.count ≤ MOST_EVENTS)
unfolding opening_codec count_codec written by_kind pair seen number_codec
count-within least step o fits = fits.1.1.0.1.0

event-shaped : (count : ℕ) (e : EventPart) → 1 ≤ count → count ≤ MOST_EVENTS → (event_part_codec count).Fits e
    → IsEventShaped count e
unfolding event_part_codec pair seen labels_codec many sized_codec by_kind number_codec
event-shaped count e some few fits =
    record { inside = omega (arith, fits.0.1, some); few = few; small = fits.1.0.0.1; path = fits.1.1.0 }

-- an event under an opening that has one or more
under-opening : (step : ℕ) (o : Opening) (e : EventPart) → (opening_codec 1 step).Fits o
    → (event_part_codec o.count).Fits e → IsEventShaped o.count e
under-opening step o e opening fits = let within = count-within 1 step o opening in event-shaped o.count e within.0
    within.1 fits

part-shaped : (least : ℕ) (at : Part) → at.top ≤ LAST_STEP → at.step ≤ LAST_STEP → (path_codec at.top at.step).Fits
    at.path.links → (opening_codec least at.step).Fits at.opening → IsPartAuditable at
part-shaped least at top step path opening =
    record {
      labels = labels-few least at.step at.opening step opening;
      links = path-shaped at.path.links at.top at.step top path;
    }

sorts-shaped : OfEachSort IsCheckShaped
sorts-shaped = record {
  plain = (λ lower upper. tt, λ key. tt, λ t. tt);
  path = λ least part at upper top step path opening. part-shaped least at top step path opening;
  link = λ part l top is fits. path-shaped l.path.links l.top l.step top fits;
  opening = λ part t o small fits. labels-few 0 t.step o small fits;
  event = λ part step o e opening fits. under-opening step o e opening fits;
  entry = λ part root e shown fit fits. tt;
  free = λ part root key shown fits. tt;
}

pub proof-shaped : (bytes : List ℕ) (p : Proof) → Spells proof_layout bytes p → Each IsCheckShaped (checks p)
proof-shaped bytes p spells = all-each IsCheckShaped sorts-shaped p (spelled-fits proof_codec proof-lawful bytes p
    spells)

-- ---- the shapes of a hop, and of a proof from event to event

opened-few : (part : ℕ) (t : Thread) (o : Option Opening) → Each IsCheckShaped (opening_checks part t o)
    → IfSome o (λ (opening : Opening). length opening.others < 40)
opened-few part t None shaped = tt
opened-few part t (Some o) shaped = shaped.1.0

bound-links : (part : ℕ) (hop : HopPart) → Each IsCheckShaped (bind_checks part hop) → hop.bind ≢ 0
    → HasLinks hop.link.links hop.bind hop.entry.thread.step
bound-links part hop shaped bound = by (hop.bind == 0) refl shaped
  where
    by : (carried : Bool) → (hop.bind == 0) ≡ carried
        → Each IsCheckShaped (if carried then CarriesThread hop.entry.thread ∷ [] else link_checks part (bind_of hop))
        → HasLinks hop.link.links hop.bind hop.entry.thread.step
    by true none shaped = absurd (bound (eqb-true hop.bind 0 none))
    by false some shaped = shaped.1.1.0

hop-is : (part step : ℕ) (root : List ℕ) (hop : HopPart) → Each IsCheckShaped (hop_checks part step root hop)
    → IsHopShaped hop
hop-is part step root hop shaped =
    let parts = Each-parts IsCheckShaped (bind_checks part hop) (opening_checks part hop.entry.thread hop.opening)
    shaped.1.1 in
    record { bound = bound-links part hop parts.0; opened = opened-few part hop.entry.thread hop.opening parts.1 }

hops-are : (hops : List HopPart) (part step : ℕ) (root : List ℕ) → Each IsCheckShaped (hops_checks part step root hops)
    → Each IsHopShaped hops
hops-are [] part step root shaped = tt
hops-are (hop ∷ hops) part step root shaped =
    let parts = Each-parts IsCheckShaped (hop_checks part step root hop) (hops_checks (suc part) hop.entry.thread.step
    (opening_root hop.opening) hops) shaped in (
      hop-is part step root hop parts.0,
      hops-are hops (suc part) hop.entry.thread.step (opening_root hop.opening) parts.1,
    )

pub record ChainShapes (p : PrecedenceProof) : Type 0 where
  pub head : IsPartAuditable p.head
  pub second : IsEventShaped p.head.opening.count p.event
  pub before : IfSome p.before (λ (o : Opening). length o.others < 40)
  pub hops : Each IsHopShaped p.hops
  pub tail : IsPartAuditable (tail_at (end_of_order p) p.tail)
  pub first : IsEventShaped p.tail.opening.count p.tail.event

pub chain-shapes : (p : PrecedenceProof) → Each IsCheckShaped (checks (Precedes p)) → ChainShapes p
chain-shapes p shaped =
    let hops : List Check = hops_checks 1 (start_of p).step (opening_root p.before) p.hops in
    let ends : List Check = tail_checks (suc (length p.hops)) (end_of_order p) p.tail in
    let parts = Each-parts IsCheckShaped (head_checks p) (hops ++ ends) shaped in
    let head = Each-parts IsCheckShaped (under_anchor 0 p.head) (EventOf 0 p.head.opening p.event ∷ opening_checks 0
    (start_of p) p.before) parts.0 in
    let rest = Each-parts IsCheckShaped hops ends parts.1 in
    record {
      head = head.0.1.1.0;
      second = head.1.0;
      before = opened-few 0 (start_of p) p.before head.1.1;
      hops = hops-are p.hops 1 (start_of p).step (opening_root p.before) rest.0;
      tail = rest.1.1.0;
      first = rest.1.1.1.0;
    }
