-- The codecs of evidence and of its proofs are lawful, and what a value that fits them has.
use Rattle.std.proofs.Common.{◌≡◌, ℕ, ◌≤◌, List, refl, sym, ◌∙◌, subst, lit≤}
use Rattle.tw_base.specs.declared.kinds.limits.TheConstants.{LAST_STEP}
use Rattle.tw_base.specs.format.Codecs.{Codec, behind, by_kind, digest_codec, number_codec, pair, seen, variant}
use Rattle.tw_base.specs.format.Fields.{number_bytes}
use Rattle.tw_base.specs.format.Formats.{Spells}
use Rattle.tw_base.specs.history.EntryCodec.{entry_codec}
use Rattle.tw_base.proofs.lemmas.format.CodecLaws.{Lawful, lawful, spelled-fits, written-as}
use Rattle.tw_base.proofs.lemmas.history.EntryCodecLaws.{entry-range}
use Rattle.tw_skipproof.specs.Codecs.{part_codec, path_codec}
use Rattle.tw_skipproof.proofs.LawfulCodecs.{path-lawful}
use Rattle.tw_skipproof.proofs.Shapes.{part-shape}
use Rattle.tw_treeproof.specs.Codecs.{present_codec}
use Rattle.tw_chain.specs.declared.proof.LinkProof.{LinkProof}
use Rattle.tw_chain.specs.declared.proof.Proof.TheVariants.{Archived, Linked}
use Rattle.tw_chain.specs.declared.proof.ThreadProof.{ThreadProof}
use Rattle.tw_chain.specs.Proofs.{kinds_codec, proof_codec, proof_layout, thread_body}
use Rattle.tw_chain.proofs.ProofCodec.{link-lawful, proof-lawful, thread-lawful}
use Rattle.tw_evidence.specs.declared.evidence.Evidence.{Evidence}
use Rattle.tw_evidence.specs.Evidence.{evidence_codec, link_proof_codec, link_proof_layout, thread_proof_codec}
use Rattle.tw_evidence.specs.Evidence.{thread_proof_layout}

pub thread_proof-lawful : Lawful thread_proof_codec
unfolding thread_proof_codec
thread_proof-lawful = search (lawful, thread-lawful)

pub link_proof-lawful : Lawful link_proof_codec
unfolding link_proof_codec
link_proof-lawful = search (lawful, link-lawful)

pub evidence-lawful : Lawful evidence_codec
unfolding evidence_codec
evidence-lawful = search (lawful, thread_proof-lawful, path-lawful) depth 20

-- ---- the fields

pub record ThreadFits (t : ThreadProof) : Type 0 where
  pub at : (part_codec 0).Fits t.at
  pub entry : entry_codec.Fits t.entry
  pub shown : present_codec.Fits t.shown

pub thread-parts : (t : ThreadProof) → thread_proof_codec.Fits t → ThreadFits t
unfolding thread_proof_codec thread_body behind seen pair
thread-parts t fits = record { at = fits.0; entry = fits.1.0; shown = fits.1.1 }

-- the steps that checking a proof climbs from are in the format's range
pub record StepsInRange (t : ThreadProof) : Type 0 where
  pub step : t.at.step ≤ LAST_STEP
  pub top : t.at.top ≤ LAST_STEP
  pub thread : t.entry.thread.step ≤ LAST_STEP

pub steps-in-range : (t : ThreadProof) → thread_proof_codec.Fits t → StepsInRange t
steps-in-range t fits =
    let parts = thread-parts t fits in
    let at = (part-shape 0 t.at parts.at).1 in
    record { step = at.step; top = at.top; thread = (entry-range t.entry parts.entry).0.1 }

pub record EvidenceFits (e : Evidence) : Type 0 where
  pub first : thread_proof_codec.Fits e.first
  pub second : thread_proof_codec.Fits e.second
  pub bottom : digest_codec.Fits e.bottom
  pub link : (path_codec e.second.entry.thread.step e.first.entry.thread.step).Fits e.link.links

pub evidence-parts : (e : Evidence) → evidence_codec.Fits e → EvidenceFits e
unfolding evidence_codec behind seen pair
evidence-parts e fits = record { first = fits.0; second = fits.1.0; bottom = fits.1.1.0; link = fits.1.1.1 }

pub evidence-of_parts : (e : Evidence) → EvidenceFits e → evidence_codec.Fits e
unfolding evidence_codec behind seen pair
evidence-of_parts e parts = (parts.first, (parts.second, (parts.bottom, parts.link)))

-- ---- a proof that stands by itself is a proof of its kind

-- a value is written by one codec as another value is by another one, and fits the one where that fits the other
record IsAs {X Y : Type 0} (c : Codec X) (d : Codec Y) (x : X) (y : Y) : Type 0 where
  written : c.write x ≡ d.write y
  to : c.Fits x → d.Fits y
  from : d.Fits y → c.Fits x

-- so what spells the one spells the other
spelled-as : {X Y : Type 0} (c : Codec X) (d : Codec Y) → Lawful c → Lawful d → (x : X) (y : Y)
    → c.write x ≡ d.write y → (c.Fits x → d.Fits y) → (bytes : List ℕ) → Spells c.format bytes x
    → Spells d.format bytes y
spelled-as c d l m x y written fits bytes s =
    subst (λ w. Spells d.format w y) (sym (written-as c l bytes x s ∙ written))
    (m.spells y (fits (spelled-fits c l bytes x s)))

thread-as : (t : ThreadProof) → IsAs thread_proof_codec proof_codec t (Archived t)
unfolding proof_codec kinds_codec thread_proof_codec behind by_kind variant number_codec number_bytes
thread-as t = record { written = refl; to = λ fits. ((lit≤ tt, lit≤ tt), (refl, fits)); from = λ fits. fits.1.1 }

link-as : (l : LinkProof) → IsAs link_proof_codec proof_codec l (Linked l)
unfolding proof_codec kinds_codec link_proof_codec behind by_kind variant number_codec number_bytes
link-as l = record { written = refl; to = λ fits. ((lit≤ tt, lit≤ tt), (refl, fits)); from = λ fits. fits.1.1 }

-- what is written of it is a proof
pub thread-spells : (t : ThreadProof) → thread_proof_codec.Fits t → Spells proof_layout (proof_codec.write (Archived t))
    (Archived t)
thread-spells t fits = proof-lawful.spells (Archived t) ((thread-as t).to fits)

pub thread-is-proof : (bytes : List ℕ) (t : ThreadProof) → Spells thread_proof_layout bytes t
    → Spells proof_layout bytes (Archived t)
thread-is-proof bytes t =
    let is = thread-as t in spelled-as _ _ thread_proof-lawful proof-lawful t (Archived t) is.written is.to bytes

pub proof-is-thread : (bytes : List ℕ) (t : ThreadProof) → Spells proof_layout bytes (Archived t)
    → Spells thread_proof_layout bytes t
proof-is-thread bytes t =
    let is = thread-as t in
    spelled-as _ _ proof-lawful thread_proof-lawful (Archived t) t (sym is.written) is.from bytes

pub link-is-proof : (bytes : List ℕ) (l : LinkProof) → Spells link_proof_layout bytes l → Spells proof_layout bytes
    (Linked l)
link-is-proof bytes l =
    let is = link-as l in spelled-as _ _ link_proof-lawful proof-lawful l (Linked l) is.written is.to bytes

pub proof-is-link : (bytes : List ℕ) (l : LinkProof) → Spells proof_layout bytes (Linked l) → Spells link_proof_layout
    bytes l
proof-is-link bytes l =
    let is = link-as l in
    spelled-as _ _ proof-lawful link_proof-lawful (Linked l) l (sym is.written) is.from bytes
