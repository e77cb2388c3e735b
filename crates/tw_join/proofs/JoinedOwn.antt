-- The bytes that are written of what the services' own parts join to spell it, and are accepted.
use Rattle.std.proofs.Common.{◌≡◌, ℕ, suc, zero, ◌<◌, List, [], ◌∷◌, length, sym, subst, arith}
use Rattle.std.specs.Prelude.{Option, Some, None, IfSome, Ok}
use Rattle.tw_base.specs.declared.history.thread.Key.{Key}
use Rattle.tw_base.specs.format.Formats.{Spells}
use Rattle.tw_base.specs.history.Family.{AllSound}
use Rattle.tw_base.specs.history.History.{History, events_at}
use Rattle.tw_base.specs.kinds.Bytes.{AreBytes}
use Rattle.tw_base.specs.kinds.Lists.{Each}
use Rattle.tw_base.proofs.lemmas.format.CodecLaws.{spelled-fits}
use Rattle.tw_base.proofs.lemmas.history.Families.{sound_of}
use Rattle.tw_base.proofs.lemmas.history.Trees.{entry_at-parts, received-sound}
use Rattle.tw_skipproof.specs.declared.existence.ExistenceProof.{ExistenceProof}
use Rattle.tw_chain.specs.declared.proof.LinkProof.{LinkProof}
use Rattle.tw_chain.specs.declared.proof.PrecedenceProof.{PrecedenceProof}
use Rattle.tw_chain.specs.declared.proof.Proof.{Proof}
use Rattle.tw_chain.specs.declared.proof.Proof.TheVariants.{Exists, Precedes, Archived, Linked}
use Rattle.tw_chain.specs.declared.proof.ThreadProof.{ThreadProof}
use Rattle.tw_chain.specs.OwnProofs.{HasFewNodes}
use Rattle.tw_chain.specs.Proofs.{proof_bytes, proof_codec, proof_layout}
use Rattle.tw_chain.proofs.Completeness.{from_1_of_entry}
use Rattle.tw_chain.proofs.OwnSpelling.{own-spelled}
use Rattle.tw_chain.proofs.ProofCodec.{proof-lawful}
use Rattle.tw_join.specs.Joining.{Joint, joined_proof, wanted}
use Rattle.tw_join.specs.Joining.Taken.{Nothing}
use Rattle.tw_join.specs.OwnParts.{IsMade, JoinedBytesAreAccepted}
use Rattle.tw_join.proofs.JoinedAccepted.{each-both, joined-accepted}
use Rattle.tw_join.proofs.JoinedParts.{JointFits, JointsFit, LinkFits, WholeFits, joined-fits}
use Rattle.tw_join.proofs.JoinedSpelling.{FitsPart, whole-fits}

-- only a step from 1 on has events
from_1_of_event : (h : History) (step index : ℕ) → index < length (events_at h step) → 0 < step
from_1_of_event h zero index inside = absurd (omega (arith, inside))
from_1_of_event h (suc i) index inside = omega arith

module _ (dig : List ℕ → List ℕ) (size : (text : List ℕ) → length (dig text) ≡ 32) (are : (text : List ℕ)
    → AreBytes (dig text))
    (family : List History) (sound : AllSound family) where
  -- a service made the part, and few nodes stand above the place of a tree proof in it
  abbrev ShortPart : Proof → Type 0
  ShortPart part = IsMade dig family part × HasFewNodes part

  -- it has a spelling, where its top is from 1 on
  part-fits : (part : Proof) (own : ShortPart part) → 0 < own.0.top → FitsPart part
  part-fits part own some =
      let made = own.0 in
      spelled-fits proof_codec proof-lawful (proof_bytes part) part
      (own-spelled dig made.history made.step made.top size are (sound_of family made.history.name made.history sound
      made.has) made.order made.within part some own.1 made.own)

  event-fits : (p : ExistenceProof) → ShortPart (Exists p) → FitsPart (Exists p)
  event-fits p own =
      let made = own.0 in
      part-fits (Exists p) own
      (omega (arith, made.order, from_1_of_event made.history made.step made.own.0 made.own.1.inside))

  thread-fits : (t : ThreadProof) → ShortPart (Archived t) → FitsPart (Archived t)
  thread-fits t own =
      let made = own.0 in
      part-fits (Archived t) own
      (omega (
        arith,
        made.order,
        made.own.before,
        from_1_of_entry made.history t.entry.archived t.entry made.own.received,
      ))

  -- a service received threads of steps from 1 on alone
  thread-from_1 : (t : ThreadProof) → ShortPart (Archived t) → 0 < t.entry.thread.step
  thread-from_1 t own =
      let made = own.0 in
      let parts = entry_at-parts made.history t.entry.archived t.entry made.own.received in
      (received-sound made.history (sound_of family made.history.name made.history sound made.has) t.entry.archived
      t.entry.thread parts.1).0.1

  -- ---- all parts

  link-fits : (t : ThreadProof) → ShortPart (Archived t) → (link : Option LinkProof)
      → IfSome link (LinkFits ShortPart t.entry.thread) → IfSome link (LinkFits FitsPart t.entry.thread)
  link-fits t own None fits = tt
  link-fits t own (Some l) fits =
      let made = fits.part.0 in record {
        part = part-fits (Linked l) fits.part
            (omega (arith, made.order, made.own.at_step, fits.step, thread-from_1 t own));
        from = fits.from;
        step = fits.step;
        auth = fits.auth;
      }

  joint-fits : (key : Key) (joint : Joint) → JointFits ShortPart key joint → JointFits FitsPart key joint
  joint-fits key joint fits =
      record {
        part = thread-fits joint.thread fits.part;
        service = fits.service;
        step = fits.step;
        link = link-fits joint.thread fits.part joint.link fits.link;
      }

  joints-fit : (second : ExistenceProof) (joints : List Joint) → JointsFit ShortPart second joints
      → JointsFit FitsPart second joints
  joints-fit second [] fits = tt
  joints-fit second (joint ∷ joints) fits =
      (joint-fits (wanted second joints) joint fits.0, fits.1, joints-fit second joints fits.2)

  all-fit : (second : ExistenceProof) (joints : List Joint) (first : ExistenceProof) → WholeFits ShortPart second joints
      first → WholeFits FitsPart second joints first
  all-fit second joints first fits = record {
    second_part = event-fits second fits.second_part;
    joints_fit = joints-fit second joints fits.joints_fit;
    first_part = event-fits first fits.first_part;
    service = fits.service;
    top = fits.top;
  }

  own-joined-spelled : (parts : List Proof) (p : PrecedenceProof) → Each (IsMade dig family) parts
      → Each HasFewNodes parts → joined_proof Nothing 1 parts ≡ Ok p
      → Spells proof_layout (proof_bytes (Precedes p)) (Precedes p)
  own-joined-spelled parts p made few is =
      let had = joined-fits ShortPart parts p (each-both (IsMade dig family) HasFewNodes parts made few) is in
      proof-lawful.spells (Precedes p) (subst (λ (q : PrecedenceProof). FitsPart (Precedes q)) (sym had.is)
      (whole-fits had.second had.joints had.first (all-fit had.second had.joints had.first had.fits)))

pub joined-accepts : (dig : List ℕ → List ℕ) (size : (text : List ℕ) → length (dig text) ≡ 32) (are : (text : List ℕ)
    → AreBytes (dig text)) → JoinedBytesAreAccepted dig
joined-accepts dig size are family parts p anchors sound made few stand is anchored =
    let spells = own-joined-spelled dig size are family sound parts p made few is in
    (spells, (Precedes p, spells, joined-accepted dig family parts p anchors sound made stand is anchored))
