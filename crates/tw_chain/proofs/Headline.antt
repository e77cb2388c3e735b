-- What an accepted proof of each kind says of the histories of a family.
use Rattle.std.proofs.Common.{◌≡◌, ℕ, suc, List, [], ◌∷◌, ◌++◌, length, Bool, ap, sym, ◌∙◌, subst, arith, inl}
use Rattle.tw_base.specs.declared.history.thread.Thread.{Thread}
use Rattle.tw_base.specs.declared.history.tree_proof.Ask.TheVariants as ask
use Rattle.tw_base.specs.format.Codecs.{EachFits, behind, by_kind, bytes_codec, each, pair, seen, variant}
use Rattle.tw_base.specs.kinds.Bytes.{AreBytes}
use Rattle.tw_base.specs.kinds.Digests.{AllDigests}
use Rattle.tw_base.specs.history.Facts.{Facts, Precedence, SeenStands, TimesRise, WasNotReceived, WasReceived}
use Rattle.tw_base.specs.history.Family.{HasThread, family_texts}
use Rattle.tw_base.specs.format.Formats.{Spells}
use Rattle.tw_base.proofs.lemmas.kinds.Clashes.{Among-right, and_then}
use Rattle.tw_base.proofs.lemmas.format.CodecLaws.{spelled-fits, unambiguous}
use Rattle.tw_base.proofs.lemmas.history.Families.{sound_of}
use Rattle.tw_skipproof.specs.declared.existence.ExistenceProof.{ExistenceProof}
use Rattle.tw_skipproof.specs.declared.existence.Part.{Part}
use Rattle.tw_skipproof.specs.Codecs.{existence_body}
use Rattle.tw_chain.specs.declared.proof.AbsenceProof.{AbsenceProof}
use Rattle.tw_chain.specs.declared.proof.LinkProof.{LinkProof}
use Rattle.tw_chain.specs.declared.proof.PrecedenceProof.{PrecedenceProof}
use Rattle.tw_chain.specs.declared.proof.Proof.{Proof}
use Rattle.tw_chain.specs.declared.proof.Proof.TheVariants.{Exists, Precedes, Archived, Absent, Linked}
use Rattle.tw_chain.specs.declared.proof.ThreadProof.{ThreadProof}
use Rattle.tw_chain.specs.declared.verdict.Verdict.{Verdict}
use Rattle.tw_chain.specs.declared.verdict.Verdict.TheVariants.{Yes, No}
use Rattle.tw_chain.specs.Accepting.{Accepts, IsAccepted, claim_of, hops_of, proof_texts, report_of, seen_at}
use Rattle.tw_chain.specs.Binding.{BindsHistories, BindsReport}
use Rattle.tw_chain.specs.Checks.{Check, checks, end_of_order, head_checks, hops_checks, opening_checks, opening_root}
use Rattle.tw_chain.specs.Checks.{start_of, tail_at, tail_checks, under_anchor}
use Rattle.tw_chain.specs.Checks.Check.{AnswerOf, EventOf, InOrder}
use Rattle.tw_chain.specs.Proofs.{absence_body, behind_codec, following, hop_bytes, hop_codec, hops_codec, kinds_codec}
use Rattle.tw_chain.specs.Proofs.{link_body, precedence_body, proof_codec, proof_layout, tail_codec, thread_body}
use Rattle.tw_chain.specs.Reasons.{IsVerdict}
use Rattle.tw_chain.proofs.ArchiveAnswers.{has-received, lacks-received}
use Rattle.tw_chain.proofs.ChainBinds.{FitsOpening, chain-binds}
use Rattle.tw_chain.proofs.CheckBinds.{AreChecked, Opened, OrTheyClash, Setting, anchored-part, answer-step}
use Rattle.tw_chain.proofs.CheckBinds.{each-checked, event-step, link-step, part-step, parted, setting_of}
use Rattle.tw_chain.proofs.PieceSizes.{PartSizes, event-sizes, gap-sizes, opening-sizes, part-sizes, path-sizes}
use Rattle.tw_chain.proofs.PieceSizes.{present-sizes}
use Rattle.tw_chain.proofs.ProofCodec.{proof-lawful}
use Rattle.tw_chain.proofs.TimesRise.{times-rise}

-- the fields of a proof of kind 2 as its checks take them
record ChainFits (p : PrecedenceProof) : Type 0 where
  head : PartSizes p.head
  second : AreBytes p.event.event × AllDigests p.event.path
  before : FitsOpening (length p.hops) (start_of p).step p.before
  hops : EachFits hop_bytes hop_codec (following (length p.hops)) p.hops
  tail : PartSizes (tail_at (end_of_order p) p.tail)
  first : AreBytes p.tail.event.event × AllDigests p.tail.event.path

chain-fits : (p : PrecedenceProof) → precedence_body.Fits p → ChainFits p
unfolding precedence_body hops_codec behind_codec tail_codec by_kind pair seen each
chain-fits p fits =
    let behind = fits.1.1.1 in
    let tail = behind.1.1 in
    record {
      head = part-sizes 1 p.head fits.1.0;
      second = event-sizes p.head.opening.count p.event fits.1.1.0;
      before = behind.0;
      hops = behind.1.0;
      tail = record {
        links = path-sizes _ p.tail.step p.tail.path.links tail.1.0;
        opening = opening-sizes 1 p.tail.step p.tail.opening tail.1.1.0;
      };
      first = event-sizes p.tail.opening.count p.tail.event tail.1.1.1;
    }

module _ (s : Setting) where
  abbrev OpenedPart : Part → Type 0
  OpenedPart at = Opened s at.service at.step at.opening

  exists-binds : (p : ExistenceProof) → existence_body.Fits p → AreChecked s (checks (Exists p))
      → OrTheyClash s (SeenStands s.family (seen_at p.at p.event))
  unfolding existence_body pair seen
  exists-binds p fits checked =
      let parts = parted s (under_anchor 0 p.at) (EventOf 0 p.at.opening p.event ∷ []) checked in
      and_then s.dig s.texts _ _ (anchored-part s 0 p.at (part-sizes 1 p.at fits.0) parts.0)
      (λ opened. event-step s 0 p.at p.event (event-sizes p.at.opening.count p.event fits.1) opened parts.1.0)

  archived-binds : (p : ThreadProof) → thread_body.Fits p → AreChecked s (checks (Archived p))
      → OrTheyClash s (WasReceived s.family p.at.service p.at.step p.entry)
  unfolding thread_body pair seen
  archived-binds p fits checked =
      let at : Part = p.at in
      let shown : List Check = InOrder p.entry.archived at.step ∷ AnswerOf 0 at.opening.archive_root
      (ask.Present p.entry) p.shown ∷ [] in
      let parts = parted s (under_anchor 0 at) shown checked in
      and_then s.dig s.texts _ _ (anchored-part s 0 at (part-sizes 0 at fits.0) parts.0)
      (λ (opened : OpenedPart at). and_then s.dig s.texts _ _
      (answer-step s 0 at.service at.step at.opening (ask.Present p.entry) p.shown
      (present-sizes p.entry p.shown fits.1.0 fits.1.1) opened parts.1.1.0)
      (λ found. inl
      (record {
        history = opened.history;
        has = opened.has;
        received = has-received opened.history at.step p.entry found;
        order = parts.1.0.passes;
      })))

  absent-binds : (p : AbsenceProof) → absence_body.Fits p → AreChecked s (checks (Absent p))
      → OrTheyClash s (WasNotReceived s.family p.at.service p.at.step p.key)
  unfolding absence_body pair seen
  absent-binds p fits checked =
      let at : Part = p.at in
      let parts = parted s (under_anchor 0 at) (AnswerOf 0 at.opening.archive_root (ask.Absent p.key) p.shown ∷ [])
      checked in
      and_then s.dig s.texts _ _ (anchored-part s 0 at (part-sizes 0 at fits.0) parts.0)
      (λ (opened : OpenedPart at). and_then s.dig s.texts _ _
      (answer-step s 0 at.service at.step at.opening (ask.Absent p.key) p.shown (gap-sizes p.key p.shown fits.1.1)
      opened parts.1.0)
      (λ none. inl (record {
        history = opened.history;
        has = opened.has;
        none = lacks-received opened.history at.step (sound_of s.family at.service opened.history s.sound opened.has)
            opened.within p.key none;
      })))

  linked-binds : (p : LinkProof) → link_body.Fits p → AreChecked s (checks (Linked p))
      → OrTheyClash s (HasThread s.dig s.family (record { from = p.service; step = p.step; auth = p.auth }))
  unfolding link_body pair seen bytes_codec
  linked-binds p fits checked = link-step s 0 p fits.1.1.1.0.1 (path-sizes p.top p.step p.path.links fits.1.1.1.1)
      checked

  -- the first event, under the thread that the hops come to
  tail-binds : (p : PrecedenceProof) → ChainFits p → HasThread s.dig s.family (end_of_order p)
      → AreChecked s (tail_checks (suc (length p.hops)) (end_of_order p) p.tail)
      → OrTheyClash s (SeenStands s.family (seen_at (tail_at (end_of_order p) p.tail) p.tail.event))
  tail-binds p fits thread checked =
      let at : Part = tail_at (end_of_order p) p.tail in
      and_then s.dig s.texts _ _ (part-step s at (end_of_order p).auth fits.tail thread checked.0.passes
      checked.1.0.passes checked.1.0.within)
      (λ opened. event-step s (suc (length p.hops)) at p.tail.event fits.first opened checked.1.1.0)

  -- the step before the second event's, as that step's opening has it
  start-binds : (p : PrecedenceProof) → OpenedPart p.head → HasThread s.dig s.family (start_of p)
  start-binds p opened = (opened.history, opened.has, omega (arith, opened.within), opened.binds.prev)

  precedes-binds : (p : PrecedenceProof) → ChainFits p → AreChecked s (checks (Precedes p))
      → OrTheyClash s (Precedence s.dig s.family (hops_of (Precedes p)) (seen_at (tail_at (end_of_order p) p.tail)
      p.tail.event) (seen_at p.head p.event))
  precedes-binds p fits checked =
      let hops : List Check = hops_checks 1 (start_of p).step (opening_root p.before) p.hops in
      let tail : List Check = tail_checks (suc (length p.hops)) (end_of_order p) p.tail in
      let parts = parted s (head_checks p) (hops ++ tail) checked in
      let head = parted s (under_anchor 0 p.head) (EventOf 0 p.head.opening p.event ∷ opening_checks 0 (start_of p)
      p.before) parts.0 in
      let rest = parted s hops tail parts.1 in
      and_then s.dig s.texts _ _ (anchored-part s 0 p.head fits.head head.0)
      (λ (opened : OpenedPart p.head). and_then s.dig s.texts _ _ (event-step s 0 p.head p.event fits.second opened
      head.1.0)
      (λ second. and_then s.dig s.texts _ _
      (chain-binds s p.hops 0 1 (start_of p) p.before fits.hops fits.before (start-binds p opened) head.1.1 rest.0
      p.tail.step rest.1.0.passes)
      (λ chain. and_then s.dig s.texts _ _ (tail-binds p fits chain.0 rest.1)
      (λ first. inl (record { first_stands = first; second_stands = second; leads = chain.1 })))))

  claim-binds : (p : Proof) → proof_codec.Fits p → AreChecked s (checks p)
      → OrTheyClash s (Facts s.dig s.family (hops_of p) (claim_of p) × TimesRise (hops_of p) (claim_of p))
  unfolding proof_codec kinds_codec behind by_kind variant
  claim-binds (Exists p) fits checked = and_then s.dig s.texts _ _ (exists-binds p fits.1.1 checked)
      (λ fact. inl (fact, tt))
  claim-binds (Precedes p) fits checked =
      and_then s.dig s.texts _ _ (precedes-binds p (chain-fits p fits.1.1) checked)
      (λ fact. inl (
        fact,
        times-rise s.dig s.family s.sound (hops_of (Precedes p)) (seen_at (tail_at (end_of_order p) p.tail)
            p.tail.event) (seen_at p.head p.event) fact,
      ))
  claim-binds (Archived p) fits checked = and_then s.dig s.texts _ _ (archived-binds p fits.1.1 checked)
      (λ fact. inl (fact, tt))
  claim-binds (Absent p) fits checked = and_then s.dig s.texts _ _ (absent-binds p fits.1.1 checked)
      (λ fact. inl (fact, tt))
  claim-binds (Linked p) fits checked = and_then s.dig s.texts _ _ (linked-binds p fits.1.1 checked)
      (λ fact. inl (fact, tt))

module _ (dig : List ℕ → List ℕ) (size : (text : List ℕ) → length (dig text) ≡ 32) (are : (text : List ℕ)
    → AreBytes (dig text)) (anchors : List Thread) where
  pub headline : (bytes : List ℕ) (p : Proof) → Spells proof_layout bytes p → IsAccepted dig anchors p
      → BindsReport dig anchors p (report_of p)
  headline bytes p spells accepted family sound has =
      let of_family : List (List ℕ) = family_texts dig family in
      let own : List (List ℕ) = proof_texts dig p in
      let s : Setting = setting_of dig size are anchors family sound own in
      claim-binds s p (spelled-fits proof_codec proof-lawful bytes p spells)
      (each-checked s (checks p) accepted has (λ t a. Among-right t of_family own a))

  -- a verdict binds, whatever it is
  pub verdict-binds : (strict : Bool) (bytes : List ℕ) (verdict : Verdict) → IsVerdict dig anchors strict bytes verdict
      → BindsHistories dig anchors bytes verdict
  verdict-binds strict bytes (No reason) is = tt
  verdict-binds strict bytes (Yes report) is = λ p spells.
      let accepts : Accepts dig anchors bytes = is.0 in
      let same : accepts.0 ≡ p = (unambiguous proof_codec proof-lawful).one_value bytes accepts.0 p accepts.1 spells in
      let told : report_of p ≡ report = sym (is.2 ∙ ap report_of same) in
      subst (BindsReport dig anchors p) told (headline bytes p spells (subst (IsAccepted dig anchors) same accepts.2))
