-- One service that received two authenticators of one step broke a rule.
use Rattle.std.proofs.Common.{◌≡◌, ℕ, ◌<◌, List, [], ◌∷◌, ◌++◌, length, refl, sym, ◌∙◌, subst, arith, inl}
use Rattle.std.specs.Prelude.{Bool, true, false, Option, Some, ◌==◌, ◌&&◌, not}
use Rattle.std.specs.Str.{bytes_eq}
use Rattle.std.proofs.lemmas.List.{append-nil}
use Rattle.std.proofs.lemmas.Bool.{and_from, and_left, both_ways, eq-eqb, false_from_ne_true, not_from_false}
use Rattle.std.proofs.lemmas.Slice.Eq.{bytes_eq-Decides}
use Rattle.tw_base.specs.declared.history.thread.Entry.{Entry}
use Rattle.tw_base.specs.declared.history.thread.Thread.{Thread}
use Rattle.tw_base.specs.declared.history.tree_proof.Ask.TheVariants as ask
use Rattle.tw_base.specs.format.Formats.{Spells}
use Rattle.tw_base.specs.history.Anchors.{anchor_of}
use Rattle.tw_base.specs.kinds.Bytes.{AreBytes}
use Rattle.tw_base.proofs.lemmas.format.CodecLaws.{spelled-fits}
use Rattle.tw_skipproof.specs.declared.path.Link.{Link}
use Rattle.tw_skipproof.specs.Paths.{Climbs, climbed}
use Rattle.tw_chain.specs.declared.proof.LinkProof.{LinkProof}
use Rattle.tw_chain.specs.declared.proof.Proof.TheVariants.{Archived}
use Rattle.tw_chain.specs.declared.proof.ThreadProof.{ThreadProof}
use Rattle.tw_chain.specs.Accepting.{IsAccepted, proof_texts}
use Rattle.tw_contradict.specs.declared.archive_proof.ArchiveProof.{ArchiveProof}
use Rattle.tw_evidence.specs.declared.evidence.Evidence.{Evidence}
use Rattle.tw_contradict.specs.declared.facts.Conflict.{Conflict}
use Rattle.tw_contradict.specs.declared.facts.Facts.{Facts}
use Rattle.tw_contradict.specs.declared.facts.Rule.TheVariants.{TwoEntries}
use Rattle.tw_contradict.specs.declared.verdict.ContradictReason.TheVariants.{NoConflict}
use Rattle.tw_contradict.specs.declared.verdict.ContradictVerdict.TheVariants.{No}
use Rattle.tw_evidence.specs.Evidence.{evidence_codec, evidence_layout, thread_proof_codec}
use Rattle.tw_contradict.specs.Facts.{facts_of, later}
use Rattle.tw_evidence.specs.Forks.{lower, upper}
use Rattle.tw_judge.specs.Receiver.{IsOfOneReceiver, IsReceiverVerdict}
use Rattle.tw_contradict.specs.Rules.{BreakNone, IsBroken, breaks}
use Rattle.tw_contradict.specs.Verdicts.{IsLink, NoneHas, Says, joins, link_proof_texts}
use Rattle.tw_evidence.proofs.EvidenceCodec.{EvidenceFits, evidence-lawful, evidence-parts, thread-is-proof}
use Rattle.tw_evidence.proofs.EvidenceCodec.{thread_proof-lawful}
use Rattle.tw_contradict.proofs.Joined.{joined-none}
use Rattle.tw_contradict.proofs.Judgements.{none-alone}
use Rattle.tw_contradict.proofs.OneFile.{one-facts}

-- a path from a step to itself leads nowhere
same-end : (dig : List ℕ → List ℕ) (links : List Link) (from to : ℕ) (bottom top : List ℕ) → to ≡ from
    → Climbs dig links from to bottom top → bottom ≡ top
unfolding climbed
same-end dig [] from to bottom top same climbs = climbs.reaches
same-end dig (link ∷ links) from to bottom top same climbs =
    let below : to < from = climbs.shape.0 in absurd (omega (arith, same, below))

-- ---- what the proof of a received thread says as a file

-- what it shows
abbrev shown : ThreadProof → ArchiveProof
shown t = record { at = t.at; ask = ask.Present t.entry; shown = t.shown }

module _ (dig : List ℕ → List ℕ) (anchors : List Thread) (t : ThreadProof) (line : Thread)
    (fits : thread_proof_codec.Fits t) (held : anchor_of anchors t.at.service t.at.top ≡ Some line) where
  says-thread : IsAccepted dig anchors (Archived t)
      → Says dig anchors (thread_proof_codec.write t) (facts_of dig line (shown t))
  says-thread accepted = record {
    proof = shown t;
    is_file = inl (Archived t, thread-is-proof (thread_proof_codec.write t) t (thread_proof-lawful.spells t fits), refl);
    accepted = accepted;
    line = held;
    facts_are = refl;
  }

-- ---- two authenticators of one step

module _ (dig : List ℕ → List ℕ) (anchors : List Thread) (e : Evidence) (one other : Thread)
    (of : IsOfOneReceiver dig anchors e one other) where
  abbrev first_facts : Facts
  first_facts = facts_of dig one (shown e.first)

  abbrev second_facts : Facts
  second_facts = facts_of dig other (shown e.second)

  -- both entries are of one service and step, with two authenticators
  two-entries : breaks dig TwoEntries first_facts second_facts ≡ true
  unfolding breaks
  two-entries =
      let e_first : Entry = e.first.entry in
      let e_second : Entry = e.second.entry in
      let auths : Bool = bytes_eq e_first.thread.auth e_second.thread.auth in
      let bottom : e.bottom ≡ e_second.thread.auth =
      same-end dig e.link.links (upper e).step (lower e).step e.bottom (upper e).auth of.step of.shows.climbs in
      let differ : auths ≡ false = false_from_ne_true auths (λ same. of.shows.differs
      (bottom ∙ sym ((bytes_eq-Decides e_first.thread.auth e_second.thread.auth).0 same))) in
      and_from (bytes_eq e_first.thread.from e_second.thread.from && e_first.thread.step == e_second.thread.step)
      (not (auths && e_first.archived == e_second.archived))
      (and_from (bytes_eq e_first.thread.from e_second.thread.from) (e_first.thread.step == e_second.thread.step)
      ((bytes_eq-Decides e_first.thread.from e_second.thread.from).1 of.shows.service)
      (eq-eqb e_first.thread.step e_second.thread.step of.step))
      (not_from_false (auths && e_first.archived == e_second.archived)
      (and_left auths (e_first.archived == e_second.archived) differ))

  -- so they aren't without a conflict
  never-free : BreakNone dig first_facts second_facts → ⊥
  never-free free =
      both_ways (breaks dig TwoEntries first_facts second_facts) (free of.receiver TwoEntries).0 two-entries

  -- but that rule is broken
  abbrev two : Conflict
  two = record { rule = TwoEntries; one = first_facts; other = second_facts }

  named : IsBroken dig first_facts second_facts two
  named = record { service = of.receiver; files = inl (refl, refl); breaks = two-entries }

  module _ (bytes : List ℕ) (spells : Spells evidence_layout bytes e) where
    fits : EvidenceFits e
    fits = evidence-parts e (spelled-fits evidence_codec evidence-lawful bytes e spells)

    first-says : Says dig anchors (thread_proof_codec.write e.first) first_facts
    first-says = says-thread dig anchors e.first one fits.first of.first_line of.shows.first

    second-says : Says dig anchors (thread_proof_codec.write e.second) second_facts
    second-says = says-thread dig anchors e.second other fits.second of.second_line of.shows.second

    pub receiver-none : (size : (text : List ℕ) → length (dig text) ≡ 32) (are : (text : List ℕ) → AreBytes (dig text))
        → NoneHas dig (one ∷ other ∷ []) (proof_texts dig (Archived e.first) ++ proof_texts dig (Archived e.second))
    unfolding first-says second-says says-thread
    receiver-none size are =
        subst (λ (texts : List (List ℕ)). NoneHas dig (one ∷ other ∷ []) (proof_texts dig (Archived e.first) ++ texts))
        (append-nil (proof_texts dig (Archived e.second)))
        (none-alone dig size are anchors anchors (thread_proof_codec.write e.first) (thread_proof_codec.write e.second)
        first_facts second_facts two first-says second-says named)

    pub receiver-joined : (size : (text : List ℕ) → length (dig text) ≡ 32)
        (are : (text : List ℕ) → AreBytes (dig text)) (link : List ℕ) (between : Option LinkProof)
        → IsLink link between → joins dig one other between ≡ true
        → NoneHas dig (later one other ∷ [])
        (proof_texts dig (Archived e.first) ++ (proof_texts dig (Archived e.second) ++ link_proof_texts dig between))
    unfolding first-says second-says says-thread
    receiver-joined size are link between is joined =
        joined-none dig size are anchors anchors (thread_proof_codec.write e.first) (thread_proof_codec.write e.second)
        first_facts second_facts two first-says second-says named link between is joined

    -- and the verdict on both proofs isn't that no rule is broken
    pub receiver-found : (link : List ℕ) → IsReceiverVerdict dig anchors e link (No NoConflict) → ⊥
    receiver-found link verdict =
        let first : verdict.0 ≡ first_facts =
        one-facts dig anchors (thread_proof_codec.write e.first) verdict.0 first_facts verdict.2.first_says first-says in
        let second : verdict.1 ≡ second_facts =
        one-facts dig anchors (thread_proof_codec.write e.second) verdict.1 second_facts verdict.2.second_says second-says
        in
        never-free (subst (λ (f : Facts). BreakNone dig f second_facts) first
        (subst (λ (f : Facts). BreakNone dig verdict.0 f) second verdict.3))
