-- Two accepted proofs whose claims are opposed: together their hops lead back, and without hops there are none.
use Rattle.std.proofs.Common.{◌≡◌, ◌≢◌, ℕ, suc, zero, ◌-◌, ◌<◌, ◌≤◌, List, [], ◌∷◌, ◌++◌, length, ap, refl, sym, ◌∙◌, subst}
use Rattle.std.proofs.Common.{arith, inl}
use Rattle.std.specs.Prelude.{Some, slice_get}
use Rattle.tw_base.specs.declared.history.report.Claim.TheVariants as claims
use Rattle.tw_base.specs.declared.history.report.Hop.{Hop}
use Rattle.tw_base.specs.declared.history.report.Seen.{Seen}
use Rattle.tw_base.specs.declared.history.thread.Key.{Key}
use Rattle.tw_base.specs.declared.history.thread.Thread.{Thread}
use Rattle.tw_base.specs.format.Codecs.{behind, by_kind, number_codec, pair, seen, variant}
use Rattle.tw_base.specs.format.Formats.{Spells}
use Rattle.tw_base.specs.history.Chains.{LeadsBy}
use Rattle.tw_base.specs.history.Facts.{Precedence}
use Rattle.tw_base.specs.history.Family.{AllSound, family_texts}
use Rattle.tw_base.specs.history.History.{History, events_at}
use Rattle.tw_base.specs.kinds.Bytes.{AreBytes}
use Rattle.tw_base.proofs.lemmas.format.CodecLaws.{spelled-fits}
use Rattle.tw_base.proofs.lemmas.kinds.Clashes.{Among-left, Among-right, OrClash-wider, and_then, both_within}
use Rattle.tw_base.proofs.lemmas.kinds.ListLemmas.{Each-parts}
use Rattle.tw_skipproof.specs.Codecs.{part_codec}
use Rattle.tw_chain.specs.declared.proof.HopPart.{HopPart}
use Rattle.tw_chain.specs.declared.proof.PrecedenceProof.{PrecedenceProof}
use Rattle.tw_chain.specs.declared.proof.Proof.{Proof}
use Rattle.tw_chain.specs.declared.proof.Proof.TheVariants.{Exists, Precedes, Archived, Absent, Linked}
use Rattle.tw_chain.specs.Accepting.{IsAccepted, claim_of, hop_from, hops_of, hops_to, proof_texts, seen_at}
use Rattle.tw_chain.specs.Checks.{Check, end_of_order, head_checks, hops_checks, last_hop_thread, opening_root, start_of}
use Rattle.tw_chain.specs.Checks.{tail_at, tail_checks}
use Rattle.tw_chain.specs.Passing.{Passes}
use Rattle.tw_chain.specs.Proofs.{hops_codec, kinds_codec, precedence_body, proof_codec, proof_layout}
use Rattle.tw_chain.proofs.Headline.{headline}
use Rattle.tw_chain.proofs.ProofCodec.{proof-lawful}
use Rattle.tw_circle.specs.Opposed.{AreOpposed, HasRingOrClash}
use Rattle.tw_circle.specs.Rings.{HasRing}
use Rattle.tw_circle.proofs.Circles.{back-rings}

-- ---- over histories

-- an event stands in a step from 1 on
first-step : (h : History) (step index : ℕ) (event : List ℕ) → slice_get (events_at h step) index ≡ Some event → 1 ≤ step
first-step h zero index event is = cc
first-step h (suc i) index event is = omega arith

module _ (dig : List ℕ → List ℕ) (family : List History) where
  -- a way from a step begins at an earlier one of that service, too
  leads-earlier : (hops : List Hop) (start later goal : Key) → start.from ≡ later.from → start.step ≤ later.step
      → LeadsBy dig family hops later goal → LeadsBy dig family hops start goal
  leads-earlier [] start later goal same order leads = (same ∙ leads.0, omega (arith, order, leads.1))
  leads-earlier (hop ∷ hops) start later goal same order leads =
      (leads.0 ∙ sym same, omega (arith, order, leads.1), leads.2, leads.3)

  -- two ways, of which the second goes on where the first has come to, or later
  leads-on : (hops more : List Hop) (start mid later goal : Key) → LeadsBy dig family hops start mid
      → mid.from ≡ later.from → mid.step ≤ later.step → LeadsBy dig family more later goal
      → LeadsBy dig family (hops ++ more) start goal
  leads-on [] more start mid later goal leads same order rest =
      leads-earlier more start later goal (leads.0 ∙ same) (omega (arith, leads.1, order)) rest
  leads-on (hop ∷ hops) more start mid later goal leads same order rest = (
    leads.0,
    leads.1,
    leads.2,
    leads-on hops more (record { from = hop.by; step = hop.archived }) mid later goal leads.3 same order rest,
  )

  module _ (sound : AllSound family) where
    -- two ways that are opposed give a ring
    pub opposed-rings : (hops more : List Hop) (first second third fourth : Seen) → Precedence dig family hops first second
        → Precedence dig family more third fourth → AreOpposed (claims.Precedes first second) (claims.Precedes third fourth)
        → HasRing dig (family_texts dig family)
    opposed-rings hops more first second third fourth one other against = by (hops ++ more) refl
      where
        start : Key
        start = record { from = first.place.service; step = first.place.step }

        goal : Key
        goal = record { from = fourth.place.service; step = fourth.place.step - 1 }

        positive : 1 ≤ first.place.step
        positive = first-step one.first_stands.history first.place.step first.place.index first.event one.first_stands.stands

        leads : LeadsBy dig family (hops ++ more) start goal
        leads = leads-on hops more start (record { from = second.place.service; step = second.place.step - 1 })
            (record { from = third.place.service; step = third.place.step }) goal one.leads against.0.0
            (omega (arith, against.0.1)) other.leads

        by : (all : List Hop) → hops ++ more ≡ all → HasRing dig (family_texts dig family)
        by [] is =
            let none : LeadsBy dig family [] start goal = subst (λ hs. LeadsBy dig family hs start goal) is leads in
            absurd (omega (arith, none.1, against.1.1, positive))
        by (hop ∷ all) is = back-rings dig family sound (hop ∷ all) start goal (record {
          some = λ never. cc;
          leads = subst (λ hs. LeadsBy dig family hs start goal) is leads;
          service = against.1.0;
          order = omega (arith, against.1.1);
        })

-- ---- over proofs

-- the second event's step is from 1 on
head-some : (p : PrecedenceProof) → proof_codec.Fits (Precedes p) → 1 ≤ p.head.step
unfolding proof_codec kinds_codec behind by_kind variant precedence_body hops_codec part_codec pair seen number_codec
head-some p fits = fits.1.1.1.0.1.0.0

not_empty : (hops : List Hop) (hop : Hop) → hops ++ hop ∷ [] ≢ []
not_empty [] hop is = cc
not_empty (one ∷ hops) hop is = cc

no-hops : (by : List ℕ) (hops : List HopPart) → hops_to by hops ≡ [] → hops ≡ []
no-hops by [] is = refl
no-hops by (hop ∷ hops) is = absurd (not_empty (hops_to hop.entry.thread.from hops) (hop_from by hop) is)

module _ (dig : List ℕ → List ℕ) where
  -- the first event's step isn't above the one that the hops come to
  tail-order : (anchors : List Thread) (p : PrecedenceProof) → IsAccepted dig anchors (Precedes p)
      → p.tail.step ≤ (end_of_order p).step
  tail-order anchors p accepted =
      let hops : List Check = hops_checks 1 (start_of p).step (opening_root p.before) p.hops in
      let tail : List Check = tail_checks (suc (length p.hops)) (end_of_order p) p.tail in
      (Each-parts (Passes dig anchors) hops tail (Each-parts (Passes dig anchors) (head_checks p) (hops ++ tail)
      accepted).1).1.0

  -- without hops it is below the second event's step
  rises : (anchors : List Thread) (bytes : List ℕ) (p : PrecedenceProof) → Spells proof_layout bytes (Precedes p)
      → IsAccepted dig anchors (Precedes p) → hops_of (Precedes p) ≡ [] → p.tail.step < p.head.step
  rises anchors bytes p spells accepted none =
      let alone : (end_of_order p).step ≡ p.head.step - 1 = ap (λ hs. (last_hop_thread (start_of p) hs).step)
      (no-hops p.head.service p.hops none) in
      omega (
        arith,
        alone,
        tail-order anchors p accepted,
        head-some p (spelled-fits proof_codec proof-lawful bytes (Precedes p) spells),
      )

  module _ (anchors others : List Thread) (one other : List ℕ) where
    pub without-hops : (p q : Proof) → Spells proof_layout one p → IsAccepted dig anchors p → Spells proof_layout other q
        → IsAccepted dig others q → AreOpposed (claim_of p) (claim_of q) → hops_of p ≡ [] → hops_of q ≡ [] → ⊥
    without-hops (Exists p) q spells accepted also too against none neither = against
    without-hops (Archived p) q spells accepted also too against none neither = against
    without-hops (Absent p) q spells accepted also too against none neither = against
    without-hops (Linked p) q spells accepted also too against none neither = against
    without-hops (Precedes p) (Exists q) spells accepted also too against none neither = against
    without-hops (Precedes p) (Archived q) spells accepted also too against none neither = against
    without-hops (Precedes p) (Absent q) spells accepted also too against none neither = against
    without-hops (Precedes p) (Linked q) spells accepted also too against none neither = against
    without-hops (Precedes p) (Precedes q) spells accepted also too against none neither =
        let first = rises anchors one p spells accepted none in
        let second = rises others other q also too neither in
        omega (arith, first, second, against.0.1, against.1.1)

    module _ (size : (text : List ℕ) → length (dig text) ≡ 32) (are : (text : List ℕ) → AreBytes (dig text)) where
      pub opposed-binds : (p q : Proof) → Spells proof_layout one p → IsAccepted dig anchors p → Spells proof_layout other q
          → IsAccepted dig others q → AreOpposed (claim_of p) (claim_of q) → HasRingOrClash dig anchors others p q
      opposed-binds (Exists p) q spells accepted also too against = absurd against
      opposed-binds (Archived p) q spells accepted also too against = absurd against
      opposed-binds (Absent p) q spells accepted also too against = absurd against
      opposed-binds (Linked p) q spells accepted also too against = absurd against
      opposed-binds (Precedes p) (Exists q) spells accepted also too against = absurd against
      opposed-binds (Precedes p) (Archived q) spells accepted also too against = absurd against
      opposed-binds (Precedes p) (Absent q) spells accepted also too against = absurd against
      opposed-binds (Precedes p) (Linked q) spells accepted also too against = absurd against
      opposed-binds (Precedes p) (Precedes q) spells accepted also too against = λ family sound has have.
          let own : List (List ℕ) = family_texts dig family in
          let ps : List (List ℕ) = proof_texts dig (Precedes p) in
          let qs : List (List ℕ) = proof_texts dig (Precedes q) in
          let all : List (List ℕ) = own ++ (ps ++ qs) in
          and_then dig all _ _ (OrClash-wider dig (own ++ ps) all _
          (both_within own ps own (ps ++ qs) (λ text a. a) (λ text a. Among-left text ps qs a))
          (headline dig size are anchors one (Precedes p) spells accepted family sound has))
          (λ facts. and_then dig all _ _ (OrClash-wider dig (own ++ qs) all _
          (both_within own qs own (ps ++ qs) (λ text a. a) (λ text a. Among-right text ps qs a))
          (headline dig size are others other (Precedes q) also too family sound have))
          (λ more. inl (opposed-rings dig family sound (hops_of (Precedes p)) (hops_of (Precedes q))
          (seen_at (tail_at (end_of_order p) p.tail) p.tail.event) (seen_at p.head p.event)
          (seen_at (tail_at (end_of_order q) q.tail) q.tail.event) (seen_at q.head q.event) facts.0 more.0 against)))
