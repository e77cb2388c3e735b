-- Each thread that is held of a proof is of a service that its report names.
use Rattle.std.proofs.Common.{◌≡◌, ℕ, List, [], ◌∷◌, ◌++◌, refl, sym, subst, inl, inr}
use Rattle.std.specs.Prelude.{Option, Some, None}
use Rattle.std.specs.List.{flat_map}
use Rattle.std.specs.Option.{option_to_list}
use Rattle.std.proofs.lemmas.Grind.{flat_map-append}
use Rattle.tw_base.specs.declared.history.report.Hop.{Hop}
use Rattle.tw_base.specs.declared.history.thread.Thread.{Thread}
use Rattle.tw_base.specs.kinds.Lists.{Each, In}
use Rattle.tw_base.proofs.lemmas.history.Anchoring.{anchor_of-is}
use Rattle.tw_base.proofs.lemmas.kinds.ListLemmas.{Each-append, Each-map, In-left, In-right}
use Rattle.tw_chain.specs.declared.proof.HopPart.{HopPart}
use Rattle.tw_chain.specs.declared.proof.Proof.{Proof}
use Rattle.tw_chain.specs.declared.proof.Proof.TheVariants.{Exists, Precedes, Archived, Absent, Linked}
use Rattle.tw_chain.specs.Accepting.{held, hop_from, hops_to, report_of}
use Rattle.tw_chain.specs.Checks.{Check, checks}
use Rattle.tw_chain.specs.Checks.Check.{CarriesThread, NeedsAnchor}
use Rattle.tw_chain.specs.Passing.{anchor_at, held_by}
use Rattle.tw_plain.specs.Plain.{services_named}
use Rattle.tw_plain.proofs.EachThread.{OfCheck, OfHop, OfProof, each-of}

module _ (services : List (List ℕ)) where
  abbrev IsNamed : (service : List ℕ) → Type 0
  IsNamed service = In service services

  abbrev IsOfNamed : Thread → Type 0
  IsOfNamed t = In t.from services

  held-one : (anchors : List Thread) (c : Check) → OfCheck IsNamed IsOfNamed c → Each IsOfNamed (held_by anchors c)
  held-one anchors (NeedsAnchor key) is = by (anchor_at anchors key) refl
    where
      by : (o : Option Thread) → anchor_at anchors key ≡ o → Each IsOfNamed (option_to_list o)
      by None found = tt
      by (Some t) found = (subst IsNamed (sym (anchor_of-is anchors key.from key.step t found).0) is, tt)
  held-one anchors (CarriesThread t) is = (is, tt)
  held-one anchors _ is = tt

  held-each : (anchors : List Thread) (cs : List Check) → Each (OfCheck IsNamed IsOfNamed) cs → Each IsOfNamed (flat_map (held_by anchors) cs)
  held-each anchors [] all = tt
  held-each anchors (c ∷ cs) all =
      Each-append IsOfNamed (held_by anchors c) (flat_map (held_by anchors) cs) (held-one anchors c all.0) (held-each anchors cs all.1)

-- ---- the services of hops

abbrev both_of : Hop → List (List ℕ)
both_of hop = hop.from ∷ hop.by ∷ []

abbrev named_by : List Hop → List (List ℕ)
named_by hops = flat_map both_of hops

hops-named : (by_ : List ℕ) (hops : List HopPart) → Each (λ (hop : HopPart). In hop.entry.thread.from (named_by (hops_to by_ hops))) hops
hops-named by_ [] = tt
hops-named by_ (hop ∷ hops) =
    let earlier : List Hop = hops_to hop.entry.thread.from hops in
    let last : List Hop = hop_from by_ hop ∷ [] in
    let split : named_by (earlier ++ last) ≡ named_by earlier ++ named_by last = flat_map-append both_of earlier last in (
      subst (λ names. In hop.entry.thread.from names) (sym split) (In-right hop.entry.thread.from (named_by earlier) (named_by last) (inl refl)),
      Each-map (λ (h : HopPart). In h.entry.thread.from (named_by earlier)) (λ (h : HopPart). In h.entry.thread.from (named_by (earlier ++ last))) hops
          (λ h is. subst (λ names. In h.entry.thread.from names) (sym split) (In-left h.entry.thread.from (named_by earlier) (named_by last) is))
          (hops-named hop.entry.thread.from hops),
    )

of-proof : (p : Proof) → OfProof (IsNamed (services_named (report_of p))) (IsOfNamed (services_named (report_of p))) p
of-proof (Exists p) = inl refl
of-proof (Precedes p) =
    let services : List (List ℕ) = services_named (report_of (Precedes p)) in (
      inr (inl refl),
      Each-map (λ (h : HopPart). In h.entry.thread.from (named_by (hops_to p.head.service p.hops))) (OfHop (IsNamed services) (IsOfNamed services)) p.hops
          (λ h is. (inr (inr is), inr (inr is))) (hops-named p.head.service p.hops),
    )
of-proof (Archived p) = inl refl
of-proof (Absent p) = inl refl
of-proof (Linked p) = inl refl

pub held-named : (anchors : List Thread) (p : Proof) → Each (λ (t : Thread). In t.from (services_named (report_of p))) (held anchors p)
held-named anchors p =
    let services : List (List ℕ) = services_named (report_of p) in
    held-each services anchors (checks p) (each-of (IsNamed services) (IsOfNamed services) p (of-proof p))
