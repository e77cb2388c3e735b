-- Of each service of whose history an accepted proof speaks a thread is held, and which threads are held.
use Rattle.std.proofs.Common.{◌≡◌, ℕ, suc, List, [], ◌∷◌, ◌++◌, length, Bool, true, false, refl, ap, sym, ◌∙◌, subst}
use Rattle.std.proofs.Common.{append_assoc, inl, inr}
use Rattle.std.specs.Prelude.{Option, Some, None, IsSome, ◌==◌, if◌then◌else◌}
use Rattle.std.specs.List.{flat_map}
use Rattle.std.specs.Option.{option_to_list}
use Rattle.tw_base.specs.declared.history.report.Hop.{Hop}
use Rattle.tw_base.specs.declared.history.thread.Key.{Key}
use Rattle.tw_base.specs.declared.history.thread.Thread.{Thread}
use Rattle.tw_base.specs.declared.history.tree_proof.Ask.TheVariants as ask
use Rattle.tw_base.specs.history.Anchors.{anchor_of, is_at}
use Rattle.tw_base.specs.kinds.Lists.{Each, In}
use Rattle.tw_base.proofs.lemmas.history.Anchoring.{anchor_of-is}
use Rattle.tw_base.proofs.lemmas.kinds.ListLemmas.{Each-append, Each-map, Each-parts, In-left, In-right}
use Rattle.tw_skipproof.specs.declared.existence.Part.{Part}
use Rattle.tw_chain.specs.declared.proof.HopPart.{HopPart}
use Rattle.tw_chain.specs.declared.proof.LinkProof.{LinkProof}
use Rattle.tw_chain.specs.declared.proof.PrecedenceProof.{PrecedenceProof}
use Rattle.tw_chain.specs.declared.proof.Proof.{Proof}
use Rattle.tw_chain.specs.declared.proof.Proof.TheVariants.{Exists, Precedes, Archived, Absent, Linked}
use Rattle.tw_chain.specs.Accepting.{IsAccepted, claim_of, hop_from, hops_of, hops_to}
use Rattle.tw_chain.specs.Checks.{Check, bind_checks, bind_of, checks, end_of_order, head_checks, hop_checks}
use Rattle.tw_chain.specs.Checks.{hops_checks, last_hop_thread, link_checks, link_top, opening_checks, opening_root}
use Rattle.tw_chain.specs.Checks.{start_of, tail_checks, top_of, under_anchor}
use Rattle.tw_chain.specs.Checks.Check.{InOrder, NeedsAnchor, CarriesThread, PathOf, LinkOf, EventOf}
use Rattle.tw_chain.specs.Checks.Check.{AnswerOf}
use Rattle.tw_chain.specs.Checks.Upper.{AtAnchor}
use Rattle.tw_chain.specs.Passing.{Passes, anchor_at, carried_by, held_by}
use Rattle.tw_chain.specs.Services.{HasThreadOf, HoldsItsServices, IsOfThese, services_of}

same_some : (t u : Thread) → Some u ≡ Some t → t ≡ u
same_some t u is = cc

-- the anchor that is found is one of the list
anchor-in : (ts : List Thread) (service : List ℕ) (step : ℕ) (t : Thread) → anchor_of ts service step ≡ Some t → In t ts
anchor-in [] service step t found = cc
anchor-in (u ∷ ts) service step t found =
    let rest : anchor_of ts service step ≡ Some t → In t ts = anchor-in ts service step t in
    let cases : (b : Bool) → (if b then Some u else anchor_of ts service step) ≡ Some t → In t (u ∷ ts) =
    elim [
      | true ↦ λ is. inl (same_some t u is)
      | false ↦ λ is. inr (rest is)
    ]
    in cases (is_at service step u) found

module _ (anchors : List Thread) where
  -- what the verifier holds for these checks
  abbrev held_for : List Check → List Thread
  held_for cs = flat_map (held_by anchors) cs

  -- a thread of the service is held for them
  abbrev Held : List Check → List ℕ → Type 0
  Held cs service = HasThreadOf (held_for cs) service

  both : (cs ds : List Check) → held_for (cs ++ ds) ≡ held_for cs ++ held_for ds
  both [] ds = refl
  both (c ∷ cs) ds = ap (λ ts. held_by anchors c ++ ts) (both cs ds)
      ∙ sym (append_assoc (held_by anchors c) (held_for cs) (held_for ds))

  held-left : (cs ds : List Check) (service : List ℕ) → Held cs service → Held (cs ++ ds) service
  held-left cs ds service is =
      (is.0, subst (In is.0) (sym (both cs ds)) (In-left is.0 (held_for cs) (held_for ds) is.1), is.2)

  held-right : (cs ds : List Check) (service : List ℕ) → Held ds service → Held (cs ++ ds) service
  held-right cs ds service is =
      (is.0, subst (In is.0) (sym (both cs ds)) (In-right is.0 (held_for cs) (held_for ds) is.1), is.2)

  -- of an anchor that is needed and there
  needed-held : (key : Key) (cs : List Check) → IsSome (anchor_at anchors key) → Held (NeedsAnchor key ∷ cs) key.from
  needed-held key cs some = by (anchor_at anchors key) refl some
    where
      by : (o : Option Thread) → anchor_at anchors key ≡ o → IsSome o → Held (NeedsAnchor key ∷ cs) key.from
      by None is there = cc
      by (Some t) is there = (
        t,
        subst (λ (o : Option Thread). In t (option_to_list o ++ held_for cs)) (sym is) (inl refl),
        (anchor_of-is anchors key.from key.step t is).0,
      )

  -- ---- which threads are held

  abbrev carried_in : List Check → List Thread
  carried_in cs = flat_map carried_by cs

  wider : (xs ys : List Thread) (t : Thread) → IsOfThese anchors ys t → IsOfThese anchors (xs ++ ys) t
  wider xs ys t (inl is) = inl is
  wider xs ys t (inr is) = inr (In-right t xs ys is)

  rest-only : (c : Check) (cs : List Check) → Each (IsOfThese anchors (carried_in cs)) (held_for cs)
      → Each (IsOfThese anchors (carried_in (c ∷ cs))) (held_for cs)
  rest-only c cs all = Each-map _ _ (held_for cs) (wider (carried_by c) (carried_in cs)) all

  found-only : (more : List Thread) (o : Option Thread) (key : Key) → anchor_at anchors key ≡ o
      → Each (IsOfThese anchors more) (option_to_list o)
  found-only more None key is = tt
  found-only more (Some t) key is = (inl (anchor-in anchors key.from key.step t is), tt)

  held-only : (cs : List Check) → Each (IsOfThese anchors (carried_in cs)) (held_for cs)
  held-only [] = tt
  held-only (NeedsAnchor key ∷ cs) =
      Each-append _ (option_to_list (anchor_at anchors key)) (held_for cs)
      (found-only (carried_in cs) (anchor_at anchors key) key refl) (rest-only (NeedsAnchor key) cs (held-only cs))
  held-only (CarriesThread t ∷ cs) = (inr (inl refl), rest-only (CarriesThread t) cs (held-only cs))
  held-only (c ∷ cs) = held-only cs

  carried-held : (cs : List Check) → Each (λ (t : Thread). In t (held_for cs)) (carried_in cs)
  carried-held [] = tt
  carried-held (NeedsAnchor key ∷ cs) =
      Each-map _ _ (carried_in cs) (λ t is. In-right t (option_to_list (anchor_at anchors key)) (held_for cs) is)
      (carried-held cs)
  carried-held (CarriesThread t ∷ cs) = (inl refl, Each-map _ _ (carried_in cs) (λ s is. inr is) (carried-held cs))
  carried-held (c ∷ cs) = carried-held cs

  -- a claim and hops whose threads are held
  record Speaks (p : Proof) : Type 0 where
    claim : Each (HasThreadOf (held_for (checks p))) (services_of (claim_of p))
    hops : Each (λ (hop : Hop). HasThreadOf (held_for (checks p)) hop.from × HasThreadOf (held_for (checks p)) hop.by)
        (hops_of p)

  holds : (p : Proof) → Speaks p → HoldsItsServices anchors p
  holds p is =
      record { claim = is.claim; hops = is.hops; only = held-only (checks p); all_carried = carried-held (checks p) }

  module _ (dig : List ℕ → List ℕ) where
    abbrev Pass : List Check → Type 0
    Pass cs = Each (Passes dig anchors) cs

    parted : (cs ds : List Check) → Pass (cs ++ ds) → Pass cs × Pass ds
    parted cs ds pass = Each-parts (Passes dig anchors) cs ds pass

    under-held : (p : Part) (onward : List Check) → Pass (under_anchor 0 p ++ onward)
        → Held (under_anchor 0 p ++ onward) p.service
    under-held p onward pass = needed-held (top_of p) (PathOf 0 p (AtAnchor (top_of p)) ∷ onward) pass.1.0

    link-held : (part : ℕ) (l : LinkProof) → Pass (link_checks part l) → Held (link_checks part l) l.service
    link-held part l pass = needed-held (link_top l) (LinkOf part l ∷ []) pass.1.0

    -- the thread of a hop is carried, or an anchor of its service is there
    bind-held : (part : ℕ) (hop : HopPart) → Pass (bind_checks part hop) → Held (bind_checks part hop)
        hop.entry.thread.from
    bind-held part hop = by (hop.bind == 0)
      where
        by : (carried : Bool) → let cs : List Check = if carried then CarriesThread hop.entry.thread ∷ []
            else link_checks part (bind_of hop) in
            Pass cs → Held cs hop.entry.thread.from
        by true pass = (hop.entry.thread, inl refl, refl)
        by false pass = link-held part (bind_of hop) pass

    hop-held : (part step : ℕ) (root : List ℕ) (hop : HopPart) → Pass (hop_checks part step root hop)
        → Held (hop_checks part step root hop) hop.entry.thread.from
    hop-held part step root hop pass =
        let bind : List Check = bind_checks part hop in
        let opening : List Check = opening_checks part hop.entry.thread hop.opening in
        held-left bind opening hop.entry.thread.from (bind-held part hop (parted bind opening pass.1.1).0)

    hops-held : (hops : List HopPart) (part step : ℕ) (root : List ℕ) → Pass (hops_checks part step root hops)
        → Each (λ (hop : HopPart). Held (hops_checks part step root hops) hop.entry.thread.from) hops
    hops-held [] part step root pass = tt
    hops-held (hop ∷ hops) part step root pass =
        let one : List Check = hop_checks part step root hop in
        let rest : List Check = hops_checks (suc part) hop.entry.thread.step (opening_root hop.opening) hops in
        let parts = parted one rest pass in (
          held-left one rest hop.entry.thread.from (hop-held part step root hop parts.0),
          Each-map (λ (h : HopPart). Held rest h.entry.thread.from)
              (λ (h : HopPart). Held (one ++ rest) h.entry.thread.from) hops
              (λ h is. held-right one rest h.entry.thread.from is) (hops-held hops (suc part) hop.entry.thread.step
              (opening_root hop.opening) parts.1),
        )

    -- ---- what holds of the services of hops, and of where they start

    module _ (P : List ℕ → Type 0) where
      last-has : (t : Thread) (hops : List HopPart) → P t.from → Each (λ (hop : HopPart). P hop.entry.thread.from) hops
          → P (last_hop_thread t hops).from
      last-has t [] start all = start
      last-has t (hop ∷ hops) start all = last-has hop.entry.thread hops all.0 all.1

      told-have : (by : List ℕ) (hops : List HopPart) → P by → Each (λ (hop : HopPart). P hop.entry.thread.from) hops
          → Each (λ (hop : Hop). P hop.from × P hop.by) (hops_to by hops)
      told-have by [] start all = tt
      told-have by (hop ∷ hops) start all =
          Each-append (λ (h : Hop). P h.from × P h.by) (hops_to hop.entry.thread.from hops) (hop_from by hop ∷ [])
          (told-have hop.entry.thread.from hops all.0 all.1) ((all.0, start), tt)

    -- ---- each kind

    precedes-holds : (p : PrecedenceProof) → IsAccepted dig anchors (Precedes p) → Speaks (Precedes p)
    precedes-holds p pass =
        let events : List Check = EventOf 0 p.head.opening p.event ∷ opening_checks 0 (start_of p) p.before in
        let hops : List Check = hops_checks 1 (start_of p).step (opening_root p.before) p.hops in
        let tail : List Check = tail_checks (suc (length p.hops)) (end_of_order p) p.tail in
        let parts = parted (head_checks p) (hops ++ tail) pass in
        let P : List ℕ → Type 0 = Held (checks (Precedes p)) in
        let head : P p.head.service = held-left (head_checks p) (hops ++ tail) p.head.service
        (under-held p.head events parts.0) in
        let all : Each (λ (hop : HopPart). P hop.entry.thread.from) p.hops =
        Each-map (λ (h : HopPart). Held hops h.entry.thread.from) (λ (h : HopPart). P h.entry.thread.from) p.hops
        (λ h is. held-right (head_checks p) (hops ++ tail) h.entry.thread.from (held-left hops tail h.entry.thread.from
        is))
        (hops-held p.hops 1 (start_of p).step (opening_root p.before) (parted hops tail parts.1).0) in
        record {
          claim = (last-has P (start_of p) p.hops head all, (head, tt));
          hops = told-have P p.head.service p.hops head all;
        }

    accepted-speaks : (p : Proof) → IsAccepted dig anchors p → Speaks p
    accepted-speaks (Exists p) pass =
        record { claim = (under-held p.at (EventOf 0 p.at.opening p.event ∷ []) pass, tt); hops = tt }
    accepted-speaks (Precedes p) pass = precedes-holds p pass
    accepted-speaks (Archived p) pass =
        record {
          claim = (
            under-held p.at (InOrder p.entry.archived p.at.step ∷ AnswerOf 0 p.at.opening.archive_root
                (ask.Present p.entry) p.shown ∷ []) pass,
            tt,
          );
          hops = tt;
        }
    accepted-speaks (Absent p) pass =
        record {
          claim = (under-held p.at (AnswerOf 0 p.at.opening.archive_root (ask.Absent p.key) p.shown ∷ []) pass, tt);
          hops = tt;
        }
    accepted-speaks (Linked p) pass = record { claim = (link-held 0 p pass, tt); hops = tt }

    pub accepted-holds : (p : Proof) → IsAccepted dig anchors p → HoldsItsServices anchors p
    accepted-holds p pass = holds p (accepted-speaks p pass)
