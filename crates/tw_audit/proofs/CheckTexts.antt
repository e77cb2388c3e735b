-- What the checks of a proof's pieces hash, and what is held of them, piece by piece.
use Rattle.std.proofs.Common.{◌≡◌, ℕ, suc, List, [], ◌∷◌, ◌++◌, length, Bool, true, false, refl, ap, sym, ◌∙◌}
use Rattle.std.proofs.Common.{append_assoc}
use Rattle.std.specs.Prelude.{Option, Some, None, ◌==◌, if◌then◌else◌}
use Rattle.std.specs.List.{flat_map}
use Rattle.std.specs.Option.{option_to_list}
use Rattle.std.proofs.lemmas.List.{append-nil}
use Rattle.tw_base.specs.declared.history.thread.Thread.{Thread}
use Rattle.tw_base.specs.declared.history.tree_proof.Ask.{Ask}
use Rattle.tw_base.specs.declared.history.tree_proof.Ask.TheVariants as ask
use Rattle.tw_base.specs.declared.history.tree_proof.TreeProof.{TreeProof}
use Rattle.tw_base.specs.events.AuditPath.{audit_texts}
use Rattle.tw_base.specs.history.Anchors.{anchor_of}
use Rattle.tw_skipproof.specs.declared.existence.Part.{Part}
use Rattle.tw_skipproof.specs.declared.opening.Opening.{Opening}
use Rattle.tw_skipproof.specs.Acceptance.{part_texts}
use Rattle.tw_skipproof.specs.Openings.{opening_texts}
use Rattle.tw_skipproof.specs.Paths.{path_texts}
use Rattle.tw_treeproof.specs.Answers.{tree_proof_texts}
use Rattle.tw_chain.specs.declared.proof.HopPart.{HopPart}
use Rattle.tw_chain.specs.declared.proof.PrecedenceProof.{PrecedenceProof}
use Rattle.tw_chain.specs.declared.proof.Proof.TheVariants.{Precedes}
use Rattle.tw_chain.specs.declared.proof.Tail.{Tail}
use Rattle.tw_chain.specs.Accepting.{held, proof_texts}
use Rattle.tw_chain.specs.Checks.{Check, bind_checks, bind_of, end_of_order, head_checks, hop_checks, hops_checks}
use Rattle.tw_chain.specs.Checks.{link_checks, opening_checks, opening_root, start_of, tail_at, tail_checks}
use Rattle.tw_chain.specs.Checks.{under_anchor}
use Rattle.tw_chain.specs.Checks.Check.{AnswerOf, CarriesThread, EventOf}
use Rattle.tw_chain.specs.Passing.{check_texts, held_by}
use Rattle.tw_audit.specs.HopHeld.{held_of_hop}
use Rattle.tw_audit.specs.PieceTexts.{bind_texts, hop_texts, opened_texts, seen_texts}

pub gathered : {X Y : Type 0} (f : X → List Y) (xs ys : List X) → flat_map f (xs ++ ys) ≡ flat_map f xs ++ flat_map f ys
gathered f [] ys = refl
gathered f (x ∷ xs) ys = ap (λ zs. f x ++ zs) (gathered f xs ys)
    ∙ sym (append_assoc (f x) (flat_map f xs) (flat_map f ys))

-- of the checks of hops, where it is known of those of each
gathered-hops : {Y : Type 0} (f : Check → List Y) (of_hop : HopPart → List Y)
    → ((part step : ℕ) (root : List ℕ) (hop : HopPart) → flat_map f (hop_checks part step root hop) ≡ of_hop hop)
    → (hops : List HopPart) (part step : ℕ) (root : List ℕ)
    → flat_map f (hops_checks part step root hops) ≡ flat_map of_hop hops
gathered-hops f of_hop each [] part step root = refl
gathered-hops f of_hop each (hop ∷ hops) part step root =
    gathered f (hop_checks part step root hop) (hops_checks (suc part) hop.entry.thread.step (opening_root hop.opening)
    hops)
    ∙ (λ k. each part step root hop k ++ gathered-hops f of_hop each hops (suc part) hop.entry.thread.step
    (opening_root hop.opening) k)

module _ (dig : List ℕ → List ℕ) where
  abbrev texts_of : List Check → List (List ℕ)
  texts_of cs = flat_map (check_texts dig) cs

  -- a step under a top, and a tree proof under its archive's root
  pub texts-answer : (at : Part) (asked : Ask) (shown : TreeProof)
      → part_texts dig at ++ tree_proof_texts dig asked shown ≡ texts_of
      (under_anchor 0 at ++ AnswerOf 0 at.opening.archive_root asked shown ∷ [])
  texts-answer at asked shown = ap (λ ts. part_texts dig at ++ ts) (sym (append-nil (tree_proof_texts dig asked shown)))

  texts-opened : (part : ℕ) (t : Thread) (o : Option Opening) → texts_of (opening_checks part t o) ≡ opened_texts dig
      t.step o
  texts-opened part t None = refl
  texts-opened part t (Some o) = append-nil (opening_texts dig t.step o)

  texts-bind : (part : ℕ) (hop : HopPart) → texts_of (bind_checks part hop) ≡ bind_texts dig hop
  texts-bind part hop = by (hop.bind == 0)
    where
      by : (carried : Bool) → texts_of (if carried then CarriesThread hop.entry.thread ∷ [] else link_checks part
          (bind_of hop))
          ≡ (if carried then [] else path_texts dig hop.link.links hop.bind hop.entry.thread.step hop.entry.thread.auth)
      by true = refl
      by false = append-nil (path_texts dig hop.link.links hop.bind hop.entry.thread.step hop.entry.thread.auth)

  texts-hop : (part step : ℕ) (root : List ℕ) (hop : HopPart) → texts_of (hop_checks part step root hop) ≡ hop_texts dig
      hop
  texts-hop part step root hop =
      ap (λ ts. tree_proof_texts dig (ask.Present hop.entry) hop.shown ++ ts)
      (gathered (check_texts dig) (bind_checks part hop) (opening_checks part hop.entry.thread hop.opening)
      ∙ (λ k. texts-bind part hop k ++ texts-opened part hop.entry.thread hop.opening k))

  texts-tail : (part : ℕ) (t : Thread) (tail : Tail) → texts_of (tail_checks part t tail) ≡ seen_texts dig
      (tail_at t tail) tail.event
  texts-tail part t tail = ap (λ ts. part_texts dig (tail_at t tail) ++ ts)
      (append-nil (audit_texts dig tail.opening.count tail.event.index tail.event.event tail.event.path))

  -- those of a proof from event to event, as they are handed on
  pub texts-precedes : (p : PrecedenceProof)
      → ((seen_texts dig p.head p.event ++ opened_texts dig (start_of p).step p.before) ++ flat_map (hop_texts dig)
      p.hops)
      ++ seen_texts dig (tail_at (end_of_order p) p.tail) p.tail.event
      ≡ proof_texts dig (Precedes p)
  texts-precedes p =
      let head : List (List ℕ) = seen_texts dig p.head p.event in
      let before : List (List ℕ) = opened_texts dig (start_of p).step p.before in
      let hops : List (List ℕ) = flat_map (hop_texts dig) p.hops in
      let tail : List (List ℕ) = seen_texts dig (tail_at (end_of_order p) p.tail) p.tail.event in
      append_assoc (head ++ before) hops tail
      ∙ sym (gathered (check_texts dig) (head_checks p) (hops_checks 1 (start_of p).step (opening_root p.before) p.hops
      ++ tail_checks (suc (length p.hops)) (end_of_order p) p.tail)
      ∙ (λ k. heads k ++ rests k))
    where
      heads : texts_of (head_checks p) ≡ seen_texts dig p.head p.event ++ opened_texts dig (start_of p).step p.before
      heads =
          ap (λ ts. part_texts dig p.head ++ (audit_texts dig p.head.opening.count p.event.index p.event.event
          p.event.path ++ ts)) (texts-opened 0 (start_of p) p.before)
          ∙ sym (append_assoc (part_texts dig p.head) (audit_texts dig p.head.opening.count p.event.index p.event.event
          p.event.path) (opened_texts dig (start_of p).step p.before))

      rests : texts_of (hops_checks 1 (start_of p).step (opening_root p.before) p.hops ++ tail_checks
          (suc (length p.hops)) (end_of_order p) p.tail)
          ≡ flat_map (hop_texts dig) p.hops ++ seen_texts dig (tail_at (end_of_order p) p.tail) p.tail.event
      rests =
          gathered (check_texts dig) (hops_checks 1 (start_of p).step (opening_root p.before) p.hops)
          (tail_checks (suc (length p.hops)) (end_of_order p) p.tail)
          ∙ (λ k. gathered-hops (check_texts dig) (hop_texts dig) texts-hop p.hops 1 (start_of p).step
          (opening_root p.before) k ++ texts-tail (suc (length p.hops))
          (end_of_order p) p.tail k)

-- ---- what is held

module _ (anchors : List Thread) where
  abbrev held_of : List Check → List Thread
  held_of cs = flat_map (held_by anchors) cs

  pub held-under : (part : ℕ) (at : Part) (after : List Check) → held_of after ≡ []
      → option_to_list (anchor_of anchors at.service at.top) ≡ held_of (under_anchor part at ++ after)
  held-under part at after none =
      sym (ap (λ ts. option_to_list (anchor_of anchors at.service at.top) ++ ts) none ∙ append-nil
      (option_to_list (anchor_of anchors at.service at.top)))

  held-opened : (part : ℕ) (t : Thread) (o : Option Opening) → held_of (opening_checks part t o) ≡ []
  held-opened part t None = refl
  held-opened part t (Some o) = refl

  held-bind : (part : ℕ) (hop : HopPart) → held_of (bind_checks part hop) ≡ held_of_hop anchors hop
  held-bind part hop = by (hop.bind == 0)
    where
      by : (carried : Bool) → held_of (if carried then CarriesThread hop.entry.thread ∷ [] else link_checks part
          (bind_of hop))
          ≡ (if carried then hop.entry.thread ∷ [] else option_to_list (anchor_of anchors hop.entry.thread.from
          hop.bind))
      by true = refl
      by false = append-nil (option_to_list (anchor_of anchors hop.entry.thread.from hop.bind))

  held-hop : (part step : ℕ) (root : List ℕ) (hop : HopPart) → held_of (hop_checks part step root hop) ≡ held_of_hop
      anchors hop
  held-hop part step root hop =
      gathered (held_by anchors) (bind_checks part hop) (opening_checks part hop.entry.thread hop.opening)
      ∙ (λ k. held-bind part hop k ++ held-opened part hop.entry.thread hop.opening k) ∙ append-nil
      (held_of_hop anchors hop)

  pub held-precedes : (p : PrecedenceProof)
      → option_to_list (anchor_of anchors p.head.service p.head.top) ++ flat_map (held_of_hop anchors) p.hops ≡ held
      anchors (Precedes p)
  held-precedes p =
      sym (gathered (held_by anchors) (head_checks p) (hops_checks 1 (start_of p).step (opening_root p.before) p.hops
      ++ tail_checks (suc (length p.hops)) (end_of_order p) p.tail)
      ∙ (λ k. heads k ++ rests k))
    where
      heads : held_of (head_checks p) ≡ option_to_list (anchor_of anchors p.head.service p.head.top)
      heads = sym (held-under 0 p.head (EventOf 0 p.head.opening p.event ∷ opening_checks 0 (start_of p) p.before)
          (held-opened 0 (start_of p) p.before))

      rests : held_of (hops_checks 1 (start_of p).step (opening_root p.before) p.hops ++ tail_checks
          (suc (length p.hops)) (end_of_order p) p.tail) ≡ flat_map (held_of_hop anchors) p.hops
      rests =
          gathered (held_by anchors) (hops_checks 1 (start_of p).step (opening_root p.before) p.hops)
          (tail_checks (suc (length p.hops)) (end_of_order p) p.tail)
          ∙ append-nil (held_of (hops_checks 1 (start_of p).step (opening_root p.before) p.hops))
          ∙ gathered-hops (held_by anchors) (held_of_hop anchors) held-hop p.hops 1 (start_of p).step
          (opening_root p.before)
