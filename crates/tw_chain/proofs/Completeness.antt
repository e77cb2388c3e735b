-- The proofs that a history has are accepted under anchors, and claim what they are of.
use Rattle.std.proofs.Common.{◌≡◌, ℕ, suc, zero, ◌<◌, ◌≤◌, List, [], ◌∷◌, length, refl, sym, ap, ◌∙◌, subst, arith}
use Rattle.std.specs.Prelude.{Option, Some, None, IfSome, IsSome, slice_get}
use Rattle.std.specs.Option.{option_map}
use Rattle.std.proofs.lemmas.Option.{get_or_from_slice_get}
use Rattle.tw_base.specs.declared.events.event_part.EventPart.{EventPart}
use Rattle.tw_base.specs.declared.history.report.Claim.TheVariants as claims
use Rattle.tw_base.specs.declared.history.thread.Entry.{Entry}
use Rattle.tw_base.specs.declared.history.thread.Key.{Key}
use Rattle.tw_base.specs.declared.history.thread.Thread.{Thread}
use Rattle.tw_base.specs.declared.history.tree_proof.Ask.{Ask}
use Rattle.tw_base.specs.declared.history.tree_proof.Ask.TheVariants as ask
use Rattle.tw_base.specs.declared.history.tree_proof.TreeProof.{TreeProof}
use Rattle.tw_base.specs.history.Anchors.{anchor_of}
use Rattle.tw_base.specs.history.Auth.{auth}
use Rattle.tw_base.specs.kinds.Bytes.{AreBytes}
use Rattle.tw_base.specs.format.Formats.{Spells}
use Rattle.tw_base.specs.history.History.{History, entry_at, events_at}
use Rattle.tw_base.specs.kinds.Lists.{Each}
use Rattle.tw_base.specs.history.Sound.{IsSound}
use Rattle.tw_base.specs.history.Tree.{entries, tree}
use Rattle.tw_base.proofs.lemmas.kinds.ListLemmas.{Each-append}
use Rattle.tw_base.proofs.lemmas.history.Trees.{tree-rises}
use Rattle.tw_base.specs.history.TreeProofs.{IsSo, proof_of}
use Rattle.tw_skipproof.specs.declared.existence.ExistenceProof.{ExistenceProof}
use Rattle.tw_skipproof.specs.declared.existence.Part.{Part}
use Rattle.tw_skipproof.specs.Acceptance.{Reaches}
use Rattle.tw_skipproof.specs.HistoryProofs.{IsExistenceOf, IsPartOfHistory, MakesExistence}
use Rattle.tw_skipproof.specs.Existence.{existence_bytes}
use Rattle.tw_skipproof.specs.Paths.{Climbs}
use Rattle.tw_skipproof.proofs.ExistenceOf.{accepted-made, spelled-made}
use Rattle.tw_skipproof.proofs.OwnPaths.{path-of}
use Rattle.tw_skipproof.proofs.PartOf.{reaches-made}
use Rattle.tw_treeproof.specs.Answers.{Checks}
use Rattle.tw_treeproof.proofs.OwnProofs.{own-checks}
use Rattle.tw_chain.specs.declared.proof.AbsenceProof.{AbsenceProof}
use Rattle.tw_chain.specs.declared.proof.LinkProof.{LinkProof}
use Rattle.tw_chain.specs.declared.proof.Proof.{Proof}
use Rattle.tw_chain.specs.declared.proof.Proof.TheVariants.{Exists, Precedes, Archived, Absent, Linked}
use Rattle.tw_chain.specs.declared.proof.ThreadProof.{ThreadProof}
use Rattle.tw_chain.specs.Accepting.{Accepts, IsAccepted, claim_of}
use Rattle.tw_chain.specs.Checks.{Check, link_top, top_of, under_anchor}
use Rattle.tw_chain.specs.Checks.Check.{AnswerOf, InOrder, NeedsAnchor}
use Rattle.tw_chain.specs.Checks.Upper.{AtAnchor}
use Rattle.tw_chain.specs.Passing.{Passes, upper_auth}
use Rattle.tw_chain.specs.Claiming.{ClaimsOf, claim_at}
use Rattle.tw_chain.specs.OwnProofs.{IsAbsenceProofOf, IsLinkProofOf, IsOwnProof, IsThreadProofOf}
use Rattle.tw_chain.specs.Proofs.{proof_layout}
use Rattle.tw_chain.proofs.ProofCodec.{from_existence}
use Rattle.tw_chain.proofs.ArchiveAnswers.{lacks-is_so, received-is_so}

-- only a step from 1 on received a thread
pub from_1_of_entry : (h : History) (k : ℕ) (e : Entry) → entry_at h k ≡ Some e → 0 < k
from_1_of_entry h zero e at = let no : None ≡ Some e = at in cc
from_1_of_entry h (suc i) e at = omega arith

module _ (dig : List ℕ → List ℕ) (h : History) (step top : ℕ) (sound : IsSound h) where
  -- the tree's own proof checks under the opening's archive root
  own_checks : (p : Part) (asked : Ask) (shown : TreeProof) → IsPartOfHistory dig h step top p
      → IsSo (entries (tree h step)) asked → shown ≡ proof_of dig (tree h step) asked
      → Checks dig p.opening.archive_root asked shown
  own_checks p asked shown is so e =
      subst (Checks dig p.opening.archive_root asked) (sym e)
      (subst (λ root. Checks dig root asked (proof_of dig (tree h step) asked)) is.opening.binds.archive_root
      (own-checks dig (tree h step) asked (tree-rises h sound step) so))

  -- so does that of an entry that was received, which is no later than the step
  pub entry-shown : step ≤ length h.steps → (p : ThreadProof) → IsThreadProofOf dig h step top p
      → (p.entry.archived ≤ p.at.step) × Checks dig p.at.opening.archive_root (ask.Present p.entry) p.shown
  entry-shown has p is = (
    omega (arith, is.before, is.at.at_step),
    own_checks p.at (ask.Present p.entry) p.shown is.at (received-is_so h step sound has p.entry is.received is.before)
        is.shown,
  )

module _ (dig : List ℕ → List ℕ) (h : History) (step top : ℕ) (order : step ≤ top) (anchors : List Thread)
    (anchor : Thread)
    (held : anchor_of anchors h.name top ≡ Some anchor) (reached : anchor.auth ≡ auth dig h top) where
  -- a part of the history has the anchor's service and top
  part_held : (p : Part) → IsPartOfHistory dig h step top p → anchor_of anchors p.service p.top ≡ Some anchor
  part_held p is = (λ k. anchor_of anchors (is.service k) (is.at_top k)) ∙ held

  -- and reaches the anchor
  part_reaches : (p : Part) → IsPartOfHistory dig h step top p → 0 < step → Reaches dig p anchor.auth
  part_reaches p is from_1 = subst (Reaches dig p) (sym reached) (reaches-made dig h step top p is from_1 order)

  -- the check of the anchor passes, and so does one of a path that reaches the anchor's authenticator
  held-passes : (key : Key) → anchor_of anchors key.from key.step ≡ Some anchor → Passes dig anchors (NeedsAnchor key)
  held-passes key is = subst IsSome (sym is) refl

  upper-passes : (key : Key) (P : List ℕ → Type 0) → anchor_of anchors key.from key.step ≡ Some anchor → P anchor.auth
      → IfSome (upper_auth anchors (AtAnchor key)) P
  upper-passes key P is at = subst (λ (o : Option Thread). IfSome (option_map (λ (t : Thread). t.auth) o) P) (sym is) at

  under-passes : (p : Part) → IsPartOfHistory dig h step top p → 0 < step → Each (Passes dig anchors) (under_anchor 0 p)
  under-passes p is from_1 =
      let at = part_held p is in (
        omega (arith, order, is.at_step, is.at_top),
        (held-passes (top_of p) at, (upper-passes (top_of p) (Reaches dig p) at (part_reaches p is from_1), tt)),
      )

  pub existence-accepted : (index : ℕ) (p : ExistenceProof) → IsExistenceOf dig h step index top p
      → IsAccepted dig anchors (Exists p)
  existence-accepted index p is =
      let made = accepted-made dig h step index top p is order in
      let at = part_held p.at is.at in (
        made.order,
        (
          held-passes (top_of p.at) at,
          (
            upper-passes (top_of p.at) (Reaches dig p.at) at (subst (Reaches dig p.at) (sym reached) made.path),
            (made.event, tt),
          ),
        ),
      )

  thread-accepted : IsSound h → top ≤ length h.steps → (p : ThreadProof) → IsThreadProofOf dig h step top p
      → IsAccepted dig anchors (Archived p)
  thread-accepted sound has p is =
      let onward : List Check = InOrder p.entry.archived p.at.step ∷ AnswerOf 0 p.at.opening.archive_root
      (ask.Present p.entry) p.shown ∷ [] in
      let own = entry-shown dig h step top sound (omega (arith, order, has)) p is in
      let shown : Each (Passes dig anchors) onward = (own.0, (own.1, tt)) in
      Each-append (Passes dig anchors) (under_anchor 0 p.at) onward
      (under-passes p.at is.at (omega (arith, from_1_of_entry h p.entry.archived p.entry is.received, is.before))) shown

  absence-accepted : IsSound h → (p : AbsenceProof) → IsAbsenceProofOf dig h step top p → IsAccepted dig anchors
      (Absent p)
  absence-accepted sound p is =
      let onward : List Check = AnswerOf 0 p.at.opening.archive_root (ask.Absent p.key) p.shown ∷ [] in
      let shown : Each (Passes dig anchors) onward = (
        own_checks dig h step top sound p.at (ask.Absent p.key) p.shown is.at (lacks-is_so h step p.key is.none)
            is.shown,
        tt,
      ) in
      Each-append (Passes dig anchors) (under_anchor 0 p.at) onward (under-passes p.at is.at is.from_1) shown

  link-climbs : (p : LinkProof) → IsLinkProofOf dig h step top p → Climbs dig p.path.links p.top p.step p.auth
      anchor.auth
  link-climbs p is =
      let own = path-of dig h p.path.links top step order is.path in
      let made : Climbs dig p.path.links top step (auth dig h step) (auth dig h top) =
      record { shape = own.0; reaches = own.1 } in
      subst (λ a. Climbs dig p.path.links p.top p.step p.auth a) (sym reached)
      (subst (λ b. Climbs dig p.path.links p.top p.step b (auth dig h top)) (sym is.given)
      (subst (λ s. Climbs dig p.path.links p.top s (auth dig h step) (auth dig h top)) (sym is.at_step)
      (subst (λ t. Climbs dig p.path.links t step (auth dig h step) (auth dig h top)) (sym is.at_top) made)))

  link-accepted : (p : LinkProof) → IsLinkProofOf dig h step top p → IsAccepted dig anchors (Linked p)
  link-accepted p is =
      let at : anchor_of anchors p.service p.top ≡ Some anchor = (λ k. anchor_of anchors (is.service k) (is.at_top k))
      ∙ held in (
        omega (arith, order, is.at_step, is.at_top),
        (
          held-passes (link_top p) at,
          (upper-passes (link_top p) (Climbs dig p.path.links p.top p.step p.auth) at (link-climbs p is), tt),
        ),
      )

  -- each is accepted under the history's own authenticator of the top
  pub own-accepted : IsSound h → top ≤ length h.steps → (p : Proof) → IsOwnProof dig h step top p
      → IsAccepted dig anchors p
  own-accepted sound has (Exists p) is = existence-accepted is.0 p is.1
  own-accepted sound has (Precedes p) is = absurd is
  own-accepted sound has (Archived p) is = thread-accepted sound has p is
  own-accepted sound has (Absent p) is = absence-accepted sound p is
  own-accepted sound has (Linked p) is = link-accepted p is

-- ---- a proof of an event

module _ (dig : List ℕ → List ℕ) (h : History) (step index top : ℕ) (p : ExistenceProof)
    (is : IsExistenceOf dig h step index top p) where
  -- it claims that the event stands there
  pub claim_of-made : (event : List ℕ) → slice_get (events_at h step) index ≡ Some event
      → claim_of (Exists p) ≡ claim_at h step index event
  claim_of-made event there =
      let same : p.event.event ≡ event = ap (λ (e : EventPart). e.event) is.event ∙ get_or_from_slice_get
      (events_at h step) index event [] there in
      (λ k. claims.Exists (record {
        place = record { service = is.at.service k; step = is.at.at_step k; index = (is.event k).index };
        event = same k;
        time = sym is.at.opening.binds.time k;
      }))

  -- what is written of it spells it, and is accepted there
  pub spelled-accepted : (size : (text : List ℕ) → length (dig text) ≡ 32) (are : (text : List ℕ) → AreBytes (dig text))
      (anchors : List Thread) (anchor : Thread)
      → IsSound h → step ≤ top → top ≤ length h.steps → anchor_of anchors h.name top ≡ Some anchor
      → anchor.auth ≡ auth dig h top
      → Spells proof_layout (existence_bytes p) (Exists p) × Accepts dig anchors (existence_bytes p)
  spelled-accepted size are anchors anchor sound order has held reached =
      let spelled = from_existence (existence_bytes p) p (spelled-made dig h step index top p is size are sound order
      has) in
      (spelled, (Exists p, spelled, existence-accepted dig h step top order anchors anchor held reached index p is))

-- bytes that spell it are accepted
pub Accepts-made : (dig : List ℕ → List ℕ) (h : History) (step index top : ℕ) (bytes : List ℕ) (anchors : List Thread)
    (anchor : Thread)
    → step ≤ top → MakesExistence dig h step index top bytes → anchor_of anchors h.name top ≡ Some anchor
    → anchor.auth ≡ auth dig h top
    → Accepts dig anchors bytes
Accepts-made dig h step index top bytes anchors anchor order makes held reached = (
  Exists makes.0,
  from_existence bytes makes.0 makes.1,
  existence-accepted dig h step top order anchors anchor held reached index makes.0 makes.2,
)

-- ---- each kind claims what the history has

pub own-claims : (dig : List ℕ → List ℕ) (h : History) (step top : ℕ) (p : Proof) → IsOwnProof dig h step top p
    → ClaimsOf dig h step top p
own-claims dig h step top (Exists p) is = tt
own-claims dig h step top (Precedes p) is = tt
own-claims dig h step top (Archived p) is = (λ k. claims.Archived (is.at.service k) (is.at.at_step k) p.entry)
own-claims dig h step top (Absent p) is = (λ k. claims.Absent (is.at.service k) (is.at.at_step k) p.key)
own-claims dig h step top (Linked p) is = (λ k. claims.Linked (is.service k) (is.at_step k) (is.at_top k) (is.given k))
