-- When a check of a proof passes, the reason where it doesn't, and what checking hashes.
use Rattle.std.specs.Prelude.{◌≡◌, ℕ, ◌≤◌, List, [], ◌∷◌, Option, Some, IsSome, IfSome}
use Rattle.std.specs.Option.{option_map, option_to_list}
use Rattle.tw_base.specs.declared.history.report.Reason.{Reason}
use Rattle.tw_base.specs.declared.history.report.Reason.TheVariants.{BadOrder, NotHeld, BadPath, BadOpening, BadEvent, BadTree, Carried}
use Rattle.tw_base.specs.declared.history.thread.Key.{Key}
use Rattle.tw_base.specs.declared.history.thread.Thread.{Thread}
use Rattle.tw_base.specs.history.Anchors.{anchor_of}
use Rattle.tw_base.specs.events.AuditPath.{audit_texts}
use Rattle.tw_skipproof.specs.Acceptance.{Reaches, ShowsEvent, part_texts}
use Rattle.tw_skipproof.specs.Openings.{IsOpeningAt, opening_auth, opening_texts}
use Rattle.tw_skipproof.specs.Paths.{Climbs, path_texts}
use Rattle.tw_treeproof.specs.Answers.{Checks, tree_proof_texts}
use Rattle.tw_chain.specs.Checks.{Check, Upper, link_top}
use Rattle.tw_chain.specs.Checks.Check.{InOrder, NeedsAnchor, CarriesThread, PathOf, LinkOf, OpeningOf, EventOf, AnswerOf}
use Rattle.tw_chain.specs.Checks.Upper.{AtAnchor, Known}

-- the anchor of this service and step, where it is held
abbrev pub anchor_at : List Thread → Key → Option Thread
anchor_at anchors key = anchor_of anchors key.from key.step

-- the authenticator of the upper end; none of an anchor that isn't held
abbrev pub upper_auth : (anchors : List Thread) → Upper → Option (List ℕ)
upper_auth anchors (AtAnchor key) = option_map (λ (t : Thread). t.auth) (anchor_at anchors key)
upper_auth anchors (Known auth) = Some auth

module _ (dig : List ℕ → List ℕ) where
  -- a path passes where its upper end isn't held: that the anchor is needed is a check of its own
  abbrev pub Passes : (anchors : List Thread) → Check → Type 0
  Passes anchors (InOrder lower upper) = lower ≤ upper
  Passes anchors (NeedsAnchor key) = IsSome (anchor_at anchors key)
  Passes anchors (CarriesThread t) = Unit {0}
  Passes anchors (PathOf part at upper) = IfSome (upper_auth anchors upper) (Reaches dig at)
  Passes anchors (LinkOf part l) =
      IfSome (upper_auth anchors (AtAnchor (link_top l))) (Climbs dig l.path.links l.top l.step l.auth)
  Passes anchors (OpeningOf part t o) = IsOpeningAt t.step o × (opening_auth dig t.step o ≡ t.auth)
  Passes anchors (EventOf part o e) = ShowsEvent dig o e
  Passes anchors (AnswerOf part root ask proof) = Checks dig root ask proof

  -- what the check hashes: of a part the opening's texts, and the path's from the bottom upwards
  abbrev pub check_texts : Check → List (List ℕ)
  check_texts (PathOf part at upper) = part_texts dig at
  check_texts (LinkOf part l) = path_texts dig l.path.links l.top l.step l.auth
  check_texts (OpeningOf part t o) = opening_texts dig t.step o
  check_texts (EventOf part o e) = audit_texts dig o.count e.index e.event e.path
  check_texts (AnswerOf part root ask proof) = tree_proof_texts dig ask proof
  check_texts _ = []

-- the reason where the check doesn't pass; that of a carried thread never stands, since it passes, and the strict form counts them
abbrev pub reason_of : Check → Reason
reason_of (InOrder lower upper) = BadOrder
reason_of (NeedsAnchor key) = NotHeld key.from key.step
reason_of (CarriesThread t) = Carried 1
reason_of (PathOf part at upper) = BadPath part
reason_of (LinkOf part l) = BadPath part
reason_of (OpeningOf part t o) = BadOpening part
reason_of (EventOf part o e) = BadEvent part
reason_of (AnswerOf part root ask proof) = BadTree part

-- the service and step whose anchor the check needs; the thread that it carries; what the verifier then holds
abbrev pub needed_by : Check → List Key
needed_by (NeedsAnchor key) = key ∷ []
needed_by _ = []

abbrev pub carried_by : Check → List Thread
carried_by (CarriesThread t) = t ∷ []
carried_by _ = []

abbrev pub held_by : (anchors : List Thread) → Check → List Thread
held_by anchors (NeedsAnchor key) = option_to_list (anchor_at anchors key)
held_by anchors (CarriesThread t) = t ∷ []
held_by anchors _ = []
