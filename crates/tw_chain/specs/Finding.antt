-- Whether a check passes, as a truth value, and the lowest reason of the checks that don't: for code that judges check after check,
-- and holds no more than the reason so far.
use Rattle.std.specs.Prelude.{ℕ, List, [], ◌∷◌, length, Bool, true, Option, Some, None, ◌==◌, ◌&&◌, not, nat_le, nat_lt, is_some, if◌then◌else◌}
use Rattle.std.specs.Option.{option_map_or}
use Rattle.std.specs.Str.{bytes_eq}
use Rattle.tw_base.specs.declared.events.event_part.EventPart.{EventPart}
use Rattle.tw_base.specs.declared.history.report.Reason.{Reason}
use Rattle.tw_base.specs.declared.history.thread.Thread.{Thread}
use Rattle.tw_base.specs.declared.history.tree_proof.Ancestor.{Ancestor}
use Rattle.tw_base.specs.declared.history.tree_proof.Ask.{Ask}
use Rattle.tw_base.specs.declared.history.tree_proof.TreeProof.{TreeProof}
use Rattle.tw_base.specs.events.AuditPath.{path_length, path_sides, root_above}
use Rattle.tw_base.specs.kinds.Levels.{top_level}
use Rattle.tw_base.specs.history.Reasons.{reason_number, reason_place}
use Rattle.tw_base.specs.kinds.Texts.{event_leaf_text}
use Rattle.tw_base.specs.history.TreeProofs.{ancestors_of}
use Rattle.tw_base.specs.history.Ways.{climbed_tree, has_asked_key, is_left}
use Rattle.tw_skipproof.specs.declared.existence.Part.{Part}
use Rattle.tw_skipproof.specs.declared.opening.Opening.{Opening}
use Rattle.tw_skipproof.specs.declared.path.Link.{Link}
use Rattle.tw_skipproof.specs.Openings.{opening_auth}
use Rattle.tw_skipproof.specs.Paths.{climbed as path_climbed, hop}
use Rattle.tw_treeproof.specs.Answers.{asks_entry, is_of_entry, place_text}
use Rattle.tw_chain.specs.Checks.{Check, link_top}
use Rattle.tw_chain.specs.Checks.Check.{InOrder, NeedsAnchor, CarriesThread, PathOf, LinkOf, OpeningOf, EventOf, AnswerOf}
use Rattle.tw_chain.specs.Checks.Upper.{AtAnchor}
use Rattle.tw_chain.specs.Passing.{anchor_at, reason_of, upper_auth}

-- ---- whether a check passes

abbrev pub has_shape : List Link → (from to : ℕ) → Bool
has_shape [] from to = nat_le from to
has_shape (link ∷ links) from to = nat_lt to from && (length link.others == top_level from && has_shape links (hop from to) to)

abbrev pub is_opening_at : ℕ → Opening → Bool
is_opening_at step o = nat_lt 0 step && length o.others == top_level step

abbrev pub is_key_free : Ask → List Ancestor → Bool
is_key_free ask [] = true
is_key_free ask (a ∷ up) = not (has_asked_key ask a.entry) && is_key_free ask up

abbrev pub is_same_kind : Bool → Bool → Bool
is_same_kind one other = if one then other else not other

module _ (dig : List ℕ → List ℕ) where
  abbrev pub climbs : List Link → (from to : ℕ) → (bottom : List ℕ) → (upper : Option (List ℕ)) → Bool
  climbs links from to bottom upper =
      option_map_or (λ auth. has_shape links from to && bytes_eq (path_climbed dig links from to bottom) auth) upper true

  abbrev pub reaches : Part → (upper : Option (List ℕ)) → Bool
  reaches at upper =
      option_map_or (λ auth. is_opening_at at.step at.opening && climbs at.path.links at.top at.step (opening_auth dig at.step at.opening) (Some auth)) upper true

  abbrev pub opens : Thread → Opening → Bool
  opens t o = is_opening_at t.step o && bytes_eq (opening_auth dig t.step o) t.auth

  abbrev pub shows : Opening → EventPart → Bool
  shows o e =
      nat_lt e.index o.count && (length e.path == path_length o.count e.index
      && bytes_eq (root_above dig (path_sides o.count e.index) e.path (dig (event_leaf_text e.event))) o.event_root)

  abbrev pub answers : (root : List ℕ) → Ask → TreeProof → Bool
  answers root ask proof =
      is_same_kind (is_of_entry proof) (asks_entry ask) && (is_key_free ask (ancestors_of proof)
      && bytes_eq (climbed_tree dig (is_left ask) (ancestors_of proof) (dig (place_text ask proof))) root)

  module _ (anchors : List Thread) where
    abbrev pub passes : Check → Bool
    passes (InOrder lower upper) = nat_le lower upper
    passes (NeedsAnchor key) = is_some (anchor_at anchors key)
    passes (CarriesThread t) = true
    passes (PathOf part at upper) = reaches at (upper_auth anchors upper)
    passes (LinkOf part l) = climbs l.path.links l.top l.step l.auth (upper_auth anchors (AtAnchor (link_top l)))
    passes (OpeningOf part t o) = opens t o
    passes (EventOf part o e) = shows o e
    passes (AnswerOf part root ask proof) = answers root ask proof

-- ---- the lowest reason

-- by number and then place; the first one stays where the other isn't lower
abbrev pub is_lower : Reason → Reason → Bool
is_lower one other =
    if nat_lt (reason_number one) (reason_number other) then true
    else (reason_number one == reason_number other && nat_lt (reason_place one) (reason_place other))

abbrev pub lower_of : Option Reason → Option Reason → Option Reason
lower_of None other = other
lower_of (Some one) None = Some one
lower_of (Some one) (Some other) = if is_lower other one then Some other else Some one

module _ (dig : List ℕ → List ℕ) (anchors : List Thread) where
  -- the lowest reason of the checks that don't pass, and of one number and place the first
  abbrev pub found_in : List Check → Option Reason
  found_in [] = None
  found_in (c ∷ cs) = lower_of (if passes dig anchors c then None else Some (reason_of c)) (found_in cs)

  -- the lowest reason so far, with those of more checks
  abbrev pub reason_with : Option Reason → List Check → Option Reason
  reason_with found more = lower_of found (found_in more)
