-- What is checked of a proof, check by check in the order of its bytes: each kind of proof says once which checks it has, and
-- all else is said over them (Passing, Accepting, Reasons).
use Rattle.std.specs.Prelude.{ℕ, suc, ◌-◌, List, [], ◌∷◌, ◌++◌, length, Option, ◌==◌, if◌then◌else◌}
use Rattle.std.specs.Option.{option_map_or}
use Rattle.tw_base.specs.declared.events.event_part.EventPart.{EventPart}
use Rattle.tw_base.specs.declared.history.thread.Key.{Key}
use Rattle.tw_base.specs.declared.history.thread.Thread.{Thread}
use Rattle.tw_base.specs.declared.history.tree_proof.Ask.{Ask}
use Rattle.tw_base.specs.declared.history.tree_proof.Ask.TheVariants.{Present, Absent as NoneOf}
use Rattle.tw_base.specs.declared.history.tree_proof.TreeProof.{TreeProof}
use Rattle.tw_skipproof.specs.declared.existence.Part.{Part}
use Rattle.tw_skipproof.specs.declared.opening.Opening.{Opening}
use Rattle.tw_chain.specs.declared.proof.HopPart.{HopPart}
use Rattle.tw_chain.specs.declared.proof.LinkProof.{LinkProof}
use Rattle.tw_chain.specs.declared.proof.PrecedenceProof.{PrecedenceProof}
use Rattle.tw_chain.specs.declared.proof.Proof.{Proof}
use Rattle.tw_chain.specs.declared.proof.Proof.TheVariants.{Exists, Precedes, Archived, Absent, Linked}
use Rattle.tw_chain.specs.declared.proof.Tail.{Tail}

-- the known upper end of a path: the authenticator of the anchor of a service and step, or one that the proof itself holds
pub data Upper : Type 0 where
  AtAnchor : Key → Upper
  Known : List ℕ → Upper

-- one check; the number is that of the proof's part
pub data Check : Type 0 where
  -- the lower step isn't above the upper one
  InOrder : (lower upper : ℕ) → Check
  -- an anchor of the service and step is held
  NeedsAnchor : Key → Check
  -- the thread is carried: no path binds it, so nothing more is checked of it
  CarriesThread : Thread → Check
  -- the path climbs from what the opening computes to the upper end
  PathOf : (part : ℕ) → Part → Upper → Check
  -- the path climbs from the authenticator given to the anchor's
  LinkOf : (part : ℕ) → LinkProof → Check
  -- the opening computes the thread's authenticator
  OpeningOf : (part : ℕ) → Thread → Opening → Check
  -- the event computes the event root of the opening
  EventOf : (part : ℕ) → Opening → EventPart → Check
  -- the tree proof gives the answer to the question under the archive's root
  AnswerOf : (part : ℕ) → (root : List ℕ) → Ask → TreeProof → Check

-- ---- the checks of each kind of proof

abbrev pub top_of : Part → Key
top_of at = record { from = at.service; step = at.top }

abbrev pub link_top : LinkProof → Key
link_top l = record { from = l.service; step = l.top }

-- a step under an anchor
abbrev pub under_anchor : (part : ℕ) → Part → List Check
under_anchor part at = InOrder at.step at.top ∷ NeedsAnchor (top_of at) ∷ PathOf part at (AtAnchor (top_of at)) ∷ []

-- an authenticator under an anchor
abbrev pub link_checks : (part : ℕ) → LinkProof → List Check
link_checks part l = InOrder l.step l.top ∷ NeedsAnchor (link_top l) ∷ LinkOf part l ∷ []

-- the opening of a thread's step, which isn't 0, where there is one
abbrev pub opening_checks : (part : ℕ) → Thread → Option Opening → List Check
opening_checks part t opening = option_map_or (λ o. InOrder 1 t.step ∷ OpeningOf part t o ∷ []) opening []

-- the link that binds a hop's thread
abbrev pub bind_of : HopPart → LinkProof
bind_of hop = record {
  service = hop.entry.thread.from;
  step = hop.entry.thread.step;
  top = hop.bind;
  auth = hop.entry.thread.auth;
  path = hop.link;
}

-- the thread of a hop is carried, or bound
abbrev pub bind_checks : (part : ℕ) → HopPart → List Check
bind_checks part hop = if hop.bind == 0 then CarriesThread hop.entry.thread ∷ [] else link_checks part (bind_of hop)

-- a hop that the archive of this step shows, of which this is the root
abbrev pub hop_checks : (part step : ℕ) → (root : List ℕ) → HopPart → List Check
hop_checks part step root hop =
    InOrder hop.entry.archived step ∷ AnswerOf part root (Present hop.entry) hop.shown
    ∷ (bind_checks part hop ++ opening_checks part hop.entry.thread hop.opening)

abbrev pub opening_root : Option Opening → List ℕ
opening_root opening = option_map_or (λ o. o.archive_root) opening []

-- hops one after another, the first of which has this part; each one's thread has the step whose archive shows the next
abbrev pub hops_checks : (part step : ℕ) → (root : List ℕ) → List HopPart → List Check
hops_checks part step root [] = []
hops_checks part step root (hop ∷ hops) =
    hop_checks part step root hop ++ hops_checks (suc part) hop.entry.thread.step (opening_root hop.opening) hops

-- the thread that the hops come to from this one on
abbrev pub last_hop_thread : Thread → List HopPart → Thread
last_hop_thread t [] = t
last_hop_thread t (hop ∷ hops) = last_hop_thread hop.entry.thread hops

-- the step before the second event's, with the authenticator that the opening of that event's step has of it
abbrev pub start_of : PrecedenceProof → Thread
start_of p = record { from = p.head.service; step = p.head.step - 1; auth = p.head.opening.prev }

-- the thread under which the first event stands: the last hop's, or the start where there is no hop
abbrev pub end_of_order : PrecedenceProof → Thread
end_of_order p = last_hop_thread (start_of p) p.hops

-- the first event's step under that thread's
abbrev pub tail_at : Thread → Tail → Part
tail_at t tail = record { service = t.from; step = tail.step; top = t.step; path = tail.path; opening = tail.opening }

abbrev pub tail_checks : (part : ℕ) → Thread → Tail → List Check
tail_checks part t tail =
    InOrder tail.step t.step ∷ PathOf part (tail_at t tail) (Known t.auth) ∷ EventOf part tail.opening tail.event ∷ []

-- the second event under its anchor, and the opening of the step before it
abbrev pub head_checks : PrecedenceProof → List Check
head_checks p = under_anchor 0 p.head ++ EventOf 0 p.head.opening p.event ∷ opening_checks 0 (start_of p) p.before

abbrev pub precedence_checks : PrecedenceProof → List Check
precedence_checks p =
    head_checks p ++ (hops_checks 1 (start_of p).step (opening_root p.before) p.hops ++ tail_checks (suc (length p.hops)) (end_of_order p) p.tail)

-- what is checked of a proof
abbrev pub checks : Proof → List Check
checks (Exists p) = under_anchor 0 p.at ++ EventOf 0 p.at.opening p.event ∷ []
checks (Precedes p) = precedence_checks p
checks (Archived p) =
    under_anchor 0 p.at ++ InOrder p.entry.archived p.at.step ∷ AnswerOf 0 p.at.opening.archive_root (Present p.entry) p.shown ∷ []
checks (Absent p) = under_anchor 0 p.at ++ AnswerOf 0 p.at.opening.archive_root (NoneOf p.key) p.shown ∷ []
checks (Linked p) = link_checks 0 p
