-- Whether a check passes, as a truth value, and what its passing is.
use Rattle.std.proofs.Common.{◌≡◌, ℕ, ◌≤◌, List, [], ◌∷◌, length, refl}
use Rattle.std.specs.Prelude.{Bool, true, false, Option, Some, None, ◌&&◌, ◌==◌, not, nat_le, nat_lt, IfSome}
use Rattle.std.specs.Bool.{Decides}
use Rattle.std.specs.Str.{bytes_eq}
use Rattle.std.proofs.lemmas.Bool.{leb-true, le-leb, not-true, not_from_false}
use Rattle.std.proofs.lemmas.Bool.Decides.{Decides-and, Decides-eqb, Decides-ltb}
use Rattle.std.proofs.lemmas.Slice.Eq.{bytes_eq-Decides}
use Rattle.tw_base.specs.declared.events.event_part.EventPart.{EventPart}
use Rattle.tw_base.specs.declared.history.thread.Thread.{Thread}
use Rattle.tw_base.specs.declared.history.tree_proof.Ancestor.{Ancestor}
use Rattle.tw_base.specs.declared.history.tree_proof.Ask.{Ask}
use Rattle.tw_base.specs.declared.history.tree_proof.TreeProof.{TreeProof}
use Rattle.tw_base.specs.events.AuditPath.{path_length, path_sides, root_above}
use Rattle.tw_base.specs.kinds.Levels.{top_level}
use Rattle.tw_base.specs.kinds.Lists.{Each}
use Rattle.tw_base.specs.kinds.Texts.{event_leaf_text}
use Rattle.tw_base.specs.history.TreeProofs.{ancestors_of}
use Rattle.tw_base.specs.history.Ways.{IsNotAsked, climbed_tree, has_asked_key, is_left}
use Rattle.tw_skipproof.specs.declared.existence.Part.{Part}
use Rattle.tw_skipproof.specs.declared.opening.Opening.{Opening}
use Rattle.tw_skipproof.specs.declared.path.Link.{Link}
use Rattle.tw_skipproof.specs.Acceptance.{Reaches, ShowsEvent}
use Rattle.tw_skipproof.specs.Openings.{IsOpeningAt, opening_auth}
use Rattle.tw_skipproof.specs.Paths.{Climbs, HasShape, climbed as path_climbed, hop}
use Rattle.tw_treeproof.specs.Answers.{Checks, asks_entry, is_of_entry, place_text}
use Rattle.tw_chain.specs.Checks.{Check, link_top}
use Rattle.tw_chain.specs.Checks.Check.{InOrder, NeedsAnchor, CarriesThread, PathOf, LinkOf, OpeningOf, EventOf}
use Rattle.tw_chain.specs.Checks.Check.{AnswerOf}
use Rattle.tw_chain.specs.Checks.Upper.{AtAnchor}
use Rattle.tw_chain.specs.Finding.{answers, climbs, has_shape, is_key_free, is_opening_at, is_same_kind, opens, passes}
use Rattle.tw_chain.specs.Finding.{reaches, shows}
use Rattle.tw_chain.specs.Passing.{Passes, upper_auth}

Decides-three : {P Q R : Type 0} (x y z : Bool) → Decides x P → Decides y Q → Decides z R → Decides (x && (y && z))
    (P × Q × R)
Decides-three x y z p q r =
    let both = Decides-and x (y && z) p (Decides-and y z q r) in
    (λ is. (let had = both.0 is in (had.0, had.1.0, had.1.1)), λ had. both.1 (had.0, (had.1, had.2)))

Decides-leb : (a b : ℕ) → Decides (nat_le a b) (a ≤ b)
Decides-leb a b = (leb-true a b, le-leb a b)

pub has_shape-is : (links : List Link) (from to : ℕ) → Decides (has_shape links from to) (HasShape links from to)
has_shape-is [] from to = Decides-leb from to
has_shape-is (link ∷ links) from to =
    Decides-three (nat_lt to from) (length link.others == top_level from) (has_shape links (hop from to) to)
    (Decides-ltb to from) (Decides-eqb (length link.others) (top_level from)) (has_shape-is links (hop from to) to)

pub is_opening_at-is : (step : ℕ) (o : Opening) → Decides (is_opening_at step o) (IsOpeningAt step o)
is_opening_at-is step o =
    Decides-and (nat_lt 0 step) (length o.others == top_level step) (Decides-ltb 0 step)
    (Decides-eqb (length o.others) (top_level step))

is_free-is : (ask : Ask) (up : List Ancestor) → Decides (is_key_free ask up) (Each (IsNotAsked ask) up)
is_free-is ask [] = (λ is. tt, λ all. refl)
is_free-is ask (a ∷ up) =
    let here : Bool = has_asked_key ask a.entry in
    Decides-and (not here) (is_key_free ask up) (not-true here, not_from_false here) (is_free-is ask up)

is_same_kind-is : (one other : Bool) → Decides (is_same_kind one other) (one ≡ other)
is_same_kind-is true true = (λ is. refl, λ same. refl)
is_same_kind-is true false = (λ is. cc, λ same. cc)
is_same_kind-is false true = (λ is. cc, λ same. cc)
is_same_kind-is false false = (λ is. refl, λ same. refl)

module _ (dig : List ℕ → List ℕ) where
  climbs_to : (links : List Link) (from to : ℕ) (bottom auth : List ℕ)
      → Decides (climbs dig links from to bottom (Some auth)) (Climbs dig links from to bottom auth)
  climbs_to links from to bottom auth =
      let up : List ℕ = path_climbed dig links from to bottom in
      let both = Decides-and (has_shape links from to) (bytes_eq up auth) (has_shape-is links from to)
      (bytes_eq-Decides up auth) in
      (λ is. (let had = both.0 is in record { shape = had.0; reaches = had.1 }), λ had. both.1 (had.shape, had.reaches))

  pub climbs-is : (links : List Link) (from to : ℕ) (bottom : List ℕ) (upper : Option (List ℕ))
      → Decides (climbs dig links from to bottom upper) (IfSome upper (Climbs dig links from to bottom))
  climbs-is links from to bottom None = (λ is. tt, λ none. refl)
  climbs-is links from to bottom (Some auth) = climbs_to links from to bottom auth

  pub reaches-is : (at : Part) (upper : Option (List ℕ)) → Decides (reaches dig at upper)
      (IfSome upper (Reaches dig at))
  reaches-is at None = (λ is. tt, λ none. refl)
  reaches-is at (Some auth) =
      let bottom : List ℕ = opening_auth dig at.step at.opening in
      let both = Decides-and (is_opening_at at.step at.opening) (climbs dig at.path.links at.top at.step bottom
      (Some auth))
      (is_opening_at-is at.step at.opening) (climbs_to at.path.links at.top at.step bottom auth) in
      (λ is. (let had = both.0 is in record { opening = had.0; path = had.1 }), λ had. both.1 (had.opening, had.path))

  pub opens-is : (t : Thread) (o : Opening) → Decides (opens dig t o)
      (IsOpeningAt t.step o × (opening_auth dig t.step o ≡ t.auth))
  opens-is t o =
      let auth : List ℕ = opening_auth dig t.step o in
      Decides-and (is_opening_at t.step o) (bytes_eq auth t.auth) (is_opening_at-is t.step o)
      (bytes_eq-Decides auth t.auth)

  pub shows-is : (o : Opening) (e : EventPart) → Decides (shows dig o e) (ShowsEvent dig o e)
  shows-is o e =
      let root : List ℕ = root_above dig (path_sides o.count e.index) e.path (dig (event_leaf_text e.event)) in
      let all = Decides-three (nat_lt e.index o.count) (length e.path == path_length o.count e.index)
      (bytes_eq root o.event_root)
      (Decides-ltb e.index o.count) (Decides-eqb (length e.path) (path_length o.count e.index))
      (bytes_eq-Decides root o.event_root) in (
        λ is. (let had = all.0 is in record { inside = had.0; size = had.1; reaches = had.2 }),
        λ had. all.1 (had.inside, had.size, had.reaches),
      )

  pub answers-is : (root : List ℕ) (ask : Ask) (proof : TreeProof) → Decides (answers dig root ask proof)
      (Checks dig root ask proof)
  answers-is root ask proof =
      let label : List ℕ = climbed_tree dig (is_left ask) (ancestors_of proof) (dig (place_text ask proof)) in
      let all = Decides-three (is_same_kind (is_of_entry proof) (asks_entry ask)) (is_key_free ask (ancestors_of proof))
      (bytes_eq label root)
      (is_same_kind-is (is_of_entry proof) (asks_entry ask)) (is_free-is ask (ancestors_of proof))
      (bytes_eq-Decides label root) in (
        λ is. (let had = all.0 is in record { kind = had.0; free = had.1; label = had.2 }),
        λ had. all.1 (had.kind, had.free, had.label),
      )

  pub passes-is : (anchors : List Thread) (c : Check) → Decides (passes dig anchors c) (Passes dig anchors c)
  passes-is anchors (InOrder lower upper) = Decides-leb lower upper
  passes-is anchors (NeedsAnchor key) = (λ is. is, λ is. is)
  passes-is anchors (CarriesThread t) = (λ is. tt, λ carried. refl)
  passes-is anchors (PathOf part at upper) = reaches-is at (upper_auth anchors upper)
  passes-is anchors (LinkOf part l) = climbs-is l.path.links l.top l.step l.auth
      (upper_auth anchors (AtAnchor (link_top l)))
  passes-is anchors (OpeningOf part t o) = opens-is t o
  passes-is anchors (EventOf part o e) = shows-is o e
  passes-is anchors (AnswerOf part root ask proof) = answers-is root ask proof
