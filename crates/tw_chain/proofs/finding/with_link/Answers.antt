use Rattle.std.proofs.Common.{◌≡◌, ℕ, List, [], ◌∷◌, sym, ◌∙◌}
use Rattle.std.specs.Prelude.{Bool, Option, Some, None, if◌then◌else◌}
use Rattle.std.specs.Bool.{Decides}
use Rattle.tw_base.specs.declared.history.report.Reason.{Reason}
use Rattle.tw_base.specs.declared.history.report.Reason.TheVariants.{BadPath, NotHeld}
use Rattle.tw_base.specs.declared.history.thread.Thread.{Thread}
use Rattle.tw_skipproof.specs.declared.path.Path.{Path}
use Rattle.tw_skipproof.specs.Paths.{Climbs}
use Rattle.tw_chain.specs.declared.proof.LinkProof.{LinkProof}
use Rattle.tw_chain.specs.Checks.{link_checks, link_top}
use Rattle.tw_chain.specs.Checks.Check.{InOrder, LinkOf}
use Rattle.tw_chain.specs.Finding.{lower_of, reason_with}
use Rattle.tw_chain.specs.Passing.{anchor_at}
use Rattle.tw_chain.proofs.FoundSteps.{found-held, found-not_held}
use Rattle.tw_chain.proofs.PassesLaws.{passes-is}
use Rattle.tw_chain.proofs.finding.with_link.Goals as goal

abbrev link_of : Thread → (top : ℕ) → Path → LinkProof
link_of t top path = record { service = t.from; step = t.step; top = top; auth = t.auth; path = path }

module _ (dig : List ℕ → List ℕ) (anchors : List Thread) (found before : Option Reason) (part : ℕ) (l : LinkProof)
    (was : before ≡ reason_with dig anchors found (InOrder l.step l.top ∷ [])) where
  link-not_held : anchor_at anchors (link_top l) ≡ None
      → lower_of before (Some (NotHeld l.service l.top)) ≡ reason_with dig anchors found (link_checks part l)
  link-not_held = found-not_held dig anchors found before (InOrder l.step l.top) (link_top l) (LinkOf part l)
      (Climbs dig l.path.links l.top l.step l.auth) (passes-is dig anchors (LinkOf part l)) was

  link-held : (anchor : Thread) (b : Bool) → anchor_at anchors (link_top l) ≡ Some anchor
      → Decides b (Climbs dig l.path.links l.top l.step l.auth anchor.auth)
      → lower_of before (if b then None else Some (BadPath part)) ≡ reason_with dig anchors found (link_checks part l)
  link-held = found-held dig anchors found before (InOrder l.step l.top) (link_top l) (LinkOf part l)
      (Climbs dig l.path.links l.top l.step l.auth) (passes-is dig anchors (LinkOf part l)) was

pub returns-in-None : goal.returns-in-None
returns-in-None g c =
    c.lower.ensures
    ∙ link-not_held g.H.Hasher.dig c.args.anchors.now c.args.found c.with_order-found.result c.args.part
    (link_of c.args.thread.now c.args.top c.args.path.now)
    (c.with_order-found.ensures g.H.Hasher.dig c.args.anchors.now) (sym c.find_anchor.ensures ∙ c.in-None.is)

pub returns-in-Some : goal.returns-in-Some
returns-in-Some g c =
    c.unless.ensures
    ∙ link-held g.H.Hasher.dig c.args.anchors.now c.args.found c.with_order-found.result c.args.part
    (link_of c.args.thread.now c.args.top c.args.path.now)
    (c.with_order-found.ensures g.H.Hasher.dig c.args.anchors.now) c.in-Some.anchor c.climbs.result
    (sym c.find_anchor.ensures ∙ c.in-Some.is) c.climbs.ensures
