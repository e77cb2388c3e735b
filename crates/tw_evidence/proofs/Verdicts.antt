-- When the verdict on evidence is Yes.
use Rattle.std.proofs.Common.{◌≡◌, ◌≢◌, ℕ, ◌≤◌, List, refl, ap, ◌∙◌}
use Rattle.std.specs.Prelude.{Bool, true, false, Option, Some, None, not, nat_le, if◌then◌else◌}
use Rattle.std.specs.Bool.{Decides}
use Rattle.std.specs.Option.{option_map_or}
use Rattle.std.specs.Str.{bytes_eq}
use Rattle.std.proofs.lemmas.Bool.{leb-true, le-leb}
use Rattle.std.proofs.lemmas.Bool.Decides.{Decides-and, Decides-not}
use Rattle.std.proofs.lemmas.Slice.Eq.{bytes_eq-Decides}
use Rattle.tw_base.specs.declared.history.report.Reason.{Reason}
use Rattle.tw_base.specs.declared.history.thread.Thread.{Thread}
use Rattle.tw_chain.specs.declared.proof.Proof.TheVariants.{Archived}
use Rattle.tw_chain.specs.Checks.{checks}
use Rattle.tw_chain.specs.Finding.{found_in}
use Rattle.tw_chain.proofs.Lowest.{found-none}
use Rattle.tw_chain.proofs.PassesLaws.{climbs-is}
use Rattle.tw_tmap.proofs.MapChecks.{passing-found}
use Rattle.tw_evidence.specs.declared.evidence.Evidence.{Evidence}
use Rattle.tw_evidence.specs.declared.fork.Fork.{Fork}
use Rattle.tw_evidence.specs.declared.fork.ForkReason.TheVariants.{Part, NoConflict, BadLink}
use Rattle.tw_evidence.specs.declared.fork.ForkVerdict.{ForkVerdict}
use Rattle.tw_evidence.specs.declared.fork.ForkVerdict.TheVariants.{Yes, No}
use Rattle.tw_evidence.specs.Forks.{ShowsFork, are_in_order, conflicts, fork_of, fork_verdict, link_climbs, lower}
use Rattle.tw_evidence.specs.Forks.{upper}

abbrev InOrder : Thread → Thread → Type 0
InOrder one other = (one.from ≡ other.from) × (one.step ≤ other.step)

pub in_order-is : (one other : Thread) → Decides (are_in_order one other) (InOrder one other)
in_order-is one other =
    Decides-and (bytes_eq one.from other.from) (nat_le one.step other.step) (bytes_eq-Decides one.from other.from)
    (leb-true one.step other.step, le-leb one.step other.step)

pub conflicts-is : (e : Evidence) → Decides (conflicts e) (InOrder (lower e) (upper e) × (e.bottom ≢ (lower e).auth))
conflicts-is e =
    let same : Bool = bytes_eq e.bottom (lower e).auth in
    Decides-and (are_in_order (lower e) (upper e)) (not same) (in_order-is (lower e) (upper e))
    (Decides-not same (bytes_eq-Decides e.bottom (lower e).auth))

module _ (dig : List ℕ → List ℕ) (anchors : List Thread) where
  module _ (e : Evidence) where
    abbrev pub one : Option Reason
    one = found_in dig anchors (checks (Archived e.first))

    abbrev pub two : Option Reason
    two = found_in dig anchors (checks (Archived e.second))

    -- the verdict of what is found of both proofs, whether the threads conflict, and whether the path climbs
    abbrev pub verdict_with : (first second : Option Reason) (conflict climbs : Bool) → ForkVerdict
    verdict_with first second conflict climbs =
        option_map_or (λ reason. No (Part 1 reason)) first (option_map_or (λ reason. No (Part 2 reason)) second
        (if not conflict then No NoConflict else (if climbs then Yes (fork_of e) else No BadLink)))

    shown : one ≡ None → two ≡ None → conflicts e ≡ true → link_climbs dig e ≡ true → ShowsFork dig anchors e
    shown first second conflict climbs =
        let had = (conflicts-is e).0 conflict in record {
          first = found-none dig anchors false (checks (Archived e.first)) first;
          second = found-none dig anchors false (checks (Archived e.second)) second;
          service = had.0.0;
          order = had.0.1;
          differs = had.1;
          climbs = (climbs-is dig e.link.links (upper e).step (lower e).step e.bottom (Some (upper e).auth)).0 climbs;
        }

    abbrev Yields : Fork → Type 0
    Yields f = ShowsFork dig anchors e × (f ≡ fork_of e)

    from_found : (f : Fork) (first second : Option Reason) (conflict climbs : Bool) → one ≡ first → two ≡ second
        → conflicts e ≡ conflict → link_climbs dig e ≡ climbs
        → verdict_with first second conflict climbs ≡ Yes f → Yields f
    from_found f (Some reason) second conflict climbs a b c d is = absurd (cc)
    from_found f None (Some reason) conflict climbs a b c d is = absurd (cc)
    from_found f None None false climbs a b c d is = absurd (cc)
    from_found f None None true false a b c d is = absurd (cc)
    from_found f None None true true a b c d is = (shown a b c d, cc)

    -- where the verdict is Yes, the evidence shows the fork that it tells
    pub yes-shows : (f : Fork) → fork_verdict dig anchors e ≡ Yes f → Yields f
    yes-shows f is = from_found f one two (conflicts e) (link_climbs dig e) refl refl refl refl is

    -- and where it shows a fork, the verdict is Yes
    pub shows-yes : ShowsFork dig anchors e → fork_verdict dig anchors e ≡ Yes (fork_of e)
    shows-yes is =
        let first : one ≡ None = passing-found dig anchors (checks (Archived e.first)) is.first in
        let second : two ≡ None = passing-found dig anchors (checks (Archived e.second)) is.second in
        let conflict : conflicts e ≡ true = (conflicts-is e).1 ((is.service, is.order), is.differs) in
        let climbs : link_climbs dig e ≡ true = (climbs-is dig e.link.links (upper e).step (lower e).step e.bottom
        (Some (upper e).auth)).1 is.climbs in
        ap (λ (o : Option Reason). verdict_with o two (conflicts e) (link_climbs dig e)) first
        ∙ ap (λ (o : Option Reason). verdict_with None o (conflicts e) (link_climbs dig e)) second
        ∙ ap (λ (b : Bool). verdict_with None None b (link_climbs dig e)) conflict
        ∙ ap (λ (b : Bool). verdict_with None None true b) climbs
