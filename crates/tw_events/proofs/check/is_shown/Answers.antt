use Rattle.std.proofs.Common.{ap, sym, ◌∙◌}
use Rattle.tw_base.specs.events.AuditPath.{path_sides, root_above}
use Rattle.tw_events.proofs.check.is_shown.Goals as goal

pub returns-then-path-len : goal.returns-then-path-len
returns-then-path-len g c = (
  λ no. let h = no in cc,
  λ checks. absurd (c.if-path-len.true (checks.size ∙ sym (c.len.ensures.value ∙ c.sides_of-sides.ensures.len))),
)

pub returns : goal.returns
returns g c =
    let reached = c.root_above_leaf-reached.ensures.root ∙ ap (λ s. root_above g.H.Hasher.dig s c.args.path.now
    c.event_leaf-leaf.result) c.sides_of-sides.ensures.sides
    ∙ ap (root_above g.H.Hasher.dig (path_sides c.args.count c.args.index) c.args.path.now) c.event_leaf-leaf.ensures
    in (
      λ yes. record {
        inside = c.if-index-count.false;
        size = c.if-path-len.false ∙ c.len.ensures.value ∙ c.sides_of-sides.ensures.len;
        reaches = sym reached ∙ c.is_same_digest.ensures.0 yes;
      },
      λ checks. c.is_same_digest.ensures.1 (reached ∙ checks.reaches),
    )
