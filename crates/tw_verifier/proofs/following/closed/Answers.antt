use Rattle.std.proofs.Common.{[], ◌∙◌, ap}
use Rattle.tw_base.specs.format.Formats.Format.{Done}
use Rattle.tw_verifier.specs.declared.chain.Chain.{Chain}
use Rattle.tw_verifier.specs.Chaining.{closed}
use Rattle.tw_verifier.proofs.following.closed.Goals as goal

pub returns : goal.returns
returns g c = λ anchors.
    ap Done (c.close.ensures anchors ∙ ap (λ (x : Chain). closed g.H.Hasher.dig anchors x []
    (record {
      step = c.args.at.part.step;
      path = c.args.at.part.path;
      opening = c.args.at.part.opening;
      event = c.args.event;
    })) c.into_inner.ensures)
