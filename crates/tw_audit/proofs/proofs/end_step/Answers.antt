use Rattle.std.proofs.Common.{◌-◌, length, ap, sym, ◌∙◌}
use Rattle.std.specs.Prelude.{slice_get}
use Rattle.tw_chain.specs.Checks.{start_of}
use Rattle.tw_chain.proofs.ChainShapes.{last_step-at}
use Rattle.tw_chain.proofs.EachCheck.{last-is}
use Rattle.tw_audit.proofs.proofs.end_step.Goals as goal

pub returns-in-Some : goal.returns-in-Some
returns-in-Some c =
    let p = c.args.proof.now in
    sym (last_step-at (start_of p).step p.hops c.in-Some.hop.now
    (sym (c.in-Some.ensures.value ∙ ap (λ hops. slice_get hops (length hops - 1)) c.as_slice.ensures)))
    ∙ last-is (start_of p) p.hops
