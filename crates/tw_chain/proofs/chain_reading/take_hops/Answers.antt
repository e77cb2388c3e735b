use Rattle.std.proofs.Common.{◌-◌}
use Rattle.std.proofs.lemmas.Result.{err_from_is_err_and}
use Rattle.tw_base.proofs.lemmas.format.TakeLaws.{each-ends, each-fails, each-more}
use Rattle.tw_chain.specs.Proofs.{following, hop_bytes, hop_codec}
use Rattle.tw_chain.proofs.ChainShapes.{following-more, following-none}
use Rattle.tw_chain.proofs.ProofCodec.{hop-lawful}
use Rattle.tw_chain.proofs.chain_reading.take_hops.Goals as goal

pub returns-in_err-take_hop : goal.returns-in_err-take_hop
returns-in_err-take_hop c =
    let p = err_from_is_err_and c.from_residual.result c.from_residual.ensures.1 in
    rw (p.1, p.2)
    (each-fails hop_bytes hop_codec hop-lawful _ (λ hop. hop) (λ hops. hops) c.args.bytes.now c.args.at.now
    c.loop-more.at c.take_hop.new.at c.take_hop.new.at (following c.args.count)
    (following (c.loop-more.more - 1)) (c.loop-more.more - 1) c.loop-more.hops
    (rw (following-more c.loop-more.more c.loop-more-test.true) at c.loop-more.invariant.taken)
    c.in_err-take_hop.ensures)

pub loop-more-preserved : goal.loop-more-preserved
loop-more-preserved c = record {
  within = c.in_ok-take_hop.ensures.2;
  taken =
      rw (c.in_ok-push.ensures.ok)
      (each-more hop_bytes hop_codec hop-lawful c.args.bytes.now c.args.at.now c.loop-more.at (following c.args.count)
      (following (c.loop-more.more - 1)) (c.loop-more.more - 1)
      c.loop-more.hops c.take_hop.new.at c.in_ok-take_hop.field-0
      (rw (following-more c.loop-more.more c.loop-more-test.true) at c.loop-more.invariant.taken)
      c.in_ok-take_hop.ensures.0 c.in_ok-take_hop.ensures.1);
}

pub returns : goal.returns
returns c =
    let all = each-ends hop_bytes hop_codec c.args.bytes.now c.args.at.now c.loop-more.at (following c.args.count)
    c.loop-more.hops
    (rw (following-none c.loop-more.more c.loop-more-test.false) at c.loop-more.invariant.taken) in
    (all.0, all.1, c.loop-more.invariant.within)
