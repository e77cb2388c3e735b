use Rattle.std.proofs.Common.{◌≤◌, length}
use Rattle.tw_base.proofs.lemmas.format.TakeLaws.{EachTaken}
use Rattle.tw_chain.specs.Proofs.{following, hop_bytes, hop_codec}
use Rattle.tw_chain.proofs.chain_reading.take_hops.Given as goal

abbrev pub invariant-loop-more : goal.invariant-loop-more
invariant-loop-more l = record {
  within : l.at ≤ length l.bytes;
  taken : EachTaken hop_bytes hop_codec l.bytes l.fn.at (following l.count) (following l.more) l.hops l.at;
}

abbrev pub decreases-loop-more : goal.decreases-loop-more
decreases-loop-more l = l.more
