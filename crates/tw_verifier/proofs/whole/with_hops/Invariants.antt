-- The chain with the hops that are left comes to what the first one with all hops comes to.
use Rattle.std.proofs.Common.{◌≡◌, ◌+◌, ◌≤◌, length}
use Rattle.std.specs.Prelude.{reverse}
use Rattle.tw_base.specs.declared.kinds.limits.TheConstants.{LAST_STEP}
use Rattle.tw_base.specs.format.Codecs.{EachFits}
use Rattle.tw_chain.specs.declared.proof.Tail.{Tail}
use Rattle.tw_chain.specs.Proofs.{following, hop_bytes, hop_codec}
use Rattle.tw_verifier.specs.Chaining.{closed}
use Rattle.tw_verifier.proofs.whole.with_hops.Given as goal

abbrev pub invariant-loop-hop : goal.invariant-loop-hop
invariant-loop-hop g l =
    (l.chain.part + l.chain.more ≤ 65) × (l.chain.known.step ≤ LAST_STEP)
    × EachFits hop_bytes hop_codec (following l.chain.more) (reverse l.left.items)
    × ((tail : Tail) → closed g.H.Hasher.dig l.fn.anchors l.chain (reverse l.left.items) tail
    ≡ closed g.H.Hasher.dig l.fn.anchors l.fn.chain l.fn.hops tail)

abbrev pub decreases-loop-hop : goal.decreases-loop-hop
decreases-loop-hop g l = length l.left.items
