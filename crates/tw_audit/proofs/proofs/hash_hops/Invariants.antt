use Rattle.std.proofs.Common.{take}
use Rattle.std.specs.List.{flat_map}
use Rattle.tw_base.specs.kinds.Handing.{Hands}
use Rattle.tw_audit.specs.PieceTexts.{hop_texts}
use Rattle.tw_audit.proofs.proofs.hash_hops.Given as goal

abbrev pub invariant-loop-hop : goal.invariant-loop-hop
invariant-loop-hop g l = Hands g.T.Transcript.took l.initial.texts l.texts (flat_map (hop_texts g.T.Transcript.dig)
    (take l.hop-index l.hops))
