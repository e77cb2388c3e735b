use Rattle.std.proofs.Common.{◌≡◌, ◌+◌, ◌*◌, ◌∷◌, ◌++◌, take, length}
use Rattle.std.specs.Int.{w64, to_be_bytes}
use Rattle.tw_base.specs.kinds.Digests.{AllDigests}
use Rattle.tw_base.specs.kinds.Texts.{joined}
use Rattle.tw_base.proofs.history.told_labels.authenticator_told.Given as goal

abbrev pub invariant-loop-label : goal.invariant-loop-label
invariant-loop-label g l =
    (l.text.items ≡ 0x12 ∷ (to_be_bytes w64 l.step ++ length l.labels ∷ joined (take l.label-index l.labels)))
    × (length l.text.items ≡ 10 + 32 * l.label-index)
    × AllDigests (take l.label-index l.labels)
