use Rattle.tw_verifier.proofs.judging.JudgingSegments.whole.Goals as goal

pub returns : goal.returns
returns g c = c.ended.ensures g.H.Hasher.dig c.args.self.anchors
