use Rattle.tw_contradict.proofs.judging.with_own_order.Goals as goal

pub returns-in-Present : goal.returns-in-Present
returns-in-Present c = rw c.in-Present.is (λ dig anchors. c.with_order.ensures dig anchors)
