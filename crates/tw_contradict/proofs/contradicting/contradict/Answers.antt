use Rattle.std.proofs.Common.{refl, inr}
use Rattle.tw_contradict.proofs.Judgements.{verdict-of}
use Rattle.tw_contradict.proofs.contradicting.contradict.Goals as goal

pub returns-in_ok-verdict_on-in-Accepted-2 : goal.returns-in_ok-verdict_on-in-Accepted-2
returns-in_ok-verdict_on-in-Accepted-2 g c =
    verdict-of g.H.Hasher.dig g.met.H.Hasher.size g.met.H.Hasher.bytes c.args.anchors.now c.args.others.now
    c.args.first.now c.args.second.now c.args.link.now
    c.in-Accepted.facts c.in-Accepted-2.other c.in_ok-verdict_on-in-Accepted-2.field-0
    (rw c.in-Accepted.is at c.in_ok-facts.ensures)
    (rw c.in-Accepted-2.is at c.in_ok-other.ensures) c.in_ok-verdict_on-in-Accepted-2.ensures

pub returns-in-Rejected-2 : goal.returns-in-Rejected-2
returns-in-Rejected-2 g c =
    inr (
      refl,
      (c.in-Accepted.facts, (rw c.in-Accepted.is at c.in_ok-facts.ensures)),
      (rw c.in-Rejected-2.is at c.in_ok-other.ensures),
    )
