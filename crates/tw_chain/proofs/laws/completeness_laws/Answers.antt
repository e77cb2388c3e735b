use Rattle.tw_chain.proofs.Completeness.{Accepts-made, claim_of-made, existence-accepted, own-accepted, own-claims}
use Rattle.tw_chain.proofs.Completeness.{spelled-accepted}
use Rattle.tw_chain.proofs.OwnMade.{absence-made, event-made, link-made, thread-made}
use Rattle.tw_chain.proofs.OwnSpelling.{own-few, own-spelled}
use Rattle.tw_chain.proofs.laws.completeness_laws.Goals as goal

pub returns : goal.returns
returns g c = record {
  accepted = λ h step index top p anchors anchor order is held reached.
      existence-accepted g.H.Hasher.dig h step top order anchors anchor held reached index p is;
  accepts = Accepts-made g.H.Hasher.dig;
  claim = λ h step index top p event is there.
      claim_of-made g.H.Hasher.dig h step index top p is event there;
  spelled = λ h step index top p anchors anchor sound order has is held reached.
      spelled-accepted g.H.Hasher.dig h step index top p is g.met.H.Hasher.size g.met.H.Hasher.bytes anchors anchor
      sound
      order has held reached;
  has_event = event-made g.H.Hasher.dig;
  has_thread = thread-made g.H.Hasher.dig;
  has_absence = absence-made g.H.Hasher.dig;
  has_link = link-made g.H.Hasher.dig;
  own = λ h step top p anchors anchor sound order has is held reached.
      own-accepted g.H.Hasher.dig h step top order anchors anchor held reached sound has p is;
  own_claims = own-claims g.H.Hasher.dig;
  own_spelled = λ h step top p sound order some has few is.
      own-spelled g.H.Hasher.dig h step top g.met.H.Hasher.size g.met.H.Hasher.bytes sound order has p some few is;
  own_few = λ h step top p sound order has low is.
      own-few g.H.Hasher.dig h step top g.met.H.Hasher.size g.met.H.Hasher.bytes sound order has p low is;
}
