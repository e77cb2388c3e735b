use Rattle.tw_circle.proofs.Circles.{back-rings}
use Rattle.tw_circle.proofs.Opposing.{opposed-binds, without-hops}
use Rattle.tw_circle.proofs.Short.{no-ring}
use Rattle.tw_circle.proofs.laws.circle_laws.Goals as goal

pub returns : goal.returns
returns g c =
    let dig = g.H.Hasher.dig in
    record {
      no_circle = λ family hops start goal sound. back-rings dig family sound hops start goal;
      no_ring = no-ring dig g.met.H.Hasher.size;
      opposed = λ anchors others one other. opposed-binds dig anchors others one other g.met.H.Hasher.size
          g.met.H.Hasher.bytes;
      without_hops = without-hops dig;
    }
