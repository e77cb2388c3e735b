use Rattle.tw_skiplist.proofs.Once.{keeps_alike}
use Rattle.tw_skiplist.proofs.Growing.{Keeps-first, Keeps-grows, head_page, no_head_page}
use Rattle.tw_skiplist.proofs.laws.keeping_laws.Goals as goal

pub returns : goal.returns
returns g c =
    let dig = g.H.Hasher.dig in
    record {
      first = Keeps-first dig;
      more = Keeps-grows dig;
      no_page = no_head_page dig;
      page = head_page dig;
      one = keeps_alike dig (λ text. (g.met.H.Hasher.size text, g.met.H.Hasher.bytes text));
    }
