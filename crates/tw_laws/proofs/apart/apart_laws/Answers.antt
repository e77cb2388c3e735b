use Rattle.tw_laws.proofs.OtherStores.{follower_closed, list_closed, service_closed, stands_closed}
use Rattle.tw_laws.proofs.apart.apart_laws.Goals as goal

pub returns : goal.returns
returns c = record {
  service = λ image root pages is. service_closed image root pages is;
  follower = λ image root pages is. follower_closed image root pages is;
  history = λ image name h is. stands_closed image name h is;
  list = λ image k is. list_closed image k is;
}
