use Rattle.tw_follow.proofs.Offering.{judges-once, judges-table, own-judged}
use Rattle.std.specs.Prelude.{Ok}
use Rattle.tw_follow.proofs.laws.offer_laws.Goals as goal

pub returns-clause-once : goal.returns-clause-once
returns-clause-once g c = λ head bytes one other j k free also. judges-once g.H.Hasher.dig head bytes one other j k free
    also

pub returns-clause-own : goal.returns-clause-own
returns-clause-own g c = λ h head bytes sound name has makes.
    let own = own-judged g.H.Hasher.dig h head makes.0 name has makes.2 in
    (own.0, judges-table g.H.Hasher.dig head bytes (Ok own.0) makes.0 makes.1 own.1, own.2)
