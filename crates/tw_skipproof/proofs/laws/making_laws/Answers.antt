use Rattle.tw_skipproof.proofs.ExistenceOf.{accepted-made, spelled-made, within-made}
use Rattle.tw_skipproof.proofs.OwnPaths.{opening-of, path-of}
use Rattle.tw_skipproof.proofs.PartOf.{reaches-made}
use Rattle.tw_skipproof.proofs.laws.making_laws.Goals as goal

pub returns-clause-opening : goal.returns-clause-opening
returns-clause-opening g c = opening-of g.H.Hasher.dig

pub returns-clause-path : goal.returns-clause-path
returns-clause-path g c = path-of g.H.Hasher.dig

pub returns-clause-part : goal.returns-clause-part
returns-clause-part g c = λ h step top at from_1 order is. reaches-made g.H.Hasher.dig h step top at is from_1 order

pub returns-clause-existence : goal.returns-clause-existence
returns-clause-existence g c = λ h step index top p order is. accepted-made g.H.Hasher.dig h step index top p is order

pub returns-clause-within : goal.returns-clause-within
returns-clause-within g c = λ h step index top p sound order has is. within-made g.H.Hasher.dig h step index top p is
    sound order has

pub returns-clause-spelled : goal.returns-clause-spelled
returns-clause-spelled g c = λ h step index top p sound order has is.
    spelled-made g.H.Hasher.dig h step index top p is g.met.H.Hasher.size g.met.H.Hasher.bytes sound order has
