use Rattle.tw_plain.proofs.PlainMaps.{plain-map}
use Rattle.tw_plain.proofs.laws.plain_map_laws.Goals as goal

pub returns : goal.returns
returns g c = record {
  so = λ low_bytes high_bytes file low high l h upto low_spelled high_spelled.
      plain-map g.H.Hasher.dig g.met.H.Hasher.size g.met.H.Hasher.bytes low_bytes high_bytes file low high low_spelled high_spelled l h upto;
}
