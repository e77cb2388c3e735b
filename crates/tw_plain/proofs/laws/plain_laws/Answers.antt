use Rattle.tw_plain.proofs.PlainReports.{plain, plain-held}
use Rattle.tw_plain.proofs.Readable.{readable}
use Rattle.tw_plain.proofs.laws.plain_laws.Goals as goal

pub returns : goal.returns
returns g c = record {
  held = λ bytes lines p spelled. plain-held g.H.Hasher.dig g.met.H.Hasher.size g.met.H.Hasher.bytes bytes p spelled lines;
  so = λ bytes file p spelled. plain g.H.Hasher.dig g.met.H.Hasher.size g.met.H.Hasher.bytes bytes p spelled file;
  readable = readable;
}
