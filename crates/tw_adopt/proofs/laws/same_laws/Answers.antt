use Rattle.tw_adopt.proofs.SameHistories.{histories-same}
use Rattle.tw_adopt.proofs.laws.same_laws.Goals as goal

pub returns : goal.returns
returns g c = record {
  same = λ h other step sound_h sound_other in_h in_other e.
      histories-same g.H.Hasher.dig g.met.H.Hasher.size g.met.H.Hasher.bytes h other step sound_h sound_other in_h
      in_other e;
}
