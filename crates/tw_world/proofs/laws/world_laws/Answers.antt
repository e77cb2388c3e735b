use Rattle.tw_world.proofs.Leading.{anchors-present, births-count, births-rise, family-sound, leads-later, names-found}
use Rattle.tw_world.proofs.Leading.{own-anchors, received-present}
use Rattle.tw_world.proofs.LineSteps.{reached-good}
use Rattle.tw_world.proofs.Together.{shows-order}
use Rattle.tw_world.proofs.laws.world_laws.Goals as goal

pub returns : goal.returns
returns g c =
    let dig = g.H.Hasher.dig in
    let size = g.met.H.Hasher.size in
    let bytes = g.met.H.Hasher.bytes in
    record {
      sound = λ may_claim w is. let o = reached-good dig may_claim w is in (family-sound dig w o, births-count dig w o);
      names = λ may_claim w is. names-found dig w (reached-good dig may_claim w is);
      anchors = λ may_claim w is. anchors-present dig w (reached-good dig may_claim w is);
      own_anchors = λ may_claim w p is. own-anchors dig w (reached-good dig may_claim w is) p;
      present = λ may_claim w is. received-present dig w (reached-good dig may_claim w is);
      rise = λ may_claim w is. births-rise dig w (reached-good dig may_claim w is);
      leads = λ may_claim w is. leads-later dig w (reached-good dig may_claim w is);
      together = λ may_claim w anchors proof p is spells accepted. shows-order dig w (reached-good dig may_claim w is)
          size bytes anchors proof p spells accepted;
    }
