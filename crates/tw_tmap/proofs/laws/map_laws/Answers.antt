use Rattle.std.proofs.Common.{sym, ◌∙◌}
use Rattle.tw_tmap.specs.declared.map_verdict.MapVerdict.TheVariants.{Yes}
use Rattle.tw_tmap.proofs.MapChecks.{accepted-yes, gap-apart, judged-gap, no-lowest, yes-accepted}
use Rattle.tw_tmap.proofs.OwnMaps.{own-accepted}
use Rattle.tw_tmap.proofs.laws.map_laws.Goals as goal

pub returns-clause-yes : goal.returns-clause-yes
returns-clause-yes g c = λ anchors low high l h upto. (
  yes-accepted g.H.Hasher.dig anchors low high l h upto,
  λ all. accepted-yes g.H.Hasher.dig anchors low high all.0 ∙ (λ k. Yes (sym all.1 k) (sym all.2 k) (sym all.3 k)),
)

pub returns-clause-gap : goal.returns-clause-gap
returns-clause-gap g c = λ anchors low high.
    (gap-apart g.H.Hasher.dig anchors low high, λ never. sym (judged-gap g.H.Hasher.dig anchors low high never))

pub returns-clause-no : goal.returns-clause-no
returns-clause-no g c = no-lowest g.H.Hasher.dig

pub returns-clause-own : goal.returns-clause-own
returns-clause-own g c = own-accepted g.H.Hasher.dig
