use Rattle.std.specs.Option.{option_map}
use Rattle.std.proofs.lemmas.Result.{IfOk-weaker}
use Rattle.tw_audit.specs.Tables.{pair_kept}
use Rattle.tw_audit.proofs.FinderLaws.{found-pair}
use Rattle.tw_audit.proofs.finder.Finder.into_pair.Goals as goal

pub returns-clause-pair : goal.returns-clause-pair
returns-clause-pair g c =
    IfOk-weaker c.into_pair.result _ _ (λ pair is repeated texts covered took.
    found-pair g.H.Hasher.dig c.args.self.repeated c.args.self.table repeated texts (option_map pair_kept pair) covered
    took (is g.H.Hasher.dig)) c.into_pair.ensures.pair
