use Rattle.std.proofs.Common.{subst}
use Rattle.tw_base.specs.kinds.Lists.{Each}
use Rattle.tw_base.proofs.lemmas.kinds.ListLemmas.{Each-map}
use Rattle.tw_outside.specs.Files.{IsThere}
use Rattle.tw_reachcmd.proofs.auditing.read_rest.Goals as goal

pub read_family-requires : goal.read_family-requires
read_family-requires g c =
    Each-map (g.I.Inputs.may_ask c.args.inputs.now) (g.I.Inputs.may_ask c.judge_front.new.inputs) c.args.histories.now
    (λ other may. (c.judge_front.ensures.same_names other).1 may) c.requires.histories

pub returns-clause-histories_there : goal.returns-clause-histories_there
returns-clause-histories_there g c =
    subst (λ t. Each (IsThere t) c.args.histories.now) c.judge_front.ensures.kept c.in_ok-read_family.ensures.there
