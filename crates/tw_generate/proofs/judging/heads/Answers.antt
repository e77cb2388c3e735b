use Rattle.std.proofs.Common.{◌∙◌}
use Rattle.tw_generate.proofs.Results.{if-ok, list-same}
use Rattle.tw_generate.proofs.judging.heads.Goals as goal

pub returns : goal.returns
returns g c = λ t plays. if-ok c.list_of.result
    (λ heads is. is ∙ list-same _ _ _ _ _ _ (c.head-alpha.ensures.served t.alpha plays.0.0)
    (c.head-beta.ensures.served t.beta plays.1.0) (c.head-gamma.ensures.served t.gamma plays.2.0))
    c.list_of.ensures
