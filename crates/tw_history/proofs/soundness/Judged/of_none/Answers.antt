use Rattle.std.proofs.Common.{◌++◌, ◌∷◌, [], ap, ◌∙◌, refl}
use Rattle.tw_history.proofs.RulesJudged.{judged-none}
use Rattle.tw_history.proofs.soundness.Judged.of_none.Goals as goal

pub returns : goal.returns
returns c h =
    judged-none h _
    (c.in_ok-push.ensures.items ∙ ap (λ xs. xs ++ c.of_none.result ∷ []) c.new-summaries.ensures.items
    ∙ ap (λ x. x ∷ []) c.of_none.ensures)
    refl c.new.ensures refl
