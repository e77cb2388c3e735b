use Rattle.std.proofs.Common.{◌≡◌, ◌∙◌, length, subst, sym}
use Rattle.std.specs.Prelude.{Some}
use Rattle.tw_base.specs.declared.history.question.Question.{Question}
use Rattle.tw_base.specs.declared.history.question.Question.TheVariants.{Event}
use Rattle.tw_generate.specs.Summing.{IsQuestionAnswered}
use Rattle.tw_generate.proofs.Results.{if-ok}
use Rattle.tw_base.specs.history.Questions.{MayAsk}
use Rattle.tw_service.specs.Machine.Call.{Ask}
use Rattle.tw_generate.specs.Coming.{IsNotRefused}
use Rattle.tw_generate.proofs.claiming.existence.Goals as goal

pub returns : goal.returns
returns g c = λ t plays.
    let gamma : c.steps-last.result ≡ length t.gamma.steps = c.steps-last.ensures.served t.gamma plays.2.0 in
    if-ok c.answered.result
    (λ bytes is. (
      (plays.0, plays.1, is.0),
      subst (λ (q : Question). IsQuestionAnswered g.H.Hasher.dig t.gamma q bytes)
          (c.event.ensures ∙ (λ j. Event (gamma j) 0 (Some (gamma j)))) is.1,
    ))
    (c.answered.ensures.asked t.gamma plays.2)

pub answered-requires-clause-may : goal.answered-requires-clause-may
answered-requires-clause-may g c = subst (λ (q : Question). MayAsk q) (sym c.event.ensures) tt

pub answered-requires-clause-takes : goal.answered-requires-clause-takes
answered-requires-clause-takes g c =
    let can = c.requires in
    let t = can.2 in
    let gamma : c.steps-last.result ≡ length t.gamma.steps = c.steps-last.ensures.served t.gamma can.3.0.2.0 in
    let asked : c.event.result ≡ Event (length t.gamma.steps) 0 (Some (length t.gamma.steps)) = c.event.ensures
    ∙ (λ j. Event (gamma j) 0 (Some (gamma j))) in (
      t.gamma,
      can.3.0.2,
      subst (λ (q : Question). IsNotRefused g.H.Hasher.dig t.gamma (Ask q)) (sym asked)
          (c.generate_laws.ensures.asked can.0 can.1 t can.3.1).0,
    )
