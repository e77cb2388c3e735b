use Rattle.std.proofs.Common.{sym, ◌∙◌, subst}
use Rattle.tw_archive.specs.declared.judgement.Judgement.{Judgement}
use Rattle.tw_archive.specs.Judging.{IsJudgementFor}
use Rattle.tw_service.proofs.Receptions.{answer-knows, refuse-tells}
use Rattle.tw_service.proofs.receiving.receive_by.Goals as goal

pub returns-clause-known : goal.returns-clause-known
returns-clause-known g c = λ archived is.
    subst (λ (j : Judgement). IsJudgementFor g.H.Hasher.dig c.args.message.now j)
    (answer-knows c.args.root.now.head.step c.args.root.now.time c.args.time c.in_ok-judgement.judgement archived
    (sym c.reception_by.ensures.answer ∙ is))
    c.in_ok-judgement.ensures.told

pub returns-clause-tells : goal.returns-clause-tells
returns-clause-tells g c = λ refusal is.
    refuse-tells c.args.root.now.head.step c.args.root.now.time c.args.time g.H.Hasher.dig c.args.message.now
    c.in_ok-judgement.judgement refusal c.in_ok-judgement.ensures.told (sym c.reception_by.ensures.answer ∙ is)
