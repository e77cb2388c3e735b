use Rattle.tw_service.specs.Questions.{Besides}
use Rattle.tw_diskcmd.specs.Answers.{MachineAnswers, TableAnswersOr}
use Rattle.tw_diskcmd.specs.Appending.{MachineAdds, TableAdds, append_found}
use Rattle.tw_diskcmd.specs.Asking.{AnswersBy, AskComes, asked_bytes, asked_call, asked_table}
use Rattle.tw_diskcmd.proofs.Appendings.{append_once}
use Rattle.tw_diskcmd.proofs.Results.{one_answer}
use Rattle.tw_diskcmd.proofs.laws.told_laws.Goals as goal

pub returns-clause-adding : goal.returns-clause-adding
returns-clause-adding c = λ image events time before after. one_answer (append_found events time)
    (TableAdds events time) (MachineAdds events time) image before after

pub returns-clause-appending : goal.returns-clause-appending
returns-clause-appending c = λ a file bytes time image before after one other tells. append_once a file bytes tells
    image before after time one other

pub returns-clause-asking : goal.returns-clause-asking
unfolding AskComes
returns-clause-asking c = λ image q before after. one_answer (asked_bytes q)
    (TableAnswersOr (Besides q) (asked_table q)) (MachineAnswers (asked_call q) (AnswersBy q)) image before after
