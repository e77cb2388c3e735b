use Rattle.std.specs.Prelude.{Ok}
use Rattle.tw_base.specs.declared.history.question.Question.TheVariants.{Export}
use Rattle.tw_history.specs.Refusals.{ReadsHistory}
use Rattle.tw_service.specs.Answered.{IsAcceptedFor}
use Rattle.tw_generate.proofs.AskedCalls.{asked}
use Rattle.tw_generate.proofs.Results.{if-ok}
use Rattle.tw_generate.proofs.Unrefused.{file-fails}
use Rattle.tw_generate.proofs.judging.file_of.Goals as goal

pub returns : goal.returns
unfolding IsAcceptedFor
returns g c = λ h plays. if-ok c.file_given.result (λ bytes is.
    let both = asked g.H.Hasher.dig g.D.Disk.view c.args.service.now c.ask.new.self h plays Export c.ask.result bytes
    c.ask.ensures is in
    let accepted = rw is at c.ask.ensures.accepted in
    let reads : ReadsHistory bytes (Ok h) = accepted h plays.0 in
    (both.0, reads)) c.file_given.ensures.value

pub file_given-requires : goal.file_given-requires
file_given-requires g c =
    file-fails g.H.Hasher.dig g.D.Disk.view c.args.service.now c.ask.new.self c.requires.0 c.requires.1 c.ask.result
    c.ask.ensures
