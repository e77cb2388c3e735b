use Rattle.std.proofs.Common.{◌≡◌, ℕ, ap, false, subst}
use Rattle.std.specs.Prelude.{Err, Ok, Result, None, Some}
use Rattle.sha2.specs.Sha256.{sha256}
use Rattle.tw_base.specs.history.History.{History}
use Rattle.tw_disk.specs.MemDisk.{mem_disk_view}
use Rattle.tw_service.specs.Adding.{AppendsEvents}
use Rattle.tw_base.specs.declared.history.refusal.Refusal.{Refusal}
use Rattle.tw_base.specs.declared.history.thread.Thread.{Thread}
use Rattle.tw_world.specs.Hosts.{Answered, AnswersRefusal}
use Rattle.tw_world.specs.Hosts.Given.{OfEvents}
use Rattle.tw_world.specs.OnDisks.{DoesGiven}
use Rattle.tw_world.specs.declared.told.Answer.TheVariants.{Stepped}
use Rattle.tw_service.specs.Serves.{Serves, has_failed}
use Rattle.tw_world.proofs.AnsweredCalls.{append-answered, append-done, if-ok}
use Rattle.tw_world.proofs.serving.appended.Goals as goal

pub returns-in-Ok-clause-answers : goal.returns-in-Ok-clause-answers
returns-in-Ok-clause-answers c h served whole =
    let a = subst (λ (r : Result Thread Refusal). AppendsEvents sha256 mem_disk_view c.args.events.now None
    c.args.service.now c.append.new.self r) c.in-Ok.is c.append.ensures in
    append-done c.args.service.now c.append.new.self h served whole c.args.events.now c.in-Ok.field-0 c.steps.result a
    c.steps.ensures.served

pub returns-in-Ok-clause-does : goal.returns-in-Ok-clause-does
returns-in-Ok-clause-does c =
    let a = subst (λ (r : Result Thread Refusal). AppendsEvents sha256 mem_disk_view c.args.events.now None
    c.args.service.now c.append.new.self r) c.in-Ok.is c.append.ensures in
    (Ok c.in-Ok.field-0, a, ap (λ (n : ℕ). Some (Stepped n)) c.steps.ensures.value)

pub returns-in-Err-clause-does : goal.returns-in-Err-clause-does
returns-in-Err-clause-does c =
    let a = subst (λ (r : Result Thread Refusal). AppendsEvents sha256 mem_disk_view c.args.events.now None
    c.args.service.now c.append.new.self r) c.in-Err.is c.append.ensures in
    if-ok c.refused.result (AnswersRefusal c.in-Err.refusal)
    (DoesGiven (OfEvents c.args.events.now) c.args.service.now c.append.new.self)
    (λ answer after. (Err c.in-Err.refusal, a, after)) c.refused.ensures.answers

pub returns-in-Err-clause-answers : goal.returns-in-Err-clause-answers
returns-in-Err-clause-answers c =
    let a = subst (λ (r : Result Thread Refusal). AppendsEvents sha256 mem_disk_view c.args.events.now None
    c.args.service.now c.append.new.self r) c.in-Err.is c.append.ensures in
    if-ok c.refused.result (AnswersRefusal c.in-Err.refusal)
    (λ answer. (h : History) → Serves sha256 mem_disk_view c.args.service.now h → has_failed c.args.service.now ≡ false
    → Answered (OfEvents c.args.events.now) h c.append.new.self answer)
    (λ answer after h served whole. append-answered c.args.service.now c.append.new.self h served whole
    c.args.events.now c.in-Err.refusal answer after a)
    c.refused.ensures.answers
