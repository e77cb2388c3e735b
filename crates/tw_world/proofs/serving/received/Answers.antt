use Rattle.std.proofs.Common.{◌≡◌, false, refl, subst}
use Rattle.std.specs.Prelude.{Err, Ok, Result, None}
use Rattle.sha2.specs.Sha256.{sha256}
use Rattle.tw_base.specs.history.History.{History}
use Rattle.tw_disk.specs.MemDisk.{mem_disk_view}
use Rattle.tw_service.specs.Adding.{ReceivesBytes}
use Rattle.tw_base.specs.declared.history.refusal.Refusal.{Refusal}
use Rattle.tw_msg.specs.declared.receipt.Receipt.{Receipt}
use Rattle.tw_world.specs.Hosts.{Answered, AnswersRefusal}
use Rattle.tw_world.specs.Hosts.Given.{OfBytes}
use Rattle.tw_world.specs.OnDisks.{DoesGiven}
use Rattle.tw_service.specs.Serves.{Serves, has_failed}
use Rattle.tw_world.proofs.AnsweredCalls.{if-ok, receive-answered, receive-done}
use Rattle.tw_world.proofs.serving.received.Goals as goal

pub returns-in-Ok-clause-answers : goal.returns-in-Ok-clause-answers
returns-in-Ok-clause-answers c h served whole =
    let a = subst (λ (r : Result Receipt Refusal). ReceivesBytes sha256 mem_disk_view c.args.bytes.now None
    c.args.service.now c.receive.new.self r) c.in-Ok.is c.receive.ensures in
    receive-done c.args.service.now c.receive.new.self h served whole c.args.bytes.now c.in-Ok.receipt a

pub returns-in-Ok-clause-does : goal.returns-in-Ok-clause-does
returns-in-Ok-clause-does c =
    let a = subst (λ (r : Result Receipt Refusal). ReceivesBytes sha256 mem_disk_view c.args.bytes.now None
    c.args.service.now c.receive.new.self r) c.in-Ok.is c.receive.ensures in
    (Ok c.in-Ok.receipt, a, refl)

pub returns-in-Err-clause-does : goal.returns-in-Err-clause-does
returns-in-Err-clause-does c =
    let a = subst (λ (r : Result Receipt Refusal). ReceivesBytes sha256 mem_disk_view c.args.bytes.now None
    c.args.service.now c.receive.new.self r) c.in-Err.is c.receive.ensures in
    if-ok c.refused.result (AnswersRefusal c.in-Err.refusal)
    (DoesGiven (OfBytes c.args.bytes.now) c.args.service.now c.receive.new.self)
    (λ answer after. (Err c.in-Err.refusal, a, after)) c.refused.ensures.answers

pub returns-in-Err-clause-answers : goal.returns-in-Err-clause-answers
returns-in-Err-clause-answers c =
    let a = subst (λ (r : Result Receipt Refusal). ReceivesBytes sha256 mem_disk_view c.args.bytes.now None
    c.args.service.now c.receive.new.self r) c.in-Err.is c.receive.ensures in
    if-ok c.refused.result (AnswersRefusal c.in-Err.refusal)
    (λ answer. (h : History) → Serves sha256 mem_disk_view c.args.service.now h → has_failed c.args.service.now ≡ false
    → Answered (OfBytes c.args.bytes.now) h c.receive.new.self answer)
    (λ answer after h served whole. receive-answered c.args.service.now c.receive.new.self h served whole
    c.args.bytes.now c.in-Err.refusal answer after a)
    c.refused.ensures.answers
