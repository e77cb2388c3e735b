use Rattle.std.proofs.Common.{◌≡◌, ◌∙◌, ap, false, subst, sym, Bool}
use Rattle.std.specs.Prelude.{◌↔◌, IsTrue, is_some, Result, Ok, Err}
use Rattle.tw_msg.specs.declared.receipt.Receipt.{Receipt}
use Rattle.tw_base.specs.declared.history.refusal.Refusal.{Refusal}
use Rattle.tw_base.specs.declared.history.refusal.Refusal.TheVariants.{DiskFault}
use Rattle.tw_service.proofs.Received.{received_refused, received_taken}
use Rattle.tw_service.proofs.service.Service.take.Goals as goal

abbrev fails : Refusal → Result Receipt Refusal
fails why = Err why

-- no disk fault is remembered after an answer
no_fault : (broken : Bool) (receipt : Receipt) → broken ≡ false
    → IsTrue broken ↔ (◌≡◌ {A = Result Receipt Refusal} (Ok receipt) (Err DiskFault))
no_fault broken receipt whole =
    (λ failed. (let was : IsTrue false = subst (λ (b : Bool). IsTrue b) whole failed in cc), λ is. cc)

-- one is after a refusal that is one
of_fault : (broken : Bool) (r : Refusal) → IsTrue broken ↔ (r ≡ DiskFault) → IsTrue broken ↔ (fails r ≡ fails DiskFault)
of_fault broken r flag = (λ failed. ap fails (flag.0 failed), λ is. flag.1 cc)

pub returns-in-Some : goal.returns-in-Some
returns-in-Some g c =
    received_refused g.D.Disk.view g.met.D.Disk.only_now g.H.Hasher.dig c.args.message.now c.args.time c.args.self.now
    c.in-Some.refusal (sym c.in-Some.is ∙ c.own_refusal.ensures.answer)

pub returns-in-Ok : goal.returns-in-Ok
returns-in-Ok g c =
    let whole = c.own_refusal.ensures.whole (ap is_some c.in_default.is) in
    received_taken g.D.Disk.view g.met.D.Disk.only_now g.H.Hasher.dig c.args.message.now c.args.time c.args.self.now _
    (Ok c.in-Ok.receipt) (sym c.in_default.is ∙ c.own_refusal.ensures.answer) whole
    (c.own_refusal.ensures.other (ap is_some c.in_default.is)) c.in-Ok.ensures.receives
    (no_fault c.args.self.now.is_broken c.in-Ok.receipt whole)

pub returns-in-Err : goal.returns-in-Err
returns-in-Err g c =
    received_taken g.D.Disk.view g.met.D.Disk.only_now g.H.Hasher.dig c.args.message.now c.args.time c.args.self.now _
    (Err c.in-Err.refusal) (sym c.in_default.is ∙ c.own_refusal.ensures.answer)
    (c.own_refusal.ensures.whole (ap is_some c.in_default.is)) (c.own_refusal.ensures.other
    (ap is_some c.in_default.is)) c.in-Err.ensures.receives (of_fault c.is_disk_fault-self.result c.in-Err.refusal
    c.is_disk_fault-self.ensures)
