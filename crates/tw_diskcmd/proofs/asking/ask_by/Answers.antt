use Rattle.std.proofs.Common.{sym, subst}
use Rattle.sha2.specs.Sha256.{sha256}
use Rattle.tw_base.specs.kinds.Faults.{Rose}
use Rattle.tw_service.specs.Serves.{Serves, disk_of, has_failed, name_of, pages_of, record_of}
use Rattle.tw_pages.specs.Disks.{RestsAtState}
use Rattle.tw_pages.specs.Records.{written_record}
use Rattle.tw_pages.proofs.AtRest.{own_rest as own_rest_as}
use Rattle.tw_pages.proofs.Written.{rest_for_good, still_rests}
use Rattle.tw_answers.specs.Roots.{root_kind}
use Rattle.tw_diskcmd.specs.Disks.{IsLeft, IsService, found_disk}
use Rattle.tw_diskcmd.proofs.StoreAtRest.{rose_since, same_left}
use Rattle.tw_diskcmd.proofs.AtRest.{own_rest}
use Rattle.tw_diskcmd.proofs.QuestionAnswers.{asked_came}
use Rattle.tw_diskcmd.proofs.asking.ask_by.Goals as goal

pub returns-clause-comes : goal.returns-clause-comes
returns-clause-comes g c = λ found before opens serves le.
    let d = g.D.Disk in
    let old = c.args.service in
    let asks = c.ask.ensures.asks in
    asked_came (found_disk found before (d.view c.close.result).faults) c.args.question.now (has_failed old)
    (record_of old) (pages_of d.view old) opens c.requires.whole
    (Serves sha256 d.view old) (Serves sha256 d.view c.ask.new.self) serves c.ask.result c.came-outcome.result
    c.came-outcome.ensures asks.table c.ask.ensures.made c.ask.ensures.accepted asks.machine
    (λ is. rose_since before (d.view (disk_of old)).faults (d.view c.close.result).faults le
    (subst (λ disk. Rose (d.view (disk_of old)).faults (d.view disk).faults) (sym c.close.ensures.disk)
    (asks.fault is)))
    asks.answer

pub returns-clause-leaves : goal.returns-clause-leaves
returns-clause-leaves g c =
    let d = g.D.Disk in
    let old = c.args.service in
    subst (λ disk. IsLeft d.view (disk_of old) disk) (sym c.close.ensures.disk) (same_left d.view g.met.D.Disk.only_now
    old.recorded.kept.store c.ask.new.self.recorded.kept.store c.ask.ensures.asks.unwritten)

pub returns-clause-rests : goal.returns-clause-rests
returns-clause-rests g c = λ h served.
    let d = g.D.Disk in
    own_rest d.view c.close.result (name_of c.ask.new.self) h
    (c.close.ensures.stands h (c.ask.ensures.asks.same h served).0)

pub returns-clause-over : goal.returns-clause-over
returns-clause-over g c = λ ps over.
    let d = g.D.Disk in
    let old = c.args.service in
    let new = c.ask.new.self in
    let w = written_record (record_of old) ps in
    subst (λ disk. RestsAtState IsService d.view disk w) (sym c.close.ensures.disk)
    (own_rest_as IsService d.view (disk_of new) w (rest_for_good d.view root_kind new.recorded.kept.store w
    (still_rests d.view root_kind old.recorded.kept.store new.recorded.kept.store w c.ask.ensures.asks.unwritten over)))
