use Rattle.std.proofs.Common.{Bool, ap, refl, sym, subst, inl, inr, ⊎_elim}
use Rattle.std.specs.Prelude.{Err, Ok}
use Rattle.sha2.specs.Sha256.{sha256}
use Rattle.tw_base.specs.declared.history.thread.Thread.{Thread}
use Rattle.tw_base.specs.kinds.Faults.{Rose}
use Rattle.tw_follow.specs.Follows.{disk_of, pages_of, record_of}
use Rattle.tw_follow.specs.Offers.{AnswersOffer}
use Rattle.tw_base.specs.declared.history.refusal.FollowRefusal.TheVariants as follower
use Rattle.tw_follow.proofs.Following.{rest_head}
use Rattle.tw_pages.specs.Records.{written_record}
use Rattle.tw_diskcmd.specs.Steps.{AddsFrom}
use Rattle.tw_diskcmd.proofs.StoreAtRest.{rose_since, same_left}
use Rattle.tw_diskcmd.proofs.StoreSteps.{nothing_written}
use Rattle.tw_text.specs.declared.fault.CommandFault.{CommandFault}
use Rattle.tw_diskcmd.specs.FollowerDisks.{IsFollower, IsImageOfHeads, IsLeft, found_disk}
use Rattle.tw_diskcmd.specs.FollowerFaults.{fault_of_follower}
use Rattle.tw_diskcmd.specs.Offering.{IsNextBy, IsNextListBy, OfferedMessageComes}
use Rattle.tw_diskcmd.proofs.Offered.{answered, refused}
use Rattle.tw_diskcmd.proofs.Writing.{answered_list, answered_writes, refused_list, refused_writes}
use Rattle.tw_diskcmd.proofs.offering.offer_to.Goals as goal

pub returns-in-Ok-clause-comes : goal.returns-in-Ok-clause-comes
returns-in-Ok-clause-comes g c = λ bytes spells found before opens follows le.
    let d = g.D.Disk in
    let old = c.args.follower in
    answered bytes c.args.message.now spells found before (d.view c.close.result).faults old.recorded.root
    (pages_of d.view old) opens
    (λ k reads. rest_head d.view g.met.D.Disk.only_now sha256 old.recorded.store old.recorded.root k (follows k reads))
    c.in-Ok.head
    (subst (λ (b : Bool). AnswersOffer sha256 b old.recorded.root.head bytes (Ok c.in-Ok.head)) c.requires.whole
    (c.in-Ok.ensures bytes spells).table)

pub returns-in-Err-clause-comes : goal.returns-in-Err-clause-comes
returns-in-Err-clause-comes g c = λ bytes spells found before opens follows le.
    let d = g.D.Disk in
    let old = c.args.follower in
    let offers = c.in-Err.ensures bytes spells in
    subst (λ (f : CommandFault). OfferedMessageComes (found_disk found before (d.view c.close-in-Err.result).faults)
    c.args.message.now (Err f)) (sym c.fault_of_follower.ensures)
    (refused bytes c.args.message.now spells found before (d.view c.close-in-Err.result).faults old.recorded.root
    (pages_of d.view old) opens
    (λ k reads. rest_head d.view g.met.D.Disk.only_now sha256 old.recorded.store old.recorded.root k (follows k reads))
    c.in-Err.refusal
    (subst (λ (b : Bool). AnswersOffer sha256 b old.recorded.root.head bytes (Err c.in-Err.refusal)) c.requires.whole
    offers.table)
    (λ is. rose_since before (d.view (disk_of old)).faults (d.view c.close-in-Err.result).faults le
    (subst (λ disk. Rose (d.view (disk_of old)).faults (d.view disk).faults) (sym c.close-in-Err.ensures.disk)
    (offers.fault (ap (λ r. Err r) is)))))

pub returns-in-Ok-clause-unwritten : goal.returns-in-Ok-clause-unwritten
returns-in-Ok-clause-unwritten g c = λ bytes spells nothing. absurd nothing

pub returns-in-Ok-clause-leaves : goal.returns-in-Ok-clause-leaves
returns-in-Ok-clause-leaves g c = λ bytes spells k follows.
    let d = g.D.Disk in
    let old = c.args.follower in
    let m = c.args.message.now in
    subst (λ disk. AddsFrom IsImageOfHeads d.view (disk_of old) disk (IsNextListBy m) (λ thread. IsNextListBy m) k
    (Ok c.in-Ok.head)) (sym c.close.ensures.disk)
    (answered_list d.view old c.take.new.self bytes m spells k c.in-Ok.head
    ((c.in-Ok.ensures bytes spells).steps k follows))

pub returns-in-Err-clause-leaves : goal.returns-in-Err-clause-leaves
returns-in-Err-clause-leaves g c = λ bytes spells k follows.
    let d = g.D.Disk in
    let old = c.args.follower in
    let m = c.args.message.now in
    subst (λ disk. AddsFrom IsImageOfHeads d.view (disk_of old) disk (IsNextListBy m) (λ (thread : Thread). IsNextListBy m) k
    (Err c.fault_of_follower.result)) (sym c.close-in-Err.ensures.disk)
    (refused_list d.view old c.take.new.self bytes m spells k c.in-Err.refusal c.fault_of_follower.result
    c.fault_of_follower.ensures ((c.in-Err.ensures bytes spells).steps k follows))

pub returns-in-Err-clause-unwritten : goal.returns-in-Err-clause-unwritten
returns-in-Err-clause-unwritten g c = λ bytes spells nothing.
    let d = g.D.Disk in
    let old = c.args.follower in
    let new = c.take.new.self in
    subst (λ disk. IsLeft d.view (disk_of old) disk) (sym c.close-in-Err.ensures.disk)
    (nothing_written Thread follower.DiskFault fault_of_follower refl c.in-Err.refusal c.fault_of_follower.result
    c.fault_of_follower.ensures (IsLeft d.view (disk_of old) (disk_of new))
    (⊎_elim (λ is. inl is) (λ same. inr (same_left d.view g.met.D.Disk.only_now old.recorded.store new.recorded.store
    same)) (c.in-Err.ensures bytes spells).unwritten) nothing)

pub returns-in-Ok-clause-writes : goal.returns-in-Ok-clause-writes
returns-in-Ok-clause-writes g c = λ bytes spells ps over.
    let d = g.D.Disk in
    let old = c.args.follower in
    let m = c.args.message.now in
    subst (λ disk. AddsFrom IsFollower d.view (disk_of old) disk (IsNextBy m) (λ thread. IsNextBy m)
    (written_record (record_of old) ps) (Ok c.in-Ok.head)) (sym c.close.ensures.disk)
    (answered_writes d.view old c.take.new.self bytes m spells ps over c.in-Ok.head (c.in-Ok.ensures bytes spells))

pub returns-in-Err-clause-writes : goal.returns-in-Err-clause-writes
returns-in-Err-clause-writes g c = λ bytes spells ps over.
    let d = g.D.Disk in
    let old = c.args.follower in
    let m = c.args.message.now in
    subst (λ disk. AddsFrom IsFollower d.view (disk_of old) disk (IsNextBy m) (λ (thread : Thread). IsNextBy m)
    (written_record (record_of old) ps) (Err c.fault_of_follower.result)) (sym c.close-in-Err.ensures.disk)
    (refused_writes d.view old c.take.new.self bytes m spells ps over c.in-Err.refusal c.fault_of_follower.result
    c.fault_of_follower.ensures (c.in-Err.ensures bytes spells))
