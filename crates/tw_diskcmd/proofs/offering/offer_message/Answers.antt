use Rattle.std.proofs.Common.{refl, subst, sym}
use Rattle.std.specs.Prelude.{Err}
use Rattle.sha2.specs.Sha256.{sha256}
use Rattle.tw_base.specs.declared.history.thread.Thread.{Thread}
use Rattle.tw_pages.specs.Records.{Written, written_record}
use Rattle.tw_pages.proofs.AtRest.{left_on}
use Rattle.tw_pages.proofs.Standing.{written_once}
use Rattle.tw_follow.specs.Follows.{disk_of, record_of}
use Rattle.tw_follow.specs.Stands.{root_kind}
use Rattle.tw_follow.specs.declared.root.RootRecord.{RootRecord}
use Rattle.tw_follow.proofs.Standing.{once}
use Rattle.tw_diskcmd.specs.Steps.{AddsFrom}
use Rattle.tw_diskcmd.proofs.StoreSteps.{adds_on, unopened_adds}
use Rattle.tw_text.specs.declared.fault.CommandFault.{CommandFault}
use Rattle.tw_diskcmd.specs.FollowerDisks.{IsFollower, IsImageOfHeads, found_disk}
use Rattle.tw_diskcmd.specs.Offering.{IsNextBy, IsNextListBy, OfferedMessageComes, next_follower_record, next_list}
use Rattle.tw_diskcmd.proofs.Offered.{unserved}
use Rattle.tw_diskcmd.proofs.offering.offer_message.Goals as goal

pub returns-in-Ok-clause-comes : goal.returns-in-Ok-clause-comes
returns-in-Ok-clause-comes g c = λ bytes spells.
    c.offer_to.ensures.comes bytes spells (g.D.Disk.view c.args.disk).content (g.D.Disk.view c.args.disk).faults
    c.in-Ok.ensures.opened (λ k reads. c.in-Ok.ensures.follows reads.image k reads.told reads.stands)
    c.in-Ok.ensures.later

pub returns-in-Ok-clause-unwritten : goal.returns-in-Ok-clause-unwritten
returns-in-Ok-clause-unwritten g c = λ bytes spells nothing.
    left_on g.D.Disk.view c.args.disk (disk_of c.in-Ok.follower) c.offer_to.result.disk
    (c.in-Ok.ensures.unchanged, c.in-Ok.ensures.any_moment) (c.offer_to.ensures.unwritten bytes spells nothing)

pub returns-in-Err-clause-comes : goal.returns-in-Err-clause-comes
returns-in-Err-clause-comes g c = λ bytes spells.
    let d = g.D.Disk in
    subst (λ (f : CommandFault). OfferedMessageComes (found_disk (d.view c.args.disk).content
    (d.view c.args.disk).faults (d.view c.in-Err.disk).faults) c.args.message.now (Err f))
    (sym c.fault_of_store.ensures)
    (unserved (d.view c.args.disk).content (d.view c.args.disk).faults (d.view c.in-Err.disk).faults c.args.message.now
    c.in-Err.fault c.in-Err.ensures.refused c.in-Err.ensures.answers c.in-Err.ensures.fault)

pub returns-in-Err-clause-unwritten : goal.returns-in-Err-clause-unwritten
returns-in-Err-clause-unwritten g c = λ bytes spells nothing.
    (c.in-Err.ensures.unchanged, c.in-Err.ensures.any_moment_err)

pub returns-in-Ok-clause-spares : goal.returns-in-Ok-clause-spares
returns-in-Ok-clause-spares g c = λ image why told not. absurd (c.in-Ok.ensures.exact image why told not)

pub returns-in-Err-clause-spares : goal.returns-in-Err-clause-spares
returns-in-Err-clause-spares g c = λ image why told not. (c.in-Err.ensures.unchanged, c.in-Err.ensures.any_moment_err)

pub returns-in-Ok-clause-leaves : goal.returns-in-Ok-clause-leaves
returns-in-Ok-clause-leaves g c = λ bytes spells.
    let m = c.args.message.now in
    adds_on IsImageOfHeads g.D.Disk.view (IsNextListBy m) (λ (thread : Thread). IsNextListBy m) c.args.disk
    (disk_of c.in-Ok.follower) c.offer_to.result.disk c.offer_to.result.outcome
    c.in-Ok.ensures.any_moment (λ k reads. c.offer_to.ensures.leaves bytes spells k
    (c.in-Ok.ensures.follows reads.image k reads.told reads.stands))

pub returns-in-Err-clause-leaves : goal.returns-in-Err-clause-leaves
returns-in-Err-clause-leaves g c = λ bytes spells.
    let m = c.args.message.now in
    unopened_adds IsImageOfHeads g.D.Disk.view (IsNextListBy m) (λ (thread : Thread). IsNextListBy m) (λ k. (next_list k m, refl))
    c.args.disk c.in-Err.disk
    c.in-Err.fault c.fault_of_store.result c.fault_of_store.ensures c.in-Err.ensures.answers c.in-Err.ensures.unchanged
    c.in-Err.ensures.any_moment_err

pub returns-in-Ok-clause-writes : goal.returns-in-Ok-clause-writes
returns-in-Ok-clause-writes g c = λ bytes spells.
    let d = g.D.Disk in
    let f = c.in-Ok.follower in
    let m = c.args.message.now in
    adds_on IsFollower d.view (IsNextBy m) (λ (thread : Thread). IsNextBy m) c.args.disk (disk_of f)
    c.offer_to.result.disk c.offer_to.result.outcome c.in-Ok.ensures.any_moment (λ w reads.
    let own = c.in-Ok.ensures.over reads.image reads.told in
    subst (λ (v : Written RootRecord). AddsFrom IsFollower d.view (disk_of f) c.offer_to.result.disk (IsNextBy m)
    (λ (thread : Thread). IsNextBy m) v c.offer_to.result.outcome)
    (written_once (root_kind sha256) (once sha256) reads.image (written_record (record_of f) own.0) w own.2
    reads.stands) (c.offer_to.ensures.writes bytes spells own.0 own.3))

pub returns-in-Err-clause-writes : goal.returns-in-Err-clause-writes
returns-in-Err-clause-writes g c = λ bytes spells.
    let m = c.args.message.now in
    unopened_adds IsFollower g.D.Disk.view (IsNextBy m) (λ (thread : Thread). IsNextBy m)
    (λ w. (next_follower_record w m, refl)) c.args.disk c.in-Err.disk
    c.in-Err.fault c.fault_of_store.result c.fault_of_store.ensures c.in-Err.ensures.answers c.in-Err.ensures.unchanged
    c.in-Err.ensures.any_moment_err
