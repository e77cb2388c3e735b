use Rattle.std.proofs.Common.{ℕ, List, subst, sym}
use Rattle.std.specs.Prelude.{Err}
use Rattle.sha2.specs.Sha256.{sha256}
use Rattle.tw_pages.specs.Disks.{RestsAtState}
use Rattle.tw_pages.specs.Records.{Written, written_record}
use Rattle.tw_pages.proofs.Standing.{written_once}
use Rattle.tw_follow.specs.Follows.{disk_of, record_of}
use Rattle.tw_follow.specs.Stands.{root_kind}
use Rattle.tw_follow.specs.declared.root.RootRecord.{RootRecord}
use Rattle.tw_follow.proofs.Standing.{once}
use Rattle.tw_diskcmd.specs.FollowerDisks.{IsFollower, IsImageOfHeads, found_disk}
use Rattle.tw_text.specs.declared.fault.CommandFault.{CommandFault}
use Rattle.tw_diskcmd.specs.Heads.{HeadsComes}
use Rattle.tw_pages.proofs.AtRest.{left_on}
use Rattle.tw_diskcmd.proofs.Landings.{leaves_of_reading, unopened_reading_leaves}
use Rattle.tw_diskcmd.proofs.Listed.{unserved}
use Rattle.tw_diskcmd.proofs.heads.list_heads.Goals as goal

pub returns-in-Ok-clause-comes : goal.returns-in-Ok-clause-comes
returns-in-Ok-clause-comes g c =
    c.list_by.ensures.comes (g.D.Disk.view c.args.disk).content (g.D.Disk.view c.args.disk).faults
    c.in-Ok.ensures.opened (λ k reads. c.in-Ok.ensures.follows reads.image k reads.told reads.stands)
    c.in-Ok.ensures.later

pub returns-in-Ok-clause-leaves : goal.returns-in-Ok-clause-leaves
returns-in-Ok-clause-leaves g c =
    let d = g.D.Disk in
    leaves_of_reading (root_kind sha256) IsImageOfHeads d.view c.args.disk c.list_by.result.disk c.list_by.result.outcome
    (left_on d.view c.args.disk (disk_of c.in-Ok.follower) c.list_by.result.disk
    (c.in-Ok.ensures.unchanged, c.in-Ok.ensures.any_moment) c.list_by.ensures.leaves) (
      λ k reads. c.list_by.ensures.rests k (c.in-Ok.ensures.follows reads.image k reads.told reads.stands),
      λ w reads.
          let f = c.in-Ok.follower in
          let own = c.in-Ok.ensures.over reads.image reads.told in
          subst (λ (v : Written RootRecord). RestsAtState IsFollower d.view c.list_by.result.disk v)
          (written_once (root_kind sha256) (once sha256) reads.image (written_record (record_of f) own.0) w own.2
          reads.stands) (c.list_by.ensures.over own.0 own.3),
    )

pub returns-in-Err-clause-comes : goal.returns-in-Err-clause-comes
returns-in-Err-clause-comes g c =
    let d = g.D.Disk in
    subst (λ (f : CommandFault). HeadsComes (found_disk (d.view c.args.disk).content (d.view c.args.disk).faults
    (d.view c.in-Err.disk).faults) (Err f)) (sym c.fault_of_store.ensures)
    (unserved (d.view c.args.disk).content (d.view c.args.disk).faults (d.view c.in-Err.disk).faults c.in-Err.fault
    c.in-Err.ensures.refused c.in-Err.ensures.answers c.in-Err.ensures.fault)

pub returns-in-Err-clause-leaves : goal.returns-in-Err-clause-leaves
returns-in-Err-clause-leaves g c =
    unopened_reading_leaves (root_kind sha256) IsImageOfHeads g.D.Disk.view c.args.disk c.in-Err.disk (List ℕ) c.in-Err.fault
    c.fault_of_store.result c.fault_of_store.ensures
    c.in-Err.ensures.answers.0 (c.in-Err.ensures.unchanged, c.in-Err.ensures.any_moment_err)
