use Rattle.std.proofs.Common.{◌∙◌}
use Rattle.tw_follow.specs.Follows.{disk_of}
use Rattle.tw_follow.specs.HeadLists.{first_thread, no_heads}
use Rattle.sha2.specs.Sha256.{sha256}
use Rattle.tw_base.specs.declared.history.thread.Thread.{Thread}
use Rattle.tw_follow.specs.Stands.{root_kind}
use Rattle.tw_pages.proofs.AtRest.{own_rest}
use Rattle.tw_diskcmd.proofs.Landings.{made_leaves, unmade, unmade_leaves}
use Rattle.tw_diskcmd.specs.FollowerDisks.{IsImageOfHeads, found_disk}
use Rattle.tw_diskcmd.proofs.FollowerAtRest.{stands_taken}
use Rattle.tw_diskcmd.proofs.watching.watch.Goals as goal

pub returns-in-Ok-clause-comes : goal.returns-in-Ok-clause-comes
returns-in-Ok-clause-comes g c =
    record { free = c.in-Ok.ensures.exact; first = c.head-first.ensures.value ∙ c.in-Ok.ensures.head.0 }

pub returns-in-Ok-clause-leaves : goal.returns-in-Ok-clause-leaves
returns-in-Ok-clause-leaves g c =
    let first = no_heads c.args.name in
    made_leaves (root_kind sha256) IsImageOfHeads g.D.Disk.view c.args.disk c.close.result g.met.D.Disk.as_it_reads
    stands_taken first (disk_of c.in-Ok.follower) c.close.ensures.disk
    (λ image told. own_rest IsImageOfHeads g.D.Disk.view c.close.result first (c.close.ensures.stands first
    (c.in-Ok.ensures.follows image told))) c.in-Ok.ensures.any_moment c.in-Ok.ensures.exact

pub returns-in-Err-clause-comes : goal.returns-in-Err-clause-comes
returns-in-Err-clause-comes g c =
    let d = g.D.Disk in
    unmade (found_disk (d.view c.args.disk).content (d.view c.args.disk).faults (d.view c.in-Err.disk).faults)
    (first_thread sha256 c.args.name) c.in-Err.fault
    c.fault_of_store.result c.fault_of_store.ensures c.in-Err.ensures.answers c.in-Err.ensures.taken
    c.in-Err.ensures.fault

pub returns-in-Err-clause-leaves : goal.returns-in-Err-clause-leaves
returns-in-Err-clause-leaves g c =
    unmade_leaves (root_kind sha256) IsImageOfHeads g.D.Disk.view c.args.disk c.in-Err.disk g.met.D.Disk.as_it_reads
    stands_taken (no_heads c.args.name) Thread c.in-Err.fault c.fault_of_store.result c.fault_of_store.ensures
    c.in-Err.ensures.answers c.in-Err.ensures.unchanged
    (λ image told. (c.in-Err.ensures.any_moment_err image told, c.in-Err.ensures.told image told)) c.in-Err.ensures.held
