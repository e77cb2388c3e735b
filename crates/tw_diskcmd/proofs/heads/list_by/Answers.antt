use Rattle.std.proofs.Common.{◌≡◌, ap, sym, subst}
use Rattle.std.specs.Prelude.{Err, IfOk}
use Rattle.sha2.specs.Sha256.{sha256}
use Rattle.tw_base.specs.kinds.Faults.{Rose}
use Rattle.tw_follow.specs.Follows.{disk_of, pages_of}
use Rattle.tw_pages.specs.Records.{written_record}
use Rattle.tw_pages.proofs.Written.{rest_for_good, still_rests, told_list}
use Rattle.tw_follow.specs.Stands.{root_kind}
use Rattle.tw_text.specs.declared.fault.CommandFault.{CommandFault}
use Rattle.tw_pages.specs.Disks.{RestsAtState}
use Rattle.tw_pages.proofs.AtRest.{own_rest}
use Rattle.tw_diskcmd.proofs.StoreAtRest.{rose_since, same_left}
use Rattle.tw_diskcmd.specs.FollowerDisks.{IsFollower, IsImageOfHeads, IsLeft, found_disk}
use Rattle.tw_diskcmd.specs.Heads.{HeadsComes, head_lines}
use Rattle.tw_diskcmd.proofs.Listed.{listed, never_reopened, unlisted}
use Rattle.tw_diskcmd.proofs.heads.list_by.Goals as goal

pub returns-in-Ok-clause-comes : goal.returns-in-Ok-clause-comes
returns-in-Ok-clause-comes g c = λ found before opens follows le.
    let d = g.D.Disk in
    let old = c.args.follower in
    listed found before (d.view c.close.result).faults old.recorded.root (pages_of d.view old) opens
    (λ k reads. let at = follows k reads in (
      at.pages,
      told_list d.view (root_kind sha256) old.recorded.store (written_record old.recorded.root at.pages) at.rests
          old.clean,
      at.keeps.found,
    ))
    c.in-Ok.heads c.print_heads.result c.in-Ok.ensures.rises (c.in-Ok.ensures.answer c.requires)
    (subst (λ hs. IfOk c.print_heads.result (λ text. text ≡ head_lines hs)) c.as_slice.ensures
    c.print_heads.ensures.lines) c.print_heads.ensures.memory

pub returns-in-Ok-clause-leaves : goal.returns-in-Ok-clause-leaves
returns-in-Ok-clause-leaves g c =
    let d = g.D.Disk in
    let old = c.args.follower in
    subst (λ disk. IsLeft d.view (disk_of old) disk) (sym c.close.ensures.disk) (same_left d.view g.met.D.Disk.only_now
    old.recorded.store c.heads.new.self.recorded.store c.in-Ok.ensures.unwritten)

pub returns-in-Ok-clause-rests : goal.returns-in-Ok-clause-rests
returns-in-Ok-clause-rests g c = λ k follows.
    own_rest IsImageOfHeads g.D.Disk.view c.close.result k (c.close.ensures.stands k (c.in-Ok.ensures.still k follows).0)

pub returns-in-Err-clause-comes : goal.returns-in-Err-clause-comes
returns-in-Err-clause-comes g c = λ found before opens follows le.
    let d = g.D.Disk in
    let old = c.args.follower in
    let tells = c.in-Err.ensures in
    subst (λ (f : CommandFault). HeadsComes (found_disk found before (d.view c.close-in-Err.result).faults) (Err f))
    (sym c.fault_of_follower.ensures)
    (unlisted found before (d.view c.close-in-Err.result).faults old.recorded.root (pages_of d.view old) opens
    (λ k reads. let at = follows k reads in (
      at.pages,
      told_list d.view (root_kind sha256) old.recorded.store (written_record old.recorded.root at.pages) at.rests
          old.clean,
      at.keeps.found,
    ))
    c.in-Err.refusal (tells.answer c.requires) tells.faults (never_reopened old.is_broken c.requires c.in-Err.refusal
    tells.reopen)
    (λ is. rose_since before (d.view (disk_of old)).faults (d.view c.close-in-Err.result).faults le
    (subst (λ disk. Rose (d.view (disk_of old)).faults (d.view disk).faults) (sym c.close-in-Err.ensures.disk)
    (tells.fault (ap (λ r. Err r) is)))))

pub returns-in-Err-clause-leaves : goal.returns-in-Err-clause-leaves
returns-in-Err-clause-leaves g c =
    let d = g.D.Disk in
    let old = c.args.follower in
    subst (λ disk. IsLeft d.view (disk_of old) disk) (sym c.close-in-Err.ensures.disk)
    (same_left d.view g.met.D.Disk.only_now old.recorded.store c.heads.new.self.recorded.store
    c.in-Err.ensures.unwritten)

pub returns-in-Err-clause-rests : goal.returns-in-Err-clause-rests
returns-in-Err-clause-rests g c = λ k follows.
    own_rest IsImageOfHeads g.D.Disk.view c.close-in-Err.result k
    (c.close-in-Err.ensures.stands k (c.in-Err.ensures.still k follows).0)

pub returns-in-Ok-clause-over : goal.returns-in-Ok-clause-over
returns-in-Ok-clause-over g c = λ ps over.
    let d = g.D.Disk in
    let old = c.args.follower in
    let w = written_record old.recorded.root ps in
    subst (λ disk. RestsAtState IsFollower d.view disk w) (sym c.close.ensures.disk)
    (own_rest IsFollower d.view (disk_of c.heads.new.self) w (rest_for_good d.view (root_kind sha256)
    c.heads.new.self.recorded.store w
    (still_rests d.view (root_kind sha256) old.recorded.store c.heads.new.self.recorded.store w
    c.in-Ok.ensures.unwritten over)))

pub returns-in-Err-clause-over : goal.returns-in-Err-clause-over
returns-in-Err-clause-over g c = λ ps over.
    let d = g.D.Disk in
    let old = c.args.follower in
    let w = written_record old.recorded.root ps in
    subst (λ disk. RestsAtState IsFollower d.view disk w) (sym c.close-in-Err.ensures.disk)
    (own_rest IsFollower d.view (disk_of c.heads.new.self) w (rest_for_good d.view (root_kind sha256)
    c.heads.new.self.recorded.store w
    (still_rests d.view (root_kind sha256) old.recorded.store c.heads.new.self.recorded.store w
    c.in-Err.ensures.unwritten over)))
