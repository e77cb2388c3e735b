use Rattle.std.proofs.Common.{◌∙◌, ◌++◌, ◌∷◌, [], ap, arith, length, subst}
use Rattle.tw_disk.specs.Disk.{LeavesOnly, Reads}
use Rattle.tw_pages.specs.SameSteps.{told_pages}
use Rattle.tw_pages.specs.StoreValue.{store_disk}
use Rattle.tw_pages.specs.Records.{IsOneOf, Written, written_record}
use Rattle.tw_pages.specs.Rests.{RestsWith}
use Rattle.tw_pages.proofs.StagedRecords.{leaves_before, leaves_since, of_these, reads_before}
use Rattle.tw_follow.specs.declared.root.RootRecord.{RootRecord}
use Rattle.tw_follow.specs.Stands.{root_kind}
use Rattle.tw_follow.specs.Writing.{moved_to}
use Rattle.tw_follow.proofs.Moving.{was_put}
use Rattle.tw_follow.proofs.follower.Follower.move_to.Goals as goal

-- ---- no memory

pub returns-in-Err-clause-written : goal.returns-in-Err-clause-written
returns-in-Err-clause-written g c = λ ps rest.
    let d = g.D.Disk in
    let s = c.args.self.now in
    let w : Written RootRecord = written_record s.recorded.root ps in (
      leaves_before d.view g.met.D.Disk.only_now (root_kind g.H.Hasher.dig) s.recorded.store c.stage.new.self w
          (moved_to w c.args.head.now) c.in-Err.ensures.same rest,
      reads_before d.view g.met.D.Disk.only_now (root_kind g.H.Hasher.dig) s.recorded.store c.stage.new.self w
          (moved_to w c.args.head.now) c.in-Err.ensures.same rest,
      tt,
    )

-- ---- committed

pub returns-in-Ok-commit-clause-written : goal.returns-in-Ok-commit-clause-written
returns-in-Ok-commit-clause-written g c = λ ps rest.
    let d = g.D.Disk in
    let s = c.args.self.now in
    let next : RootRecord = record { head = c.args.head.now; page = c.in-Ok.number } in
    let w = was_put d.view g.H.Hasher.dig s.recorded.store c.stage.new.self s.recorded.root c.args.head.now
    c.in-Ok.number c.head_page-page.result
    (λ ps list. told_pages d.view s.recorded.store ((d.view s.recorded.store.disk).count)
    ((d.view s.recorded.store.disk).content) ps (λ i is. g.met.D.Disk.count_is_told s.recorded.store.disk i is)
    s.recorded.store.room s.recorded.store.used_from list)
    c.in-Ok.ensures.same s.clean c.in-Ok.ensures.number c.in-Ok.ensures.used c.head_page-page.ensures
    c.in-Ok.ensures.list s.few_pages s.few_commits c.requires.above c.requires.thread in
    let put = w.staged ps rest in
    let is = w.is ps rest in (
      subst (λ (x : Written RootRecord). LeavesOnly (d.view (store_disk s.recorded.store))
          (d.view (store_disk c.commit.new.self.store))
          (IsOneOf (root_kind g.H.Hasher.dig) (written_record s.recorded.root ps) x)) is
          (leaves_since d.view g.met.D.Disk.only_now (root_kind g.H.Hasher.dig) s.recorded.store c.stage.new.self
          s.recorded.root next ps (ps ++ c.head_page-page.result ∷ []) put c.commit.new.self.store
          c.in-Ok-commit.ensures.any_moment),
      subst (λ (x : Written RootRecord). Reads (d.view (store_disk c.commit.new.self.store))
          (IsOneOf (root_kind g.H.Hasher.dig) (written_record s.recorded.root ps) x)) is
          (of_these d.view g.met.D.Disk.only_now (root_kind g.H.Hasher.dig) s.recorded.store c.stage.new.self
          s.recorded.root next ps (ps ++ c.head_page-page.result ∷ []) put
          (λ qs some. Reads (d.view (store_disk c.commit.new.self.store)) (IsOneOf (root_kind g.H.Hasher.dig)
          (written_record s.recorded.root qs) (written_record next some))) c.in-Ok-commit.ensures.told),
      (
        c.in-Ok-commit.ensures.root.0 ∙ ap (λ (x : Written RootRecord). x.root) is,
        subst (λ (x : Written RootRecord). RestsWith d.view (root_kind g.H.Hasher.dig) c.commit.new.self.store x) is
            (of_these d.view g.met.D.Disk.only_now (root_kind g.H.Hasher.dig) s.recorded.store c.stage.new.self
            s.recorded.root next ps (ps ++ c.head_page-page.result ∷ []) put
            (λ qs some. RestsWith d.view (root_kind g.H.Hasher.dig) c.commit.new.self.store (written_record next some))
            c.in-Ok-commit.ensures.done),
      ),
    )

-- ---- a disk fault

pub returns-in-Err-commit-clause-written : goal.returns-in-Err-commit-clause-written
returns-in-Err-commit-clause-written g c = λ ps rest.
    let d = g.D.Disk in
    let s = c.args.self.now in
    let next : RootRecord = record { head = c.args.head.now; page = c.in-Ok.number } in
    let w = was_put d.view g.H.Hasher.dig s.recorded.store c.stage.new.self s.recorded.root c.args.head.now
    c.in-Ok.number c.head_page-page.result
    (λ ps list. told_pages d.view s.recorded.store ((d.view s.recorded.store.disk).count)
    ((d.view s.recorded.store.disk).content) ps (λ i is. g.met.D.Disk.count_is_told s.recorded.store.disk i is)
    s.recorded.store.room s.recorded.store.used_from list)
    c.in-Ok.ensures.same s.clean c.in-Ok.ensures.number c.in-Ok.ensures.used c.head_page-page.ensures
    c.in-Ok.ensures.list s.few_pages s.few_commits c.requires.above c.requires.thread in
    let put = w.staged ps rest in
    let is = w.is ps rest in (
      subst (λ (x : Written RootRecord). LeavesOnly (d.view (store_disk s.recorded.store))
          (d.view (store_disk c.commit.new.self.store))
          (IsOneOf (root_kind g.H.Hasher.dig) (written_record s.recorded.root ps) x)) is
          (leaves_since d.view g.met.D.Disk.only_now (root_kind g.H.Hasher.dig) s.recorded.store c.stage.new.self
          s.recorded.root next ps (ps ++ c.head_page-page.result ∷ []) put c.commit.new.self.store
          c.in-Err-commit.ensures.any_moment),
      subst (λ (x : Written RootRecord). Reads (d.view (store_disk c.commit.new.self.store))
          (IsOneOf (root_kind g.H.Hasher.dig) (written_record s.recorded.root ps) x)) is
          (of_these d.view g.met.D.Disk.only_now (root_kind g.H.Hasher.dig) s.recorded.store c.stage.new.self
          s.recorded.root next ps (ps ++ c.head_page-page.result ∷ []) put
          (λ qs some. Reads (d.view (store_disk c.commit.new.self.store)) (IsOneOf (root_kind g.H.Hasher.dig)
          (written_record s.recorded.root qs) (written_record next some))) c.in-Err-commit.ensures.told),
      tt,
    )

pub invariant_of-self-in-Err-commit : goal.invariant_of-self-in-Err-commit
invariant_of-self-in-Err-commit g c =
    let s = c.args.self.now in
    let step = ap (λ (r : RootRecord). r.head.step) c.in-Err-commit.ensures.kept.0 in
    let generation = c.in-Err-commit.ensures.kept.1 in
    let used = c.in-Err-commit.ensures.kept.2 in
    let none = ap length c.in-Err-commit.ensures.clean in
    record {
      tells_faults = λ e. absurd cc;
      short = omega (arith, step, s.short);
      few_pages = omega (arith, step, used, c.in-Ok.ensures.same.used, none, s.few_pages);
      few_commits = omega (arith, step, generation, c.in-Ok.ensures.same.generation, s.few_commits);
      clean = c.in-Err-commit.ensures.clean;
    }
