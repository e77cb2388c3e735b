use Rattle.std.proofs.Common.{◌≡◌, ◌+◌, ◌∙◌, length, subst, sym}
use Rattle.std.specs.Prelude.{Some}
use Rattle.tw_disk.specs.Disk.{LeavesOnly, Reads}
use Rattle.tw_disk.specs.Image.{Image}
use Rattle.tw_pages.specs.Records.{IsOneOf, written_record}
use Rattle.tw_pages.specs.Rests.{RestsWith}
use Rattle.tw_pages.specs.Same.{store_count, store_list}
use Rattle.tw_pages.specs.SameSteps.{told_pages}
use Rattle.tw_pages.proofs.Written.{commit_leaves, commit_rests, commit_tells}
use Rattle.tw_pages.proofs.recorded.Recorded.commit.Given.{Over}
use Rattle.tw_pages.proofs.recorded.Recorded.commit.Goals.{After-commit}
use Rattle.tw_pages.proofs.recorded.Recorded.commit.Goals as goal

module _ (g : Over) (c : After-commit g) (ps all : Image)
    (rest : RestsWith g.D.Disk.view (g.R.Record.kind g.H.Hasher.dig) c.args.self.now.store
    (written_record c.args.self.now.root ps)) (list : store_list g.D.Disk.view c.args.self.now.store ≡ Some all)
    (may : (g.R.Record.kind g.H.Hasher.dig).May (store_count c.args.self.now.store)
    (c.args.self.now.store.generation + 1) c.args.next) where
  counted : store_count c.args.self.now.store ≡ 4 + length all
  counted =
      let s = c.args.self.now.store in
      told_pages g.D.Disk.view s ((g.D.Disk.view s.disk).count) ((g.D.Disk.view s.disk).content) all
      (λ i is. g.met.D.Disk.count_is_told s.disk i is) s.room s.used_from list

  any_moment : LeavesOnly (g.D.Disk.view c.args.self.now.store.disk) (g.D.Disk.view c.commit.new.self.disk)
      (IsOneOf (g.R.Record.kind g.H.Hasher.dig) (written_record c.args.self.now.root ps)
      (written_record c.args.next all))
  any_moment =
      commit_leaves g.D.Disk.view (g.R.Record.kind g.H.Hasher.dig) c.args.self.now.store ps all c.args.self.now.root
      c.args.next rest list counted may c.as_slice.result.now (c.as_slice.ensures.value ∙ c.bytes-bytes.ensures.bytes)
      c.commit.new.self c.commit.ensures.any_moment

  told : Reads (g.D.Disk.view c.commit.new.self.disk) (IsOneOf (g.R.Record.kind g.H.Hasher.dig)
      (written_record c.args.self.now.root ps) (written_record c.args.next all))
  told =
      commit_tells g.D.Disk.view (g.R.Record.kind g.H.Hasher.dig) c.args.self.now.store ps all c.args.self.now.root
      c.args.next rest list counted may c.as_slice.result.now (c.as_slice.ensures.value ∙ c.bytes-bytes.ensures.bytes)
      c.commit.new.self c.commit.ensures.told

pub returns-in-Ok-clause-any_moment : goal.returns-in-Ok-clause-any_moment
returns-in-Ok-clause-any_moment g c = any_moment g (goal.at.returns-in-Ok-clause-any_moment g c).After-commit

pub returns-in-Ok-clause-told : goal.returns-in-Ok-clause-told
returns-in-Ok-clause-told g c = told g (goal.at.returns-in-Ok-clause-told g c).After-commit

pub returns-in-Ok-clause-done : goal.returns-in-Ok-clause-done
returns-in-Ok-clause-done g c = λ ps all rest list may.
    let count = counted g (goal.at.returns-in-Ok-clause-done g c).After-commit ps all rest list may in
    commit_rests g.D.Disk.view (g.R.Record.kind g.H.Hasher.dig) c.args.self.now.store ps all c.args.self.now.root
    c.args.next rest list count may c.as_slice.result.now (c.as_slice.ensures.value ∙ c.bytes-bytes.ensures.bytes)
    c.commit.new.self c.in-Ok.ensures.done

pub returns-in-Err-clause-any_moment : goal.returns-in-Err-clause-any_moment
returns-in-Err-clause-any_moment g c = λ ps all rest list may.
    let s = c.args.self.now in
    subst (λ disk. LeavesOnly (g.D.Disk.view s.store.disk) (g.D.Disk.view disk) (IsOneOf
    (g.R.Record.kind g.H.Hasher.dig) (written_record s.root ps) (written_record c.args.next all)))
    (sym c.discard.ensures.disk)
    (any_moment g (goal.at.returns-in-Err-clause-any_moment g c).After-commit ps all rest list may)

pub returns-in-Err-clause-told : goal.returns-in-Err-clause-told
returns-in-Err-clause-told g c = λ ps all rest list may.
    subst (λ disk. Reads (g.D.Disk.view disk) (IsOneOf (g.R.Record.kind g.H.Hasher.dig)
    (written_record c.args.self.now.root ps) (written_record c.args.next all))) (sym c.discard.ensures.disk)
    (told g (goal.at.returns-in-Err-clause-told g c).After-commit ps all rest list may)
