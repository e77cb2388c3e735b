use Rattle.std.proofs.Common.{◌≡◌, ℕ, List, ◌∙◌, ap, subst, sym}
use Rattle.std.specs.Prelude.{Ok}
use Rattle.tw_pages.specs.Records.{written_record}
use Rattle.tw_pages.proofs.Written.{told_list}
use Rattle.tw_msg.specs.declared.receipt.Receipt.{Receipt}
use Rattle.tw_pages.specs.Same.{store_list}
use Rattle.tw_pages.specs.SameSteps.{told_pages}
use Rattle.tw_answers.specs.declared.root.RootRecord.{RootRecord}
use Rattle.tw_answers.specs.Roots.{root_kind}
use Rattle.tw_service.specs.Archiving.{AnswersArchived}
use Rattle.tw_service.specs.Finds.{receipt_at, receipt_of}
use Rattle.tw_service.specs.Writing.{AddsThread, IsReceiptOfNext}
use Rattle.tw_service.proofs.Archived.{archived-fault, archived-refused, archived-staged, none-bad}
use Rattle.tw_service.proofs.Serving.{discarded}
use Rattle.tw_service.proofs.Staging.{StagesOver, adds_thread, committed, not_committed, staged_thread}
use Rattle.tw_service.proofs.recorded.Unstaged.archive.Given as given
use Rattle.tw_service.proofs.recorded.Unstaged.archive.Goals as goal
use Rattle.tw_service.proofs.recorded.Unstaged.archive.Goals.{After-commit}

-- ---- a refused step

pub returns-in-Err-clause-written : goal.returns-in-Err-clause-written
returns-in-Err-clause-written g c = λ ps rest.
    let s = c.args.self.now.kept in
    discarded g.D.Disk.view g.met.D.Disk.only_now (AddsThread g.H.Hasher.dig c.args.thread.now c.args.time)
    (IsReceiptOfNext g.H.Hasher.dig c.args.thread.now c.args.time) s.store c.stage_thread-added.new.pages
    c.discard.new.self s.root c.in-Err.refusal ps c.in-Err.ensures.kept.same_kept c.discard.ensures.same rest

pub returns-in-Err-clause-answer : goal.returns-in-Err-clause-answer
returns-in-Err-clause-answer g c = λ ps list.
    let s = c.args.self.now.kept in
    archived-refused g.H.Hasher.dig ps s.root c.args.thread.now c.args.time s.root.head s.root.archive c.in-Err.refusal
    c.in-Err.ensures.own (c.in-Err.ensures.page ps list)

pub returns-in-Err-clause-good : goal.returns-in-Err-clause-good
returns-in-Err-clause-good g c = λ bad h serves may.
    let d = g.D.Disk in
    let s = c.args.self.now.kept in
    let list = told_list d.view root_kind s.store (written_record s.root serves.pages) serves.rests
    c.args.self.now.clean in
    none-bad g.H.Hasher.dig (λ text. (g.met.H.Hasher.size text, g.met.H.Hasher.bytes text)) serves.pages h s.root
    serves.keeps.whole serves.keeps.sound c.args.thread.now c.args.time may
    c.in-Err.refusal bad (c.in-Err.ensures.page serves.pages list)

-- ---- a step that was committed, or may be

pub returns-in-Ok-commit-clause-answer : goal.returns-in-Ok-commit-clause-answer
returns-in-Ok-commit-clause-answer g c = λ ps list.
    let s = c.args.self.now.kept in
    let t = c.args.thread.now in
    let head = c.in-Ok.staged.head in
    let is = c.receipt_by-receipt.ensures ∙ ap (λ (r : RootRecord). receipt_of r.name r.head.step r.head.auth t)
    c.next_root-next.ensures.next in
    subst (λ (r : RootRecord). AnswersArchived g.H.Hasher.dig ps s.root t c.args.time r.head r.archive
    (Ok c.receipt_by-receipt.result)) (sym (c.in-Ok-commit.ensures.root.0 ∙ c.next_root-next.ensures.next))
    (subst (λ (receipt : Receipt). AnswersArchived g.H.Hasher.dig ps s.root t c.args.time head c.in-Ok.staged.archive
    (Ok receipt)) (sym is)
    (archived-staged g.H.Hasher.dig ps s.root t c.args.time head c.in-Ok.staged.archive
    (store_list g.D.Disk.view c.stage_thread-added.new.pages) (c.in-Ok.ensures.staged ps list)))

pub returns-in-Err-commit-clause-answer : goal.returns-in-Err-commit-clause-answer
returns-in-Err-commit-clause-answer g c = λ ps list.
    let s = c.args.self.now.kept in
    archived-fault g.H.Hasher.dig ps s.root c.args.thread.now c.args.time c.commit.new.self.root.head
    c.commit.new.self.root.archive

-- what was staged for the step
staged : (g : given.Over) (c : After-commit g) → StagesOver g.D.Disk.view (AddsThread g.H.Hasher.dig c.args.thread.now c.args.time)
    c.args.self.now.kept.store c.stage_thread-added.new.pages c.args.self.now.kept.root c.next_root-next.result
staged g c ps rest =
    let d = g.D.Disk in
    let s = c.args.self.now.kept in
    let t = c.args.thread.now in
    let mid = c.stage_thread-added.new.pages in
    let dig = g.H.Hasher.dig in
    let next = c.next_root-next in
    let step = c.in-Ok.ensures in
    let head = c.in-Ok.staged.head in
    let archive = c.in-Ok.staged.archive in
    let list = told_list d.view root_kind s.store (written_record s.root ps) rest c.args.self.now.clean in
    let grown = step.kept.list_grows ps list in
    let count = told_pages d.view s.store ((d.view s.store.disk).count) ((d.view s.store.disk).content) ps
    (λ i is. g.met.D.Disk.count_is_told s.store.disk i is) s.store.room s.store.used_from list in (
      grown.0,
      staged_thread d.view dig s.store mid s.root next.result head c.args.time ps grown.0 step.kept.same_kept rest count
          grown.1 next.ensures.auth step.step c.requires.step c.args.self.now.few_commits c.requires.time step.last
          t archive next.ensures.next next.ensures.label step.few (step.behind, step.below) (step.staged ps list),
      adds_thread d.view dig s.store mid s.root next.result head c.args.time ps grown.0 step.kept.same_kept rest count
          grown.1 next.ensures.auth step.step c.requires.step c.args.self.now.few_commits c.requires.time step.last
          t archive next.ensures.next next.ensures.label step.few (step.behind, step.below) (step.staged ps list),
    )

pub returns-in-Ok-commit-clause-written : goal.returns-in-Ok-commit-clause-written
returns-in-Ok-commit-clause-written g c = λ ps rest.
    let s = c.args.self.now.kept in
    let t = c.args.thread.now in
    let next = c.next_root-next in
    let own = staged g (goal.at.returns-in-Ok-commit-clause-written g c).After-commit ps rest in
    let answer : c.receipt_by-receipt.result ≡ receipt_at s.root.name next.result.head t = c.receipt_by-receipt.ensures
    ∙ ap (λ (n : List ℕ). receipt_at n next.result.head t) (ap (λ (r : RootRecord). r.name) next.ensures.next) in
    committed g.D.Disk.view g.met.D.Disk.only_now _ (IsReceiptOfNext g.H.Hasher.dig t c.args.time) _
    c.stage_thread-added.new.pages _ _ next.result ps own c.receipt_by-receipt.result c.commit.new.self.root
    (answer, own.2) c.in-Ok-commit.ensures.root.0
    c.in-Ok-commit.ensures.any_moment c.in-Ok-commit.ensures.told c.in-Ok-commit.ensures.done

pub returns-in-Err-commit-clause-written : goal.returns-in-Err-commit-clause-written
returns-in-Err-commit-clause-written g c = λ ps rest.
    not_committed g.D.Disk.view g.met.D.Disk.only_now _ _ _ c.stage_thread-added.new.pages _ _ c.next_root-next.result ps
    (staged g (goal.at.returns-in-Err-commit-clause-written g c).After-commit ps rest) c.commit.new.self.root
    c.in-Err-commit.ensures.any_moment c.in-Err-commit.ensures.told
