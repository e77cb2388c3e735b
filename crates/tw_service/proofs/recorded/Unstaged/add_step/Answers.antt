use Rattle.std.proofs.Common.{◌≡◌, ◌<◌, ◌∙◌, ap, arith, sym, subst}
use Rattle.tw_base.specs.declared.history.content.Content.TheVariants.{Events}
use Rattle.tw_disk.specs.Found.Found.{Is}
use Rattle.tw_disk.specs.Image.{Image}
use Rattle.tw_pages.specs.Records.{written_record}
use Rattle.tw_pages.proofs.Written.{told_list}
use Rattle.tw_pages.specs.Same.{store_count}
use Rattle.tw_pages.specs.SameSteps.{told_pages}
use Rattle.tw_skiplist.specs.Appended.{appended}
use Rattle.tw_skiplist.specs.declared.head.Head.{Head}
use Rattle.tw_answers.specs.declared.root.RootRecord.{RootRecord}
use Rattle.tw_answers.specs.Roots.{root_kind}
use Rattle.tw_answers.proofs.FoundAnswers.{no_bad_page, page_found}
use Rattle.tw_service.specs.Writing.{AppendsTo}
use Rattle.tw_service.proofs.WholePages.{added_whole}
use Rattle.tw_service.proofs.Serving.{discarded, room_written}
use Rattle.tw_service.proofs.Staging.{StagesOver, appends_events, committed, not_committed, staged_events}
use Rattle.tw_service.proofs.recorded.Unstaged.add_step.Given as given
use Rattle.tw_service.proofs.recorded.Unstaged.add_step.Goals as goal
use Rattle.tw_service.proofs.recorded.Unstaged.add_step.Goals.{After-commit}

-- ---- a refused step

pub returns-in-Err-clause-written : goal.returns-in-Err-clause-written
returns-in-Err-clause-written g c = λ ps rest.
    let s = c.args.self.now.kept in
    discarded g.D.Disk.view g.met.D.Disk.only_now (AppendsTo g.H.Hasher.dig c.args.events.now c.args.time)
    (λ _ w next. AppendsTo g.H.Hasher.dig c.args.events.now c.args.time w next) s.store c.append-added.new.pages
    c.discard.new.self s.root c.from.result ps c.in-Err.ensures.adds.kept.same_kept c.discard.ensures.same rest

pub returns-in-Err-clause-good : goal.returns-in-Err-clause-good
returns-in-Err-clause-good g c = λ bad h serves.
    let d = g.D.Disk in
    let s = c.args.self.now.kept in
    let ps : Image = serves.pages in
    let list = told_list d.view root_kind s.store (written_record s.root ps) serves.rests c.args.self.now.clean in
    let own = added_whole g.H.Hasher.dig (λ text. (g.met.H.Hasher.size text, g.met.H.Hasher.bytes text)) ps h s.root
    serves.keeps.whole c.args.events.now c.args.time c.requires.step c.requires.limits c.requires.time
    (room_written d.view s.store (written_record s.root ps) serves.rests c.requires.step) in
    no_bad_page c.from.result (appended g.H.Hasher.dig ps s.root.head (Events c.args.events.now) s.root.archive
    c.args.time) _ own.is
    (page_found c.in-Err.fault c.from.result (appended g.H.Hasher.dig ps s.root.head (Events c.args.events.now)
    s.root.archive c.args.time) c.from.ensures (c.in-Err.ensures.adds.answer ps list)) bad

pub returns-in-Err-clause-answer : goal.returns-in-Err-clause-answer
returns-in-Err-clause-answer g c = λ ps list.
    let s = c.args.self.now.kept in
    page_found c.in-Err.fault c.from.result (appended g.H.Hasher.dig ps s.root.head (Events c.args.events.now)
    s.root.archive c.args.time) c.from.ensures (c.in-Err.ensures.adds.answer ps list)

-- ---- a step that was committed, or may be

pub returns-in-Ok-commit-clause-answer : goal.returns-in-Ok-commit-clause-answer
returns-in-Ok-commit-clause-answer g c = λ ps list.
    let s = c.args.self.now.kept in
    let own = c.in-Ok.ensures.adds.answer ps list in
    let head : c.commit.new.self.root.head ≡ c.in-Ok.head = ap (λ (r : RootRecord). r.head)
    (c.in-Ok-commit.ensures.root.0 ∙ c.next_root-next.ensures.next) in (
      own.0,
      subst (λ (n : Head). appended g.H.Hasher.dig ps s.root.head (Events c.args.events.now) s.root.archive c.args.time
          ≡ Is (record { pages = own.0; value = n })) (sym head) own.2,
    )

-- what was staged for the step
staged : (g : given.Over) (c : After-commit g) → StagesOver g.D.Disk.view (AppendsTo g.H.Hasher.dig c.args.events.now c.args.time)
    c.args.self.now.kept.store c.append-added.new.pages c.args.self.now.kept.root c.next_root-next.result
staged g c ps rest =
    let d = g.D.Disk in
    let s = c.args.self.now.kept in
    let mid = c.append-added.new.pages in
    let dig = g.H.Hasher.dig in
    let next = c.next_root-next in
    let step = c.in-Ok.ensures in
    let list = told_list d.view root_kind s.store (written_record s.root ps) rest c.args.self.now.clean in
    let grown = step.adds.kept.list_grows ps list in
    let found = step.adds.answer ps list in
    let count = told_pages d.view s.store ((d.view s.store.disk).count) ((d.view s.store.disk).content) ps
    (λ i is. g.met.D.Disk.count_is_told s.store.disk i is) s.store.room s.store.used_from list in
    let page : c.in-Ok.head.page < store_count mid = omega (arith, step.page) in (
      grown.0,
      staged_events d.view dig s.store mid s.root next.result c.in-Ok.head c.args.time ps grown.0
          step.adds.kept.same_kept rest count grown.1 next.ensures.auth step.step c.requires.step
          c.args.self.now.few_commits c.requires.time page
          c.args.events.now next.ensures.next next.ensures.label step.few step.adds.kept.used_grows found.0 found.1
          found.2,
      appends_events d.view dig s.store mid s.root next.result c.in-Ok.head c.args.time ps grown.0
          step.adds.kept.same_kept rest count grown.1 next.ensures.auth step.step c.requires.step
          c.args.self.now.few_commits c.requires.time page
          c.args.events.now next.ensures.next next.ensures.label step.few step.adds.kept.used_grows found.0 found.1
          found.2 c.requires.allowed,
    )

pub returns-in-Ok-commit-clause-written : goal.returns-in-Ok-commit-clause-written
returns-in-Ok-commit-clause-written g c = λ ps rest.
    let own = staged g (goal.at.returns-in-Ok-commit-clause-written g c).After-commit ps rest in
    committed g.D.Disk.view g.met.D.Disk.only_now _ (λ _ w after. AppendsTo g.H.Hasher.dig c.args.events.now c.args.time
    w after) _ c.append-added.new.pages _ _ c.next_root-next.result ps own tt c.commit.new.self.root own.2
    c.in-Ok-commit.ensures.root.0 c.in-Ok-commit.ensures.any_moment c.in-Ok-commit.ensures.told
    c.in-Ok-commit.ensures.done

pub returns-in-Err-commit-clause-written : goal.returns-in-Err-commit-clause-written
returns-in-Err-commit-clause-written g c = λ ps rest.
    not_committed g.D.Disk.view g.met.D.Disk.only_now _ _ _ c.append-added.new.pages _ _ c.next_root-next.result ps
    (staged g (goal.at.returns-in-Err-commit-clause-written g c).After-commit ps rest) c.commit.new.self.root
    c.in-Err-commit.ensures.any_moment c.in-Err-commit.ensures.told
