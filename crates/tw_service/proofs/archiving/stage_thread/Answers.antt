use Rattle.std.proofs.Common.{◌≡◌, ◌∙◌, ◌++◌, arith, length-append, subst, sym}
use Rattle.std.specs.Prelude.{Some}
use Rattle.tw_disk.specs.Image.{Image}
use Rattle.tw_rbtree.specs.Standing.{HasNamed, StandsWith}
use Rattle.tw_service.specs.Archiving.{ArchivesAs}
use Rattle.tw_service.proofs.RoomAnswers.{if_err, room_archives, step_archives}
use Rattle.tw_service.proofs.archiving.stage_thread.Goals as goal

-- lists that are told are one
one_list : {x y : Image} → Some x ≡ Some y → x ≡ y
one_list e = cc

pub returns-in_err-archive-clause-page : goal.returns-in_err-archive-clause-page
returns-in_err-archive-clause-page g c = λ ps list.
    let root = c.args.root.now in
    let t = c.args.thread.now in
    let r = c.in_err-archive.field-0.0 in
    if_err (ArchivesAs g.H.Hasher.dig ps root t c.args.time) c.from_residual.result r c.from_residual.ensures.1
    (room_archives g.H.Hasher.dig ps root t c.args.time r (c.in_err-archive.ensures.adds.answer ps list))

pub returns-in_err-head-clause-page : goal.returns-in_err-head-clause-page
returns-in_err-head-clause-page g c = λ ps list.
    let root = c.args.root.now in
    let t = c.args.thread.now in
    let fault = c.in_err-head.field-0.0 in
    let more = c.in_ok-archive.ensures.adds.kept.list_grows ps list in
    if_err (ArchivesAs g.H.Hasher.dig ps root t c.args.time) c.from_residual-in_err-head.result _
    c.from_residual-in_err-head.ensures.1
    (step_archives g.H.Hasher.dig ps root t c.args.time more.0 c.in_ok-archive.archive
    (c.in_ok-archive.ensures.adds.answer ps list) fault (c.in_err-head.ensures.adds.answer (ps ++ more.0) more.1))

pub returns-clause-staged : goal.returns-clause-staged
returns-clause-staged g c = λ ps list.
    let dig = g.H.Hasher.dig in
    let archive = c.in_ok-archive.archive in
    let more = c.in_ok-archive.ensures.put ps list in
    let before = g.met.P.Pages.told_count c.args.pages.now ps list in
    let now = g.met.P.Pages.told_count c.stage_tree.new.pages (ps ++ more.0) more.1 in
    let few = c.in_ok-archive.ensures.few in
    let own = c.in_ok-head.ensures.adds.answer (ps ++ more.0) more.1 in
    record {
      tree_pages = more.0;
      few = (let sum = length-append ps more.0 in omega (arith, before, now, few, sum));
      put = more.2;
      tree = λ named below old stands.
          let grown = c.in_ok-archive.ensures.inserted ps list named (omega (arith, below, before)) old stands in (
            grown.1,
            subst (λ (qs : Image). StandsWith dig (HasNamed named) qs archive grown.1) (one_list (sym grown.2 ∙ more.1))
                grown.3,
            grown.4,
          );
      room = c.in_ok-archive.ensures.adds.answer ps list;
      pages = own.0;
      told = own.1;
      is = own.2;
    }
