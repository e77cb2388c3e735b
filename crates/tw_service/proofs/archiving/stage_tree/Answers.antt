use Rattle.std.proofs.Common.{◌≡◌, Bool, false, ap, subst, sym, ◌∙◌}
use Rattle.std.specs.Prelude.{Result}
use Rattle.tw_base.specs.declared.history.thread.Entry.{Entry}
use Rattle.tw_base.specs.history.Asking.{with_entry}
use Rattle.tw_base.specs.history.Tree.{entries}
use Rattle.tw_base.specs.declared.history.thread.Key.{Key}
use Rattle.tw_base.specs.history.Entries.{key_of, thread_key}
use Rattle.tw_disk.specs.Answers.{SaysOf, is_of_disk}
use Rattle.tw_disk.specs.Found.{Found, ◌>>=◌}
use Rattle.tw_disk.specs.Pages.{OnlyAdds}
use Rattle.tw_rbtree.specs.Answers.{found_insert}
use Rattle.tw_rbtree.specs.declared.fault.TreeFault.{TreeFault}
use Rattle.tw_rbtree.specs.Putting.{PutsIn}
use Rattle.tw_base.specs.declared.history.refusal.Refusal.{Refusal}
use Rattle.tw_service.specs.Finds.{found_room, room_in}
use Rattle.tw_answers.specs.Refusals.{IsFault, refusal_of_tree, service_refusals}
use Rattle.tw_answers.proofs.TreeAnswers.{tree-failed, tree-fault}
use Rattle.tw_service.proofs.RoomAnswers.{room-says}
use Rattle.tw_service.proofs.archiving.stage_tree.Goals as goal

pub returns-in-Ok-clause-adds : goal.returns-in-Ok-clause-adds
unfolding found_room
returns-in-Ok-clause-adds g c =
    let archive = c.args.root.now.archive in
    record {
      answer = λ ps list. ap (λ (key : Key). found_insert g.H.Hasher.dig ps archive key >>= room_in archive)
          (sym (ap key_of c.next_entry-entry.ensures))
          ∙ ap (λ (f : Found (Result (Unit {0}) TreeFault)). f >>= room_in archive)
          (c.in-Ok.ensures.adds.answer ps list);
      own = tt;
      kept = c.in-Ok.ensures.adds.kept;
      faults = record { later = c.in-Ok.ensures.adds.faults.later; rose = c.in-Ok.ensures.adds.faults.rose };
    }

pub returns-in-Err-clause-adds : goal.returns-in-Err-clause-adds
unfolding found_room
returns-in-Err-clause-adds g c =
    let archive = c.args.root.now.archive in
    let is = c.refusal_of_tree.ensures in
    let failed = ap (λ (why : Refusal). is_of_disk (service_refusals why)) is ∙ tree-failed archive c.in-Err.fault in
    record {
      answer = λ ps list. subst (λ (why : Refusal). SaysOf service_refusals (service_refusals why)
          (found_insert g.H.Hasher.dig ps archive (thread_key c.args.thread.now) >>= room_in archive)) (sym is)
          (subst (λ (key : Key). SaysOf service_refusals (service_refusals (refusal_of_tree archive c.in-Err.fault))
          (found_insert g.H.Hasher.dig ps archive key >>= room_in archive)) (ap key_of c.next_entry-entry.ensures)
          (room-says archive c.in-Err.fault (found_insert g.H.Hasher.dig ps archive (key_of c.next_entry-entry.result))
          (c.in-Err.ensures.adds.answer ps list)));
      own = subst IsFault (sym is) (tree-fault archive c.in-Err.fault);
      kept = subst (λ (b : Bool). OnlyAdds g.P.Pages.view g.P.Pages.same c.args.pages.now c.insert_near.new.pages
          (b ≡ false)) (sym failed) c.in-Err.ensures.adds.kept;
      faults = record {
        later = c.in-Err.ensures.adds.faults.later;
        rose = λ e. c.in-Err.ensures.adds.faults.rose (sym failed ∙ e);
      };
    }

pub returns-in-Ok-clause-inserted : goal.returns-in-Ok-clause-inserted
returns-in-Ok-clause-inserted g c = λ ps list named below t stands.
    let own = c.in-Ok.ensures.inserted ps list named below t stands in
    (own.0, own.1, own.2, own.3, own.4 ∙ ap (λ (e : Entry). with_entry (entries t) e) c.next_entry-entry.ensures)

pub returns-in-Ok-clause-put : goal.returns-in-Ok-clause-put
returns-in-Ok-clause-put g c = λ ps list.
    let put = c.in-Ok.ensures.put ps list in (
      put.0,
      put.1,
      subst (λ (e : Entry). PutsIn g.H.Hasher.dig ps c.args.root.now.archive e put.0 c.in-Ok.new)
          c.next_entry-entry.ensures put.2,
    )
