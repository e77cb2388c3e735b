use Rattle.tw_disk.specs.Shelves.{kept_on}
use Rattle.tw_disk.proofs.KeepingLaws.{AreOf-after_stage}
use Rattle.tw_disk.proofs.shelved.ShelvedPages.stage.Goals as goal

pub invariant_of-self : goal.invariant_of-self
invariant_of-self g c = record {
  right = AreOf-after_stage (g.P.Pages.view c.args.self.now.pages.now).list (g.P.Pages.view c.stage.new.self).list
      (kept_on c.args.self.now.shelf.now) c.args.page.now c.stage.result c.stage.ensures.list c.stage.ensures.list_err
      c.args.self.now.right;
}
