use Rattle.std.proofs.Common.{◌++◌, ◌∷◌, [], ℕ, List, refl, ap, sym, ◌∙◌, arith}
use Rattle.tw_steppage.specs.StepBytes.{event_pages}
use Rattle.tw_skiplist.proofs.Streams.{event_pages-first, event_pages-more, option_ap, option_more, option_same}
use Rattle.tw_skiplist.proofs.pieces.stage_pieces.Goals as goal

pub loop-count-init : goal.loop-count-init
loop-count-init g c = record {
  list = option_same (g.P.Pages.view c.args.pages.now).list (event_pages c.args.step c.args.stream.now 0)
      (event_pages-first c.args.step c.args.stream.now);
  used = omega arith;
  few = omega arith;
  same = g.met.P.Pages.same_itself _;
  unbroken = λ u. u;
  faults = refl;
}

pub loop-count-preserved : goal.loop-count-preserved
loop-count-preserved g c =
    let inv = c.loop-count.invariant in
    let count = c.loop-count.count in
    record {
      list = c.in_ok-stage.ensures.list
          ∙ option_more (g.P.Pages.view c.args.pages.now).list (g.P.Pages.view c.loop-count.pages).list
          (event_pages c.args.step c.args.stream.now count) c.piece_page.result inv.list
          ∙ option_ap (g.P.Pages.view c.args.pages.now).list
          (ap (λ (p : List ℕ). event_pages c.args.step c.args.stream.now count ++ p ∷ []) c.piece_page.ensures
          ∙ sym (event_pages-more c.args.step c.args.stream.now count));
      used = omega (arith, c.in_ok-stage.ensures.used, inv.used);
      few = omega (arith, c.loop-count-test.true, c.requires.size);
      same = g.met.P.Pages.same_on _ _ _ inv.same c.in_ok-stage.ensures.same;
      unbroken = λ u. c.in_ok-stage.ensures.unbroken (inv.unbroken u);
      faults = c.in_ok-stage.ensures.faults ∙ inv.faults;
    }
