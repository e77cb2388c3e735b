use Rattle.std.proofs.Common.{◌≡◌, ◌+◌, ◌-◌, ◌*◌, ◌≤◌, ◌++◌, length}
use Rattle.std.specs.Option.{option_map}
use Rattle.tw_steppage.specs.StepBytes.{event_pages}
use Rattle.tw_skiplist.specs.Events.{piece_count}
use Rattle.tw_skiplist.proofs.pieces.stage_pieces.Given as goal
use Rattle.tw_steppage.specs.declared.limits.TheConstants.{MOST_PIECE_BYTES}

abbrev pub invariant-loop-count : goal.invariant-loop-count
invariant-loop-count g l = record {
  list : (g.P.Pages.view l.pages).list ≡ option_map (λ ps. ps ++ event_pages l.step l.stream l.count)
      (g.P.Pages.view l.initial.pages).list;
  used : (g.P.Pages.view l.pages).used ≡ (g.P.Pages.view l.initial.pages).used + l.count;
  few : l.count ≤ piece_count (length l.stream);
  same : g.P.Pages.same l.initial.pages l.pages;
  unbroken : (g.P.Pages.view l.initial.pages).unbroken → (g.P.Pages.view l.pages).unbroken;
  faults : (g.P.Pages.view l.pages).faults ≡ (g.P.Pages.view l.initial.pages).faults;
}

abbrev pub decreases-loop-count : goal.decreases-loop-count
decreases-loop-count g l = length l.stream - MOST_PIECE_BYTES * l.count
