use Rattle.std.specs.Prelude.{reverse}
use Rattle.tw_disk.specs.Answers.{ReadSoFar}
use Rattle.tw_follow.specs.HeadPages.{heads_below, heads_down}
use Rattle.tw_follow.proofs.Rising.{LedBy}
use Rattle.tw_follow.proofs.reading.read_below.Given as goal

abbrev pub invariant-loop-page : goal.invariant-loop-page
invariant-loop-page g l =
    ReadSoFar g.P.Pages.view g.P.Pages.same l.initial.pages l.pages (λ ps. heads_below ps l.last l.head)
    (λ ps. heads_down l.page ps l.head.from l.page l.above (reverse l.heads))
    × LedBy l.head l.above (reverse l.heads)

abbrev pub decreases-loop-page : goal.decreases-loop-page
decreases-loop-page g l = l.page
