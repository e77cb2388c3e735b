use Rattle.std.proofs.Common.{◌≡◌, ◌+◌, ◌-◌, length}
use Rattle.tw_base.specs.kinds.Levels.{top_level}
use Rattle.tw_disk.specs.Answers.{ReadSoFar}
use Rattle.tw_skiplist.specs.Walks.{all_links, links_on}
use Rattle.tw_skiplist.proofs.adding.gather.Given as goal

abbrev pub invariant-loop-level : goal.invariant-loop-level
invariant-loop-level g l = record {
  reads : ReadSoFar g.P.Pages.view g.P.Pages.same l.initial.pages l.pages (λ ps. all_links ps (l.from + 1) l.first)
      (λ ps. links_on ps (l.from + 1) (top_level (l.from + 1) - l.level) l.level l.links.items l.link);
  count : length l.links.items ≡ l.level;
}
