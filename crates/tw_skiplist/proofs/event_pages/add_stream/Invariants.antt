use Rattle.std.proofs.Common.{◌≡◌, ◌+◌, ◌*◌, ◌-◌, ◌^◌, ◌<◌, ◌≤◌, length}
use Rattle.tw_disk.specs.Answers.{ReadSoFar}
use Rattle.tw_steppage.specs.declared.limits.TheConstants.{MOST_PIECE_BYTES}
use Rattle.tw_skiplist.specs.Events.{last_event_page, piece_count, pieces_from}
use Rattle.tw_skiplist.proofs.event_pages.add_stream.Given as goal

abbrev pub invariant-loop-number : goal.invariant-loop-number
invariant-loop-number g l = record {
  reads : ReadSoFar g.P.Pages.view g.P.Pages.same l.initial.pages l.pages
      (λ ps. pieces_from ps l.at (piece_count l.at.stream.size) 0 l.initial.into)
      (λ ps. pieces_from ps l.at (piece_count l.at.stream.size - l.number) l.number l.into);
  page : l.at.stream.page + l.number < 2 ^ 64;
  last : l.last ≡ last_event_page l.at l.number;
  few : l.number ≤ piece_count l.at.stream.size;
  grown : length l.initial.into ≤ length l.into;
}

abbrev pub decreases-loop-number : goal.decreases-loop-number
decreases-loop-number g l = l.size - MOST_PIECE_BYTES * l.number
