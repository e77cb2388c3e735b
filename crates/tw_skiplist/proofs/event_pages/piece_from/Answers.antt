use Rattle.std.proofs.Common.{List, ℕ, ap, sym, ◌∙◌, true, false}
use Rattle.tw_disk.specs.Found.Found.{Is}
use Rattle.tw_skiplist.proofs.EventSpelling.{event_page_spells}
use Rattle.tw_skiplist.proofs.event_pages.piece_from.Goals as goal

pub returns-then-not-is_event_page-clause-answer : goal.returns-then-not-is_event_page-clause-answer
returns-then-not-is_event_page-clause-answer c =
    event_page_spells c.args.step c.args.number c.args.count c.args.bytes.now false
    c.if-not-is_event_page.ensures.answer c.if-not-is_event_page.ensures.piece c.args.page

pub returns-clause-answer : goal.returns-clause-answer
returns-clause-answer c =
    event_page_spells c.args.step c.args.number c.args.count c.args.bytes.now true c.if-not-is_event_page.ensures.answer
    c.if-not-is_event_page.ensures.piece c.args.page
    ∙ ap (λ (piece : List ℕ). Is piece) (sym c.event_piece.ensures)
