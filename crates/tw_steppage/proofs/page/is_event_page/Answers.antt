use Rattle.std.proofs.Common.{drop, subst, arith, length-drop}
use Rattle.std.proofs.lemmas.List.{length-take-le}
use Rattle.tw_base.specs.kinds.Bytes.{AreBytes}
use Rattle.tw_steppage.proofs.page.is_event_page.Goals as goal

pub returns-clause-piece : goal.returns-clause-piece
returns-clause-piece c =
    let bytes = c.args.bytes.now in
    let size = length-drop 11 bytes in (
      length-take-le c.args.count (drop 11 bytes) (omega (arith, size, c.requires)),
      subst AreBytes c.event_piece.ensures c.event_page.ensures.bytes,
    )
