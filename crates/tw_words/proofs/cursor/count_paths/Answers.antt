use Rattle.std.proofs.Common.{arith}
use Rattle.std.specs.String.{string_bytes}
use Rattle.tw_words.proofs.FormLaws.{count_paths-drop}
use Rattle.tw_words.proofs.cursor.count_paths.Goals as goal

pub returns-then-is_empty-clause-count : goal.returns-then-is_empty-clause-count
returns-then-is_empty-clause-count c =
    let here = count_paths-drop string_bytes c.args.words.now c.loop-i.i c.index-words-i.result c.loop-i-test.true
    c.index-words-i.is in
    grind (arith, here, c.is_empty.ensures, c.if-is_empty.true, c.loop-i.invariant)

pub loop-i-preserved : goal.loop-i-preserved
loop-i-preserved c =
    let here = count_paths-drop string_bytes c.args.words.now c.loop-i.i c.index-words-i.result c.loop-i-test.true
    c.index-words-i.is in
    grind (arith, here, c.is_empty.ensures, c.if-is_empty.false, c.loop-i.invariant)
