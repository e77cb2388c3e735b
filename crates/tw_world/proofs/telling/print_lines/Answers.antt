use Rattle.std.proofs.Common.{◌+◌, ◌<◌, ◌≤◌, ◌∙◌, ◌++◌, length, drop, sym, ap, arith, append_assoc, append-nil}
use Rattle.std.proofs.lemmas.List.{at_drop_all}
use Rattle.tw_script.specs.declared.script.NumberedLine.{NumberedLine}
use Rattle.tw_world.specs.Telling.{told_line, told_lines}
use Rattle.tw_world.proofs.PlayedTexts.{told_lines-drop, told_lines-none}
use Rattle.tw_world.proofs.telling.print_lines.Goals as goal

pub loop-index-preserved : goal.loop-index-preserved
loop-index-preserved c =
    let lines = c.as_slice-lines.result.now in
    let told = c.args.told.now in
    let i = c.loop-index.index in
    let l = c.index-lines-index.result in
    let t = c.index-told-index.result in
    let within : i < length lines = c.loop-index-test.true in
    let there : i < length told = omega (arith, within, c.requires, ap length c.as_slice-lines.ensures) in
    ap (λ text. text ++ told_lines (drop (i + 1) lines) (drop (i + 1) told))
    (c.in_ok-extend_from_slice.ensures.ok ∙ ap (λ more. c.loop-index.text ++ more)
    (c.as_slice.ensures ∙ c.in_ok-line.ensures ∙ ap (λ (x : NumberedLine). told_line x.number t)
    (sym c.index-lines-index.is)))
    ∙ append_assoc c.loop-index.text (told_line l.number t) (told_lines (drop (i + 1) lines) (drop (i + 1) told))
    ∙ ap (λ rest. c.loop-index.text ++ rest)
    (sym (told_lines-drop lines told i l t within there (sym c.index-lines-index.is) (sym c.index-told-index.is)))
    ∙ c.loop-index.invariant

pub returns : goal.returns
returns c =
    let lines = c.as_slice-lines.result.now in
    let told = c.args.told.now in
    let i = c.loop-index.index in
    let done : length lines ≤ i = omega (arith, c.loop-index-test.false) in
    sym (append-nil c.loop-index.text)
    ∙ ap (λ rest. c.loop-index.text ++ rest)
    (sym (at_drop_all (λ ls. told_lines ls (drop i told)) lines i done ∙ told_lines-none (drop i told)))
    ∙ c.loop-index.invariant
    ∙ ap (λ ls. told_lines ls told) c.as_slice-lines.ensures
