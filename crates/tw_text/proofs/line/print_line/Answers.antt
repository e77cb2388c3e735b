use Rattle.std.proofs.Common.{◌≡◌, ◌<◌, ◌+◌, ◌++◌, ◌∷◌, [], length, drop, get_or, ◌∙◌, sym, ap, arith, append_assoc}
use Rattle.tw_text.specs.Lines.{fields_text}
use Rattle.tw_text.proofs.FieldLaws.{fields_text-drop}
use Rattle.tw_text.proofs.line.print_line.Goals as goal

pub loop-field-preserved : goal.loop-field-preserved
loop-field-preserved c =
    let fields = c.args.fields.now in
    let i = c.loop-field.field-index in
    let field = c.field-item.result in
    let same = c.as_slice-field-items.ensures in
    let within : i < length fields = omega (arith, ap length same) in
    let at : get_or fields i field ≡ field = ap (λ items. get_or items i field) (sym same) ∙ sym c.field-item.is in
    ap (λ text. text ++ fields_text (drop (i + 1) fields)) c.in_ok-put_field.ensures
    ∙ append_assoc c.loop-field.text (fields_text (field ∷ [])) (fields_text (drop (i + 1) fields))
    ∙ ap (λ rest. c.loop-field.text ++ rest) (sym (fields_text-drop fields i field within at))
    ∙ c.loop-field.invariant
