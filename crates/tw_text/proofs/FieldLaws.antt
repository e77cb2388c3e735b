-- The text of fields, field by field.
use Rattle.std.proofs.Common.{◌≡◌, ℕ, suc, ◌+◌, ◌<◌, List, [], ◌∷◌, ◌++◌, length, drop, get_or, ap, ◌∙◌, sym, add-one}
use Rattle.std.proofs.Common.{append-nil}
use Rattle.std.proofs.Math.Seq.{drop-cons}
use Rattle.tw_text.specs.declared.field.Field.{Field}
use Rattle.tw_text.specs.Lines.{fields_text}

-- the text of one field and then of others
fields_text-cons : (field : Field) (fields : List Field) → fields_text (field ∷ fields) ≡ fields_text (field ∷ [])
    ++ fields_text fields
fields_text-cons field fields = simp append-nil

pub fields_text-drop : (fields : List Field) (i : ℕ) (field : Field) → i < length fields → get_or fields i field
    ≡ field →
    fields_text (drop i fields) ≡ fields_text (field ∷ []) ++ fields_text (drop (i + 1) fields)
fields_text-drop fields i field within at =
    ap fields_text (drop-cons fields i field within ∙ ap (λ f. f ∷ drop (suc i) fields) at)
    ∙ ap (λ j. fields_text (field ∷ drop j fields)) (sym (add-one i))
    ∙ fields_text-cons field (drop (i + 1) fields)
