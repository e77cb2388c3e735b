use Rattle.std.proofs.Common.{◌≡◌, ◌++◌, drop}
use Rattle.tw_text.specs.Lines.{fields_text}
use Rattle.tw_text.proofs.line.print_line.Given as goal

-- the text so far, and the fields that are left
abbrev pub invariant-loop-field : goal.invariant-loop-field
invariant-loop-field l = l.text ++ fields_text (drop l.field-index l.fields) ≡ l.head ++ fields_text l.fields
