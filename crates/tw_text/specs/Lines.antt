-- The lines that the program writes.
use Rattle.std.specs.Prelude.{ℕ, List, [], ◌∷◌, ◌++◌, codes, decimal}
use Rattle.hex.specs.Hex.{encode_lower}
use Rattle.tw_base.specs.kinds.Names.{name_text}
use Rattle.tw_base.specs.declared.history.thread.Thread.{Thread}
use Rattle.tw_text.specs.declared.field.Field.{Field}
use Rattle.tw_text.specs.declared.field.Field.TheVariants.{Word, Number, Named, Hex}

-- bytes in lower-case hexadecimal, and `-` for no bytes
abbrev pub hex_text : List ℕ → List ℕ
hex_text [] = codes "-"
hex_text (b ∷ bs) = encode_lower (b ∷ bs)

abbrev pub field_text : Field → List ℕ
field_text (Word bytes) = bytes
field_text (Number n) = decimal n
field_text (Named name) = name_text name
field_text (Hex bytes) = hex_text bytes

-- one blank before each field
abbrev pub fields_text : List Field → List ℕ
fields_text [] = []
fields_text (field ∷ fields) = codes " " ++ (field_text field ++ fields_text fields)

-- the head, the fields and one line feed
abbrev pub line : (head : List ℕ) → List Field → List ℕ
line head fields = head ++ (fields_text fields ++ codes "\n")

-- the line of an anchors file that holds the thread
abbrev pub anchor_text : Thread → List ℕ
anchor_text thread = line (name_text thread.from) (Number thread.step ∷ Hex thread.auth ∷ [])

-- the words are no command; the number is that of the first word at which none goes on
abbrev pub usage_text : (number : ℕ) → List ℕ
usage_text number = line (codes "usage") (Number number ∷ [])

-- an input, or the disk, failed
abbrev pub fault_input_text : List ℕ
fault_input_text = line (codes "fault input") []

abbrev pub fault_disk_text : List ℕ
fault_disk_text = line (codes "fault disk") []

abbrev pub no_memory_text : List ℕ
no_memory_text = line (codes "no memory") []
