-- What the code's walk over the words of a line answers, by the forms.
use Rattle.std.specs.Prelude.{◌≡◌, ℕ, List, [], Bool, true, false, Option, Some, None, Result, Ok, Err}
use Rattle.std.specs.List.{slice_split}
use Rattle.tw_msg.specs.AnchorsFile.{is_blank}
use Rattle.tw_script.specs.LineForms.{next}
use Rattle.tw_script.specs.declared.stop.Stop.{Stop}
use Rattle.tw_script.specs.declared.stop.Stop.TheVariants.{NotAllowed, NoMemory}

-- the parts of a text that are left to go over, where there are any
abbrev pub parts_left : (is_separator : ℕ → Bool) → (more : Bool) → (text : List ℕ) → List (List ℕ)
parts_left is_separator true text = slice_split is_separator text
parts_left is_separator false text = []

-- the words of a line that are left
abbrev pub words_left : (more : Bool) → (text : List ℕ) → List (List ℕ)
words_left = parts_left is_blank

module _ {V Y : Type 0} where
  -- it is the value, seen through a view, or there is none. Want of memory is free
  abbrev pub ReadsWords : Option V → (Y → V) → Result Y Stop → Type 0
  ReadsWords value view (Ok y) = value ≡ Some (view y)
  ReadsWords value view (Err NotAllowed) = value ≡ None
  ReadsWords value view (Err NoMemory) = Unit {0}

  -- it took the value that the part has of the first word
  abbrev pub TakesWords : (List ℕ → Option V) → (Y → V) → (old new : List (List ℕ)) → Result Y Stop → Type 0
  TakesWords part view old new (Ok y) = next part old ≡ Some (view y, new)
  TakesWords part view old new (Err NotAllowed) = next part old ≡ None
  TakesWords part view old new (Err NoMemory) = Unit {0}
