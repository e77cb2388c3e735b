-- What the code's walk over words answers, by the forms.
use Rattle.std.specs.Prelude.{◌≡◌, ℕ, List, Option, Some, None, Result, Ok, Err, IsOk}
use Rattle.tw_words.specs.Forms.{Form, WordsReading, next}
use Rattle.tw_words.specs.Ranges.{IsWithinRanges}
use Rattle.tw_words.specs.declared.command.Command.{Command}
use Rattle.tw_words.specs.declared.cursor.Stop.{Stop}
use Rattle.tw_words.specs.declared.cursor.Stop.TheVariants.{At, NoMemory}

module _ {V Y : Type 0} where
  -- it is the value that was read, seen through a view, or tells how many words are left
  abbrev pub ReadsWords : WordsReading V → (Y → V) → Result Y Stop → Type 0
  ReadsWords reading view (Ok y) = reading ≡ Ok (view y)
  ReadsWords reading view (Err (At left)) = reading ≡ Err left
  ReadsWords reading view (Err NoMemory) = ⊥

  -- it took the value that the part has of the first word
  abbrev pub TakesWords : (List ℕ → Option V) → (Y → V) → (old new : List (List ℕ)) → Result Y Stop → Type 0
  TakesWords part view old new (Ok y) = next part old ≡ Ok (view y, new)
  TakesWords part view old new (Err (At left)) = next part old ≡ Err left
  TakesWords part view old new (Err NoMemory) = ⊥

-- it is the command that was read, and its numbers lie in their ranges; or there was no memory for that, or it tells how many words are
-- left
abbrev pub MakesCommand : WordsReading Command → Result Command Stop → Type 0
MakesCommand reading (Ok command) = (reading ≡ Ok command) × IsWithinRanges command
MakesCommand reading (Err (At left)) = reading ≡ Err left
MakesCommand reading (Err NoMemory) = IsOk reading

-- it is what the named form makes of the words behind its name, or none where no form is named
abbrev pub MakesNamed : Option Form → List (List ℕ) → Option (Result Command Stop) → Type 0
MakesNamed (Some form) behind (Some made) = MakesCommand (form behind) made
MakesNamed (Some form) behind None = ⊥
MakesNamed None behind (Some made) = ⊥
MakesNamed None behind None = Unit {0}
