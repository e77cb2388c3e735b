-- What the code answers of a line, by what was made before it.
use Rattle.std.specs.Prelude.{◌≡◌, ℕ, List, true, false, Some, None, Result, Ok, Err}
use Rattle.tw_script.specs.Allowed.{made_by, may_follow}
use Rattle.tw_script.specs.Scripts.{allowed_line}
use Rattle.tw_script.specs.declared.line.Line.{Line}
use Rattle.tw_script.specs.declared.made.Made.{Made}
use Rattle.tw_script.specs.declared.stop.Stop.{Stop}
use Rattle.tw_script.specs.declared.stop.Stop.TheVariants.{NotAllowed, NoMemory}

-- the line may follow, and this is made then; or it may not. Want of memory is free
abbrev pub TakesLine : Made → Line → (after : Made) → Result (Unit {0}) Stop → Type 0
TakesLine made line after (Ok done) = (may_follow made line ≡ true) × (after ≡ made_by made line)
TakesLine made line after (Err NotAllowed) = may_follow made line ≡ false
TakesLine made line after (Err NoMemory) = Unit {0}

-- the text is a line that may follow, and this is made then; or it is none
abbrev pub TakesText : Made → (text : List ℕ) → (after : Made) → Result Line Stop → Type 0
TakesText made text after (Ok line) = (allowed_line made text ≡ Some line) × (after ≡ made_by made line)
TakesText made text after (Err NotAllowed) = allowed_line made text ≡ None
TakesText made text after (Err NoMemory) = Unit {0}
