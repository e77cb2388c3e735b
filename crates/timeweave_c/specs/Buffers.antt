-- What stands in a buffer of the caller.
use Rattle.std.specs.Prelude.{ℕ, List, ◌++◌, length, take, drop}

-- a buffer after so much of the text as has room was put at its front; what is behind that is as it was
abbrev pub put_in : (text buffer : List ℕ) → List ℕ
put_in text buffer = take (length buffer) text ++ drop (length text) buffer
