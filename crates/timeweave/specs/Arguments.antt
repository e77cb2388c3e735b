-- The words that a program was started with, and what is read of them.
use Rattle.std.specs.Prelude.{IsUtf8, ◌≡◌, ◌⊎◌, ℕ, suc, List, [], Option, Some, None, Result, Ok, Err, slice_get, take}
use Rattle.std.specs.declared.env.FillError.{FillError}
use Rattle.std.specs.declared.env.FillError.TheVariants.{NotPresent, TooLong}

-- the word of this number was put at the buffer's front, so many bytes; or there is none; or it is longer than the buffer
abbrev pub Fills : (words : List (List ℕ)) → (number : ℕ) → (buffer : List ℕ) → Result ℕ FillError → Type 0
Fills words number buffer (Ok n) = slice_get words number ≡ Some (take n buffer)
Fills words number buffer (Err NotPresent) = slice_get words number ≡ None
Fills words number buffer (Err TooLong) = Unit {0}

-- the text is the bytes, or, where they aren't UTF-8, the empty one
abbrev pub IsTextRead : (bytes text : List ℕ) → Type 0
IsTextRead bytes text = (text ≡ bytes) ⊎ ((IsUtf8 bytes → ⊥) × (text ≡ []))

-- what is read is the word of this number, or none where there is none
abbrev pub IsWordRead : (words : List (List ℕ)) → (number : ℕ) → (read : Option (List ℕ)) → Type 0
IsWordRead words number None = slice_get words number ≡ None
IsWordRead words number (Some text) = (bytes : List ℕ) × (slice_get words number ≡ Some bytes) × IsTextRead bytes text

-- what is read are the words behind the first one, in their order, and no others
abbrev pub AreWordsRead : (words : List (List ℕ)) → (read : List (List ℕ)) → Type 0
AreWordsRead words read = (i : ℕ) → IsWordRead words (suc i) (slice_get read i)
