-- Reading in pieces: what stands behind the bytes that were taken, and what a reader holds of a word that came so far.
use Rattle.std.specs.Prelude.{◌≡◌, ℕ, ◌<◌, ◌≤◌, List, [], ◌++◌, length, take, Option, Some, None, Result, Ok, Err}
use Rattle.tw_base.specs.declared.kinds.failure.NoMemory.{NoMemory as WantOfMemory}
use Rattle.tw_base.specs.declared.kinds.failure.ReadFault.{ReadFault}
use Rattle.tw_base.specs.declared.kinds.failure.ReadFault.TheVariants.{Malformed, NoMemory}
use Rattle.tw_pieces.specs.declared.segments.Attempt.{Attempt}
use Rattle.tw_pieces.specs.declared.segments.Attempt.TheVariants.{Ended, Front, Broken}
use Rattle.tw_pieces.specs.declared.resumed.Resumed.{Resumed}
use Rattle.tw_base.specs.kinds.Bytes.{AreBytes}
use Rattle.tw_base.specs.format.Formats.{Format, IsFront, IsPlace, Spells, SpellsNothing}

module _ {X : Type 0} where
  -- behind these bytes of its words stand the words of the other format, and no others
  pub record StandsBehind (whole : Format X) (taken : List ℕ) (rest : Format X) : Type 0 where
    pub onward : (word : List ℕ) (x : X) → Spells whole (taken ++ word) x → Spells rest word x
    pub back : (word : List ℕ) (x : X) → Spells rest word x → Spells whole (taken ++ word) x

  -- the bytes are a front, and none are missing but the last or more; so are they with any bytes behind, while they are
  -- fewer than so many
  abbrev pub StaysFront : Format X → (held : List ℕ) (until : ℕ) → Type 0
  StaysFront f held until =
      (more : List ℕ) → AreBytes more → (0 < length more → length (held ++ more) < until)
      → IsFront f (held ++ more) × (0 < length (held ++ more) → SpellsNothing f (held ++ more))

  -- the value, where no more bytes may follow
  abbrev pub EndsAsFormat : Format X → Option X → Type 0
  EndsAsFormat f (Some x) = Spells f [] x
  EndsAsFormat f None = SpellsNothing f []

module _ {S : Type 0} where
  -- reading what is held failed: it breaks before its end, or is a front
  abbrev pub Misses : S → (held : List ℕ) → ReadFault → Result (Attempt S) WantOfMemory → Type 0
  Misses s held (Malformed place) result =
      (place < length held → result ≡ Ok (Broken place)) × (length held ≤ place → result ≡ Ok (Front s 0))
  Misses s held NoMemory result = (fault : WantOfMemory) × (result ≡ Err fault)

module _ {S X : Type 0} (rest : S → Format X) where
  -- what was found in the bytes that are held of a segment
  abbrev pub Attempts : S → (held : List ℕ) → Result (Attempt S) WantOfMemory → Type 0
  Attempts s held (Ok (Ended next size)) = (0 < size) × (size ≤ length held) × StandsBehind (rest s) (take size held) (rest next)
  Attempts s held (Ok (Front same until)) = (same ≡ s) × StaysFront (rest s) held until
  Attempts s held (Ok (Broken place)) = (place < length held) × IsPlace (rest s) held place
  Attempts s held (Err fault) = Unit {0}

  -- the pieces so far are what was taken and what is held
  pub record IsSoFar (whole : Format X) (r : Resumed S) (pieces : List ℕ) : Type 0 where
    pub taken : List ℕ
    pub are : pieces ≡ taken ++ r.held
    pub count : r.taken ≡ length taken
    pub behind : StandsBehind whole taken (rest r.state)
    pub stays : StaysFront (rest r.state) r.held r.until

  -- where all pieces so far are the front of a word, the reader goes on from them; else it tells the first bad place
  abbrev pub GoesInPieces : (whole : Format X) (pieces : List ℕ) → Result (Resumed S) ReadFault → Type 0
  GoesInPieces whole pieces (Ok r) = IsSoFar whole r pieces × IsFront whole pieces
  GoesInPieces whole pieces (Err (Malformed place)) = (place < length pieces) × IsPlace whole pieces place
  GoesInPieces whole pieces (Err NoMemory) = Unit {0}
