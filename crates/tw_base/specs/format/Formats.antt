-- Formats. A format says, byte by byte, which bytes may come next, and which value the whole stands for. A word of a
-- format is a list of bytes that it allows from first to last; the word then spells the value.
use Rattle.std.specs.Prelude.{◌≡◌, ℕ, ◌+◌, ◌-◌, ◌<◌, ◌≤◌, List, [], ◌∷◌, ◌++◌, length, take, drop, Result, Ok, Err, Bool, true, if◌then◌else◌}
use Rattle.tw_base.specs.declared.kinds.failure.ReadFault.{ReadFault}
use Rattle.tw_base.specs.declared.kinds.failure.ReadFault.TheVariants.{Malformed, NoMemory}

-- the end of a word with its value; or a test of the next byte, and what follows each byte that passes it
pub data Format (X : Type 0) : Type 0 where
  Done : X → Format X
  Byte : (ℕ → Bool) → (ℕ → Format X) → Format X

module _ {X Y : Type 0} where
  -- a word of one format and then a word of another, which may depend on the value of the first
  abbrev pub then_by : Format X → (X → Format Y) → Format Y
  then_by (Done x) next = next x
  then_by (Byte test more) next = Byte test (λ b. then_by (more b) next)

module _ {X : Type 0} where
  -- the bytes are a word of the format, and spell the value
  abbrev pub Spells : Format X → List ℕ → X → Type 0
  Spells (Done x) [] y = x ≡ y
  Spells (Done x) (b ∷ bs) y = ⊥
  Spells (Byte test more) [] y = ⊥
  Spells (Byte test more) (b ∷ bs) y = (test b ≡ true) × Spells (more b) bs y

  -- the bytes are no word of the format
  abbrev pub SpellsNothing : Format X → List ℕ → Type 0
  SpellsNothing f bytes = (x : X) → Spells f bytes x → ⊥

  -- the bytes are the front of some word
  abbrev pub IsFront : Format X → List ℕ → Type 0
  IsFront f bytes = (rest : List ℕ) × (x : X) × Spells f (bytes ++ rest) x

  -- the longest front of the bytes that is the front of some word has this length: the place of the first byte at which
  -- no word goes on, counted from 0, or the length of bytes that end too early
  pub record IsPlace (f : Format X) (bytes : List ℕ) (place : ℕ) : Type 0 where
    pub within : place ≤ length bytes
    pub good : IsFront f (take place bytes)
    pub longest : (n : ℕ) → n ≤ length bytes → IsFront f (take n bytes) → n ≤ place

  -- a law for each format: every front that its tests let through goes on to some word
  abbrev pub GoesOn : Format X → Type 0
  GoesOn (Done x) = Unit {0}
  GoesOn (Byte test more) = ((b : ℕ) × (test b ≡ true)) × ((b : ℕ) → test b ≡ true → GoesOn (more b))

  -- a law for each format: a word is the bytes that this function gives of its value
  abbrev pub WrittenAs : Format X → (X → List ℕ) → Type 0
  WrittenAs f write = (word : List ℕ) (x : X) → Spells f word x → word ≡ write x

  -- and so two words that spell one value are the same bytes
  abbrev pub OneSpelling : Format X → Type 0
  OneSpelling f = (x : X) (one other : List ℕ) → Spells f one x → Spells f other x → one ≡ other

-- ---- reading from the front

-- a value and the place after its word, or the place of the first byte that cannot stand there
pub data Reading (X : Type 0) : Type 0 where
  Took : X → ℕ → Reading X
  Stopped : ℕ → Reading X

module _ {X : Type 0} where
  -- what stands at the front of the bytes, the first of which has this place
  unfoldable pub front : Format X → List ℕ → ℕ → Reading X
  front (Done x) bs at = Took x at
  front (Byte test more) [] at = Stopped at
  front (Byte test more) (b ∷ bs) at = if test b then front (more b) bs (at + 1) else Stopped at

module _ {X Y : Type 0} where
  -- what a reading of the bytes from a place on goes on to
  abbrev pub goes_on : (X → List ℕ → ℕ → Reading Y) → List ℕ → ℕ → Reading X → Reading Y
  goes_on next bytes at (Took x after) = next x (drop (after - at) bytes) after
  goes_on next bytes at (Stopped place) = Stopped place

-- ---- the same over the whole input and a place in it, one field after another

-- a value, and the place after it
pub record Placed (X : Type 0) : Type 0 where
  pub value : X
  pub after : ℕ

module _ {X : Type 0} where
  abbrev pub placed : Reading X → Result (Placed X) ℕ
  placed (Took x after) = Ok (record { value = x; after = after })
  placed (Stopped place) = Err place

  -- what a word of the format that begins at the place spells
  unfoldable pub read_at : Format X → List ℕ → ℕ → Result (Placed X) ℕ
  read_at f whole at = placed (front f (drop at whole) at)

module _ {X Y : Type 0} where
  infixl 10 ◌>>=◌
  -- one reading and then the next, as the `do` of a format's steps writes it
  abbrev pub ◌>>=◌ : Result (Placed X) ℕ → (Placed X → Result (Placed Y) ℕ) → Result (Placed Y) ℕ
  (Ok x) >>= next = next x
  (Err place) >>= next = Err place

-- ---- what a reader's answer says; its values are seen through a view

module _ {X Y : Type 0} where
  -- a reader without memory whose words end at a known place answers the reading
  abbrev pub Gives : (Y → X) → Result Y ℕ → (after : ℕ) → Result (Placed X) ℕ → Type 0
  Gives view (Ok y) after reading = reading ≡ Ok (record { value = view y; after = after })
  Gives view (Err place) after reading = reading ≡ Err place

  -- the same of the front of some bytes
  abbrev pub GivesFront : (Y → X) → Result Y ℕ → (after : ℕ) → Reading X → Type 0
  GivesFront view (Ok y) after reading = reading ≡ Took (view y) after
  GivesFront view (Err place) after reading = reading ≡ Stopped place

  -- a reader of the whole bytes: Ok exactly where they are a word, which then spells the value; Malformed exactly where
  -- they are none, with the length of the longest front that is the front of a word. Want of memory is free
  abbrev pub ReadsAs : (Y → X) → Format X → List ℕ → Result Y ReadFault → Type 0
  ReadsAs view f bytes (Ok y) = Spells f bytes (view y)
  ReadsAs view f bytes (Err (Malformed place)) = SpellsNothing f bytes × IsPlace f bytes place
  ReadsAs view f bytes (Err NoMemory) = Unit {0}

  -- a reader of a front of the bytes, which answers its length too: Ok exactly where a front of them is a word;
  -- Malformed exactly where none is, with the place as above. Want of memory is free
  abbrev pub ReadsFrontAs : (Y → X) → Format X → List ℕ → Result (Y × ℕ) ReadFault → Type 0
  ReadsFrontAs view f bytes (Ok read) = (read.1 ≤ length bytes) × Spells f (take read.1 bytes) (view read.0)
  ReadsFrontAs view f bytes (Err (Malformed place)) = ((n : ℕ) → SpellsNothing f (take n bytes)) × IsPlace f bytes place
  ReadsFrontAs view f bytes (Err NoMemory) = Unit {0}

module _ {Y : Type 0} where
  -- what a reader read from the front, up to a place, is the answer for the whole bytes, unless bytes follow
  abbrev pub IsWholeTo : List ℕ → (after : ℕ) → Result Y ReadFault → Result Y ReadFault → Type 0
  IsWholeTo bytes after (Ok value) result =
      (after < length bytes → result ≡ Err (Malformed after)) × (length bytes ≤ after → result ≡ Ok value)
  IsWholeTo bytes after (Err fault) result = result ≡ Err fault

  -- what a reader read from the front, with the place after it
  abbrev pub IsFrontTo : (after : ℕ) → Result Y ReadFault → Result (Y × ℕ) ReadFault → Type 0
  IsFrontTo after (Ok value) result = result ≡ Ok (value, after)
  IsFrontTo after (Err fault) result = result ≡ Err fault
