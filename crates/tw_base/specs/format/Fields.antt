-- The fields of the formats.
use Rattle.std.specs.Prelude.{ℕ, suc, zero, ◌+◌, ◌-◌, ◌*◌, ◌/◌, ◌%◌, ◌^◌, List, [], ◌∷◌, Bool, true, false, not, ◌&&◌, ◌||◌, ◌==◌, nat_le, nat_lt, if◌then◌else◌}
use Rattle.std.specs.Int.{bytes_high_first}
use Rattle.tw_base.specs.format.Formats.{Format, then_by}
use Rattle.tw_base.specs.format.Formats.Format.{Done, Byte}
use Rattle.tw_base.specs.kinds.Names.{is_name_byte}

-- ---- numbers

-- after the byte b of a number within a range, what follows is at least this; it is below the unit, the worth of b
unfoldable pub low_after : (unit b least : ℕ) → ℕ
low_after unit b least = if b == least / unit then least % unit else 0

-- and at most this
unfoldable pub high_after : (unit b most : ℕ) → ℕ
high_after unit b most = if b == most / unit then most % unit else unit - 1

-- a number of so many bytes within a range, high byte first; each byte is one that some number in the range has there
unfoldable pub number : (width least most : ℕ) → Format ℕ
number zero least most = Done 0
number (suc width) least most =
    Byte (λ b. nat_le (least / 256 ^ width) b && nat_le b (most / 256 ^ width))
    (λ b. then_by (number width (low_after (256 ^ width) b least) (high_after (256 ^ width) b most))
    (λ rest. Done (b * 256 ^ width + rest)))

-- the spelling of a number that fits so many bytes
unfoldable pub number_bytes : (width n : ℕ) → List ℕ
number_bytes width n = bytes_high_first width n

-- ---- bytes that stand for themselves

-- a byte that passes the test, and then the bytes of a format that may depend on it
unfoldable pub byte_then : (ℕ → Bool) → (ℕ → Format (List ℕ)) → Format (List ℕ)
byte_then test rest = Byte test (λ b. then_by (rest b) (λ bs. Done (b ∷ bs)))

-- so many bytes, whatever they are
unfoldable pub bytes : ℕ → Format (List ℕ)
bytes zero = Done []
bytes (suc n) = byte_then (λ b. nat_lt b 256) (λ b. bytes n)

-- a digest: 32 bytes
abbrev pub digest : Format (List ℕ)
digest = bytes 32

-- these bytes and no others
unfoldable pub text : List ℕ → Format (List ℕ)
text [] = Done []
text (c ∷ cs) = byte_then (λ b. b == c) (λ b. text cs)

-- what is left of a name: letters while they may come, and zeros where they may; after a zero come zeros alone
unfoldable pub name_part : (letters zeros : Bool) (left : ℕ) → Format (List ℕ)
name_part letters zeros zero = Done []
name_part letters zeros (suc left) =
    byte_then (λ b. (letters && is_name_byte b) || (zeros && b == 0)) (λ b. name_part (not (b == 0)) true left)

-- a name: 1 to 16 bytes of a-z, 0-9 and '-', and then zeros to 16 bytes
unfoldable pub name : Format (List ℕ)
name = name_part true false 16

-- a byte that is 0 or 128: whether the highest bit of the number that it begins is set
unfoldable pub flag : Format Bool
flag = Byte (λ b. b == 0 || b == 128) (λ b. Done (b == 128))

-- ---- lists

module _ {X : Type 0} where
  -- so many words of one format, one after another
  unfoldable pub repeated : ℕ → Format X → Format (List X)
  repeated zero f = Done []
  repeated (suc n) f = then_by f (λ x. then_by (repeated n f) (λ xs. Done (x ∷ xs)))
