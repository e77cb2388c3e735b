-- Codecs. One declaration of a format: which bytes spell what, which values have a spelling and which one, and how a
-- reader goes over the bytes field by field. The laws that join the four are in proofs/lemmas/format/CodecLaws.
use Rattle.std.specs.Prelude.{◌≡◌, ℕ, ◌≤◌, List, [], ◌∷◌, ◌++◌, length, flat_map, Bool, true, false, Option, Some, None, MatchOption, Result, Ok, Err, if◌then◌else◌}
use Rattle.std.specs.Option.{option_map_or}
pub use Rattle.tw_base.specs.kinds.Bytes.{HasBytes}
use Rattle.tw_base.specs.format.Formats.{Format, IsPlace, OneSpelling, Placed, Spells, SpellsNothing, WrittenAs, then_by, read_at, ◌>>=◌}
use Rattle.tw_base.specs.format.Formats.Format.{Done}
use Rattle.tw_base.specs.format.Fields.{bytes, flag, name, number, number_bytes, repeated, text}
use Rattle.tw_base.specs.kinds.Lists.{Each}
use Rattle.tw_base.specs.kinds.Names.{IsName}

pub record Codec (X : Type 0) : Type 1 where
  pub format : Format X
  -- the values that have a spelling, and the spelling
  pub Fits : X → Type 0
  pub write : X → List ℕ
  -- reading at a place, field by field
  pub read : List ℕ → ℕ → Result (Placed X) ℕ

-- the laws of a format: the words are the written bytes of the values that fit; a word has one value, a value one
-- spelling, and no word is the front of a longer one; reading field by field is reading the format, and where it stops it
-- tells the place of the first bad byte, and the bytes are no word
pub record IsUnambiguous {X : Type 0} (c : Codec X) : Type 0 where
  pub written : WrittenAs c.format c.write
  pub fits : (word : List ℕ) (x : X) → Spells c.format word x → c.Fits x
  pub spelled : (x : X) → c.Fits x → Spells c.format (c.write x) x
  pub one_value : (word : List ℕ) (x y : X) → Spells c.format word x → Spells c.format word y → x ≡ y
  pub one_spelling : OneSpelling c.format
  pub no_longer : (word rest : List ℕ) (x y : X) → Spells c.format word x → Spells c.format (word ++ rest) y → rest ≡ []
  pub reads : (bytes : List ℕ) (at : ℕ) → c.read bytes at ≡ read_at c.format bytes at
  pub stops : (bytes : List ℕ) (place : ℕ) → c.read bytes 0 ≡ Err place → SpellsNothing c.format bytes × IsPlace c.format bytes place

-- ---- fields

-- a number of so many bytes within a range
unfoldable pub number_codec : (width least most : ℕ) → Codec ℕ
number_codec width least most = record {
  format = number width least most;
  Fits = λ n. (least ≤ n) × (n ≤ most);
  write = number_bytes width;
  read = read_at (number width least most);
}

unfoldable pub bytes_codec : ℕ → Codec (List ℕ)
bytes_codec n = record {
  format = bytes n;
  Fits = HasBytes n;
  write = λ bs. bs;
  read = read_at (bytes n);
}

abbrev pub digest_codec : Codec (List ℕ)
digest_codec = bytes_codec 32

-- the 16 bytes of a service's name
unfoldable pub name_codec : Codec (List ℕ)
name_codec = record { format = name; Fits = IsName; write = λ n. n; read = read_at name }

-- these bytes and no others
unfoldable pub text_codec : List ℕ → Codec (List ℕ)
text_codec magic = record { format = text magic; Fits = λ t. magic ≡ t; write = λ t. t; read = read_at (text magic) }

-- a byte that is 0 or 128
unfoldable pub flag_codec : Codec Bool
flag_codec = record { format = flag; Fits = λ set. Unit {0}; write = λ set. (if set then 128 else 0) ∷ []; read = read_at flag }

-- ---- one field and then others

module _ {X Y : Type 0} where
  -- a field, and what follows each of its values
  unfoldable pub pair : Codec X → (X → Codec Y) → Codec (X × Y)
  pair c next = record {
    format = then_by c.format (λ x. then_by (next x).format (λ y. Done (x, y)));
    Fits = λ p. c.Fits p.0 × (next p.0).Fits p.1;
    write = λ p. c.write p.0 ++ (next p.0).write p.1;
    read = λ whole at. c.read whole at >>= (λ x. (next x.value).read whole x.after >>= (λ y. Ok (record { value = (x.value, y.value); after = y.after })));
  }

  -- the same values by another name: from a tuple to a record and back
  unfoldable pub seen : (X → Y) → (Y → X) → Codec X → Codec Y
  seen to from c = record {
    format = then_by c.format (λ x. Done (to x));
    Fits = λ y. c.Fits (from y);
    write = λ y. c.write (from y);
    read = λ whole at. c.read whole at >>= (λ x. Ok (record { value = to x.value; after = x.after }));
  }

  -- the variant that the first function makes; the second one has the fields of a value that is of the variant
  unfoldable pub variant : (X → Y) → (Y → Option X) → Codec X → Codec Y
  variant to fields c = record {
    format = then_by c.format (λ x. Done (to x));
    Fits = λ y. MatchOption (fields y) ⊥ (λ x. (to x ≡ y) × c.Fits x);
    write = λ y. option_map_or c.write (fields y) [];
    read = λ whole at. c.read whole at >>= (λ x. Ok (record { value = to x.value; after = x.after }));
  }

  -- values of several kinds: the kind, and then what the kind has
  unfoldable pub by_kind : (Y → X) → Codec X → (X → Codec Y) → Codec Y
  by_kind kind_of c next = record {
    format = then_by c.format (λ x. (next x).format);
    Fits = λ y. c.Fits (kind_of y) × (next (kind_of y)).Fits y;
    write = λ y. c.write (kind_of y) ++ (next (kind_of y)).write y;
    read = λ whole at. c.read whole at >>= (λ x. (next x.value).read whole x.after);
  }

-- the number of the bytes within a range, and the bytes
unfoldable pub sized_codec : (width least most : ℕ) → Codec (List ℕ)
sized_codec width least most = by_kind length (number_codec width least most) bytes_codec

module _ {X : Type 0} where
  -- one codec where the test is true, and else the other
  abbrev pub choose : Bool → Codec X → Codec X → Codec X
  choose true one other = one
  choose false one other = other

  -- no bytes, which stand for this value
  unfoldable pub nothing : X → Codec X
  nothing x = record {
    format = Done x;
    Fits = λ y. x ≡ y;
    write = λ y. [];
    read = λ whole at. Ok (record { value = x; after = at });
  }

  -- with this spelling, which is the codec's own for each value that fits
  unfoldable pub written : (X → List ℕ) → Codec X → Codec X
  written write c = record { format = c.format; Fits = c.Fits; write = write; read = c.read }

  -- these bytes first
  unfoldable pub behind : List ℕ → Codec X → Codec X
  behind magic c = record {
    format = then_by (text magic) (λ t. c.format);
    Fits = c.Fits;
    write = λ x. magic ++ c.write x;
    read = λ whole at. (text_codec magic).read whole at >>= (λ t. c.read whole t.after);
  }

  -- these bytes last
  unfoldable pub before : List ℕ → Codec X → Codec X
  before last c = record {
    format = then_by c.format (λ x. then_by (text last) (λ t. Done x));
    Fits = c.Fits;
    write = λ x. c.write x ++ last;
    read = λ whole at. c.read whole at >>= (λ x. (text_codec last).read whole x.after >>= (λ t. Ok (record { value = x.value; after = t.after })));
  }

module _ {X : Type 0} where
  -- a value that there is
  unfoldable pub present : Codec X → Codec (Option X)
  present c = record {
    format = then_by c.format (λ x. Done (Some x));
    Fits = λ o. MatchOption o ⊥ c.Fits;
    write = λ o. option_map_or c.write o [];
    read = λ whole at. c.read whole at >>= (λ x. Ok (record { value = Some x.value; after = x.after }));
  }

  -- a value where the test is true, and else no bytes and none
  abbrev pub optional : Bool → Codec X → Codec (Option X)
  optional is c = choose is (present c) (nothing None)

-- ---- lists

module _ {X : Type 0} where
  -- so many values of one codec, one after another
  unfoldable pub many : ℕ → Codec X → Codec (List X)
  many n c = record {
    format = repeated n c.format;
    Fits = λ xs. (length xs ≡ n) × Each c.Fits xs;
    write = flat_map c.write;
    read = read_at (repeated n c.format);
  }

  -- the number of the values within a range, and the values
  unfoldable pub counted : (width least most : ℕ) → Codec X → Codec (List X)
  counted width least most c = by_kind length (number_codec width least most) (λ n. many n c)

-- so many digests
unfoldable pub labels_codec : ℕ → Codec (List (List ℕ))
labels_codec n = many n digest_codec

module _ {A X : Type 0} (write : X → List ℕ) (f : A → Codec X) where
  abbrev pub EachFits : List A → List X → Type 0
  EachFits [] xs = [] ≡ xs
  EachFits (a ∷ rest) [] = ⊥
  EachFits (a ∷ rest) (x ∷ xs) = (f a).Fits x × EachFits rest xs

  abbrev pub each_format : List A → Format (List X)
  each_format [] = Done []
  each_format (a ∷ rest) = then_by (f a).format (λ x. then_by (each_format rest) (λ xs. Done (x ∷ xs)))

  -- a value for each of these, all written by one function
  unfoldable pub each : List A → Codec (List X)
  each params = record { format = each_format params; Fits = EachFits params; write = flat_map write; read = read_at (each_format params) }
