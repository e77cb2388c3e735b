-- How many bytes the words of a codec have at most.
use Rattle.std.proofs.Common.{◌≡◌, ℕ, ◌+◌, ◌*◌, ◌≤◌, List, [], ◌∷◌, length, flat_map, ap, arith}
use Rattle.std.specs.Prelude.{Bool, true, false, Option, Some, None, MatchOption}
use Rattle.std.specs.Option.{option_map_or}
use Rattle.std.proofs.lemmas.List.{length-append}
use Rattle.std.proofs.Math.Nat.{mul-le-mul_right, suc-mul}
use Rattle.tw_base.specs.format.Codecs.{Codec, HasBytes, behind, by_kind, bytes_codec, choose, counted}
use Rattle.tw_base.specs.format.Codecs.{labels_codec, many, name_codec, nothing, number_codec, optional}
use Rattle.tw_base.specs.format.Codecs.{present, pair, seen, sized_codec, variant}
use Rattle.tw_base.specs.format.Fields.{number_bytes}
use Rattle.tw_base.specs.format.Formats.{Spells}
use Rattle.tw_base.specs.kinds.Lists.{Each}
use Rattle.tw_base.specs.kinds.Texts.{joined}
use Rattle.tw_base.proofs.lemmas.format.CodecLaws.{Lawful}
use Rattle.tw_base.proofs.lemmas.kinds.Naming.{IsName-size}
use Rattle.tw_base.proofs.lemmas.format.NumberLaws.{length-number_bytes}

abbrev pub AtMost : {X : Type 0} → Codec X → ℕ → Type 0
AtMost {X = X} c n = (x : X) → c.Fits x → length (c.write x) ≤ n

pub at_most-number : (width least most : ℕ) → AtMost (number_codec width least most) width
unfolding number_codec
at_most-number width least most n f = omega (arith, length-number_bytes width n)

pub at_most-bytes : (n : ℕ) → AtMost (bytes_codec n) n
unfolding bytes_codec
at_most-bytes n x f = omega (arith, f.0)

pub at_most-name : AtMost name_codec 16
unfolding name_codec
at_most-name x f = omega (arith, IsName-size x f)

pub at_most-sized : (width least most : ℕ) → AtMost (sized_codec width least most) (width + most)
unfolding sized_codec by_kind number_codec bytes_codec
at_most-sized width least most x f =
    omega (arith, f.0.1, length-number_bytes width (length x), length-append (number_bytes width (length x)) x)

pub length-joined : (ls : List (List ℕ)) → Each (HasBytes 32) ls → length (joined ls) ≡ 32 * length ls
length-joined [] each = omega arith
length-joined (l ∷ ls) each = omega (arith, length-append l (joined ls), each.0.0, length-joined ls each.1)

pub at_most-labels : (n most : ℕ) → n ≤ most → AtMost (labels_codec n) (32 * most)
unfolding labels_codec many bytes_codec
at_most-labels n most l ls f = omega (arith, f.0, length-joined ls f.1)

module _ {X Y : Type 0} where
  pub at_most-pair : (c : Codec X) (next : X → Codec Y) (m n : ℕ) → AtMost c m
      → ((x : X) → c.Fits x → AtMost (next x) n) → AtMost (pair c next) (m + n)
  unfolding pair
  at_most-pair c next m n l h p f =
      omega (arith, l p.0 f.0, h p.0 f.0 p.1 f.1, length-append (c.write p.0) ((next p.0).write p.1))

  pub at_most-seen : (to : X → Y) (from : Y → X) (c : Codec X) (n : ℕ) → AtMost c n → AtMost (seen to from c) n
  unfolding seen
  at_most-seen to from c n l y f = l (from y) f

  size-fields : (to : X → Y) (c : Codec X) (n : ℕ) → AtMost c n → (y : Y) (o : Option X)
      → MatchOption o ⊥ (λ x. (to x ≡ y) × c.Fits x) → length (option_map_or c.write o []) ≤ n
  size-fields to c n l y None f = absurd f
  size-fields to c n l y (Some x) f = l x f.1

  pub at_most-variant : (to : X → Y) (fields : Y → Option X) (c : Codec X) (n : ℕ) → AtMost c n
      → AtMost (variant to fields c) n
  unfolding variant
  at_most-variant to fields c n l y f = size-fields to c n l y (fields y) f

  pub at_most-by_kind : (kind_of : Y → X) (c : Codec X) (next : X → Codec Y) (m n : ℕ) → AtMost c m
      → ((x : X) → c.Fits x → AtMost (next x) n) → AtMost (by_kind kind_of c next) (m + n)
  unfolding by_kind
  at_most-by_kind kind_of c next m n l h y f =
      omega (
        arith,
        l (kind_of y) f.0,
        h (kind_of y) f.0 y f.1,
        length-append (c.write (kind_of y)) ((next (kind_of y)).write y),
      )

module _ {X : Type 0} where
  pub at_most-behind : (magic : List ℕ) (c : Codec X) (n : ℕ) → AtMost c n → AtMost (behind magic c) (length magic + n)
  unfolding behind
  at_most-behind magic c n l x f = omega (arith, l x f, length-append magic (c.write x))

  pub at_most-choose : (b : Bool) (one other : Codec X) (n : ℕ) → AtMost one n → AtMost other n
      → AtMost (choose b one other) n
  at_most-choose true one other n l m = l
  at_most-choose false one other n l m = m

  pub at_most-present : (c : Codec X) (n : ℕ) → AtMost c n → AtMost (present c) n
  unfolding present
  at_most-present c n l None f = absurd f
  at_most-present c n l (Some x) f = l x f

  pub at_most-nothing : (x : X) (n : ℕ) → AtMost (nothing x) n
  unfolding nothing
  at_most-nothing x n y f = omega arith

  many-length : (c : Codec X) (n : ℕ) → AtMost c n → (xs : List X) → Each c.Fits xs → length (flat_map c.write xs)
      ≤ length xs * n
  many-length c n l [] each = omega arith
  many-length c n l (x ∷ xs) each =
      let rest = many-length c n l xs each.1 in
      omega (arith, l x each.0, rest, length-append (c.write x) (flat_map c.write xs), suc-mul (length xs) n)

  pub at_most-many : (count most : ℕ) (c : Codec X) (n : ℕ) → count ≤ most → AtMost c n → AtMost (many count c)
      (most * n)
  unfolding many
  at_most-many count most c n few l xs f =
      omega (arith, many-length c n l xs f.1, mul-le-mul_right n (let l : length xs ≤ most = omega (arith, f.0) in l))

  pub at_most-counted : (width least most : ℕ) (c : Codec X) (n : ℕ) → AtMost c n → AtMost (counted width least most c)
      (width + most * n)
  unfolding counted number_codec
  at_most-counted width least most c n l =
      at_most-by_kind length (number_codec width least most) (λ k. many k c) width (most * n)
      (at_most-number width least most) (λ k f. at_most-many k most c n f.1 l)

  -- so of the words
  pub word-size : (c : Codec X) → Lawful c → (n : ℕ) → AtMost c n → (word : List ℕ) (x : X) → Spells c.format word x
      → length word ≤ n
  word-size c l n most word x s = let is = l.words word x s in omega (arith, ap length is.0, most x is.1)

pub at_most-optional : {X : Type 0} (is : Bool) (c : Codec X) (n : ℕ) → AtMost c n → AtMost (optional is c) n
at_most-optional is c n l = at_most-choose is (present c) (nothing None) n (at_most-present c n l)
    (at_most-nothing None n)
