-- The laws of a codec, field by field.
use Rattle.std.proofs.Common.{◌≡◌, ℕ, suc, zero, ◌<◌, ◌≤◌, ◌^◌, List, [], ◌∷◌, ◌++◌, length, flat_map, refl, ap, sym}
use Rattle.std.proofs.Common.{◌∙◌, subst, inl, inr}
use Rattle.std.specs.Prelude.{Result, Ok, Err, Option, Some, None, MatchOption, nat_le, nat_lt, ◌&&◌, ◌||◌, ◌==◌, Bool}
use Rattle.std.specs.Prelude.{true, false, if◌then◌else◌}
use Rattle.std.specs.Option.{option_map_or}
use Rattle.std.proofs.lemmas.List.{append-nil}
use Rattle.std.proofs.lemmas.Bool.{and_parts, eqb-true, leb-true, ltb-true, or_cases}
use Rattle.tw_base.specs.kinds.Bytes.{AreBytes}
use Rattle.tw_base.specs.format.Codecs.{Codec, EachFits, HasBytes, IsUnambiguous, before, behind, by_kind, bytes_codec}
use Rattle.tw_base.specs.format.Codecs.{choose, counted, each, each_format, flag_codec, labels_codec, many, name_codec}
use Rattle.tw_base.specs.format.Codecs.{nothing, number_codec, optional, pair, present, seen, sized_codec, text_codec}
use Rattle.tw_base.specs.format.Codecs.{variant, written}
use Rattle.tw_base.specs.format.Formats.{Format, GoesOn, Placed, Spells, read_at, then_by, ◌>>=◌}
use Rattle.tw_base.specs.format.Formats.Format.{Done, Byte}
use Rattle.tw_base.specs.format.Fields.{bytes, flag, repeated, text}
use Rattle.tw_base.specs.kinds.Lists.{Each}
use Rattle.tw_base.specs.kinds.Names.{IsName}
use Rattle.tw_base.proofs.lemmas.kinds.ByteLemmas.{AreBytes-at}
use Rattle.tw_base.proofs.lemmas.format.FormatLaws.{AllWords, all_words-done, all_words-then, goes_on-then}
use Rattle.tw_base.proofs.lemmas.format.FormatLaws.{no_longer_word, one_spelling, one_value, read_at-done}
use Rattle.tw_base.proofs.lemmas.format.FormatLaws.{read_at-spells, read_at-then, spells_then, whole-stops}
use Rattle.tw_base.proofs.lemmas.format.NumberLaws.{goes_on-number, number_spelled, number_spells}
use Rattle.tw_base.proofs.lemmas.format.FieldLaws.{byte_then-parts, bytes-spells, bytes-written, goes_on-bytes}
use Rattle.tw_base.proofs.lemmas.format.FieldLaws.{goes_on-name, goes_on-repeated, goes_on-text, length-bytes}
use Rattle.tw_base.proofs.lemmas.format.FieldLaws.{name-spells, name-word, name-written, repeated-cons, repeated-nil}
use Rattle.tw_base.proofs.lemmas.format.FieldLaws.{text-spells, text-word, text-written}

pub record Lawful {X : Type 0} (c : Codec X) : Type 0 where
  -- every front that is let through goes on to a word
  pub goes : GoesOn c.format
  -- reading field by field is reading the format
  pub reads : (whole : List ℕ) (at : ℕ) → read_at c.format whole at ≡ c.read whole at
  -- the words are the written bytes of the values that fit
  pub words : AllWords c.format (λ word x. (word ≡ c.write x) × c.Fits x)
  pub spells : (x : X) → c.Fits x → Spells c.format (c.write x) x

-- a lawful codec's words are unambiguous
module _ {X : Type 0} (c : Codec X) (l : Lawful c) where
  pub written-as : (word : List ℕ) (x : X) → Spells c.format word x → word ≡ c.write x
  written-as word x s = (l.words word x s).0

  -- a value that is spelled fits
  pub spelled-fits : (word : List ℕ) (x : X) → Spells c.format word x → c.Fits x
  spelled-fits word x s = (l.words word x s).1

  pub unambiguous : IsUnambiguous c
  unambiguous = record {
    written = written-as;
    fits = spelled-fits;
    spelled = l.spells;
    one_value = one_value c.format;
    one_spelling = one_spelling c.format c.write written-as;
    no_longer = no_longer_word c.format;
    reads = λ bytes at. sym (l.reads bytes at);
    stops = λ bytes place e. whole-stops c.format l.goes bytes place (l.reads bytes 0 ∙ e);
  }

pub lawful-number : (width least most : ℕ) → least ≤ most → most < 256 ^ width → Lawful (number_codec width least most)
unfolding number_codec
lawful-number width least most r fits = record {
  goes = goes_on-number width least most r;
  reads = λ whole at. refl;
  words = λ word n s. (let is = number_spelled width least most r fits word n s in (is.2, (is.0, is.1)));
  spells = λ n f. number_spells width least most n fits f.0 f.1;
}

bytes-small : (n : ℕ) (word x : List ℕ) → Spells (bytes n) word x → AreBytes word
unfolding bytes
bytes-small n [] x s = tt
bytes-small zero (b ∷ bs) x s = absurd s
bytes-small (suc n) (b ∷ bs) x s =
    let parts = byte_then-parts (λ b. nat_lt b 256) (λ b. bytes n) b bs x s in
    (ltb-true b 256 parts.0, bytes-small n bs parts.1 parts.2)

pub lawful-bytes : (n : ℕ) → Lawful (bytes_codec n)
unfolding bytes_codec
lawful-bytes n = record {
  goes = goes_on-bytes n;
  reads = λ whole at. refl;
  words = λ word x s. (
      let same : word ≡ x = bytes-written n word x s in
      let P : List ℕ → Type 0 = HasBytes n in
      (same, subst P same (length-bytes n word x s, bytes-small n word x s)));
  spells = λ x f. (let P : ℕ → Type 0 = λ m. Spells (bytes m) x x in subst P f.0 (bytes-spells x (AreBytes-at x f.1)));
}

pub lawful-name : Lawful name_codec
unfolding name_codec
lawful-name = record {
  goes = goes_on-name;
  reads = λ whole at. refl;
  words = λ word x s. (let same : word ≡ x = name-written word x s in (same, subst IsName same (name-word word x s)));
  spells = name-spells;
}

pub lawful-text : (magic : List ℕ) → Lawful (text_codec magic)
unfolding text_codec
lawful-text magic = record {
  goes = goes_on-text magic;
  reads = λ whole at. refl;
  words = λ word x s. (let same : word ≡ x = text-written magic word x s in
      (same, sym (text-word magic word x s) ∙ same));
  spells = λ x f. (let P : List ℕ → Type 0 = λ t. Spells (text magic) t t in subst P f (text-spells magic));
}

flag-byte : (b : ℕ) (set : Bool) → (b == 0 || b == 128) ≡ true → (b == 128) ≡ set → b ≡ (if set then 128 else 0)
flag-byte b true passes e = eqb-true b 128 e
flag-byte b false passes e = elim (or_cases (b == 0) (b == 128) passes) [ inl none ↦ eqb-true b 0 none | inr top ↦ cc ]

flag-words : AllWords flag (λ word set. (word ≡ (if set then 128 else 0) ∷ []) × Unit {0})
unfolding flag
flag-words [] set s = absurd s
flag-words (b ∷ []) set s = (ap (λ c. c ∷ []) (flag-byte b set s.0 s.1), tt)
flag-words (b ∷ c ∷ bs) set s = absurd s.1

flag-spells : (set : Bool) → Spells flag ((if set then 128 else 0) ∷ []) set
unfolding flag
flag-spells true = (refl, refl)
flag-spells false = (refl, refl)

pub lawful-flag : Lawful flag_codec
unfolding flag_codec flag
lawful-flag = record {
  goes = ((0, refl), λ b passes. tt);
  reads = λ whole at. refl;
  words = flag-words;
  spells = λ set f. flag-spells set;
}

module _ {X Y : Type 0} where
  -- what follows a field has to go on only behind the words of the field
  pub goes-then : (f : Format X) (next : X → Format Y) → GoesOn f → ((word : List ℕ) (x : X) → Spells f word x
      → GoesOn (next x)) → GoesOn (then_by f next)
  goes-then (Done x) next g h = h [] x refl
  goes-then (Byte test more) next g h =
      (g.0, λ b yes. goes-then (more b) next (g.1 b yes) (λ word x s. h (b ∷ word) x (yes, s)))

  -- and is read only behind a value that fits
  reads-then : (c : Codec X) (next : X → Format Y) (read : X → List ℕ → ℕ → Result (Placed Y) ℕ) → Lawful c
      → ((x : X) → c.Fits x → (whole : List ℕ) (at : ℕ) → read_at (next x) whole at ≡ read x whole at)
      → (whole : List ℕ) (at : ℕ) → read_at (then_by c.format next) whole at
      ≡ (c.read whole at >>= (λ x. read x.value whole x.after))
  reads-then c next read l h whole at =
      read_at-then c.format next whole at ∙ on (read_at c.format whole at) refl
      ∙ ap (λ r. r >>= (λ x. read x.value whole x.after)) (l.reads whole at)
    where
      on : (r : Result (Placed X) ℕ) → read_at c.format whole at ≡ r
          → (r >>= (λ x. read_at (next x.value) whole x.after)) ≡ (r >>= (λ x. read x.value whole x.after))
      on (Ok x) e = let is = read_at-spells c.format whole at x.after x.value e in
          h x.value (l.words is.0 x.value is.4).1 whole x.after
      on (Err place) e = refl

module _ {X Y : Type 0} where
  pub lawful-pair : (c : Codec X) (next : X → Codec Y) → Lawful c → ((x : X) → c.Fits x → Lawful (next x))
      → Lawful (pair c next)
  unfolding pair
  lawful-pair c next l h = record {
    goes = goes-then c.format _ l.goes (λ word x s. goes_on-then (next x).format _ (h x (l.words word x s).1).goes
        (λ y. tt));
    reads = reads-then c _ _ l (λ x fits whole at. let more = (h x fits).reads in
        simp (read_at-then, read_at-done, more));
    words =
        all_words-then c.format _ _ (λ one x s.
        all_words-then (next x).format _ _ (λ other y t.
        let first = l.words one x s in
        let last = (h x first.1).words other y t in
        let word : one ++ (other ++ []) ≡ c.write x ++ (next x).write y =
        (λ k. first.0 k ++ (append-nil other ∙ last.0) k) in
        all_words-done (x, y) _ (word, (first.1, last.1))));
    spells = λ p f. (
        let P : List ℕ → Type 0 = λ w. Spells (then_by (next p.0).format (λ y. Done (p.0, y))) w p in
        spells_then c.format _ (c.write p.0) _ p.0 p (l.spells p.0 f.0)
        (subst P (append-nil ((next p.0).write p.1)) (spells_then (next p.0).format _ ((next p.0).write p.1) [] p.1 p
        ((h p.0 f.0).spells p.1 f.1) refl)));
  }

  pub lawful-seen : (to : X → Y) (from : Y → X) (c : Codec X) → ((x : X) → from (to x) ≡ x)
      → ((y : Y) → to (from y) ≡ y) → Lawful c → Lawful (seen to from c)
  unfolding seen
  lawful-seen to from c back forth l = record {
    goes = goes_on-then c.format _ l.goes (λ x. tt);
    reads = λ whole at. simp (read_at-then, read_at-done, l.reads);
    words =
        all_words-then c.format _ _ (λ one x s.
        let is = l.words one x s in
        let word : one ++ [] ≡ c.write (from (to x)) = append-nil one ∙ is.0 ∙ ap c.write (sym (back x)) in
        all_words-done (to x) _ (word, subst c.Fits (sym (back x)) is.1));
    spells = λ y f. (
        let P : List ℕ → Type 0 = λ w. Spells (then_by c.format (λ x. Done (to x))) w y in
        subst P (append-nil (c.write (from y))) (spells_then c.format _ (c.write (from y)) [] (from y) y
        (l.spells (from y) f) (forth y)));
  }

  module _ (to : X → Y) (fields : Y → Option X) (c : Codec X) where
    abbrev FitsAs : Y → Option X → Type 0
    FitsAs y o = MatchOption o ⊥ (λ x. (to x ≡ y) × c.Fits x)

    spells-fields : Lawful c → (y : Y) (o : Option X) → FitsAs y o → Spells (then_by c.format (λ x. Done (to x)))
        (option_map_or c.write o []) y
    spells-fields l y None f = absurd f
    spells-fields l y (Some x) f =
        let P : List ℕ → Type 0 = λ w. Spells (then_by c.format (λ z. Done (to z))) w y in
        subst P (append-nil (c.write x)) (spells_then c.format _ (c.write x) [] x y (l.spells x f.1) f.0)

    pub lawful-variant : ((x : X) → fields (to x) ≡ Some x) → Lawful c → Lawful (variant to fields c)
    unfolding variant
    lawful-variant back l = record {
      goes = goes_on-then c.format _ l.goes (λ x. tt);
      reads = λ whole at. let reads = l.reads in simp (read_at-then, read_at-done, reads);
      words =
          all_words-then c.format _ _ (λ one x s.
          let is = l.words one x s in
          let word : one ++ [] ≡ option_map_or c.write (fields (to x)) [] = append-nil one ∙ is.0
          ∙ sym (ap (λ o. option_map_or c.write o []) (back x)) in
          all_words-done (to x) _ (word, subst (FitsAs (to x)) (sym (back x)) (refl, is.1)));
      spells = λ y f. spells-fields l y (fields y) f;
    }

  pub lawful-by_kind : (kind_of : Y → X) (c : Codec X) (next : X → Codec Y) → Lawful c
      → ((x : X) → c.Fits x → Lawful (next x))
      → ((x : X) (y : Y) → c.Fits x → (next x).Fits y → kind_of y ≡ x) → Lawful (by_kind kind_of c next)
  unfolding by_kind
  lawful-by_kind kind_of c next l h kind = record {
    goes = goes-then c.format _ l.goes (λ word x s. (h x (l.words word x s).1).goes);
    reads = reads-then c _ _ l (λ x fits. (h x fits).reads);
    words =
        all_words-then c.format _ _ (λ one x s other y t.
        let first = l.words one x s in
        let last = (h x first.1).words other y t in
        let P : X → Type 0 = λ k. (one ++ other ≡ c.write k ++ (next k).write y) × (c.Fits k × (next k).Fits y) in
        subst P (sym (kind x y first.1 last.1)) ((λ k. first.0 k ++ last.0 k), (first.1, last.1)));
    spells = λ y f. spells_then c.format _ (c.write (kind_of y)) _ (kind_of y) y (l.spells (kind_of y) f.0)
        ((h (kind_of y) f.0).spells y f.1);
  }

pub lawful-sized : (width least most : ℕ) → least ≤ most → most < 256 ^ width → Lawful (sized_codec width least most)
unfolding sized_codec bytes_codec
lawful-sized width least most r fits = lawful-by_kind length (number_codec width least most) bytes_codec
    (lawful-number width least most r fits) (λ n _. lawful-bytes n) (λ n bs _ is. is.0)

module _ {X : Type 0} where
  pub lawful-choose : (b : Bool) (one other : Codec X) → Lawful one → Lawful other → Lawful (choose b one other)
  lawful-choose true one other l m = l
  lawful-choose false one other l m = m

  pub lawful-nothing : (x : X) → Lawful (nothing x)
  unfolding nothing
  lawful-nothing x = record {
    goes = tt;
    reads = λ whole at. read_at-done x whole at;
    words = all_words-done x _ (refl, refl);
    spells = λ y f. f;
  }

  pub lawful-written : (write : X → List ℕ) (c : Codec X) → ((x : X) → c.Fits x → c.write x ≡ write x) → Lawful c
      → Lawful (written write c)
  unfolding written
  lawful-written write c same l = record {
    goes = l.goes;
    reads = l.reads;
    words = λ word x s. (let is = l.words word x s in (is.0 ∙ same x is.1, is.1));
    spells = λ x f. (let P : List ℕ → Type 0 = λ w. Spells c.format w x in subst P (same x f) (l.spells x f));
  }

  pub lawful-behind : (magic : List ℕ) (c : Codec X) → Lawful c → Lawful (behind magic c)
  unfolding behind text_codec
  lawful-behind magic c l = record {
    goes = goes_on-then (text magic) _ (goes_on-text magic) (λ t. l.goes);
    reads = λ whole at. simp (read_at-then, l.reads);
    words =
        all_words-then (text magic) _ _ (λ one t s other x u.
        let last = l.words other x u in
        ((λ k. text-word magic one t s k ++ last.0 k), last.1));
    spells = λ x f. spells_then (text magic) _ magic _ magic x (text-spells magic) (l.spells x f);
  }

  pub lawful-before : (last : List ℕ) (c : Codec X) → Lawful c → Lawful (before last c)
  unfolding before text_codec
  lawful-before last c l = record {
    goes = goes_on-then c.format _ l.goes (λ x. goes_on-then (text last) _ (goes_on-text last) (λ t. tt));
    reads = λ whole at. let reads = l.reads in simp (read_at-then, read_at-done, reads);
    words =
        all_words-then c.format _ _ (λ one x s.
        all_words-then (text last) _ _ (λ other t u.
        let first = l.words one x s in
        let word : one ++ (other ++ []) ≡ c.write x ++ last =
        (λ k. first.0 k ++ (append-nil other ∙ text-word last other t u) k) in
        all_words-done x _ (word, first.1)));
    spells = λ x f. (
        let P : List ℕ → Type 0 = λ w. Spells (then_by (text last) (λ t. Done x)) w x in
        spells_then c.format _ (c.write x) _ x x (l.spells x f)
        (subst P (append-nil last) (spells_then (text last) _ last [] last x (text-spells last) refl)));
  }

module _ {X : Type 0} (c : Codec X) (l : Lawful c) where
  present-spells : (o : Option X) → (present c).Fits o → Spells (present c).format ((present c).write o) o
  unfolding present
  present-spells None f = absurd f
  present-spells (Some x) f =
      let P : List ℕ → Type 0 = λ w. Spells (then_by c.format (λ y. Done (Some y))) w (Some x) in
      subst P (append-nil (c.write x)) (spells_then c.format _ (c.write x) [] x (Some x) (l.spells x f) refl)

  pub lawful-present : Lawful (present c)
  unfolding present
  lawful-present = record {
    goes = goes_on-then c.format _ l.goes (λ x. tt);
    reads = λ whole at. let reads = l.reads in simp (read_at-then, read_at-done, reads);
    words =
        all_words-then c.format _ _ (λ one x s.
        let is = l.words one x s in
        let word : one ++ [] ≡ c.write x = append-nil one ∙ is.0 in
        all_words-done (Some x) _ (word, is.1));
    spells = present-spells;
  }

  pub lawful-optional : (is : Bool) → Lawful (optional is c)
  lawful-optional is = lawful-choose is (present c) (nothing None) lawful-present (lawful-nothing None)

-- ---- so many values
module _ {X : Type 0} (c : Codec X) (l : Lawful c) where
  many-words : (n : ℕ) → AllWords (repeated n c.format) (λ word xs. (word ≡ flat_map c.write xs)
      × ((length xs ≡ n) × Each c.Fits xs))
  unfolding repeated
  many-words zero = all_words-done [] _ (refl, (refl, tt))
  many-words (suc n) =
      all_words-then c.format _ _ (λ one x s.
      all_words-then (repeated n c.format) _ _ (λ other xs t.
      let first = l.words one x s in
      let last = many-words n other xs t in
      let word : one ++ (other ++ []) ≡ c.write x ++ flat_map c.write xs =
      (λ k. first.0 k ++ (append-nil other ∙ last.0) k) in
      all_words-done (x ∷ xs) _ (word, (ap suc last.1.0, (first.1, last.1.1)))))

  many-spell : (xs : List X) → Each c.Fits xs → Spells (repeated (length xs) c.format) (flat_map c.write xs) xs
  many-spell [] each = repeated-nil c.format
  many-spell (x ∷ xs) each = repeated-cons (length xs) c.format (c.write x) (flat_map c.write xs) x xs
      (l.spells x each.0) (many-spell xs each.1)

  pub lawful-many : (n : ℕ) → Lawful (many n c)
  unfolding many
  lawful-many n = record {
    goes = goes_on-repeated n c.format l.goes;
    reads = λ whole at. refl;
    words = many-words n;
    spells = λ xs f. (let P : ℕ → Type 0 = λ m. Spells (repeated m c.format) (flat_map c.write xs) xs in
        subst P f.0 (many-spell xs f.1));
  }

  pub lawful-counted : (width least most : ℕ) → least ≤ most → most < 256 ^ width → Lawful (counted width least most c)
  unfolding counted many
  lawful-counted width least most r fits =
      lawful-by_kind length (number_codec width least most) _ (lawful-number width least most r fits)
      (λ n _. lawful-many n) (λ n xs _ is. is.0)

pub lawful-labels : (n : ℕ) → Lawful (labels_codec n)
unfolding labels_codec
lawful-labels n = lawful-many (bytes_codec 32) (lawful-bytes 32) n

-- ---- a value for each of these; the function writes those that fit
module _ {A X : Type 0} (write : X → List ℕ) (f : A → Codec X) (h : (a : A) → Lawful (f a)) (same : (a : A) (x : X)
    → (f a).Fits x → (f a).write x ≡ write x) where
  each-goes : (params : List A) → GoesOn (each_format write f params)
  each-goes [] = tt
  each-goes (a ∷ rest) = goes_on-then (f a).format _ (h a).goes (λ x. goes_on-then (each_format write f rest) _
      (each-goes rest) (λ xs. tt))

  each-words : (params : List A) → AllWords (each_format write f params) (λ word xs. (word ≡ flat_map write xs)
      × EachFits write f params xs)
  each-words [] = all_words-done [] _ (refl, refl)
  each-words (a ∷ rest) =
      all_words-then (f a).format _ _ (λ one x s.
      all_words-then (each_format write f rest) _ _ (λ other xs t.
      let first = (h a).words one x s in
      let last = each-words rest other xs t in
      let word : one ++ (other ++ []) ≡ write x ++ flat_map write xs =
      (λ k. (first.0 ∙ same a x first.1) k ++ (append-nil other ∙ last.0) k) in
      all_words-done (x ∷ xs) _ (word, (first.1, last.1))))

  each-spell : (params : List A) (xs : List X) → EachFits write f params xs → Spells (each_format write f params)
      (flat_map write xs) xs
  each-spell [] xs fits = let P : List X → Type 0 = λ ys. Spells (each_format write f []) (flat_map write ys) ys in
      subst P fits refl
  each-spell (a ∷ rest) [] fits = absurd fits
  each-spell (a ∷ rest) (x ∷ xs) fits =
      let P : List ℕ → Type 0 = λ w. Spells (then_by (each_format write f rest) (λ ys. Done (x ∷ ys))) w (x ∷ xs) in
      let Q : List ℕ → Type 0 = λ w. Spells (each_format write f (a ∷ rest)) (w ++ flat_map write xs) (x ∷ xs) in
      subst Q (same a x fits.0)
      (spells_then (f a).format _ ((f a).write x) _ x (x ∷ xs) ((h a).spells x fits.0)
      (subst P (append-nil (flat_map write xs)) (spells_then (each_format write f rest) _ (flat_map write xs) [] xs
      (x ∷ xs) (each-spell rest xs fits.1) refl)))

  pub lawful-each : (params : List A) → Lawful (each write f params)
  unfolding each
  lawful-each params = record {
    goes = each-goes params;
    reads = λ whole at. refl;
    words = each-words params;
    spells = each-spell params;
  }

-- the same where the range is of numerals, or its end is
in_range : (width least most : ℕ) → (nat_le least most && nat_lt most (256 ^ width)) ≡ true → (least ≤ most)
    × (most < 256 ^ width)
in_range width least most is =
    let parts = and_parts (nat_le least most) (nat_lt most (256 ^ width)) is in
    (leb-true least most parts.0, ltb-true most (256 ^ width) parts.1)

pub lawful-numeral : (width least most : ℕ) → (nat_le least most && nat_lt most (256 ^ width)) ≡ true
    → Lawful (number_codec width least most)
lawful-numeral width least most is = let r = in_range width least most is in lawful-number width least most r.0 r.1

pub lawful-numeral_from : (width least most : ℕ) → least ≤ most → nat_lt most (256 ^ width) ≡ true
    → Lawful (number_codec width least most)
lawful-numeral_from width least most l is = lawful-number width least most l (ltb-true most (256 ^ width) is)

pub lawful-sized_numeral : (width least most : ℕ) → (nat_le least most && nat_lt most (256 ^ width)) ≡ true
    → Lawful (sized_codec width least most)
lawful-sized_numeral width least most is = let r = in_range width least most is in lawful-sized width least most r.0 r.1

pub lawful-counted_numeral : {X : Type 0} (c : Codec X) → Lawful c → (width least most : ℕ)
    → (nat_le least most && nat_lt most (256 ^ width)) ≡ true → Lawful (counted width least most c)
lawful-counted_numeral c l width least most is = let r = in_range width least most is in lawful-counted c l width least
    most r.0 r.1

-- with them `search` finds the laws of a layout
pub ruleset lawful = (
  lawful-seen,
  lawful-variant,
  lawful-choose,
  lawful-pair,
  lawful-behind,
  lawful-before,
  lawful-bytes,
  lawful-counted_numeral,
  lawful-flag,
  lawful-labels,
  lawful-many,
  lawful-name,
  lawful-numeral,
  lawful-numeral_from,
  lawful-sized_numeral,
  lawful-number,
  lawful-optional,
  lawful-text,
)
