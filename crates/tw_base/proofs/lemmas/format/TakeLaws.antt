-- From what readers of a codec answer at a place to what a reader of the whole bytes answers, and loops over lists.
use Rattle.std.proofs.Common.{◌≡◌, ℕ, suc, ◌+◌, ◌≤◌, List, [], ◌∷◌, ◌++◌, length, refl, ap, sym, ◌∙◌, subst, arith}
use Rattle.std.proofs.Common.{append_assoc, inl, inr}
use Rattle.std.specs.Prelude.{IfErr, IfOk, MatchResult, Result, Ok, Err, ◌≢◌}
use Rattle.std.proofs.lemmas.Bool.{cases_lt}
use Rattle.std.proofs.lemmas.List.{append-nil, length-append, length-drop}
use Rattle.tw_base.specs.declared.kinds.failure.ReadFault.{ReadFault}
use Rattle.tw_base.specs.declared.kinds.failure.ReadFault.TheVariants.{Malformed, NoMemory}
use Rattle.tw_base.specs.format.Codecs.{Codec, EachFits, by_kind, counted, each, each_format, many, number_codec}
use Rattle.tw_base.specs.format.Fields.{repeated}
use Rattle.tw_base.specs.format.Formats.{IsFrontTo, IsWholeTo, Placed, ReadsAs, ReadsFrontAs, Spells, read_at, ◌>>=◌}
use Rattle.tw_base.specs.kinds.Lists.{Each}
use Rattle.tw_base.specs.format.Taking.{Takes}
use Rattle.tw_base.proofs.lemmas.format.CodecLaws.{Lawful, spelled-fits}
use Rattle.tw_base.proofs.lemmas.kinds.ListLemmas.{Each-append}
use Rattle.tw_base.proofs.lemmas.format.FormatLaws.{GivesIfMemory, one_value, read_at-done, read_at-spells}
use Rattle.tw_base.proofs.lemmas.format.FormatLaws.{read_at-then, reads_front, reads_whole_to}

module _ {X : Type 0} (c : Codec X) (l : Lawful c) where
  -- bytes are the spelling of one value at most
  pub word-once : (bytes : List ℕ) (x y : X) → bytes ≡ c.write x → c.Fits x → bytes ≡ c.write y → c.Fits y → x ≡ y
  word-once bytes x y is fits other others =
      one_value c.format bytes x y (subst (λ word. Spells c.format word x) (sym is) (l.spells x fits))
      (subst (λ word. Spells c.format word y) (sym other) (l.spells y others))

  -- what was read fits, and stands within the bytes
  pub took-fits : (bytes : List ℕ) (at after : ℕ) (x : X) → at ≤ length bytes → c.read bytes at ≡ Ok
      (record { value = x; after = after })
      → c.Fits x × (after ≤ length bytes)
  took-fits bytes at after x within e =
      let is = read_at-spells c.format bytes at after x (l.reads bytes at ∙ e) in
      ((l.words is.0 x is.4).1, omega (arith, ap length is.2, is.3, length-drop at bytes, length-append is.0 is.1))

module _ {X Y : Type 0} (c : Codec X) (l : Lawful c) (view : Y → X) where
  -- a reader that gives what is read takes it
  pub takes : (bytes : List ℕ) (at after : ℕ) (r : Result Y ReadFault) → at ≤ length bytes → GivesIfMemory view r after
      (c.read bytes at) → Takes c view bytes at after r
  takes bytes at after (Ok y) within e = let fits = took-fits c l bytes at after (view y) within e in
      (e, fits.0, fits.1)
  takes bytes at after (Err (Malformed place)) within e = e
  takes bytes at after (Err NoMemory) within e = tt

  gives : (bytes : List ℕ) (after : ℕ) (r : Result Y ReadFault) → Takes c view bytes 0 after r → GivesIfMemory view r
      after (read_at c.format bytes 0)
  gives bytes after (Ok y) t = l.reads bytes 0 ∙ t.0
  gives bytes after (Err (Malformed place)) t = l.reads bytes 0 ∙ t
  gives bytes after (Err NoMemory) t = tt

  -- a reader of the whole bytes
  pub takes-whole : (bytes : List ℕ) (after : ℕ) (read r : Result Y ReadFault) → Takes c view bytes 0 after read
      → IsWholeTo bytes after read r → ReadsAs view c.format bytes r
  takes-whole bytes after read r t w = reads_whole_to c.format l.goes view bytes after read r
      (gives bytes after read t) w

  ends-so : (bytes : List ℕ) (after : ℕ) (read : Result Y ReadFault) → IfErr read (λ fault. fault ≢ NoMemory)
      → IsWholeTo bytes after read (Err NoMemory) → ⊥
  ends-so bytes after (Ok y) memory w = elim (cases_lt after (length bytes)) [
    | inl less ↦ (let bad = w.0 less in cc)
    | inr more ↦ (let bad = w.1 more in cc)
  ]
  ends-so bytes after (Err fault) memory w = memory (let same : Err NoMemory ≡ Err fault = w in cc)

  -- the same of a reader that takes no memory: the value whose spelling the bytes are, where they are one
  pub takes-word : (bytes : List ℕ) (after : ℕ) (read r : Result Y ReadFault) → Takes c view bytes 0 after read
      → IfErr read (λ fault. fault ≢ NoMemory) → IsWholeTo bytes after read r
      → MatchResult r (λ y. (bytes ≡ c.write (view y)) × c.Fits (view y)) (λ fault. (x : X) → bytes ≡ c.write x
      → c.Fits x → ⊥)
  takes-word bytes after read (Ok y) t memory w = l.words bytes (view y) (takes-whole bytes after read (Ok y) t w)
  takes-word bytes after read (Err (Malformed place)) t memory w = λ x is fits.
      (takes-whole bytes after read (Err (Malformed place)) t w).0 x (let P : List ℕ → Type 0 = λ word. Spells c.format
      word x in subst P (sym is) (l.spells x fits))
  takes-word bytes after read (Err NoMemory) t memory w = absurd (ends-so bytes after read memory w)

  -- a reader of a front of the bytes
  pub takes-front : (bytes : List ℕ) (after : ℕ) (read : Result Y ReadFault) (r : Result (Y × ℕ) ReadFault)
      → Takes c view bytes 0 after read → IsFrontTo after read r → ReadsFrontAs view c.format bytes r
  takes-front bytes after read r t e = reads_front c.format l.goes view bytes after read r (gives bytes after read t) e

-- ---- the loop over a list
module _ {X : Type 0} where
  abbrev pub ahead : List X → Result (Placed (List X)) ℕ → Result (Placed (List X)) ℕ
  ahead xs (Ok more) = Ok (record { value = xs ++ more.value; after = more.after })
  ahead xs (Err place) = Err place

  ahead-nil : (r : Result (Placed (List X)) ℕ) → r ≡ ahead [] r
  ahead-nil (Ok more) = refl
  ahead-nil (Err place) = refl

  ahead-ahead : (xs ys : List X) (r : Result (Placed (List X)) ℕ) → ahead xs (ahead ys r) ≡ ahead (xs ++ ys) r
  ahead-ahead xs ys (Ok more) = ap (λ zs. Ok (record { value = zs; after = more.after }))
      (sym (append_assoc xs ys more.value))
  ahead-ahead xs ys (Err place) = refl

  one_ahead : (x : X) (r : Result (Placed (List X)) ℕ)
      → (r >>= (λ xs. Ok (record { value = x ∷ xs.value; after = xs.after }))) ≡ ahead (x ∷ []) r
  one_ahead x (Ok more) = refl
  one_ahead x (Err place) = refl

module _ {A X : Type 0} (write : X → List ℕ) (f : A → Codec X) where
  -- these were taken from the start on, and those are left
  pub record EachTaken (bytes : List ℕ) (start : ℕ) (params left : List A) (xs : List X) (at : ℕ) : Type 0 where
    pub read : read_at (each_format write f params) bytes start ≡ ahead xs (read_at (each_format write f left) bytes at)
    pub fits : (ys : List X) → EachFits write f left ys → EachFits write f params (xs ++ ys)

  module _ (h : (a : A) → Lawful (f a)) (bytes : List ℕ) (start at : ℕ) (params left : List A) (a : A)
      (xs : List X) where
    one_more : read_at (each_format write f (a ∷ left)) bytes at
        ≡ ((f a).read bytes at >>= (λ x. read_at (each_format write f left) bytes x.after
        >>= (λ ys. Ok (record { value = x.value ∷ ys.value; after = ys.after }))))
    one_more = let reads = (h a).reads in simp (read_at-then, read_at-done, reads)

    pub each-more : (after : ℕ) (x : X) → EachTaken bytes start params (a ∷ left) xs at → (f a).read bytes at ≡ Ok
        (record { value = x; after = after }) → (f a).Fits x
        → EachTaken bytes start params left (xs ++ x ∷ []) after
    each-more after x t e is = record {
      read =
          t.read ∙ ap (ahead xs)
          (one_more ∙ ap (λ r. r >>= (λ x. read_at (each_format write f left) bytes x.after
          >>= (λ ys. Ok (record { value = x.value ∷ ys.value; after = ys.after })))) e
          ∙ one_ahead x (read_at (each_format write f left) bytes after)) ∙ ahead-ahead xs (x ∷ [])
          (read_at (each_format write f left) bytes after);
      fits = λ ys fits. (let P : List X → Type 0 = EachFits write f params in
          subst P (sym (append_assoc xs (x ∷ []) ys)) (t.fits (x ∷ ys) (is, fits)));
    }

    pub each-stops : (place : ℕ) → EachTaken bytes start params (a ∷ left) xs at → (f a).read bytes at ≡ Err place
        → (each write f params).read bytes start ≡ Err place
    unfolding each
    each-stops place t e =
        t.read ∙ ap (ahead xs)
        (one_more ∙ ap (λ r. r >>= (λ x. read_at (each_format write f left) bytes x.after
        >>= (λ ys. Ok (record { value = x.value ∷ ys.value; after = ys.after })))) e)

  pub each-ends : (bytes : List ℕ) (start at : ℕ) (params : List A) (xs : List X) → EachTaken bytes start params [] xs
      at
      → ((each write f params).read bytes start ≡ Ok (record { value = xs; after = at })) × (each write f params).Fits
      xs
  unfolding each
  each-ends bytes start at params xs t = (
    t.read ∙ ap (ahead xs) (read_at-done [] bytes at) ∙ ap (λ ys. Ok (record { value = ys; after = at }))
        (append-nil xs),
    (let P : List X → Type 0 = EachFits write f params in subst P (append-nil xs) (t.fits [] refl)),
  )

-- a reader of one of them failed
module _ {A X Y Z : Type 0} (write : X → List ℕ) (f : A → Codec X) (h : (a : A) → Lawful (f a)) where
  pub each-fails : (fault : ReadFault) (view : Y → X) (views : Z → List X) (bytes : List ℕ) (start at after end : ℕ)
      (params left : List A) (a : A) (xs : List X)
      → EachTaken write f bytes start params (a ∷ left) xs at → Takes (f a) view bytes at after (Err fault)
      → Takes (each write f params) views bytes start end (Err fault)
  each-fails (Malformed place) view views bytes start at after end params left a xs t e = each-stops write f h bytes
      start at params left a xs place t e
  each-fails NoMemory view views bytes start at after end params left a xs t e = tt

-- ---- the loop over so many values of one codec
module _ {X : Type 0} (c : Codec X) where
  -- these were taken from the start on, and so many are left
  pub record ManyTaken (bytes : List ℕ) (start n left : ℕ) (xs : List X) (at : ℕ) : Type 0 where
    pub read : read_at (repeated n c.format) bytes start ≡ ahead xs (read_at (repeated left c.format) bytes at)
    pub count : length xs + left ≡ n
    pub fits : Each c.Fits xs

  pub many-begins : (bytes : List ℕ) (at n : ℕ) → ManyTaken bytes at n n [] at
  many-begins bytes at n = record { read = ahead-nil _; count = omega arith; fits = tt }

  module _ (l : Lawful c) (bytes : List ℕ) (start at n left : ℕ) (xs : List X) where
    many-one : read_at (repeated (suc left) c.format) bytes at
        ≡ (c.read bytes at >>= (λ x. read_at (repeated left c.format) bytes x.after
        >>= (λ ys. Ok (record { value = x.value ∷ ys.value; after = ys.after }))))
    unfolding repeated
    many-one = let reads = l.reads in simp (read_at-then, read_at-done, reads)

    pub many-more : (after : ℕ) (x : X) → ManyTaken bytes start n (suc left) xs at → c.read bytes at ≡ Ok
        (record { value = x; after = after }) → c.Fits x
        → ManyTaken bytes start n left (xs ++ x ∷ []) after
    many-more after x t e is = record {
      read =
          t.read ∙ ap (ahead xs)
          (many-one ∙ ap (λ r. r >>= (λ x. read_at (repeated left c.format) bytes x.after
          >>= (λ ys. Ok (record { value = x.value ∷ ys.value; after = ys.after })))) e
          ∙ one_ahead x (read_at (repeated left c.format) bytes after)) ∙ ahead-ahead xs (x ∷ [])
          (read_at (repeated left c.format) bytes after);
      count = omega (arith, t.count, length-append xs (x ∷ []));
      fits = Each-append c.Fits xs (x ∷ []) t.fits (is, tt);
    }

    pub many-stops : (place : ℕ) → ManyTaken bytes start n (suc left) xs at → c.read bytes at ≡ Err place
        → (many n c).read bytes start ≡ Err place
    unfolding many
    many-stops place t e =
        t.read ∙ ap (ahead xs)
        (many-one ∙ ap (λ r. r >>= (λ x. read_at (repeated left c.format) bytes x.after
        >>= (λ ys. Ok (record { value = x.value ∷ ys.value; after = ys.after })))) e)

  pub many-ends : (bytes : List ℕ) (start at n : ℕ) (xs : List X) → ManyTaken bytes start n 0 xs at
      → ((many n c).read bytes start ≡ Ok (record { value = xs; after = at })) × (many n c).Fits xs
  unfolding many repeated
  many-ends bytes start at n xs t = (
    t.read ∙ ap (ahead xs) (read_at-done [] bytes at) ∙ ap (λ ys. Ok (record { value = ys; after = at }))
        (append-nil xs),
    (let same : length xs ≡ n = omega (arith, t.count) in (same, t.fits)),
  )

-- a reader of one of them failed
module _ {X Y Z : Type 0} (c : Codec X) (l : Lawful c) where
  pub many-fails : (fault : ReadFault) (view : Y → X) (views : Z → List X) (bytes : List ℕ)
      (start at after end n left : ℕ) (xs : List X)
      → ManyTaken c bytes start n (suc left) xs at → Takes c view bytes at after (Err fault) → Takes (many n c) views
      bytes start end (Err fault)
  many-fails (Malformed place) view views bytes start at after end n left xs t e = many-stops c l bytes start at n left
      xs place t e
  many-fails NoMemory view views bytes start at after end n left xs t e = tt

-- a reader of the kind, and then of what the kind has
module _ {X Y Z : Type 0} (kind_of : Z → X) (c : Codec X) (next : X → Codec Z) (view : Y → Z) where
  pub takes-kind : (bytes : List ℕ) (at mid after : ℕ) (x : X) (r : Result Y ReadFault) → c.read bytes at ≡ Ok
      (record { value = x; after = mid }) → c.Fits x
      → ((z : Z) → (next x).Fits z → kind_of z ≡ x) → Takes (next x) view bytes mid after r
      → Takes (by_kind kind_of c next) view bytes at after r
  unfolding by_kind
  takes-kind bytes at mid after x (Ok y) e fits same t =
      let P : X → Type 0 = λ k. c.Fits k × (next k).Fits (view y) in (
        ap (λ r. r >>= (λ x. (next x.value).read bytes x.after)) e ∙ t.0,
        subst P (sym (same (view y) t.1)) (fits, t.1),
        t.2,
      )
  takes-kind bytes at mid after x (Err (Malformed place)) e fits same t =
      ap (λ r. r >>= (λ x. (next x.value).read bytes x.after)) e ∙ t
  takes-kind bytes at mid after x (Err NoMemory) e fits same t = tt

  pub takes-no_kind : (bytes : List ℕ) (at after end : ℕ) (fault : ReadFault) → Takes {Y = X} c (λ x. x) bytes at after
      (Err fault) → Takes (by_kind kind_of c next) view bytes at end (Err fault)
  unfolding by_kind
  takes-no_kind bytes at after end (Malformed place) e = ap (λ r. r >>= (λ x. (next x.value).read bytes x.after)) e
  takes-no_kind bytes at after end NoMemory e = tt

-- a reader of the number, and then of so many
module _ {X Y : Type 0} (c : Codec X) (view : Y → List X) (width least most : ℕ) where
  pub takes-counted : (bytes : List ℕ) (at mid after n : ℕ) (r : Result Y ReadFault)
      → (number_codec width least most).read bytes at ≡ Ok (record { value = n; after = mid })
      → (number_codec width least most).Fits n
      → Takes (many n c) view bytes mid after r → Takes (counted width least most c) view bytes at after r
  unfolding counted by_kind many
  takes-counted bytes at mid after n (Ok y) e fits t =
      let P : ℕ → Type 0 = (number_codec width least most).Fits in (
        ap (λ r. r >>= (λ x. read_at (repeated x.value c.format) bytes x.after)) e ∙ t.0,
        (subst P (sym t.1.0) fits, (refl, t.1.1)),
        t.2,
      )
  takes-counted bytes at mid after n (Err (Malformed place)) e fits t =
      ap (λ r. r >>= (λ x. read_at (repeated x.value c.format) bytes x.after)) e ∙ t
  takes-counted bytes at mid after n (Err NoMemory) e fits t = tt

  pub takes-no_count : (bytes : List ℕ) (at after end : ℕ) (fault : ReadFault)
      → Takes {Y = ℕ} (number_codec width least most) (λ n. n) bytes at after (Err fault)
      → Takes (counted width least most c) view bytes at end (Err fault)
  unfolding counted by_kind many
  takes-no_count bytes at after end (Malformed place) e =
      ap (λ r. r >>= (λ x. read_at (repeated x.value c.format) bytes x.after)) e
  takes-no_count bytes at after end NoMemory e = tt

-- what follows of a value that was read
module _ {X Y : Type 0} (c : Codec X) (l : Lawful c) (view : Y → X) (Q : X → Type 0) where
  pub if_read : (bytes : List ℕ) (r : Result Y ReadFault) → ((x : X) → c.Fits x → Q x) → ReadsAs view c.format bytes r
      → IfOk r (λ y. Q (view y))
  if_read bytes (Ok y) h s = h (view y) (spelled-fits c l bytes (view y) s)
  if_read bytes (Err fault) h s = tt
