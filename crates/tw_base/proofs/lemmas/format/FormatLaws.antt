-- Laws of every format: what reading takes is spelled, what is spelled is read, and a reading that stops tells the
-- place.
use Rattle.std.proofs.Common.{◌≡◌, ℕ, suc, zero, ◌+◌, ◌-◌, ◌<◌, ◌≤◌, List, [], ◌∷◌, ◌++◌, length, take, drop, Bool}
use Rattle.std.proofs.Common.{true, false, refl, ap, sym, ◌∙◌, subst, arith, inl, inr}
use Rattle.std.specs.Prelude.{if◌then◌else◌, Result, Ok, Err}
use Rattle.std.proofs.lemmas.List.{append-nil, drop-drop, take_at, take_rest, take-append-drop, length-append}
use Rattle.std.proofs.lemmas.Bool.{cases_lt}
use Rattle.tw_base.specs.declared.kinds.failure.ReadFault.{ReadFault}
use Rattle.tw_base.specs.declared.kinds.failure.ReadFault.TheVariants.{Malformed, NoMemory}
use Rattle.tw_base.specs.format.Formats.{Format, Gives, GivesFront, IsFrontTo, IsWholeTo, Placed, ReadsAs, ReadsFrontAs}
use Rattle.tw_base.specs.format.Formats.{Reading, placed, read_at, ◌>>=◌, GoesOn, IsFront, IsPlace, OneSpelling, Spells}
use Rattle.tw_base.specs.format.Formats.{SpellsNothing, WrittenAs, front, goes_on, then_by}
use Rattle.tw_base.specs.format.Formats.Format.{Done, Byte}
use Rattle.tw_base.specs.format.Formats.Reading.{Took, Stopped}

module _ {X : Type 0} where
  -- ---- words

  -- a format that goes on has a word
  pub some_word : (f : Format X) → GoesOn f → (word : List ℕ) × (x : X) × Spells f word x
  some_word (Done x) g = ([], x, refl)
  some_word (Byte test more) g =
      let rest = some_word (more g.0.0) (g.1 g.0.0 g.0.1) in
      (g.0.0 ∷ rest.0, rest.1, (g.0.1, rest.2))

  -- a word spells one value
  pub one_value : (f : Format X) (word : List ℕ) (x y : X) → Spells f word x → Spells f word y → x ≡ y
  one_value (Done z) [] x y s t = sym s ∙ t
  one_value (Done z) (b ∷ bs) x y s t = absurd s
  one_value (Byte test more) [] x y s t = absurd s
  one_value (Byte test more) (b ∷ bs) x y s t = one_value (more b) bs x y s.1 t.1

  -- no word begins another
  pub no_longer_word : (f : Format X) (word rest : List ℕ) (x y : X) → Spells f word x → Spells f (word ++ rest) y
      → rest ≡ []
  no_longer_word (Done z) [] [] x y s t = refl
  no_longer_word (Done z) [] (b ∷ bs) x y s t = absurd t
  no_longer_word (Done z) (b ∷ bs) rest x y s t = absurd s
  no_longer_word (Byte test more) [] rest x y s t = absurd s
  no_longer_word (Byte test more) (b ∷ bs) rest x y s t = no_longer_word (more b) bs rest x y s.1 t.1

  -- ---- reading from the front

  pub front-byte : (test : ℕ → Bool) (more : ℕ → Format X) (b : ℕ) (bs : List ℕ) (at : ℕ) → test b ≡ true
      → front (Byte test more) (b ∷ bs) at ≡ front (more b) bs (at + 1)
  unfolding front
  front-byte test more b bs at passes = ap (λ t. if t then front (more b) bs (at + 1) else Stopped at) passes

  pub front-stops : (test : ℕ → Bool) (more : ℕ → Format X) (b : ℕ) (bs : List ℕ) (at : ℕ) → test b ≡ false
      → front (Byte test more) (b ∷ bs) at ≡ Stopped at
  unfolding front
  front-stops test more b bs at fails = ap (λ t. if t then front (more b) bs (at + 1) else Stopped at) fails

  pub front-nil : (test : ℕ → Bool) (more : ℕ → Format X) (at : ℕ) → front (Byte test more) [] at ≡ Stopped at
  unfolding front
  front-nil test more at = refl

  pub front-done : (x : X) (bs : List ℕ) (at : ℕ) → front (Done x) bs at ≡ Took x at
  unfolding front
  front-done x bs at = refl

  -- what is read is spelled so
  pub front-sound : (f : Format X) (bytes : List ℕ) (at after : ℕ) (x : X) → front f bytes at ≡ Took x after
      → (word : List ℕ) × (rest : List ℕ) × (bytes ≡ word ++ rest) × (after ≡ at + length word) × Spells f word x
  unfolding front
  front-sound (Done y) bytes at after x e =
      let p : at ≡ after = cc in let q : y ≡ x = cc in ([], bytes, refl, (let r : after ≡ at + 0 = omega arith in r), q)
  front-sound (Byte test more) [] at after x e = cc
  front-sound (Byte test more) (b ∷ bs) at after x e =
      let inner = front-sound (more b) bs (at + 1) after x in
      let cases : (t : Bool) → test b ≡ t → (if t then front (more b) bs (at + 1) else Stopped at) ≡ Took x after
      → (word : List ℕ) × (rest : List ℕ) × (b ∷ bs ≡ word ++ rest) × (after ≡ at + length word)
      × Spells (Byte test more) word x =
      elim [
        | true ↦ λ yes e. (
            let w = inner e in (
              b ∷ w.0,
              w.1,
              ap (λ ws. b ∷ ws) w.2,
              (let r : after ≡ at + suc (length w.0) = omega (arith, w.3) in r),
              (yes, w.4),
            ))
        | false ↦ λ no e. cc
      ]
      in cases (test b) refl e

  -- what is spelled so is read, whatever follows
  pub front-whole : (f : Format X) (word rest : List ℕ) (at : ℕ) (x : X) → Spells f word x → front f (word ++ rest) at
      ≡ Took x (at + length word)
  unfolding front
  front-whole (Done y) [] rest at x s = ap (λ z. Took z at) s ∙ ap (Took x) (let r : at ≡ at + 0 = omega arith in r)
  front-whole (Done y) (b ∷ bs) rest at x s = absurd s
  front-whole (Byte test more) [] rest at x s = absurd s
  front-whole (Byte test more) (b ∷ bs) rest at x s =
      ap (λ t. if t then front (more b) (bs ++ rest) (at + 1) else Stopped at) s.0 ∙ front-whole (more b) bs rest
      (at + 1) x s.1
      ∙ ap (Took x) (let r : (at + 1) + length bs ≡ at + suc (length bs) = omega arith in r)

  -- no longer front than this one passes a test that fails
  stops_here : (test : ℕ → Bool) (more : ℕ → Format X) (b : ℕ) (bs : List ℕ) (n : ℕ) → test b ≡ false
      → IsFront (Byte test more) (take n (b ∷ bs)) → n ≤ 0
  stops_here test more b bs zero fails f = omega arith
  stops_here test more b bs (suc n) fails f = let both : true ≡ false = sym f.2.0 ∙ fails in cc

  -- a front is longer by the byte that passed
  one_longer : (test : ℕ → Bool) (more : ℕ → Format X) (b : ℕ) (bs : List ℕ) (place : ℕ) → IsPlace (more b) bs place
      → (n : ℕ) → n ≤ suc (length bs) → IsFront (Byte test more) (take n (b ∷ bs)) → n ≤ suc place
  one_longer test more b bs place is zero l f = omega arith
  one_longer test more b bs place is (suc n) l f = omega (arith, is.longest n (omega arith) (f.0, f.1, f.2.1))

  -- what is refused is refused at its place
  pub front-place : (f : Format X) → GoesOn f → (bytes : List ℕ) (at place : ℕ) → front f bytes at ≡ Stopped place
      → (offset : ℕ) × (place ≡ at + offset) × IsPlace f bytes offset
  unfolding front
  front-place (Done y) g bytes at place e = cc
  front-place (Byte test more) g [] at place e = (
    0,
    (let p : at ≡ place = cc in let q : place ≡ at + 0 = omega arith in q),
    record { within = omega arith; good = some_word (Byte test more) g; longest = λ n l f. l },
  )
  front-place (Byte test more) g (b ∷ bs) at place e =
      let inner = λ (yes : test b ≡ true). front-place (more b) (g.1 b yes) bs (at + 1) place in
      let cases : (t : Bool) → test b ≡ t → (if t then front (more b) bs (at + 1) else Stopped at) ≡ Stopped place
      → (offset : ℕ) × (place ≡ at + offset) × IsPlace (Byte test more) (b ∷ bs) offset =
      elim [
        | true ↦ λ yes e. (
            let w = inner yes e in
            let is = w.2 in
            let front_of = is.good in (
              suc w.0,
              (let q : place ≡ at + suc w.0 = omega (arith, w.1) in q),
              record {
                within = (let h = is.within in omega arith);
                good = (front_of.0, front_of.1, (yes, front_of.2));
                longest = one_longer test more b bs w.0 is;
              },
            ))
        | false ↦ λ no e. (
            let p : at ≡ place = cc in (
              0,
              (let q : place ≡ at + 0 = omega arith in q),
              record {
                within = omega arith;
                good = some_word (Byte test more) g;
                longest = λ n l f. stops_here test more b bs n no f;
              },
            ))
      ]
      in cases (test b) refl e

  -- a reading that took something ends at or after its start
  abbrev pub EndsAfter : ℕ → Reading X → Type 0
  EndsAfter at (Took x after) = at ≤ after
  EndsAfter at (Stopped place) = at ≤ place

  pub front-after : (f : Format X) (bytes : List ℕ) (at : ℕ) → EndsAfter at (front f bytes at)
  unfolding front
  front-after (Done x) bytes at = omega arith
  front-after (Byte test more) [] at = omega arith
  front-after (Byte test more) (b ∷ bs) at =
      let inner = front-after (more b) bs (at + 1) in
      elim (test b) as (λ t. EndsAfter at (if t then front (more b) bs (at + 1) else Stopped at)) [
        | true ↦ later at (front (more b) bs (at + 1)) inner
        | false ↦ (let r : at ≤ at = omega arith in r)
      ]
    where
      later : (at : ℕ) (r : Reading X) → EndsAfter (at + 1) r → EndsAfter at r
      later at (Took x after) h = omega arith
      later at (Stopped place) h = omega arith

-- ---- one format and then another
module _ {X Y : Type 0} where
  -- a word of the first and a word of the next are a word of both
  pub spells_then : (f : Format X) (next : X → Format Y) (one other : List ℕ) (x : X) (y : Y) → Spells f one x
      → Spells (next x) other y → Spells (then_by f next) (one ++ other) y
  spells_then (Done z) next [] other x y s t = let P : X → Type 0 = λ v. Spells (next v) other y in subst P (sym s) t
  spells_then (Done z) next (b ∷ bs) other x y s t = absurd s
  spells_then (Byte test more) next [] other x y s t = absurd s
  spells_then (Byte test more) next (b ∷ bs) other x y s t = (s.0, spells_then (more b) next bs other x y s.1 t)

  -- and a word of both is one of the first and one of the next
  pub then_spells : (f : Format X) (next : X → Format Y) (word : List ℕ) (y : Y) → Spells (then_by f next) word y
      → (one : List ℕ) × (other : List ℕ) × (x : X) × (word ≡ one ++ other) × Spells f one x × Spells (next x) other y
  then_spells (Done x) next word y s = ([], word, x, refl, refl, s)
  then_spells (Byte test more) next [] y s = absurd s
  then_spells (Byte test more) next (b ∷ bs) y s =
      let rest = then_spells (more b) next bs y s.1 in
      (b ∷ rest.0, rest.1, rest.2, ap (λ ws. b ∷ ws) rest.3, (s.0, rest.4), rest.5)

  shifted : (next : X → Format Y) (b : ℕ) (bs : List ℕ) (at : ℕ) (r : Reading X) → EndsAfter (at + 1) r
      → goes_on (λ x. front (next x)) bs (at + 1) r ≡ goes_on (λ x. front (next x)) (b ∷ bs) at r
  shifted next b bs at (Took x after) h = ap (λ n. front (next x) n after) (dropped b bs (after - (at + 1)) (after - at)
      (omega arith))
    where
      dropped : (b : ℕ) (bs : List ℕ) (n m : ℕ) → m ≡ suc n → drop n bs ≡ drop m (b ∷ bs)
      dropped b bs n m e = ap (λ k. drop k (b ∷ bs)) (sym e)
  shifted next b bs at (Stopped place) h = refl

  -- reading one format and then another
  pub front-then : (f : Format X) (next : X → Format Y) (bytes : List ℕ) (at : ℕ)
      → front (then_by f next) bytes at ≡ goes_on (λ x. front (next x)) bytes at (front f bytes at)
  unfolding front
  front-then (Done x) next bytes at = ap (λ n. front (next x) (drop n bytes) at) (let r : 0 ≡ at - at = omega arith in
      r)
  front-then (Byte test more) next [] at = refl
  front-then (Byte test more) next (b ∷ bs) at =
      let inner = front-then (more b) next bs (at + 1) in
      let past = front-after (more b) bs (at + 1) in
      let cases : (t : Bool) → (if t then front (then_by (more b) next) bs (at + 1) else Stopped at)
      ≡ goes_on (λ x. front (next x)) (b ∷ bs) at (if t then front (more b) bs (at + 1) else Stopped at) =
      elim [ true ↦ inner ∙ shifted next b bs at (front (more b) bs (at + 1)) past | false ↦ refl ]
      in cases (test b)

  pub goes_on-then : (f : Format X) (next : X → Format Y) → GoesOn f → ((x : X) → GoesOn (next x))
      → GoesOn (then_by f next)
  goes_on-then (Done x) next g h = h x
  goes_on-then (Byte test more) next g h = (g.0, λ b yes. goes_on-then (more b) next (g.1 b yes) h)

  -- reading one field after another over the whole input
  pub read_at-then : (f : Format X) (next : X → Format Y) (whole : List ℕ) (at : ℕ)
      → read_at (then_by f next) whole at ≡ (read_at f whole at >>= (λ x. read_at (next x.value) whole x.after))
  unfolding read_at
  read_at-then f next whole at =
      let ends = front-after f (drop at whole) at in
      ap placed (front-then f next (drop at whole) at) ∙ on (front f (drop at whole) at) ends
    where
      on : (r : Reading X) → EndsAfter at r → placed (goes_on (λ x. front (next x)) (drop at whole) at r)
          ≡ (placed r >>= (λ x. placed (front (next x.value) (drop x.after whole) x.after)))
      on (Took x after) l = ap (λ ws. placed (front (next x) ws after)) (drop-drop (after - at) at whole
          ∙ ap (λ n. drop n whole) (let r : at + (after - at) ≡ after = omega arith in r))
      on (Stopped place) l = refl

module _ {X : Type 0} where
  pub read_at-done : (x : X) (whole : List ℕ) (at : ℕ) → read_at (Done x) whole at ≡ Ok
      (record { value = x; after = at })
  unfolding read_at front
  read_at-done x whole at = refl

-- a format's steps in `do` are the format
pub ruleset steps = (read_at-then, read_at-done)

-- ---- reading from a place on

nothing_left : (rest word : List ℕ) → length (word ++ rest) ≤ length word → rest ≡ []
nothing_left [] word l = refl
nothing_left (b ∷ bs) word l = absurd (omega (arith, length-append word (b ∷ bs)))

module _ {X : Type 0} where
  took : (r : Reading X) (x : X) (after : ℕ) → placed r ≡ Ok (record { value = x; after = after }) → r ≡ Took x after
  took (Took y end) x after e =
      let value : y ≡ x = ap value_of e in
      let ends : end ≡ after = ap end_of e in cc
    where
      value_of : Result (Placed X) ℕ → X
      value_of (Ok p) = p.value
      value_of (Err place) = y

      end_of : Result (Placed X) ℕ → ℕ
      end_of (Ok p) = p.after
      end_of (Err place) = place
  took (Stopped place) x after e = cc

  stopped : (r : Reading X) (place : ℕ) → placed r ≡ Err place → r ≡ Stopped place
  stopped (Took x after) place e = cc
  stopped (Stopped other) place e = let same : other ≡ place = cc in ap Stopped same

  -- what is read at a place is spelled there
  pub read_at-spells : (f : Format X) (whole : List ℕ) (at after : ℕ) (x : X) → read_at f whole at ≡ Ok
      (record { value = x; after = after })
      → (word : List ℕ) × (rest : List ℕ) × (drop at whole ≡ word ++ rest) × (after ≡ at + length word)
      × Spells f word x
  unfolding read_at
  read_at-spells f whole at after x e = front-sound f (drop at whole) at after x
      (took (front f (drop at whole) at) x after e)

  -- what is spelled at a place is read there
  pub read_at-word : (f : Format X) (whole word rest : List ℕ) (at : ℕ) (x : X) → Spells f word x → drop at whole ≡ word
      ++ rest
      → read_at f whole at ≡ Ok (record { value = x; after = at + length word })
  unfolding read_at
  read_at-word f whole word rest at x s e = ap (λ bs. placed (front f bs at)) e ∙ ap placed
      (front-whole f word rest at x s)

  -- a reading that stops at a place tells the longest front from there on
  pub read_at-place : (f : Format X) → GoesOn f → (whole : List ℕ) (at place : ℕ) → read_at f whole at ≡ Err place
      → (offset : ℕ) × (place ≡ at + offset) × IsPlace f (drop at whole) offset
  unfolding read_at
  read_at-place f g whole at place e = front-place f g (drop at whole) at place
      (stopped (front f (drop at whole) at) place e)

  -- ---- reading the whole

  -- what is read to the end is a word
  pub whole-word : (f : Format X) (whole : List ℕ) (after : ℕ) (x : X) → read_at f whole 0 ≡ Ok
      (record { value = x; after = after }) → length whole ≤ after → Spells f whole x
  whole-word f whole after x e l =
      let is = read_at-spells f whole 0 after x e in
      let same : whole ≡ is.0 ++ is.1 = is.2 in
      let none : is.1 ≡ [] = nothing_left is.1 is.0 (omega (arith, ap length same, is.3)) in
      let word : is.0 ≡ whole = sym (append-nil is.0) ∙ ap (λ rest. is.0 ++ rest) (sym none) ∙ sym same in
      let P : List ℕ → Type 0 = λ w. Spells f w x in subst P word is.4

  -- no front past the end of a word is the front of a word
  at_its_end : (f : Format X) (word rest : List ℕ) (x : X) (n : ℕ) → Spells f word x → IsFront f (take n (word ++ rest))
      → n ≤ length (word ++ rest) → n ≤ length word
  at_its_end (Done y) [] rest x zero s front l = omega arith
  at_its_end (Done y) [] [] x (suc n) s front l = omega arith
  at_its_end (Done y) [] (b ∷ bs) x (suc n) s front l = absurd front.2
  at_its_end (Done y) (b ∷ bs) rest x n s front l = absurd s
  at_its_end (Byte test more) [] rest x n s front l = absurd s
  at_its_end (Byte test more) (b ∷ bs) rest x zero s front l = omega arith
  at_its_end (Byte test more) (b ∷ bs) rest x (suc n) s front l =
      omega (arith, at_its_end (more b) bs rest x n s.1 (front.0, front.1, front.2.1) (omega arith))

  -- bytes that follow a word make no word, and the place is the word's end
  pub whole-longer : (f : Format X) (whole : List ℕ) (after : ℕ) (x : X) → read_at f whole 0 ≡ Ok
      (record { value = x; after = after }) → after < length whole
      → SpellsNothing f whole × IsPlace f whole after
  whole-longer f whole after x e l =
      let is = read_at-spells f whole 0 after x e in
      let word : List ℕ = is.0 in
      let rest : List ℕ = is.1 in
      let same : whole ≡ word ++ rest = is.2 in
      let end : after ≡ length word = omega (arith, is.3) in
      let front : take after whole ≡ word = ap (λ bs. take after bs) same ∙ take_at word rest after (sym end) in (
        λ y s. (
            let P : List ℕ → Type 0 = λ w. Spells f w y in
            let none : rest ≡ [] = no_longer_word f word rest x y is.4 (subst P same s) in
            absurd (omega (arith, ap length same, ap length none, length-append word rest))),
        record {
          within = omega arith;
          good = (let P : List ℕ → Type 0 = λ w. IsFront f w in
              let Q : List ℕ → Type 0 = λ w. Spells f w x in
              subst P (sym front) ([], x, subst Q (sym (append-nil word)) is.4));
          longest = λ n m t. (
              let P : List ℕ → Type 0 = λ w. IsFront f (take n w) in
              omega (arith, at_its_end f word rest x n is.4 (subst P same t) (omega (arith, ap length same))));
        },
      )

  -- a reading of the whole that stops
  pub whole-stops : (f : Format X) → GoesOn f → (whole : List ℕ) (place : ℕ) → read_at f whole 0 ≡ Err place
      → SpellsNothing f whole × IsPlace f whole place
  whole-stops f g whole place e = (
    λ y s. (
        let read : read_at f whole 0 ≡ Ok (record { value = y; after = length whole }) = read_at-word f whole whole [] 0
        y s (sym (append-nil whole)) ∙ ap (λ n. Ok (record { value = y; after = n }))
        (let r : 0 + length whole ≡ length whole = omega arith in r) in
        cc),
    (let is = read_at-place f g whole 0 place e in
        let P : ℕ → Type 0 = λ n. IsPlace f whole n in
        subst P (let r : is.0 ≡ place = omega (arith, is.1) in r) is.2),
  )

-- ---- one spelling of a value

module _ {X : Type 0} where
  pub one_spelling : (f : Format X) (write : X → List ℕ) → WrittenAs f write → OneSpelling f
  one_spelling f write w x one other s t = w one x s ∙ sym (w other x t)

  -- a fact of each word and its value
  abbrev pub AllWords : Format X → (List ℕ → X → Type 0) → Type 0
  AllWords f P = (word : List ℕ) (x : X) → Spells f word x → P word x

  pub all_words-done : (y : X) (P : List ℕ → X → Type 0) → P [] y → AllWords (Done y) P
  all_words-done y P p [] x s = let Q : X → Type 0 = λ z. P [] z in subst Q s p
  all_words-done y P p (b ∷ bs) x s = absurd s

module _ {X Y : Type 0} where
  -- by it a fact of the words of a chain of fields is shown field by field
  pub all_words-then : (f : Format X) (next : X → Format Y) (P : List ℕ → Y → Type 0)
      → ((one : List ℕ) (x : X) → Spells f one x → AllWords (next x) (λ other y. P (one ++ other) y))
      → AllWords (then_by f next) P
  all_words-then f next P h word y s =
      let t = then_spells f next word y s in
      let Q : List ℕ → Type 0 = λ w. P w y in
      subst Q (sym t.3) (h t.0 t.2 t.4 t.1 y t.5)

-- ---- answers of readers

module _ {X Y : Type 0} where
  pub gives_read : (f : Format X) (view : Y → X) (r : Result Y ℕ) (whole : List ℕ) (at after : ℕ)
      → GivesFront view r after (front f (drop at whole) at) → Gives view r after (read_at f whole at)
  unfolding read_at
  gives_read f view (Ok y) whole at after e = ap placed e
  gives_read f view (Err p) whole at after e = ap placed e

  -- the same where the code reads the slice from the place on
  pub gives_rest : (f : Format X) (view : Y → X) (r : Result Y ℕ) (whole : List ℕ) (at after : ℕ) → GivesFront view r
      after (front f (take (length whole - at) (drop at whole)) at) → Gives view r after (read_at f whole at)
  gives_rest f view r whole at after g =
      let P : List ℕ → Type 0 = λ bs. GivesFront view r after (front f bs at) in
      gives_read f view r whole at after (subst P (take_rest whole at) g)

  -- a reader that may want memory, and whose words end at a known place, gives the reading
  abbrev pub GivesIfMemory : (Y → X) → Result Y ReadFault → (after : ℕ) → Result (Placed X) ℕ → Type 0
  GivesIfMemory view (Ok y) after reading = reading ≡ Ok (record { value = view y; after = after })
  GivesIfMemory view (Err (Malformed place)) after reading = reading ≡ Err place
  GivesIfMemory view (Err NoMemory) after reading = Unit {0}

  -- ---- a reader of the whole reads the format

  answered : (f : Format X) (view : Y → X) (bytes : List ℕ) (r s : Result Y ReadFault) → r ≡ s → ReadsAs view f bytes s
      → ReadsAs view f bytes r
  answered f view bytes r s e is = let P : Result Y ReadFault → Type 0 = λ t. ReadsAs view f bytes t in
      subst P (sym e) is

  read_whole : (f : Format X) (view : Y → X) (bytes : List ℕ) (after : ℕ) (value : Y) (r : Result Y ReadFault)
      → (after < length bytes → r ≡ Err (Malformed after)) → (length bytes ≤ after → r ≡ Ok value)
      → read_at f bytes 0 ≡ Ok (record { value = view value; after = after }) → ReadsAs view f bytes r
  read_whole f view bytes after value r more ends e = elim (cases_lt after (length bytes)) [
    | inl l ↦ answered f view bytes r (Err (Malformed after)) (more l) (whole-longer f bytes after (view value) e l)
    | inr l ↦ answered f view bytes r (Ok value) (ends l) (whole-word f bytes after (view value) e l)
  ]

  pub reads_whole_to : (f : Format X) → GoesOn f → (view : Y → X) (bytes : List ℕ) (after : ℕ)
      (read r : Result Y ReadFault)
      → GivesIfMemory view read after (read_at f bytes 0) → IsWholeTo bytes after read r → ReadsAs view f bytes r
  reads_whole_to f g view bytes after (Ok value) r e w = read_whole f view bytes after value r w.0 w.1 e
  reads_whole_to f g view bytes after (Err (Malformed place)) r e w = answered f view bytes r (Err (Malformed place)) w
      (whole-stops f g bytes place e)
  reads_whole_to f g view bytes after (Err NoMemory) r e w = answered f view bytes r (Err NoMemory) w tt

  -- a reader of a front reads it
  front_answered : (f : Format X) (view : Y → X) (bytes : List ℕ) (r s : Result (Y × ℕ) ReadFault) → r ≡ s
      → ReadsFrontAs view f bytes s → ReadsFrontAs view f bytes r
  front_answered f view bytes r s e is = let P : Result (Y × ℕ) ReadFault → Type 0 = λ t. ReadsFrontAs view f bytes t in
      subst P (sym e) is

  pub reads_front : (f : Format X) → GoesOn f → (view : Y → X) (bytes : List ℕ) (after : ℕ) (read : Result Y ReadFault)
      (r : Result (Y × ℕ) ReadFault)
      → GivesIfMemory view read after (read_at f bytes 0) → IsFrontTo after read r → ReadsFrontAs view f bytes r
  reads_front f g view bytes after (Ok value) r e to =
      let is = read_at-spells f bytes 0 after (view value) e in
      let same : bytes ≡ is.0 ++ is.1 = is.2 in
      let end : length is.0 ≡ after = omega (arith, is.3) in
      let word : is.0 ≡ take after bytes = sym (take_at is.0 is.1 after end) ∙ ap (take after) (sym same) in
      let P : List ℕ → Type 0 = λ w. Spells f w (view value) in
      front_answered f view bytes r (Ok (value, after)) to
      (omega (arith, ap length same, length-append is.0 is.1), subst P word is.4)
  reads_front f g view bytes after (Err (Malformed place)) r e to = front_answered f view bytes r
      (Err (Malformed place)) to (
        λ n y s. (
            let read : read_at f bytes 0 ≡ Ok (record { value = y; after = 0 + length (take n bytes) }) =
            read_at-word f bytes (take n bytes) (drop n bytes) 0 y s (sym (take-append-drop n bytes)) in
            cc),
        (whole-stops f g bytes place e).1,
      )
  reads_front f g view bytes after (Err NoMemory) r e to = front_answered f view bytes r (Err NoMemory) to tt
