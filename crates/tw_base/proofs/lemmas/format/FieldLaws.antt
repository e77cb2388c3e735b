-- Laws of the fields of bytes, of names and of lists.
use Rattle.std.proofs.Common.{◌≡◌, ℕ, suc, zero, ◌+◌, ◌-◌, ◌*◌, ◌<◌, ◌≤◌, List, [], ◌∷◌, ◌++◌, length, get_or, take}
use Rattle.std.proofs.Common.{drop, Bool, true, false, refl, ap, sym, ◌∙◌, subst, arith, inl, inr, append_assoc}
use Rattle.std.specs.Prelude.{cond, ◌&&◌, ◌||◌, ◌==◌, not, nat_le, nat_lt, Ok, Err, replicate, IsTrue, Result}
use Rattle.std.specs.List.{list_all}
use Rattle.std.proofs.lemmas.List.{append-nil, take_all, get_or-drop, length-drop, drop_more, drop_all, take_more}
use Rattle.std.proofs.lemmas.Bool.{and_parts, and_from, or_cases, or_left, or_right, eqb-true, eq-eqb, ne_eqb, lt-ltb}
use Rattle.std.proofs.lemmas.Bool.{leb-true, le-leb, cases_lt}
use Rattle.std.proofs.lemmas.List.Sums.{take_while-cons}
use Rattle.tw_base.specs.format.Formats.{Format, Reading, GoesOn, Placed, Spells, WrittenAs, front, goes_on, placed}
use Rattle.tw_base.specs.format.Formats.{read_at, ◌>>=◌, then_by}
use Rattle.tw_base.specs.format.Formats.Reading.{Took, Stopped}
use Rattle.tw_base.specs.format.Formats.Format.{Done}
use Rattle.tw_base.specs.format.Fields.{byte_then, bytes, digest, name, name_part, repeated, text}
use Rattle.tw_base.specs.kinds.Names.{IsName, is_name_byte, is_name_text, name_text, padded_name}
use Rattle.tw_base.proofs.lemmas.format.FormatLaws.{goes_on-then, front-byte, front-done, front-nil, front-sound}
use Rattle.tw_base.proofs.lemmas.format.FormatLaws.{front-stops, front-then, read_at-done, read_at-then, spells_then}
use Rattle.tw_base.proofs.lemmas.format.FormatLaws.{then_spells}

-- ---- a byte and then more

-- a word that begins with these bytes
abbrev pub with_front : List ℕ → Reading (List ℕ) → Reading (List ℕ)
with_front ws (Took xs after) = Took (ws ++ xs) after
with_front ws (Stopped place) = Stopped place

pub with_front-nil : (r : Reading (List ℕ)) → r ≡ with_front [] r
with_front-nil (Took xs after) = refl
with_front-nil (Stopped place) = refl

pub with_front-with_front : (one other : List ℕ) (r : Reading (List ℕ)) → with_front one (with_front other r)
    ≡ with_front (one ++ other) r
with_front-with_front one other (Took xs after) = ap (λ ws. Took ws after) (sym (append_assoc one other xs))
with_front-with_front one other (Stopped place) = refl

module _ (test : ℕ → Bool) (rest : ℕ → Format (List ℕ)) where
  pub goes_on-byte_then : (b : ℕ) → test b ≡ true → ((c : ℕ) → test c ≡ true → GoesOn (rest c))
      → GoesOn (byte_then test rest)
  unfolding byte_then
  goes_on-byte_then b passes h =
      ((b, passes), λ c yes. goes_on-then (rest c) (λ bs. Done (c ∷ bs)) (h c yes) (λ bs. tt))

  -- a word is its own value
  pub byte_then-written : ((c : ℕ) → test c ≡ true → WrittenAs (rest c) (λ w. w)) → WrittenAs (byte_then test rest)
      (λ w. w)
  unfolding byte_then
  byte_then-written h [] x s = absurd s
  byte_then-written h (b ∷ bs) x s =
      let t = then_spells (rest b) (λ ys. Done (b ∷ ys)) bs x s.1 in
      let end = done t.1 (b ∷ t.2) x t.5 in
      ap (λ ws. b ∷ ws) (t.3 ∙ ap (λ ys. t.0 ++ ys) end.0 ∙ append-nil t.0 ∙ h b s.0 t.0 t.2 t.4) ∙ end.1
    where
      done : (word y z : List ℕ) → Spells (Done y) word z → (word ≡ []) × (y ≡ z)
      done [] y z s = (refl, s)
      done (c ∷ cs) y z s = absurd s

  pub byte_then-spells : (b : ℕ) (bs : List ℕ) → test b ≡ true → Spells (rest b) bs bs → Spells (byte_then test rest)
      (b ∷ bs) (b ∷ bs)
  unfolding byte_then
  byte_then-spells b bs passes s =
      let P : List ℕ → Type 0 = λ w. Spells (then_by (rest b) (λ ys. Done (b ∷ ys))) w (b ∷ bs) in
      (passes, subst P (append-nil bs) (spells_then (rest b) (λ ys. Done (b ∷ ys)) bs [] bs (b ∷ bs) s refl))

  -- the first byte of a word and the rest of it
  pub byte_then-parts : (b : ℕ) (bs x : List ℕ) → Spells (byte_then test rest) (b ∷ bs) x → (test b ≡ true)
      × (ys : List ℕ) × Spells (rest b) bs ys
  unfolding byte_then
  byte_then-parts b bs x s =
      let t = then_spells (rest b) (λ ys. Done (b ∷ ys)) bs x s.1 in
      let P : List ℕ → Type 0 = λ w. Spells (rest b) w t.2 in
      (s.0, t.2, subst P (sym (t.3 ∙ ap (λ ys. t.0 ++ ys) (done t.1 (b ∷ t.2) x t.5) ∙ append-nil t.0)) t.4)
    where
      done : (word y z : List ℕ) → Spells (Done y) word z → word ≡ []
      done [] y z s = refl
      done (c ∷ cs) y z s = absurd s

  pub front-byte_then : (b : ℕ) (bs : List ℕ) (at : ℕ) → test b ≡ true → front (byte_then test rest) (b ∷ bs) at
      ≡ with_front (b ∷ []) (front (rest b) bs (at + 1))
  unfolding byte_then
  front-byte_then b bs at passes =
      front-byte test (λ c. then_by (rest c) (λ ys. Done (c ∷ ys))) b bs at passes ∙ front-then (rest b)
      (λ ys. Done (b ∷ ys)) bs (at + 1) ∙ done (front (rest b) bs (at + 1))
    where
      done : (r : Reading (List ℕ)) → goes_on (λ ys. front (Done (b ∷ ys))) bs (at + 1) r ≡ with_front (b ∷ []) r
      done (Took ys after) = front-done (b ∷ ys) (drop (after - (at + 1)) bs) after
      done (Stopped place) = refl

  pub front-byte_stops : (b : ℕ) (bs : List ℕ) (at : ℕ) → test b ≡ false → front (byte_then test rest) (b ∷ bs) at
      ≡ Stopped at
  unfolding byte_then
  front-byte_stops b bs at fails = front-stops test (λ c. then_by (rest c) (λ ys. Done (c ∷ ys))) b bs at fails

  pub front-byte_short : (at : ℕ) → front (byte_then test rest) [] at ≡ Stopped at
  unfolding byte_then
  front-byte_short at = front-nil test (λ c. then_by (rest c) (λ ys. Done (c ∷ ys))) at

  pub byte_then-none : (x : List ℕ) → Spells (byte_then test rest) [] x → ⊥
  unfolding byte_then
  byte_then-none x s = s

-- a reading that has come to the byte at i
module _ (test : ℕ → Bool) (rest : ℕ → Format (List ℕ)) (r : Reading (List ℕ)) (ws bs : List ℕ) (at i : ℕ)
    (so_far : r ≡ with_front ws (front (byte_then test rest) (drop i bs) (at + i))) where
  step-passes : i < length bs → test (get_or bs i 0) ≡ true → r ≡ with_front (ws ++ get_or bs i 0 ∷ [])
      (front (rest (get_or bs i 0)) (drop (i + 1) bs) (at + (i + 1)))
  step-passes l passes =
      so_far ∙ ap (λ cs. with_front ws (front (byte_then test rest) cs (at + i))) (drop_more bs i 0 l)
      ∙ ap (with_front ws) (front-byte_then test rest (get_or bs i 0) (drop (i + 1) bs) (at + i) passes)
      ∙ with_front-with_front ws (get_or bs i 0 ∷ []) (front (rest (get_or bs i 0)) (drop (i + 1) bs) (at + i + 1))
      ∙ ap (λ n. with_front (ws ++ get_or bs i 0 ∷ []) (front (rest (get_or bs i 0)) (drop (i + 1) bs) n))
      (let e : at + i + 1 ≡ at + (i + 1) = omega arith in e)

  step-fails : i < length bs → test (get_or bs i 0) ≡ false → r ≡ Stopped (at + i)
  step-fails l fails =
      so_far ∙ ap (λ cs. with_front ws (front (byte_then test rest) cs (at + i))) (drop_more bs i 0 l)
      ∙ ap (with_front ws) (front-byte_stops test rest (get_or bs i 0) (drop (i + 1) bs) (at + i) fails)

  step-short : length bs ≤ i → r ≡ Stopped (at + i)
  step-short l =
      so_far ∙ ap (λ cs. with_front ws (front (byte_then test rest) cs (at + i))) (drop_all i bs l)
      ∙ ap (with_front ws) (front-byte_short test rest (at + i))

-- ---- bytes

pub goes_on-bytes : (n : ℕ) → GoesOn (bytes n)
unfolding bytes
goes_on-bytes zero = tt
goes_on-bytes (suc n) = goes_on-byte_then (λ b. nat_lt b 256) (λ b. bytes n) 0 refl (λ c yes. goes_on-bytes n)

pub bytes-written : (n : ℕ) → WrittenAs (bytes n) (λ w. w)
unfolding bytes
bytes-written zero [] x s = s
bytes-written zero (b ∷ bs) x s = absurd s
bytes-written (suc n) word x s = byte_then-written (λ b. nat_lt b 256) (λ b. bytes n) (λ c yes. bytes-written n) word
    x s

pub length-bytes : (n : ℕ) (word x : List ℕ) → Spells (bytes n) word x → length word ≡ n
unfolding bytes
length-bytes zero [] x s = refl
length-bytes zero (b ∷ bs) x s = absurd s
length-bytes (suc n) [] x s = absurd (byte_then-none (λ b. nat_lt b 256) (λ b. bytes n) x s)
length-bytes (suc n) (b ∷ bs) x s =
    let parts = byte_then-parts (λ b. nat_lt b 256) (λ b. bytes n) b bs x s in
    ap suc (length-bytes n bs parts.1 parts.2)

-- bytes are their own spelling
pub bytes-spells : (word : List ℕ) → ((i : ℕ) → get_or word i 0 < 256) → Spells (bytes (length word)) word word
unfolding bytes
bytes-spells [] small = refl
bytes-spells (b ∷ bs) small =
    byte_then-spells (λ c. nat_lt c 256) (λ c. bytes (length bs)) b bs (lt-ltb b 256 (small 0))
    (bytes-spells bs (λ i. small (suc i)))

-- fields of bytes are read wherever there are enough
bytes-took : (n : ℕ) (bs : List ℕ) (at : ℕ) → ((i : ℕ) → get_or bs i 0 < 256) → n ≤ length bs → front (bytes n) bs at
    ≡ Took (take n bs) (at + n)
unfolding bytes
bytes-took zero bs at small l = front-done [] bs at ∙ ap (Took []) (let r : at ≡ at + 0 = omega arith in r)
bytes-took (suc n) [] at small l = absurd (omega arith)
bytes-took (suc n) (x ∷ xs) at small l =
    front-byte_then (λ b. nat_lt b 256) (λ b. bytes n) x xs at (lt-ltb x 256 (small 0))
    ∙ ap (with_front (x ∷ [])) (bytes-took n xs (at + 1) (λ i. small (suc i)) (omega arith))
    ∙ ap (Took (x ∷ take n xs)) (let r : at + 1 + n ≡ at + suc n = omega arith in r)

bytes-stopped : (n : ℕ) (bs : List ℕ) (at : ℕ) → ((i : ℕ) → get_or bs i 0 < 256) → length bs < n → front (bytes n) bs at
    ≡ Stopped (at + length bs)
unfolding bytes
bytes-stopped zero bs at small l = absurd (omega arith)
bytes-stopped (suc n) [] at small l = front-byte_short (λ b. nat_lt b 256) (λ b. bytes n) at ∙ ap Stopped
    (let r : at ≡ at + 0 = omega arith in r)
bytes-stopped (suc n) (x ∷ xs) at small l =
    front-byte_then (λ b. nat_lt b 256) (λ b. bytes n) x xs at (lt-ltb x 256 (small 0))
    ∙ ap (with_front (x ∷ [])) (bytes-stopped n xs (at + 1) (λ i. small (suc i)) (omega arith))
    ∙ ap Stopped (let r : at + 1 + length xs ≡ at + suc (length xs) = omega arith in r)

-- so many bytes at a place, where there are enough
pub bytes-read : (n : ℕ) (whole found : List ℕ) (at : ℕ) → ((i : ℕ) → get_or whole i 0 < 256) → at + n ≤ length whole
    → found ≡ take n (drop at whole)
    → read_at (bytes n) whole at ≡ Ok (record { value = found; after = at + n })
unfolding read_at
bytes-read n whole found at small l e =
    ap placed (bytes-took n (drop at whole) at (λ i. subst (λ x. x < 256) (sym (get_or-drop at whole i 0))
    (small (at + i))) (omega (arith, length-drop at whole)))
    ∙ ap (λ x. Ok (record { value = x; after = at + n })) (sym e)

-- and where there are not
pub bytes-short : (n : ℕ) (whole : List ℕ) (at : ℕ) → ((i : ℕ) → get_or whole i 0 < 256) → at ≤ length whole
    → length whole < at + n
    → read_at (bytes n) whole at ≡ Err (length whole)
unfolding read_at
bytes-short n whole at small l more =
    ap placed (bytes-stopped n (drop at whole) at (λ i. subst (λ x. x < 256) (sym (get_or-drop at whole i 0))
    (small (at + i))) (omega (arith, length-drop at whole)))
    ∙ ap Err (let r : at + length (drop at whole) ≡ length whole = omega (arith, length-drop at whole) in r)

-- ---- a fixed text

pub goes_on-text : (t : List ℕ) → GoesOn (text t)
unfolding text
goes_on-text [] = tt
goes_on-text (c ∷ cs) = goes_on-byte_then (λ b. b == c) (λ b. text cs) c (eq-eqb c c refl) (λ b yes. goes_on-text cs)

pub text-written : (t : List ℕ) → WrittenAs (text t) (λ w. w)
unfolding text
text-written [] [] x s = s
text-written [] (b ∷ bs) x s = absurd s
text-written (c ∷ cs) word x s = byte_then-written (λ b. b == c) (λ b. text cs) (λ b yes. text-written cs) word x s

pub text-spells : (t : List ℕ) → Spells (text t) t t
unfolding text
text-spells [] = refl
text-spells (c ∷ cs) = byte_then-spells (λ b. b == c) (λ b. text cs) c cs (eq-eqb c c refl) (text-spells cs)

-- the text is its one word
pub text-word : (t word x : List ℕ) → Spells (text t) word x → word ≡ t
unfolding text
text-word [] [] x s = refl
text-word [] (b ∷ bs) x s = absurd s
text-word (c ∷ cs) [] x s = absurd (byte_then-none (λ b. b == c) (λ b. text cs) x s)
text-word (c ∷ cs) (b ∷ bs) x s =
    let parts = byte_then-parts (λ b. b == c) (λ b. text cs) b bs x s in
    ap (λ d. d ∷ bs) (eqb-true b c parts.0) ∙ ap (λ ds. c ∷ ds) (text-word cs bs parts.1 parts.2)

-- the text is read up to its byte i
abbrev pub TextReadTo : (t bs : List ℕ) (at i : ℕ) → Type 0
TextReadTo t bs at i = front (text t) bs at ≡ with_front (take i t) (front (text (drop i t)) (drop i bs) (at + i))

-- the text from its byte i on
text_from : (t bs : List ℕ) (at i : ℕ) → i < length t → TextReadTo t bs at i
    → front (text t) bs at ≡ with_front (take i t)
    (front (byte_then (λ b. b == get_or t i 0) (λ b. text (drop (i + 1) t))) (drop i bs) (at + i))
unfolding text
text_from t bs at i l so_far = so_far ∙ ap (λ u. with_front (take i t) (front (text u) (drop i bs) (at + i)))
    (drop_more t i 0 l)

pub text-goes : (t bs : List ℕ) (at i : ℕ) → i < length t → i < length bs → get_or bs i 0 ≡ get_or t i 0
    → TextReadTo t bs at i → TextReadTo t bs at (i + 1)
text-goes t bs at i l within same so_far =
    step-passes (λ b. b == get_or t i 0) (λ b. text (drop (i + 1) t)) (front (text t) bs at) (take i t) bs at i
    (text_from t bs at i l so_far) within (eq-eqb (get_or bs i 0) (get_or t i 0) same)
    ∙ ap (λ b. with_front (take i t ++ b ∷ []) (front (text (drop (i + 1) t)) (drop (i + 1) bs) (at + (i + 1)))) same
    ∙ ap (λ ws. with_front ws (front (text (drop (i + 1) t)) (drop (i + 1) bs) (at + (i + 1))))
    (sym (take_more t i 0 l))

pub text-short : (t bs : List ℕ) (at i : ℕ) → i < length t → length bs ≤ i → TextReadTo t bs at i → front (text t) bs at
    ≡ Stopped (at + i)
text-short t bs at i l short so_far = step-short (λ b. b == get_or t i 0) (λ b. text (drop (i + 1) t))
    (front (text t) bs at) (take i t) bs at i (text_from t bs at i l so_far) short

pub text-differs : (t bs : List ℕ) (at i : ℕ) → i < length t → i < length bs → (get_or bs i 0 ≡ get_or t i 0 → ⊥)
    → TextReadTo t bs at i → front (text t) bs at ≡ Stopped (at + i)
text-differs t bs at i l within other so_far =
    step-fails (λ b. b == get_or t i 0) (λ b. text (drop (i + 1) t)) (front (text t) bs at) (take i t) bs at i
    (text_from t bs at i l so_far) within (ne_eqb (get_or bs i 0) (get_or t i 0) other)

pub text-ends : (t bs : List ℕ) (at i : ℕ) → i ≡ length t → TextReadTo t bs at i → front (text t) bs at ≡ Took t
    (at + length t)
unfolding text
text-ends t bs at i l so_far =
    so_far ∙ ap (λ u. with_front (take i t) (front (text u) (drop i bs) (at + i))) (drop_all i t (omega arith))
    ∙ ap (with_front (take i t)) (front-done [] (drop i bs) (at + i))
    ∙ ap (λ ws. Took ws (at + i)) (append-nil (take i t) ∙ take_all i t (omega arith)) ∙ ap (Took t)
    (let e : at + i ≡ at + length t = omega arith in e)

-- ---- names

-- what a part of a name begins with, and what goes on behind a byte
abbrev begins : (letters zeros : Bool) → ℕ → Bool
begins letters zeros b = (letters && is_name_byte b) || (zeros && b == 0)

abbrev behind : ℕ → ℕ → Format (List ℕ)
behind left b = name_part (not (b == 0)) true left

-- a letter is no zero
letter_is_not_zero : (b : ℕ) → is_name_byte b ≡ true → (b == 0) ≡ false
letter_is_not_zero zero letter = cc
letter_is_not_zero (suc b) letter = ne_eqb (suc b) 0 (λ e. omega arith)

pub goes_on-name_part : (letters zeros : Bool) (left : ℕ) → (letters || zeros) ≡ true
    → GoesOn (name_part letters zeros left)
unfolding name_part
goes_on-name_part letters zeros zero some = tt
goes_on-name_part true zeros (suc left) some =
    goes_on-byte_then (begins true zeros) (behind left) 97
    refl (λ b yes. goes_on-name_part (not (b == 0)) true left (or_right (not (b == 0)) true refl))
goes_on-name_part false true (suc left) some =
    goes_on-byte_then (begins false true) (behind left) 0
    refl (λ b yes. goes_on-name_part (not (b == 0)) true left (or_right (not (b == 0)) true refl))
goes_on-name_part false false (suc left) some = cc

pub goes_on-name : GoesOn name
unfolding name
goes_on-name = goes_on-name_part true false 16 refl

pub name_part-written : (letters zeros : Bool) (left : ℕ) → WrittenAs (name_part letters zeros left) (λ w. w)
unfolding name_part
name_part-written letters zeros zero [] x s = s
name_part-written letters zeros zero (b ∷ bs) x s = absurd s
name_part-written letters zeros (suc left) word x s =
    byte_then-written (begins letters zeros) (behind left)
    (λ b yes. name_part-written (not (b == 0)) true left) word x s

pub name-written : WrittenAs name (λ w. w)
unfolding name
name-written word x s = name_part-written true false 16 word x s

-- the name is read up to its byte i
abbrev pub NameReadTo : (letters zeros : Bool) (bs : List ℕ) (at i : ℕ) → Type 0
NameReadTo letters zeros bs at i = front name bs at ≡ with_front (take i bs) (front (name_part letters zeros (16 - i))
    (drop i bs) (at + i))

pub name-starts : (bs : List ℕ) (at : ℕ) → NameReadTo true false bs at 0
unfolding name
name-starts bs at = ap (front name bs) (let e : at ≡ at + 0 = omega arith in e) ∙ with_front-nil
    (front name bs (at + 0))

-- the name from its byte i on
name_from : (letters zeros : Bool) (bs : List ℕ) (at i : ℕ) → i < 16 → NameReadTo letters zeros bs at i
    → front name bs at ≡ with_front (take i bs)
    (front (byte_then (begins letters zeros) (behind (16 - (i + 1)))) (drop i bs) (at + i))
unfolding name_part
name_from letters zeros bs at i l so_far = so_far ∙ ap (λ left. with_front (take i bs)
    (front (name_part letters zeros left) (drop i bs) (at + i))) (let e : 16 - i ≡ suc (16 - (i + 1)) = omega arith in
    e)

pub name-goes : (letters zeros : Bool) (bs : List ℕ) (at i : ℕ) → i < 16 → i < length bs
    → ((letters && is_name_byte (get_or bs i 0)) || (zeros && get_or bs i 0 == 0)) ≡ true
    → NameReadTo letters zeros bs at i → NameReadTo (not (get_or bs i 0 == 0)) true bs at (i + 1)
name-goes letters zeros bs at i l within passes so_far =
    step-passes (begins letters zeros) (behind (16 - (i + 1))) (front name bs at) (take i bs) bs at i (name_from
    letters zeros bs at i l so_far) within passes
    ∙ ap (λ ws. with_front ws (front (name_part (not (get_or bs i 0 == 0)) true (16 - (i + 1))) (drop (i + 1) bs)
    (at + (i + 1)))) (sym (take_more bs i 0 within))

pub name-fails : (letters zeros : Bool) (bs : List ℕ) (at i : ℕ) → i < 16 → i < length bs
    → ((letters && is_name_byte (get_or bs i 0)) || (zeros && get_or bs i 0 == 0)) ≡ false
    → NameReadTo letters zeros bs at i → front name bs at ≡ Stopped (at + i)
name-fails letters zeros bs at i l within fails so_far =
    step-fails (begins letters zeros) (behind (16 - (i + 1))) (front name bs at) (take i bs) bs at i (name_from
    letters zeros bs at i l so_far) within fails

pub name-short : (letters zeros : Bool) (bs : List ℕ) (at i : ℕ) → i < 16 → length bs ≤ i → NameReadTo letters zeros bs
    at i → front name bs at ≡ Stopped (at + i)
name-short letters zeros bs at i l short so_far =
    step-short (begins letters zeros) (behind (16 - (i + 1))) (front name bs at) (take i bs) bs at i (name_from
    letters zeros bs at i l so_far) short

pub name-ends : (letters zeros : Bool) (bs : List ℕ) (at : ℕ) → NameReadTo letters zeros bs at 16
    → front name bs at ≡ Took (take 16 bs) (at + 16)
unfolding name_part
name-ends letters zeros bs at so_far = so_far ∙ ap (with_front (take 16 bs)) (front-done [] (drop 16 bs) (at + 16))
    ∙ ap (λ ws. Took ws (at + 16)) (append-nil (take 16 bs))

-- zeros after the letters
zeros_spell : (n : ℕ) → Spells (name_part false true n) (replicate n 0) (replicate n 0)
unfolding name_part
zeros_spell zero = refl
zeros_spell (suc n) = byte_then-spells (begins false true) (behind n) 0 (replicate n 0) refl (zeros_spell n)

zeros_word : (n : ℕ) (word x : List ℕ) → Spells (name_part false true n) word x → word ≡ replicate n 0
unfolding name_part
zeros_word zero [] x s = refl
zeros_word zero (b ∷ bs) x s = absurd s
zeros_word (suc n) [] x s = absurd (byte_then-none (begins false true) (behind n) x s)
zeros_word (suc n) (b ∷ bs) x s =
    let parts = byte_then-parts (begins false true) (behind n) b bs x s in
    let zero_byte : b ≡ 0 = eqb-true b 0 parts.0 in
    let P : ℕ → Type 0 = λ c. Spells (name_part (not (c == 0)) true n) bs parts.1 in
    ap (λ c. c ∷ bs) zero_byte ∙ ap (λ cs. 0 ∷ cs) (zeros_word n bs parts.1 (subst P zero_byte parts.2))

-- the number of bytes of a text and so many zeros
padded_length : List ℕ → ℕ → ℕ
padded_length [] k = k
padded_length (c ∷ cs) k = suc (padded_length cs k)

padded_length-is : (t : List ℕ) (k : ℕ) → padded_length t k ≡ length t + k
unfolding padded_length
padded_length-is [] k = omega arith
padded_length-is (c ∷ cs) k = omega (arith, padded_length-is cs k)

-- letters and then zeros
letters_spell : (t : List ℕ) (k : ℕ) → list_all is_name_byte t ≡ true → Spells (name_part true true (padded_length t k))
    (t ++ replicate k 0) (t ++ replicate k 0)
unfolding name_part padded_length
letters_spell [] zero all = refl
letters_spell [] (suc k) all = byte_then-spells (begins true true) (behind k) 0 (replicate k 0) refl (zeros_spell k)
letters_spell (c ∷ cs) k all =
    let parts = and_parts (is_name_byte c) (list_all is_name_byte cs) all in
    let P : Bool → Type 0 = λ zero. Spells (name_part (not zero) true (padded_length cs k)) (cs ++ replicate k 0)
    (cs ++ replicate k 0) in
    byte_then-spells (begins true true) (behind (padded_length cs k)) c (cs ++ replicate k 0)
    (or_left (is_name_byte c) (c == 0) parts.0) (subst P (sym (letter_is_not_zero c parts.0))
    (letters_spell cs k parts.1))

letters_word : (left : ℕ) (word x : List ℕ) → Spells (name_part true true left) word x
    → (t : List ℕ) × (list_all is_name_byte t ≡ true) × (length t ≤ left) × (word ≡ t ++ replicate (left - length t) 0)
unfolding name_part
letters_word zero [] x s = ([], refl, omega arith, refl)
letters_word zero (b ∷ bs) x s = absurd s
letters_word (suc left) [] x s = absurd (byte_then-none (begins true true) (behind left) x s)
letters_word (suc left) (b ∷ bs) x s =
    let parts = byte_then-parts (begins true true) (behind left) b bs x s in
    let P : Bool → Type 0 = λ zero. Spells (name_part (not zero) true left) bs parts.1 in
    elim (or_cases (is_name_byte b) (b == 0) parts.0) [
      | inl letter ↦ (
          let rest = letters_word left bs parts.1 (subst P (letter_is_not_zero b letter) parts.2) in (
            b ∷ rest.0,
            and_from (is_name_byte b) (list_all is_name_byte rest.0) letter rest.1,
            omega (arith, rest.2),
            ap (λ cs. b ∷ cs) (rest.3 ∙ ap (λ n. rest.0 ++ replicate n 0) (let r : left - length rest.0 ≡ suc left - suc
                (length rest.0) = omega arith in r)),
          ))
      | inr is_zero ↦ (
        [],
        refl,
        omega arith,
        ap (λ c. c ∷ bs) (eqb-true b 0 is_zero) ∙ ap (λ cs. 0 ∷ cs)
            (zeros_word left bs parts.1 (subst P is_zero parts.2))
            ∙ ap (λ n. replicate n 0) (let r : suc left ≡ suc left - 0 = omega arith in r),
      )
    ]

-- a name is spelled by its 16 bytes
pub name-spells : (bs : List ℕ) → IsName bs → Spells name bs bs
unfolding name name_part
name-spells bs is =
    let P : List ℕ → Type 0 = λ w. Spells name w w in
    subst P (sym is.2) (letters is.0 is.1)
  where
    letters : (t : List ℕ) → is_name_text t ≡ true → Spells name (padded_name t) (padded_name t)
    letters [] all = cc
    letters (c ∷ cs) all =
        let sizes = and_parts (nat_le 1 (length (c ∷ cs)) && nat_le (length (c ∷ cs)) 16)
        (list_all is_name_byte (c ∷ cs)) all in
        let fits : length (c ∷ cs) ≤ 16 = leb-true (length (c ∷ cs)) 16
        ((and_parts (nat_le 1 (length (c ∷ cs))) (nat_le (length (c ∷ cs)) 16) sizes.0).1) in
        let each = and_parts (is_name_byte c) (list_all is_name_byte cs) sizes.1 in
        let k : ℕ = 16 - length (c ∷ cs) in
        let left : padded_length cs k ≡ 15 = omega (arith, padded_length-is cs k) in
        let Q : ℕ → Type 0 = λ n. Spells (name_part true true n) (cs ++ replicate k 0) (cs ++ replicate k 0) in
        let R : Bool → Type 0 = λ zero. Spells (name_part (not zero) true 15) (cs ++ replicate k 0)
        (cs ++ replicate k 0) in
        byte_then-spells (begins true false) (behind 15) c (cs ++ replicate k 0)
        (or_left (is_name_byte c) false each.0) (subst R (sym (letter_is_not_zero c each.0))
        (subst Q left (letters_spell cs k each.1)))

-- a word of the format of names is a name
pub name-word : (word x : List ℕ) → Spells name word x → IsName word
unfolding name name_part
name-word [] x s = absurd (byte_then-none (begins true false) (behind 15) x s)
name-word (b ∷ bs) x s =
    let parts = byte_then-parts (begins true false) (behind 15) b bs x s in
    let letter : is_name_byte b ≡ true = elim (or_cases (is_name_byte b) false parts.0) [ inl h ↦ h | inr h ↦ cc ] in
    let P : Bool → Type 0 = λ zero. Spells (name_part (not zero) true 15) bs parts.1 in
    let rest = letters_word 15 bs parts.1 (subst P (letter_is_not_zero b letter) parts.2) in
    let text_of : List ℕ = b ∷ rest.0 in (
      text_of,
      and_from (nat_le 1 (length text_of) && nat_le (length text_of) 16) (list_all is_name_byte text_of)
          (and_from (nat_le 1 (length text_of)) (nat_le (length text_of) 16) (le-leb 1 (length text_of) (omega arith))
          (le-leb (length text_of) 16 (omega (arith, rest.2))))
          (and_from (is_name_byte b) (list_all is_name_byte rest.0) letter rest.1),
      ap (λ cs. b ∷ cs) (rest.3 ∙ ap (λ n. rest.0 ++ replicate n 0)
          (let r : 15 - length rest.0 ≡ 16 - suc (length rest.0) = omega arith in r)),
    )

-- what is read as a name is a name
pub name-read : (bs x : List ℕ) (at after : ℕ) → front name bs at ≡ Took x after → IsName x
name-read bs x at after e =
    let is = front-sound name bs at after x e in
    subst IsName (name-written is.0 x is.4) (name-word is.0 x is.4)

-- a name's text, without the zeros
name_text-padded : (t : List ℕ) (k : ℕ) → list_all is_name_byte t ≡ true → name_text (t ++ replicate k 0) ≡ t
name_text-padded [] zero all = refl
name_text-padded [] (suc k) all = refl
name_text-padded (c ∷ cs) k all =
    let parts = and_parts (is_name_byte c) (list_all is_name_byte cs) all in
    take_while-cons (λ b. not (b == 0)) c (cs ++ replicate k 0)
    ∙ ap (λ zero. cond (not zero) (c ∷ name_text (cs ++ replicate k 0)) []) (letter_is_not_zero c parts.0)
    ∙ ap (λ ds. c ∷ ds) (name_text-padded cs k parts.1)

-- a name's text is a name's text, and padding gives the name back
pub name_text-is : (bs : List ℕ) → IsName bs → IsTrue (is_name_text (name_text bs)) × (padded_name (name_text bs) ≡ bs)
name_text-is bs is =
    let all = and_parts (nat_le 1 (length is.0) && nat_le (length is.0) 16) (list_all is_name_byte is.0) is.1 in
    let same : name_text bs ≡ is.0 = ap name_text is.2 ∙ name_text-padded is.0 (16 - length is.0) all.1 in
    let P : List ℕ → Type 0 = λ t. IsTrue (is_name_text t) in
    (subst P (sym same) is.1, ap padded_name same ∙ sym is.2)

-- ---- lists

module _ {X : Type 0} where
  pub goes_on-repeated : (n : ℕ) (f : Format X) → GoesOn f → GoesOn (repeated n f)
  unfolding repeated
  goes_on-repeated zero f g = tt
  goes_on-repeated (suc n) f g = goes_on-then f (λ x. then_by (repeated n f) (λ xs. Done (x ∷ xs))) g
      (λ x. goes_on-then (repeated n f) (λ xs. Done (x ∷ xs)) (goes_on-repeated n f g) (λ xs. tt))

  pub repeated-nil : (f : Format X) → Spells (repeated 0 f) [] []
  unfolding repeated
  repeated-nil f = refl

  pub repeated-cons : (n : ℕ) (f : Format X) (one other : List ℕ) (x : X) (xs : List X) → Spells f one x
      → Spells (repeated n f) other xs → Spells (repeated (suc n) f) (one ++ other) (x ∷ xs)
  unfolding repeated
  repeated-cons n f one other x xs s t =
      let P : List ℕ → Type 0 = λ w. Spells (then_by (repeated n f) (λ ys. Done (x ∷ ys))) w (x ∷ xs) in
      spells_then f (λ y. then_by (repeated n f) (λ ys. Done (y ∷ ys))) one other x (x ∷ xs) s
      (subst P (append-nil other) (spells_then (repeated n f) (λ ys. Done (x ∷ ys)) other [] xs (x ∷ xs) t refl))

  -- reading so many words, and then so many more
  abbrev joined_after : List X → Result (Placed (List X)) ℕ → Result (Placed (List X)) ℕ
  joined_after xs (Ok more) = Ok (record { value = xs ++ more.value; after = more.after })
  joined_after xs (Err place) = Err place

  repeated-first : (n : ℕ) (f : Format X) (whole : List ℕ) (at : ℕ)
      → read_at (repeated (suc n) f) whole at
      ≡ (read_at f whole at >>= (λ x. joined_after (x.value ∷ []) (read_at (repeated n f) whole x.after)))
  unfolding repeated
  repeated-first n f whole at =
      read_at-then f (λ x. then_by (repeated n f) (λ xs. Done (x ∷ xs))) whole at ∙ on (read_at f whole at)
    where
      last : (x : X) (r : Result (Placed (List X)) ℕ) → (r >>= (λ xs. read_at (Done (x ∷ xs.value)) whole xs.after))
          ≡ joined_after (x ∷ []) r
      last x (Ok xs) = read_at-done (x ∷ xs.value) whole xs.after
      last x (Err place) = refl

      on : (r : Result (Placed X) ℕ)
          → (r >>= (λ x. read_at (then_by (repeated n f) (λ xs. Done (x.value ∷ xs))) whole x.after))
          ≡ (r >>= (λ x. joined_after (x.value ∷ []) (read_at (repeated n f) whole x.after)))
      on (Ok x) = read_at-then (repeated n f) (λ xs. Done (x.value ∷ xs)) whole x.after ∙ last x.value
          (read_at (repeated n f) whole x.after)
      on (Err place) = refl

-- ---- labels

-- so many digests end the bytes too early
pub digests-short : (n : ℕ) (whole : List ℕ) (at : ℕ) → ((i : ℕ) → get_or whole i 0 < 256) → at ≤ length whole
    → length whole < at + 32 * n
    → read_at (repeated n digest) whole at ≡ Err (length whole)
digests-short zero whole at small l more = absurd (omega arith)
digests-short (suc n) whole at small l more =
    repeated-first n digest whole at ∙ (elim (cases_lt (length whole) (at + 32)) [
      | inl short ↦ ap (λ r. r >>= (λ x. joined_after (x.value ∷ []) (read_at (repeated n digest) whole x.after)))
          (bytes-short 32 whole at small l short)
      | inr enough ↦ ap (λ r. r >>= (λ x. joined_after (x.value ∷ []) (read_at (repeated n digest) whole x.after)))
          (bytes-read 32 whole (take 32 (drop at whole)) at small enough refl)
          ∙ ap (joined_after (take 32 (drop at whole) ∷ [])) (digests-short n whole (at + 32) small enough
          (omega arith))
    ])
