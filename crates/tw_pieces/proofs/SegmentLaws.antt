-- What a reader of one codec finds in the bytes that are held of a segment, and chains of fields as chains of segments.
use Rattle.std.proofs.Common.{◌≡◌, ℕ, suc, zero, ◌+◌, ◌-◌, ◌*◌, ◌<◌, ◌≤◌, List, [], ◌∷◌, ◌++◌, length, replicate, take}
use Rattle.std.proofs.Common.{drop, ap, sym, ◌∙◌, subst, append_assoc, arith, lit<, refl, inl, inr}
use Rattle.std.specs.Prelude.{true, false, Option, Some, None, Result, Ok, Err}
use Rattle.std.proofs.lemmas.List.{append-nil, length-append, length-drop, length-replicate, length-take-le}
use Rattle.std.proofs.lemmas.List.{take-append-drop, take_all, take_at}
use Rattle.std.proofs.lemmas.Bool.{cases_lt}
use Rattle.tw_base.specs.declared.kinds.failure.NoMemory.{NoMemory as WantOfMemory}
use Rattle.tw_base.specs.declared.kinds.failure.ReadFault.{ReadFault}
use Rattle.tw_base.specs.declared.kinds.failure.ReadFault.TheVariants.{Malformed, NoMemory}
use Rattle.tw_pieces.specs.declared.segments.Attempt.{Attempt}
use Rattle.tw_pieces.specs.declared.segments.Attempt.TheVariants.{Ended}
use Rattle.tw_base.specs.kinds.Bytes.{AreBytes}
use Rattle.tw_base.specs.kinds.Lists.{Each}
use Rattle.tw_base.specs.kinds.Texts.{joined}
use Rattle.tw_base.specs.format.Codecs.{Codec, HasBytes, behind, by_kind, each_format, many, nothing, optional, pair}
use Rattle.tw_base.specs.format.Codecs.{present, seen, text_codec, variant}
use Rattle.tw_base.specs.format.Fields.{repeated, text}
use Rattle.tw_base.specs.format.Formats.{Format, GoesOn, IsFront, IsPlace, Spells, SpellsNothing, read_at, then_by}
use Rattle.tw_base.specs.format.Formats.{◌>>=◌}
use Rattle.tw_base.specs.format.Formats.Format.{Done, Byte}
use Rattle.tw_pieces.specs.Resuming.{Attempts, Misses, StandsBehind, StaysFront}
use Rattle.tw_base.specs.format.Taking.{Takes}
use Rattle.tw_base.proofs.lemmas.format.CodecLaws.{Lawful, goes-then}
use Rattle.tw_base.proofs.lemmas.kinds.ByteLemmas.{AreBytes-append, AreBytes-drop, AreBytes-take}
use Rattle.tw_base.proofs.lemmas.format.FormatLaws.{no_longer_word, read_at-spells, read_at-then, some_word}
use Rattle.tw_base.proofs.lemmas.format.FormatLaws.{spells_then, then_spells, whole-stops}
use Rattle.tw_pieces.proofs.PieceLaws.{behind-first, behind-front, behind-spells_nothing}

module _ {X Z : Type 0} (c : Codec X) (l : Lawful c) (next : X → Format Z) where
  pub segment-ended : ((x : X) → c.Fits x → 0 < length (c.write x)) → (held : List ℕ) (after : ℕ) (x : X)
      → c.read held 0 ≡ Ok (record { value = x; after = after })
      → (0 < after) × (after ≤ length held) × StandsBehind (then_by c.format next) (take after held) (next x)
  segment-ended some held after x e =
      let is = read_at-spells c.format held 0 after x (l.reads held 0 ∙ e) in
      let same : held ≡ is.0 ++ is.1 = is.2 in
      let end : length is.0 ≡ after = omega (arith, is.3) in
      let word : is.0 ≡ take after held = sym (take_at is.0 is.1 after end) ∙ ap (take after) (sym same) in
      let written = l.words is.0 x is.4 in
      let P : List ℕ → Type 0 = λ w. StandsBehind (then_by c.format next) w (next x) in (
        omega (arith, end, ap length written.0, some x written.1),
        omega (arith, end, ap length same, length-append is.0 is.1),
        subst P word (behind-first c.format next is.0 x is.4),
      )

  module _ (goes : (x : X) → c.Fits x → GoesOn (next x)) (held : List ℕ) (place : ℕ)
      (e : c.read held 0 ≡ Err place) where
    stops : SpellsNothing (then_by c.format next) held × IsPlace (then_by c.format next) held place
    stops =
        whole-stops (then_by c.format next) (goes-then c.format next l.goes (λ word x s. goes x (l.words word x s).1))
        held place
        (read_at-then c.format next held 0 ∙ ap (λ r. r >>= (λ x. read_at (next x.value) held x.after))
        (l.reads held 0 ∙ e))

    pub segment-broken : place < length held → (place < length held) × IsPlace (then_by c.format next) held place
    segment-broken less = (less, stops.1)

    pub segment-front : length held ≤ place → StaysFront (then_by c.format next) held 0
    segment-front all more bytes none =
        let P : List ℕ → Type 0 = IsFront (then_by c.format next) in
        let Q : List ℕ → Type 0 = λ w. IsFront (then_by c.format next) w
        × (0 < length w → SpellsNothing (then_by c.format next) w) in
        let nothing_more : more ≡ [] = nil more none in
        subst Q (sym (ap (λ w. held ++ w) nothing_more ∙ append-nil held))
        (subst P (take_all place held all) stops.1.good, λ some. stops.0)
      where
        nil : (xs : List ℕ) → (0 < length xs → length (held ++ xs) < 0) → xs ≡ []
        nil [] h = refl
        nil (x ∷ xs) h = let no = h (omega arith) in absurd (omega (arith, no))

-- a value has a byte or more where no bytes are no word
module _ {X : Type 0} (c : Codec X) (l : Lawful c) (nothing : SpellsNothing c.format []) where
  pub some-bytes : (x : X) → c.Fits x → 0 < length (c.write x)
  some-bytes x fits = by (c.write x) (l.spells x fits)
    where
      by : (word : List ℕ) → Spells c.format word x → 0 < length word
      by [] s = absurd (nothing x s)
      by (b ∷ word) s = omega arith

-- a segment that has a byte or more ended
module _ {S X Z : Type 0} (rest : S → Format Z) (c : Codec X) (l : Lawful c) (next : X → Format Z)
    (nothing : SpellsNothing c.format []) where
  pub attempts-ended : (s n : S) (held : List ℕ) (after : ℕ) (x : X) → rest s ≡ then_by c.format next → next x ≡ rest n
      → c.read held 0 ≡ Ok (record { value = x; after = after }) → Attempts rest s held (Ok (Ended n after))
  attempts-ended s n held after x is onward e =
      let found = segment-ended c l next (some-bytes c l nothing) held after x e in
      let P : Format Z → Type 0 = λ f. StandsBehind f (take after held) (rest n) in
      let Q : Format Z → Type 0 = λ f. StandsBehind (then_by c.format next) (take after held) f in
      (found.0, found.1, subst P (sym is) (subst Q onward found.2))

-- a reader of the segment at hand failed
module _ {S X Y Z : Type 0} (rest : S → Format Z) (c : Codec X) (l : Lawful c) (next : X → Format Z)
    (goes : (x : X) → c.Fits x → GoesOn (next x)) (view : Y → X) where
  pub attempts-missed : (s : S) (held : List ℕ) (after : ℕ) (fault : ReadFault)
      (result : Result (Attempt S) WantOfMemory) → rest s ≡ then_by c.format next
      → Takes c view held 0 after (Err fault) → Misses s held fault result → Attempts rest s held result
  attempts-missed s held after NoMemory result is e misses = let P : Result (Attempt S) WantOfMemory → Type 0 =
      Attempts rest s held in subst P (sym misses.1) tt
  attempts-missed s held after (Malformed place) result is e misses =
      let P : Result (Attempt S) WantOfMemory → Type 0 = Attempts rest s held in
      let Q : Format Z → Type 0 = λ f. (place < length held) × IsPlace f held place in
      let R : Format Z → Type 0 = λ f. StaysFront f held 0 in
      elim (cases_lt place (length held)) [
        | inl less ↦ subst P (sym (misses.0 less)) (subst Q (sym is) (segment-broken c l next goes held place e less))
        | inr all ↦ subst P (sym (misses.1 all)) (refl, subst R (sym is) (segment-front c l next goes held place e all))
      ]

-- ---- segments of so many bytes, whatever they are

pub record TakesAny {X : Type 0} (f : Format X) (n : ℕ) : Type 0 where
  pub any : (word : List ℕ) → AreBytes word → length word ≡ n → (x : X) × Spells f word x
  pub size : (word : List ℕ) (x : X) → Spells f word x → length word ≡ n

AreBytes-zeros : (n : ℕ) → AreBytes (replicate n 0)
AreBytes-zeros zero = tt
AreBytes-zeros (suc n) = (lit< tt, AreBytes-zeros n)

module _ {X Z : Type 0} (f : Format X) (next : X → Format Z) (n : ℕ) (t : TakesAny f n)
    (goes : (x : X) → GoesOn (next x)) where
  joined_front : (word zeros more : List ℕ) (z : Z) → Spells (then_by f next) ((word ++ zeros) ++ more) z
      → IsFront (then_by f next) word
  joined_front word zeros more z s = let P : List ℕ → Type 0 = λ w. Spells (then_by f next) w z in
      (zeros ++ more, z, subst P (append_assoc word zeros more) s)

  any-front : (word : List ℕ) → AreBytes word → length word ≤ n → IsFront (then_by f next) word
  any-front word are few =
      let zeros : List ℕ = replicate (n - length word) 0 in
      let full = t.any (word ++ zeros) (AreBytes-append word zeros are (AreBytes-zeros (n - length word)))
      (omega (arith, few, length-append word zeros, length-replicate {A = ℕ} (n - length word) 0)) in
      let last = some_word (next full.0) (goes full.0) in
      joined_front word zeros last.0 last.1 (spells_then f next (word ++ zeros) last.0 full.0 last.1 full.1 last.2)

  pub any-nothing : (word : List ℕ) → length word < n → SpellsNothing (then_by f next) word
  any-nothing word few z s =
      let parts = then_spells f next word z s in
      absurd (omega (arith, few, t.size parts.0 parts.2 parts.4, ap length parts.3, length-append parts.0 parts.1))

  -- until they are so many, they are a front, and no word
  pub any-stays : (held : List ℕ) → AreBytes held → length held < n → StaysFront (then_by f next) held n
  any-stays held are few more bytes short =
      let all : length (held ++ more) < n =
      elim (cases_lt 0 (length more))
      [ inl some ↦ short some | inr none ↦ omega (arith, few, none, length-append held more) ] in (
        any-front (held ++ more) (AreBytes-append held more are bytes) (omega (arith, all)),
        λ some. any-nothing (held ++ more) all,
      )

-- until it ends, a field that stays a front does so whatever follows it
module _ {X Z : Type 0} (f : Format X) (next : X → Format Z) (goes : (word : List ℕ) (x : X) → Spells f word x
    → GoesOn (next x)) where
  front-then : (word : List ℕ) → IsFront f word → IsFront (then_by f next) word
  front-then word front =
      let last = some_word (next front.1) (goes (word ++ front.0) front.1 front.2) in
      let P : List ℕ → Type 0 = λ w. Spells (then_by f next) w last.1 in (
        front.0 ++ last.0,
        last.1,
        subst P (append_assoc word front.0 last.0) (spells_then f next (word ++ front.0) last.0 front.1 last.1 front.2
            last.2),
      )

  nothing-then : (word : List ℕ) → IsFront f word → SpellsNothing f word → SpellsNothing (then_by f next) word
  nothing-then word front nothing z s =
      let parts = then_spells f next word z s in
      let P : List ℕ → Type 0 = λ w. Spells f w front.1 in
      let whole : Spells f (parts.0 ++ (parts.1 ++ front.0)) front.1 =
      subst P (ap (λ w. w ++ front.0) parts.3 ∙ append_assoc parts.0 parts.1 front.0) front.2 in
      let none : length (parts.1 ++ front.0) ≡ 0 = ap length (no_longer_word f parts.0 (parts.1 ++ front.0) parts.2
      front.1 parts.4 whole) in
      let Q : List ℕ → Type 0 = λ w. Spells f w parts.2 in
      nothing parts.2
      (subst Q (sym (parts.3 ∙ ap (λ w. parts.0 ++ w) (nil parts.1 (omega (arith, none, length-append parts.1 front.0)))
      ∙ append-nil parts.0)) parts.4)
    where
      nil : (xs : List ℕ) → length xs ≡ 0 → xs ≡ []
      nil [] e = refl
      nil (x ∷ xs) e = absurd (omega (arith, e))

  pub stays-then : (held : List ℕ) (until : ℕ) → StaysFront f held until → StaysFront (then_by f next) held until
  stays-then held until s more are short =
      let found = s more are short in
      (front-then (held ++ more) found.0, λ some. nothing-then (held ++ more) found.0 (found.1 some))

-- behind bytes that were taken stand bytes that stay a front
pub stays-behind : {X : Type 0} (whole rest : Format X) (held : List ℕ) (after until : ℕ) → after ≤ length held
    → StandsBehind whole (take after held) rest → SpellsNothing rest []
    → StaysFront rest (drop after held) until → StaysFront whole held (after + until)
stays-behind whole rest held after until within b nothing s more are short =
    let cut : held ++ more ≡ take after held ++ (drop after held ++ more) =
    ap (λ w. w ++ more) (sym (take-append-drop after held)) ∙ append_assoc (take after held) (drop after held) more in
    let inner =
    s more are
    (λ some. omega
    (arith, short some, within, length-drop after held, length-append held more, length-append (drop after held) more))
    in
    let P : List ℕ → Type 0 = IsFront whole in
    let Q : List ℕ → Type 0 = SpellsNothing whole in (
      subst P (sym cut) (behind-front whole rest (take after held) b (drop after held ++ more) inner.0),
      λ some. subst Q (sym cut) (behind-spells_nothing whole rest (take after held) b (drop after held ++ more)
          (none (drop after held ++ more) inner.1)),
    )
  where
    none : (w : List ℕ) → (0 < length w → SpellsNothing rest w) → SpellsNothing rest w
    none [] h = nothing
    none (b ∷ w) h = h (omega arith)

-- a field that tells how many bytes of any kind follow it was taken: until they are there, the bytes are a front
module _ {X Y Z : Type 0} (c : Codec X) (l : Lawful c) (nothing : SpellsNothing c.format []) (f : X → Format Y)
    (n : X → ℕ) (t : (x : X) → TakesAny (f x) (n x)) (next : X → Y → Format Z)
    (goes : (x : X) (y : Y) → GoesOn (next x y)) where
  pub sized-stays : (held : List ℕ) (after : ℕ) (x : X) → AreBytes held
      → c.read held 0 ≡ Ok (record { value = x; after = after }) → length held < after + n x
      → StaysFront (then_by c.format (λ x. then_by (f x) (next x))) held (after + n x)
  sized-stays held after x are e short =
      let found = segment-ended c l (λ x. then_by (f x) (next x)) (some-bytes c l nothing) held after x e in
      let left : length (drop after held) < n x = omega (arith, short, length-drop after held, found.1) in
      stays-behind (then_by c.format (λ x. then_by (f x) (next x))) (then_by (f x) (next x)) held after (n x) found.1
      found.2
      (any-nothing (f x) (next x) (n x) (t x) (goes x) [] (omega (arith, left)))
      (any-stays (f x) (next x) (n x) (t x) (goes x) (drop after held) (AreBytes-drop after held are) left)

-- ---- lists of digests

-- any bytes of the size are so many labels
pub labels-any : (n : ℕ) (bytes : List ℕ) → AreBytes bytes → length bytes ≡ 32 * n → (ls : List (List ℕ))
    × (joined ls ≡ bytes) × (length ls ≡ n) × Each (HasBytes 32) ls
labels-any zero [] are e = ([], refl, refl, tt)
labels-any zero (b ∷ bytes) are e = absurd (omega (arith, e))
labels-any (suc n) bytes are e =
    let rest = labels-any n (drop 32 bytes) (AreBytes-drop 32 bytes are) (omega (arith, e, length-drop 32 bytes)) in (
      take 32 bytes ∷ rest.0,
      ap (λ w. take 32 bytes ++ w) rest.1 ∙ take-append-drop 32 bytes,
      ap suc rest.2,
      ((length-take-le 32 bytes (omega (arith, e)), AreBytes-take 32 bytes are), rest.3),
    )

-- ---- chains of fields

module _ {X Y Z : Type 0} where
  pub then_assoc : (f : Format X) (g : X → Format Y) (h : Y → Format Z) → then_by (then_by f g) h ≡ then_by f
      (λ x. then_by (g x) h)
  then_assoc (Done x) g h = refl
  then_assoc (Byte test more) g h = λ k. Byte test (λ b. then_assoc (more b) g h k)

module _ {X Y Z : Type 0} where
  pub then_pair : (c : Codec X) (next : X → Codec Y) (h : (X × Y) → Format Z) → then_by (pair c next).format h ≡ then_by
      c.format (λ x. then_by (next x).format (λ y. h (x, y)))
  unfolding pair
  then_pair c next h =
      then_assoc c.format (λ x. then_by (next x).format (λ y. Done (x, y))) h
      ∙ (λ k. then_by c.format (λ x. then_assoc (next x).format (λ y. Done (x, y)) h k))

module _ {X Y Z : Type 0} where
  pub then_seen : (to : X → Y) (from : Y → X) (c : Codec X) (h : Y → Format Z) → then_by (seen to from c).format h
      ≡ then_by c.format (λ x. h (to x))
  unfolding seen
  then_seen to from c h = then_assoc c.format (λ x. Done (to x)) h

  pub then_variant : (to : X → Y) (fields : Y → Option X) (c : Codec X) (h : Y → Format Z)
      → then_by (variant to fields c).format h ≡ then_by c.format (λ x. h (to x))
  unfolding variant
  then_variant to fields c h = then_assoc c.format (λ x. Done (to x)) h

  pub then_kind : (kind_of : Y → X) (c : Codec X) (next : X → Codec Y) (h : Y → Format Z)
      → then_by (by_kind kind_of c next).format h ≡ then_by c.format (λ x. then_by (next x).format h)
  unfolding by_kind
  then_kind kind_of c next h = then_assoc c.format (λ x. (next x).format) h

module _ {X Z : Type 0} where
  pub then_behind : (magic : List ℕ) (c : Codec X) (h : X → Format Z) → then_by (behind magic c).format h ≡ then_by
      (text_codec magic).format (λ t. then_by c.format h)
  unfolding behind text_codec
  then_behind magic c h = then_assoc (text magic) (λ t. c.format) h

  pub then_present : (c : Codec X) (h : Option X → Format Z) → then_by (optional true c).format h ≡ then_by c.format
      (λ x. h (Some x))
  unfolding present
  then_present c h = then_assoc c.format (λ x. Done (Some x)) h

  pub then_absent : (c : Codec X) (h : Option X → Format Z) → then_by (optional false c).format h ≡ h None
  unfolding nothing
  then_absent c h = refl

  pub then_many : (n : ℕ) (c : Codec X) (h : List X → Format Z)
      → then_by (many (suc n) c).format h ≡ then_by c.format (λ x. then_by (many n c).format (λ xs. h (x ∷ xs)))
  unfolding many repeated
  then_many n c h =
      then_assoc c.format (λ x. then_by (repeated n c.format) (λ xs. Done (x ∷ xs))) h
      ∙ (λ k. then_by c.format (λ x. then_assoc (repeated n c.format) (λ xs. Done (x ∷ xs)) h k))

  pub then_none : (c : Codec X) (h : List X → Format Z) → then_by (many 0 c).format h ≡ h []
  unfolding many repeated
  then_none c h = refl

module _ {A X Z : Type 0} (write : X → List ℕ) (f : A → Codec X) where
  pub then_each : (a : A) (rest : List A) (h : List X → Format Z)
      → then_by (each_format write f (a ∷ rest)) h ≡ then_by (f a).format (λ x. then_by (each_format write f rest)
      (λ xs. h (x ∷ xs)))
  then_each a rest h =
      then_assoc (f a).format (λ x. then_by (each_format write f rest) (λ xs. Done (x ∷ xs))) h
      ∙ (λ k. then_by (f a).format (λ x. then_assoc (each_format write f rest) (λ xs. Done (x ∷ xs)) h k))
