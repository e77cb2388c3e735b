-- Bytes that come in pieces: what stands behind what was taken, and a chain of segments.
use Rattle.std.proofs.Common.{◌≡◌, ℕ, ◌+◌, ◌-◌, ◌<◌, ◌≤◌, List, [], ◌∷◌, ◌++◌, length, take, drop, ap, sym, ◌∙◌, subst}
use Rattle.std.proofs.Common.{arith, append_assoc, inl, inr, refl}
use Rattle.std.specs.Prelude.{Ok, Err}
use Rattle.std.proofs.lemmas.Bool.{cases_lt}
use Rattle.std.proofs.lemmas.List.{append-nil, length-append, length-drop, length-take-le, take_all, take-append-drop}
use Rattle.std.proofs.lemmas.List.{take-append-le}
use Rattle.std.proofs.Math.Seq.{take-add, take-append-add}
use Rattle.tw_base.specs.declared.kinds.failure.ReadFault.TheVariants.{Malformed}
use Rattle.tw_pieces.specs.declared.resumed.Resumed.{Resumed}
use Rattle.tw_base.specs.kinds.Bytes.{AreBytes}
use Rattle.tw_base.specs.format.Formats.{Format, GoesOn, IsFront, IsPlace, Spells, SpellsNothing, then_by}
use Rattle.tw_base.specs.format.Formats.Format.{Done, Byte}
use Rattle.tw_pieces.specs.Resuming.{GoesInPieces, IsSoFar, StandsBehind, StaysFront}
use Rattle.tw_base.proofs.lemmas.kinds.ByteLemmas.{AreBytes-append}
use Rattle.tw_base.proofs.lemmas.format.FormatLaws.{some_word, spells_then}

-- ---- what stands behind what was taken

module _ {X Y : Type 0} where
  then_onward : (f : Format X) (next : X → Format Y) (one rest : List ℕ) (x : X) (y : Y) → Spells f one x
      → Spells (then_by f next) (one ++ rest) y → Spells (next x) rest y
  then_onward (Done z) next [] rest x y s t = (let P : X → Type 0 = λ v. Spells (next v) rest y in subst P s t)
  then_onward (Done z) next (b ∷ bs) rest x y s t = absurd s
  then_onward (Byte test more) next [] rest x y s t = absurd s
  then_onward (Byte test more) next (b ∷ bs) rest x y s t = then_onward (more b) next bs rest x y s.1 t.1

  -- behind a word of the first field stands what follows its value
  pub behind-first : (f : Format X) (next : X → Format Y) (one : List ℕ) (x : X) → Spells f one x
      → StandsBehind (then_by f next) one (next x)
  behind-first f next one x s = record {
    onward = λ word y t. then_onward f next one word x y s t;
    back = λ word y t. spells_then f next one word x y s t;
  }

module _ {X : Type 0} where
  pub behind-nothing : (f : Format X) → StandsBehind f [] f
  behind-nothing f = record { onward = λ word x s. s; back = λ word x s. s }

  pub behind-behind : (whole mid rest : Format X) (one other : List ℕ) → StandsBehind whole one mid
      → StandsBehind mid other rest → StandsBehind whole (one ++ other) rest
  behind-behind whole mid rest one other b c = record {
    onward = λ word x s. (let P : List ℕ → Type 0 = λ w. Spells whole w x in
        c.onward word x (b.onward (other ++ word) x (subst P (append_assoc one other word) s)));
    back = λ word x s. (let P : List ℕ → Type 0 = λ w. Spells whole w x in subst P (sym (append_assoc one other word))
        (b.back (other ++ word) x (c.back word x s)));
  }

  module _ (whole rest : Format X) (taken : List ℕ) (b : StandsBehind whole taken rest) where
    pub behind-front : (held : List ℕ) → IsFront rest held → IsFront whole (taken ++ held)
    behind-front held f =
        let P : List ℕ → Type 0 = λ w. Spells whole w f.1 in
        (f.0, f.1, subst P (sym (append_assoc taken held f.0)) (b.back (held ++ f.0) f.1 f.2))

    pub front-behind : (held : List ℕ) → IsFront whole (taken ++ held) → IsFront rest held
    front-behind held f =
        let P : List ℕ → Type 0 = λ w. Spells whole w f.1 in
        (f.0, f.1, b.onward (held ++ f.0) f.1 (subst P (append_assoc taken held f.0) f.2))

    pub behind-spells_nothing : (held : List ℕ) → SpellsNothing rest held → SpellsNothing whole (taken ++ held)
    behind-spells_nothing held nothing x s = nothing x (b.onward held x s)

    pub behind-place : (held : List ℕ) (place : ℕ) → IsPlace rest held place → IsPlace whole (taken ++ held)
        (length taken + place)
    behind-place held place is =
        let P : List ℕ → Type 0 = IsFront whole in
        record {
          within = omega (arith, is.within, length-append taken held);
          good = subst P (sym (take-append-add taken held place)) (behind-front (take place held) is.good);
          longest = λ n l front. elim (cases_lt n (length taken)) [
            | inl less ↦ omega (arith, less)
            | inr more ↦ (
                let k : ℕ = n - length taken in
                let e : take n (taken ++ held) ≡ taken ++ take k held = ap (λ m. take m (taken ++ held))
                (let r : n ≡ length taken + (n - length taken) = omega (arith, more) in r) ∙ take-append-add taken held
                k in
                omega (
                  arith,
                  more,
                  is.longest k (omega (arith, l, length-append taken held))
                      (front-behind (take k held) (subst P e front)),
                ))
          ];
        }

-- ---- a front, and where it breaks

module _ {X : Type 0} (f : Format X) where
  -- a format that goes on has the front of no bytes
  pub starts : GoesOn f → StaysFront f [] 0
  starts g [] bytes none = (some_word f g, λ some. absurd (omega (arith, some)))
  starts g (b ∷ more) bytes none = let no = none (omega arith) in absurd (omega (arith, no))

  module _ (bytes more : List ℕ) (place : ℕ) (is : IsPlace f bytes place) (broken : place < length bytes) where
    no_front : (n : ℕ) → n ≤ length (bytes ++ more) → IsFront f (take n (bytes ++ more)) → n ≤ place
    no_front n l front =
        elim (cases_lt (length bytes) n) [
          | inr within ↦ (let P : List ℕ → Type 0 = IsFront f in
              is.longest n within (subst P (take-append-le n bytes more within) front))
          | inl past ↦ (
              let k : ℕ = n - length bytes in
              let e : take n (bytes ++ more) ≡ bytes ++ take k more = ap (λ m. take m (bytes ++ more))
              (let r : n ≡ length bytes + (n - length bytes) = omega (arith, past) in r) ∙ take-append-add bytes more
              k in
              let P : List ℕ → Type 0 = IsFront f in
              let Q : List ℕ → Type 0 = λ w. Spells f w front.1 in
              let whole : IsFront f bytes = (
                take k more ++ front.0,
                front.1,
                subst Q (ap (λ w. w ++ front.0) e ∙ append_assoc bytes (take k more) front.0) front.2,
              ) in
              let all = is.longest (length bytes) (omega arith)
              (subst P (sym (take_all (length bytes) bytes (omega arith))) whole) in
              absurd (omega (arith, all, broken)))
        ]

    -- what broke stays broken, whatever follows
    pub broken-more : SpellsNothing f (bytes ++ more) × IsPlace f (bytes ++ more) place
    broken-more =
        let P : List ℕ → Type 0 = IsFront f in
        let Q : X → List ℕ → Type 0 = λ x w. Spells f w x in (
          λ x s. (
              let all = no_front (length (bytes ++ more)) (omega arith)
              (subst P (sym (take_all (length (bytes ++ more)) (bytes ++ more) (omega arith)))
              ([], x, subst (Q x) (sym (append-nil (bytes ++ more))) s)) in
              absurd (omega (arith, all, broken, length-append bytes more))),
          record {
            within = omega (arith, broken, length-append bytes more);
            good = subst P (sym (take-append-le place bytes more (omega (arith, broken)))) is.good;
            longest = no_front;
          },
        )

  -- what broke is no word
  pub broken-spells_nothing : (bytes : List ℕ) (place : ℕ) → IsPlace f bytes place → place < length bytes
      → SpellsNothing f bytes
  broken-spells_nothing bytes place is broken = let P : List ℕ → Type 0 = SpellsNothing f in subst P (append-nil bytes)
      (broken-more bytes [] place is broken).0

-- ---- a chain of segments

module _ {S X : Type 0} (rest : S → Format X) (whole : Format X) where
  -- what was taken and is held, put together
  so_far-of : (r : Resumed S) (pieces taken held : List ℕ) → pieces ≡ taken ++ held → (state : S) → r.state ≡ state
      → r.held ≡ held → r.taken ≡ length taken → StandsBehind whole taken (rest state)
      → (until : ℕ) → r.until ≡ until → StaysFront (rest state) held until → IsSoFar rest whole r pieces
  so_far-of r pieces taken held are state is holds count behind until never stays =
      let P : S → Type 0 = λ s. StandsBehind whole taken (rest s) in
      let Q : S → Type 0 = λ s. StaysFront (rest s) r.held r.until in
      let R : List ℕ → Type 0 = λ w. StaysFront (rest state) w r.until in
      let T : ℕ → Type 0 = λ n. StaysFront (rest state) held n in
      record {
        taken = taken;
        are = are ∙ ap (λ w. taken ++ w) (sym holds);
        count = count;
        behind = subst P (sym is) behind;
        stays = subst Q (sym is) (subst R (sym holds) (subst T (sym never) stays));
      }

  -- the pieces are a front
  pub so_far-front : (r : Resumed S) (pieces : List ℕ) → IsSoFar rest whole r pieces → IsFront whole pieces
  so_far-front r pieces s =
      let P : List ℕ → Type 0 = IsFront whole in
      let Q : List ℕ → Type 0 = IsFront (rest r.state) in
      subst P (sym s.are) (behind-front whole (rest r.state) s.taken s.behind r.held
      (subst Q (append-nil r.held) (s.stays [] tt (λ more. absurd (omega (arith, more)))).0))

  -- a piece after which the segment can neither end nor break
  pub so_far-waits : (r next : Resumed S) (pieces piece : List ℕ) → next.state ≡ r.state → next.held ≡ r.held ++ piece
      → next.taken ≡ r.taken → next.until ≡ r.until
      → AreBytes piece → length (r.held ++ piece) < r.until → IsSoFar rest whole r pieces → GoesInPieces rest whole
      (pieces ++ piece) (Ok next)
  so_far-waits r next pieces piece state held taken until are few s = (all, so_far-front next (pieces ++ piece) all)
    where
      stays : StaysFront (rest r.state) (r.held ++ piece) r.until
      stays more bytes less =
          let same : (r.held ++ piece) ++ more ≡ r.held ++ (piece ++ more) = append_assoc r.held piece more in
          let P : List ℕ → Type 0 = λ held. IsFront (rest r.state) held
          × (0 < length held → SpellsNothing (rest r.state) held) in
          let short : length (r.held ++ (piece ++ more)) < r.until =
          elim (cases_lt 0 (length more)) [
            | inl some ↦ (let fewer = less some in omega (arith, fewer, ap length same))
            | inr none ↦ omega (arith, few, none, ap length same, length-append (r.held ++ piece) more)
          ] in
          subst P (sym same) (s.stays (piece ++ more) (AreBytes-append piece more are bytes) (λ _. short))

      all : IsSoFar rest whole next (pieces ++ piece)
      all = so_far-of next (pieces ++ piece) s.taken (r.held ++ piece) (ap (λ w. w ++ piece) s.are ∙ append_assoc
          s.taken r.held piece) r.state state held (taken ∙ s.count) s.behind r.until until stays

  module _ (first : Format X) (before held : List ℕ) (at count : ℕ) (state : S) (counts : count ≡ length before)
      (b : StandsBehind whole before first) (within : at ≤ length held)
      (taken : StandsBehind first (take at held) (rest state)) where
    mid : StandsBehind whole (before ++ take at held) (rest state)
    mid = behind-behind whole first (rest state) before (take at held) b taken

    joined_again : before ++ held ≡ (before ++ take at held) ++ drop at held
    joined_again = ap (λ w. before ++ w) (sym (take-append-drop at held))
        ∙ sym (append_assoc before (take at held) (drop at held))

    mid-size : count + at ≡ length (before ++ take at held)
    mid-size = omega (arith, counts, length-append before (take at held), length-take-le at held within)

    -- the segment at hand has a front
    pub settles-front : (next : Resumed S) (slice : List ℕ) → next.taken ≡ count + at → slice ≡ drop at held
        → next.held ≡ drop at held
        → (next.state ≡ state) × StaysFront (rest state) slice next.until → GoesInPieces rest whole (before ++ held)
        (Ok next)
    settles-front next slice stands is rest_is found = (all, so_far-front next (before ++ held) all)
      where
        all : IsSoFar rest whole next (before ++ held)
        all =
            let P : List ℕ → Type 0 = λ w. StaysFront (rest state) w next.until in
            so_far-of next (before ++ held) (before ++ take at held) (drop at held) joined_again state found.0 rest_is
            (stands ∙ mid-size) mid next.until refl (subst P is found.1)

    -- it breaks
    pub settles-broken : (slice : List ℕ) (place bad : ℕ) → bad ≡ count + (at + place) → slice ≡ drop at held
        → (place < length slice) × IsPlace (rest state) slice place
        → GoesInPieces rest whole (before ++ held) (Err (Malformed bad))
    settles-broken slice place bad stands is found =
        let P : List ℕ → Type 0 = λ w. IsPlace (rest state) w place in
        let Q : List ℕ → Type 0 = λ w. IsPlace whole w (length (before ++ take at held) + place) in
        let R : ℕ → Type 0 = λ n. IsPlace whole (before ++ held) n in
        let there = subst Q (sym joined_again) (behind-place whole (rest state) (before ++ take at held) mid
        (drop at held) place (subst P is found.1)) in (
          omega (arith, stands, counts, found.0, ap length is, length-drop at held, length-append before held, within),
          subst R (let r : length (before ++ take at held) + place ≡ bad = omega (arith, stands, mid-size) in r) there,
        )

    -- it ends
    pub settles-on : (next : Format X) (slice : List ℕ) (size : ℕ) → slice ≡ drop at held → (0 < size)
        × (size ≤ length slice) × StandsBehind (rest state) (take size slice) next
        → (at + size ≤ length held) × StandsBehind first (take (at + size) held) next
    settles-on next slice size is found =
        let P : List ℕ → Type 0 = λ w. StandsBehind (rest state) (take size w) next in
        let Q : List ℕ → Type 0 = λ w. StandsBehind first w next in (
          omega (arith, found.1, ap length is, length-drop at held, within),
          subst Q (sym (take-add at size held)) (behind-behind first (rest state) next (take at held)
              (take size (drop at held)) taken (subst P is found.2)),
        )

  -- ---- the end

  at_end : (pieces : List ℕ) (place : ℕ) → place ≡ length pieces → IsFront whole pieces → IsPlace whole pieces place
  at_end pieces place e f =
      let P : List ℕ → Type 0 = IsFront whole in
      record {
        within = omega (arith, e);
        good = subst P (sym (take_all place pieces (omega (arith, e)))) f;
        longest = λ n l _. omega (arith, e, l);
      }

  module _ (r : Resumed S) (pieces : List ℕ) (s : IsSoFar rest whole r pieces) where
    ends-short : (place : ℕ) → place ≡ r.taken + length r.held → SpellsNothing (rest r.state) r.held
        → SpellsNothing whole pieces × IsPlace whole pieces place
    ends-short place e nothing =
        let P : List ℕ → Type 0 = SpellsNothing whole in (
          subst P (sym s.are) (behind-spells_nothing whole (rest r.state) s.taken s.behind r.held nothing),
          at_end pieces place (omega (arith, e, ap length s.are, length-append s.taken r.held, s.count))
              (so_far-front r pieces s),
        )

    -- within a segment
    pub ends-held : (place : ℕ) → place ≡ r.taken + length r.held → 0 < length r.held → SpellsNothing whole pieces
        × IsPlace whole pieces place
    ends-held place e some =
        let P : List ℕ → Type 0 = λ w. 0 < length w → SpellsNothing (rest r.state) w in
        ends-short place e (subst P (append-nil r.held) (s.stays [] tt (λ more. absurd (omega (arith, more)))).1 some)

    nil : (xs : List ℕ) → length xs ≤ 0 → xs ≡ []
    nil [] l = refl
    nil (x ∷ xs) l = absurd (omega (arith, l))

    -- between segments
    pub ends-between : (place : ℕ) → place ≡ r.taken + length r.held → length r.held ≤ 0 → SpellsNothing (rest r.state)
        [] → SpellsNothing whole pieces × IsPlace whole pieces place
    ends-between place e none nothing = let P : List ℕ → Type 0 = SpellsNothing (rest r.state) in
        ends-short place e (subst P (sym (nil r.held none)) nothing)
