-- First bytes at which no word of a format goes on: what comes behind them changes nothing.
use Rattle.std.proofs.Common.{◌≡◌, ℕ, ◌+◌, ◌-◌, ◌<◌, List, [], ◌++◌, length, take, drop, ap, sym, ◌∙◌, subst, arith}
use Rattle.std.proofs.Common.{append_assoc, inl, inr, ◌⊎◌}
use Rattle.std.proofs.lemmas.Bool.{cases_lt}
use Rattle.std.proofs.lemmas.List.{append-nil, length-append, length-take-le, take-append-drop, take-append-le}
use Rattle.std.proofs.lemmas.List.{take_all}
use Rattle.std.proofs.Math.Seq.{take-append-add}
use Rattle.tw_base.specs.format.Formats.{Format, IsFront, IsPlace, Spells, SpellsNothing}

-- of a file more than what was read up to a limit isn't there, where that is less than the limit
pub whole_below : (limit : ℕ) (all bytes : List ℕ) → all ≡ take limit bytes → length all < limit → all ≡ bytes
whole_below limit all bytes is below = elim (cases_lt limit (length bytes)) [
  | inl longer ↦
      let size : length (take limit bytes) ≡ limit = length-take-le limit bytes (omega arith) in
      absurd (omega (arith, ap length is, size, below))
  | inr fits ↦ is ∙ take_all limit bytes fits
]

module _ {X : Type 0} (layout : Format X) where
  module _ (front more : List ℕ) (broken : IsFront layout front → ⊥) where
    longer : (tail : List ℕ) → IsFront layout (front ++ tail) → ⊥
    longer tail is =
        let Of : List ℕ → Type 0 = λ word. Spells layout word is.1 in
        broken (tail ++ is.0, is.1, subst Of (append_assoc front tail is.0) is.2)

    pub nothing_here : SpellsNothing layout front
    nothing_here x spelled = broken ([], x, subst (λ word. Spells layout word x) (sym (append-nil front)) spelled)

    pub nothing_behind : SpellsNothing layout (front ++ more)
    nothing_behind x spelled = broken (more, x, spelled)

    pub place_behind : (place : ℕ) → IsPlace layout front place → IsPlace layout (front ++ more) place
    place_behind place is = record {
      within = omega (arith, is.within, length-append front more);
      good = subst (IsFront layout) (sym (take-append-le place front more is.within)) is.good;
      longest = λ n within of_n. elim (cases_lt (length front) n) [
        | inl above ↦
            let k : ℕ = n - length front in
            let size : n ≡ length front + k = omega (arith, above) in
            let split : take n (front ++ more) ≡ front ++ take k more =
            ap (λ m. take m (front ++ more)) size ∙ take-append-add front more k in
            absurd (longer (take k more) (subst (IsFront layout) split of_n))
        | inr below ↦ is.longest n below (subst (IsFront layout) (take-append-le n front more below) of_n)
      ];
    }

  -- the words of the format have fewer bytes than the limit up to which a file is read
  module _ (limit : ℕ) (short : (word : List ℕ) (x : X) → Spells layout word x → length word < limit)
      (all bytes : List ℕ) (read : all ≡ take limit bytes) where
    -- all was read, or no word goes on at what was
    pub whole_or_broken : (all ≡ bytes) ⊎ ((IsFront layout all → ⊥) × (all ++ drop limit bytes ≡ bytes))
    whole_or_broken = elim (cases_lt limit (length bytes)) [
      | inl longer ↦
          let size : length all ≡ limit = ap length read ∙ length-take-le limit bytes (omega (arith, longer)) in
          let broken : IsFront layout all → ⊥ = λ is. let few = short (all ++ is.0) is.1 is.2 in
          omega (arith, few, size, length-append all is.0) in
          let split : all ++ drop limit bytes ≡ bytes = ap (λ first. first ++ drop limit bytes) read ∙ take-append-drop
          limit bytes in
          inr (broken, split)
      | inr fits ↦ inl (read ∙ take_all limit bytes fits)
    ]

    -- what was read is a word, and so all of the file
    pub word_is_whole : (x : X) → Spells layout all x → all ≡ bytes
    word_is_whole x spelled = whole_below limit all bytes read (short all x spelled)

    -- it is none, and so the file is none
    pub none_is_none : (place : ℕ) → SpellsNothing layout all → IsPlace layout all place → SpellsNothing layout bytes
        × IsPlace layout bytes place
    none_is_none place nothing is = elim whole_or_broken [
      | inl whole ↦ subst (λ b. SpellsNothing layout b × IsPlace layout b place) whole (nothing, is)
      | inr stops ↦
          let more : List ℕ = drop limit bytes in
          subst (λ b. SpellsNothing layout b × IsPlace layout b place) stops.1
          (nothing_behind all more stops.0, place_behind all more stops.0 place is)
    ]
