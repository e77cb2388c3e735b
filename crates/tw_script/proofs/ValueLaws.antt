-- Words are taken as values, one after another.
use Rattle.std.proofs.Common.{◌≡◌, ℕ, List, [], ◌∷◌, ◌++◌, Option, Some, None, option_map, Err, ap, sym, ◌∙◌, refl}
use Rattle.std.proofs.Common.{append-nil, append_assoc}
use Rattle.tw_script.specs.LineForms.{all_values}
use Rattle.tw_script.specs.Takings.{ReadsWords}
use Rattle.tw_script.specs.declared.stop.Stop.{Stop}
use Rattle.tw_script.specs.declared.stop.Stop.TheVariants.{NotAllowed, NoMemory}

module _ {V : Type 0} where
  -- values that were taken, and then those of the rest
  abbrev pub behind : List V → Option (List V) → Option (List V)
  behind values more = option_map (λ rest. values ++ rest) more

  behind-one : (values : List V) (v : V) (more : Option (List V)) → behind values (option_map (λ rest. v ∷ rest) more)
      ≡ behind (values ++ v ∷ []) more
  behind-one values v (Some rest) = ap (λ (vs : List V). Some vs) (sym (append_assoc values (v ∷ []) rest))
  behind-one values v None = refl

module _ {V : Type 0} (part : List ℕ → Option V) where
  -- so many of all words are taken, as these values, and these are left
  pub record AreTaken (all left : List (List ℕ)) (values : List V) : Type 0 where
    pub are : all_values part all ≡ behind values (all_values part left)

  -- where a word is the first of those that are left
  module _ {all words left : List (List ℕ)} {values : List V} {word : List ℕ} (before : AreTaken all words values)
      (is : words ≡ word ∷ left) where
    now : all_values part all ≡ behind values (all_values part (word ∷ left))
    now = before.are ∙ ap (λ (ws : List (List ℕ)). behind values (all_values part ws)) is

    pub more-taken : (v : V) → part word ≡ Some v → AreTaken all left (values ++ v ∷ [])
    unfolding all_values
    more-taken v some = record { are = now ∙ rw some (behind-one values v (all_values part left)) }

    pub taken-stops : part word ≡ None → all_values part all ≡ None
    unfolding all_values
    taken-stops none = now ∙ rw none refl

    pub stop-taken : {Y Z : Type 0} (view : Y → V) (views : Z → List V) (stop : Stop)
        → ReadsWords (part word) view (Err stop) → ReadsWords (all_values part all) views (Err stop)
    stop-taken view views NotAllowed none = taken-stops none
    stop-taken view views NoMemory free = tt

  pub all-taken : {all words : List (List ℕ)} {values : List V} → AreTaken all words values → words ≡ []
      → all_values part all ≡ Some values
  unfolding all_values
  all-taken {values = values} before none =
      before.are ∙ ap (λ (ws : List (List ℕ)). behind values (all_values part ws)) none
      ∙ ap (λ (vs : List V). Some vs) (append-nil values)
