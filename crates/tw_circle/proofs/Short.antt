-- Histories without steps have no ring: their texts are shorter than a digest.
use Rattle.std.proofs.Common.{◌≡◌, ℕ, ◌≤◌, List, [], ◌∷◌, ◌++◌, length, ap, refl, subst, arith}
use Rattle.std.proofs.Common.{inl, inr}
use Rattle.std.proofs.lemmas.List.{length-append}
use Rattle.tw_base.specs.history.Family.{AllSound, family_texts}
use Rattle.tw_base.specs.history.History.{History}
use Rattle.tw_base.specs.history.HistoryTexts.{history_texts, texts_to}
use Rattle.tw_base.specs.history.Sound.{IsSound}
use Rattle.tw_base.specs.kinds.Clash.{Among}
use Rattle.tw_base.specs.kinds.Lists.{Each}
use Rattle.tw_base.specs.kinds.Texts.{empty_tree_text, genesis_text}
use Rattle.tw_base.proofs.lemmas.kinds.Naming.{IsName-size}
use Rattle.tw_circle.specs.Rings.{HasRing, HoldInTurn, Holds, IsRing}

-- each of the texts has 17 bytes at most
abbrev AreShort : List (List ℕ) → Type 0
AreShort texts = (text : List ℕ) → Among text texts → length text ≤ 17

joined_short : (xs ys : List (List ℕ)) → AreShort xs → AreShort ys → AreShort (xs ++ ys)
joined_short [] ys p q text a = q text a
joined_short (x ∷ xs) ys p q text (inl e) = p text (inl e)
joined_short (x ∷ xs) ys p q text (inr a) = joined_short xs ys (λ t b. p t (inr b)) q text a

module _ (dig : List ℕ → List ℕ) (size : (text : List ℕ) → length (dig text) ≡ 32) where
  first_short : (h : History) → IsSound h → AreShort (texts_to dig h 0)
  unfolding texts_to genesis_text empty_tree_text
  first_short h sound text (inl e) = omega (arith, ap length e, IsName-size h.name sound.name)
  first_short h sound text (inr (inl e)) = omega (arith, ap length e)
  first_short h sound text (inr (inr never)) = absurd never

  history-short : (h : History) → IsSound h → h.steps ≡ [] → AreShort (history_texts dig h)
  unfolding history_texts
  history-short h sound none = subst (λ n. AreShort (texts_to dig h n)) (let e : 0 ≡ length h.steps =
      omega (arith, ap length none) in e) (first_short h sound)

  family-short : (family : List History) → AllSound family → Each (λ (h : History). h.steps ≡ []) family
      → AreShort (family_texts dig family)
  family-short [] sound none = λ text a. absurd a
  family-short (h ∷ family) sound none = joined_short (history_texts dig h) (family_texts dig family)
      (history-short h sound.0 none.0) (family-short family sound.1 none.1)

  held-long : (text other : List ℕ) → Holds text (dig other) → 32 ≤ length text
  held-long text other h = omega (
    arith,
    ap length h.2,
    length-append h.0 (dig other ++ h.1),
    length-append (dig other) h.1,
    size other,
  )

  first-long : (text : List ℕ) (behind : List (List ℕ)) (goal : List ℕ) → HoldInTurn dig text behind goal
      → 32 ≤ length text
  first-long text [] goal holds = held-long text goal holds
  first-long text (next ∷ behind) goal holds = held-long text next holds.0

  pub no-ring : (family : List History) → AllSound family → Each (λ (h : History). h.steps ≡ []) family
      → HasRing dig (family_texts dig family) → ⊥
  no-ring family sound none has = by has.ring has.is (λ text a. family-short family sound none text (has.own text a))
    where
      by : (ring : List (List ℕ)) → IsRing dig ring → AreShort ring → ⊥
      by [] never short = never
      by (text ∷ behind) is short = absurd (omega (arith, first-long text behind text is, short text (inl refl)))
