-- What holds unless two texts clash.
use Rattle.std.proofs.Common.{◌≡◌, ◌≢◌, ℕ, List, [], ◌∷◌, ◌++◌, Bool, true, false, refl, sym, ◌∙◌, ◌⊎◌, inl, inr, subst}
use Rattle.std.proofs.lemmas.Slice.Eq.{bytes_eq-Decides}
use Rattle.std.specs.Str.{bytes_eq}
use Rattle.tw_base.specs.kinds.Bytes.{AreBytes}
use Rattle.tw_base.specs.kinds.Clash.{Among, Clash, OrClash, Within}
use Rattle.tw_base.specs.kinds.Lists.{Each}

pub same_or_other : (x y : List ℕ) → (x ≡ y) ⊎ (x ≢ y)
same_or_other x y =
    let cases : (b : Bool) → bytes_eq x y ≡ b → (x ≡ y) ⊎ (x ≢ y) =
    elim [
      | true ↦ λ e. inl ((bytes_eq-Decides x y).0 e)
      | false ↦ λ e. inr (λ h. let both : true ≡ false = sym ((bytes_eq-Decides x y).1 h) ∙ e in cc)
    ]
    in cases (bytes_eq x y) refl

-- a text of a list of which each is bytes
pub Among-bytes : (texts : List (List ℕ)) (text : List ℕ) → Each AreBytes texts → Among text texts → AreBytes text
Among-bytes [] text are p = absurd p
Among-bytes (x ∷ xs) text are (inl e) = subst AreBytes (sym e) are.0
Among-bytes (x ∷ xs) text are (inr p) = Among-bytes xs text are.1 p

-- two texts of a list of bytes that have one digest are one text, or the list clashes
pub same_text : (dig : List ℕ → List ℕ) (texts : List (List ℕ)) → Each AreBytes texts → (x y : List ℕ) → Among x texts
    → Among y texts → dig x ≡ dig y → OrClash dig texts (x ≡ y)
same_text dig texts are x y p q e =
    elim (same_or_other x y) [
      | inl same ↦ inl same
      | inr other ↦
          inr (record {
            one = x;
            other = y;
            has_one = p;
            has_other = q;
            one_bytes = Among-bytes texts x are p;
            other_bytes = Among-bytes texts y are q;
            differ = other;
            one_digest = e;
          })
    ]

pub Among-left : (text : List ℕ) (xs ys : List (List ℕ)) → Among text xs → Among text (xs ++ ys)
Among-left text [] ys p = absurd p
Among-left text (x ∷ xs) ys (inl e) = inl e
Among-left text (x ∷ xs) ys (inr p) = inr (Among-left text xs ys p)

pub Among-right : (text : List ℕ) (xs ys : List (List ℕ)) → Among text ys → Among text (xs ++ ys)
Among-right text [] ys p = p
Among-right text (x ∷ xs) ys p = inr (Among-right text xs ys p)

pub Clash-wider : (dig : List ℕ → List ℕ) (xs ys : List (List ℕ)) → Within xs ys → Clash dig xs → Clash dig ys
Clash-wider dig xs ys within c = record {
  one = c.one;
  other = c.other;
  has_one = within c.one c.has_one;
  has_other = within c.other c.has_other;
  one_bytes = c.one_bytes;
  other_bytes = c.other_bytes;
  differ = c.differ;
  one_digest = c.one_digest;
}

-- what follows from what holds unless there is a clash
pub and_then : (dig : List ℕ → List ℕ) (texts : List (List ℕ)) (P Q : Type 0) → OrClash dig texts P
    → (P → OrClash dig texts Q) → OrClash dig texts Q
and_then dig texts P Q (inl p) f = f p
and_then dig texts P Q (inr c) f = inr c

pub both_within : (xs ys us vs : List (List ℕ)) → Within xs us → Within ys vs → Within (xs ++ ys) (us ++ vs)
both_within [] ys us vs p q text a = Among-right text us vs (q text a)
both_within (x ∷ xs) ys us vs p q text (inl e) = Among-left text us vs (p text (inl e))
both_within (x ∷ xs) ys us vs p q text (inr a) = both_within xs ys us vs (λ t b. p t (inr b)) q text a

pub OrClash-wider : (dig : List ℕ → List ℕ) (xs ys : List (List ℕ)) (P : Type 0) → Within xs ys → OrClash dig xs P
    → OrClash dig ys P
OrClash-wider dig xs ys P within (inl p) = inl p
OrClash-wider dig xs ys P within (inr clash) = inr (Clash-wider dig xs ys within clash)
