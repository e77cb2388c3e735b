-- Chains of texts, each of which holds the digest of the next one.
use Rattle.std.proofs.Common.{◌≡◌, ℕ, List, [], ◌∷◌, ◌++◌, ◌⊎◌, ap, refl, sym, ◌∙◌, subst}
use Rattle.std.proofs.Common.{append_assoc, inl, inr}
use Rattle.std.proofs.lemmas.List.{append-nil}
use Rattle.tw_base.specs.kinds.Clash.{Among, Within}
use Rattle.tw_base.proofs.lemmas.history.ArchiveTexts.{joined_within}
use Rattle.tw_circle.specs.Rings.{HasRing, Holds, HoldInTurn}

-- ---- what a text holds

pub held-self : (digest : List ℕ) → Holds digest digest
held-self digest = ([], [], sym (append-nil digest))

pub held-behind : (front text digest : List ℕ) → Holds text digest → Holds (front ++ text) digest
held-behind front text digest h = (
  front ++ h.0,
  h.1,
  ap (λ x. front ++ x) h.2 ∙ sym (append_assoc front h.0 (digest ++ h.1)),
)

pub held-front : (text back digest : List ℕ) → Holds text digest → Holds (text ++ back) digest
held-front text back digest h = (
  h.0,
  h.1 ++ back,
  ap (λ x. x ++ back) h.2 ∙ append_assoc h.0 (digest ++ h.1) back ∙ ap (λ x. h.0 ++ x) (append_assoc digest h.1 back),
)

-- ---- chains among the texts of a list

module _ (dig : List ℕ → List ℕ) (texts : List (List ℕ)) where
  -- the one text leads to the other, over texts of the list, of which it is one
  pub record Descends (one other : List ℕ) : Type 0 where
    pub between : List (List ℕ)
    pub own : Within (one ∷ between) texts
    pub leads : HoldInTurn dig one between other

  -- one text is the other, or leads to it
  abbrev pub IsOrDescends : (one other : List ℕ) → Type 0
  IsOrDescends one other = (one ≡ other) ⊎ Descends one other

  -- a digest is that of a text that leads to the other
  pub record StandsOver (digest other : List ℕ) : Type 0 where
    pub top : List ℕ
    pub is : digest ≡ dig top
    pub leads : Descends top other

  alone : (text : List ℕ) → Among text texts → Within (text ∷ []) texts
  alone text own at (inl e) = subst (λ t. Among t texts) (sym e) own
  alone text own at (inr never) = absurd never

  pub descends-next : (one other : List ℕ) → Among one texts → Holds one (dig other) → Descends one other
  descends-next one other own holds = record { between = []; own = alone one own; leads = holds }

  joined_leads : (one : List ℕ) (between : List (List ℕ)) (mid : List ℕ) (behind : List (List ℕ)) (other : List ℕ)
      → HoldInTurn dig one between mid → HoldInTurn dig mid behind other → HoldInTurn dig one (between ++ mid ∷ behind) other
  joined_leads one [] mid behind other p q = (p, q)
  joined_leads one (next ∷ between) mid behind other p q = (p.0, joined_leads next between mid behind other p.1 q)

  pub descends-on : (one mid other : List ℕ) → Descends one mid → Descends mid other → Descends one other
  descends-on one mid other p q = record {
    between = p.between ++ mid ∷ q.between;
    own = joined_within (one ∷ p.between) (mid ∷ q.between) texts p.own q.own;
    leads = joined_leads one p.between mid q.between other p.leads q.leads;
  }

  pub then-descends : (one mid other : List ℕ) → IsOrDescends one mid → Descends mid other → Descends one other
  then-descends one mid other (inl same) q = subst (λ t. Descends t other) (sym same) q
  then-descends one mid other (inr p) q = descends-on one mid other p q

  pub descends-then : (one mid other : List ℕ) → Descends one mid → IsOrDescends mid other → Descends one other
  descends-then one mid other p (inl same) = subst (λ t. Descends one t) same p
  descends-then one mid other p (inr q) = descends-on one mid other p q

  -- a text of the list that holds a digest over the other
  pub descends-over : (text digest other : List ℕ) → Among text texts → Holds text digest → StandsOver digest other
      → Descends text other
  descends-over text digest other own holds over =
      descends-on text over.top other (descends-next text over.top own (subst (Holds text) over.is holds)) over.leads

  pub stands-over : (text digest other : List ℕ) → Among text texts → Holds text digest → StandsOver digest other
      → StandsOver (dig text) other
  stands-over text digest other own holds over = record {
    top = text;
    is = refl;
    leads = descends-over text digest other own holds over;
  }

  -- a text that leads to itself is one of a ring
  pub ring-of : (text : List ℕ) → Descends text text → HasRing dig texts
  ring-of text r = record { ring = text ∷ r.between; own = r.own; is = r.leads }
