-- What is known of texts with one more behind them.
use Rattle.std.proofs.Common.{◌≡◌, ◌≢◌, ℕ, List, [], ◌∷◌, ◌++◌, Bool, true, false, refl, ap, sym, ◌∙◌, subst}
use Rattle.std.specs.Prelude.{Option, Some, None, find, not, ◌&&◌, if◌then◌else◌}
use Rattle.std.specs.Option.{option_or}
use Rattle.std.specs.Str.{bytes_eq}
use Rattle.std.proofs.lemmas.List.Folds.{find-append}
use Rattle.std.proofs.lemmas.Slice.Eq.{bytes_eq-Decides}
use Rattle.tw_base.specs.kinds.Clash.{clashes}
use Rattle.tw_audit.specs.Tables.{Knows, other_than}

or_none : {X : Type 0} (o : Option X) → option_or o None ≡ o
or_none None = refl
or_none (Some x) = refl

module _ (dig : List ℕ → List ℕ) where
  -- a text of another digest clashes with none
  found-apart : (texts : List (List ℕ)) (s t : List ℕ) → bytes_eq (dig s) (dig t) ≡ false → find (clashes dig t)
      (texts ++ s ∷ []) ≡ find (clashes dig t) texts
  found-apart texts s t apart =
      find-append (clashes dig t) texts (s ∷ [])
      ∙ ap (λ b. option_or (find (clashes dig t) texts) (if b && not (bytes_eq s t) then Some s else None)) apart
      ∙ or_none (find (clashes dig t) texts)

  -- one of the same digest, behind the others
  found-same : (texts : List (List ℕ)) (s t : List ℕ) → bytes_eq (dig s) (dig t) ≡ true
      → find (clashes dig t) (texts ++ s ∷ []) ≡ option_or (find (clashes dig t) texts)
      (if bytes_eq s t then None else Some s)
  found-same texts s t same =
      find-append (clashes dig t) texts (s ∷ [])
      ∙ ap (λ b. option_or (find (clashes dig t) texts) (if b && not (bytes_eq s t) then Some s else None)) same
      ∙ ap (option_or (find (clashes dig t) texts)) (turned (bytes_eq s t))
    where
      turned : (b : Bool) → (if not b then Some s else None) ≡ (if b then None else Some s)
      turned true = refl
      turned false = refl

  -- a first text of a digest
  pub knows-new : (texts : List (List ℕ)) (s : List ℕ) (old new : List ℕ → Option (List ℕ)) → Knows dig texts old
      → old (dig s) ≡ None → new (dig s) ≡ Some s
      → ((t : List ℕ) → dig t ≢ dig s → new (dig t) ≡ old (dig t)) → Knows dig (texts ++ s ∷ []) new
  knows-new texts s old new knows none here others t = by (bytes_eq (dig s) (dig t)) refl
    where
      by : (b : Bool) → bytes_eq (dig s) (dig t) ≡ b → find (clashes dig t) (texts ++ s ∷ []) ≡ other_than t
          (new (dig t))
      by true same =
          let is : dig s ≡ dig t = (bytes_eq-Decides (dig s) (dig t)).0 same in
          found-same texts s t same
          ∙ ap (λ o. option_or o (if bytes_eq s t then None else Some s))
          (knows t ∙ ap (other_than t) (subst (λ d. old d ≡ None) is none))
          ∙ sym (ap (other_than t) (subst (λ d. new d ≡ Some s) is here))
      by false apart =
          found-apart texts s t apart ∙ knows t
          ∙ ap (other_than t)
          (sym (others t (λ e. (let is : bytes_eq (dig s) (dig t) ≡ true = (bytes_eq-Decides (dig s) (dig t)).1
          (sym e) in let no : true ≡ false = sym is ∙ apart in cc))))

  -- the text that is kept, once more
  pub knows-same : (texts : List (List ℕ)) (s : List ℕ) (kept : List ℕ → Option (List ℕ)) → Knows dig texts kept
      → kept (dig s) ≡ Some s → Knows dig (texts ++ s ∷ []) kept
  knows-same texts s kept knows here t = by (bytes_eq (dig s) (dig t)) refl
    where
      twice : (b : Bool) → option_or (if b then None else Some s) (if b then None else Some s)
          ≡ (if b then None else Some s)
      twice true = refl
      twice false = refl

      by : (b : Bool) → bytes_eq (dig s) (dig t) ≡ b → find (clashes dig t) (texts ++ s ∷ []) ≡ other_than t
          (kept (dig t))
      by true same =
          let is : kept (dig t) ≡ Some s = subst (λ d. kept d ≡ Some s) ((bytes_eq-Decides (dig s) (dig t)).0 same)
          here in
          found-same texts s t same
          ∙ ap (λ o. option_or o (if bytes_eq s t then None else Some s)) (knows t ∙ ap (other_than t) is)
          ∙ twice (bytes_eq s t)
          ∙ sym (ap (other_than t) is)
      by false apart = found-apart texts s t apart ∙ knows t
